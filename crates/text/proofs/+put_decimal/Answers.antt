-- `put_decimal` meets its contract: the two cases of its digits are the two ways through the code.
use Rattle.std.proofs.Common.{arith}
use Rattle.text.proofs.Decimals.{decimal_one, decimal_more}
use Rattle.text.proofs.Buffers.{puts_then}
use Rattle.text.proofs.+put_decimal.Goals as goal

pub returns-then-n-lt10 : goal.returns-then-n-lt10
returns-then-n-lt10 t c = rw (decimal_one _ c.if-n-lt10.true) c.put_byte.ensures

pub returns : goal.returns
returns t c = rw (decimal_more _ c.if-n-lt10.false) (puts_then (omega arith) c.put_decimal-p.ensures c.put_byte-2.ensures)
