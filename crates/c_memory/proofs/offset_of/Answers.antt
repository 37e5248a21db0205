-- `offset_of`: by the length.
use borrow.Author.Tests.{eq-eqb, ne_eqb}
use Rattle.rules_interface.specs.Interface.{offset_of}
use Rattle.c_memory.proofs.offset_of.Goals as goal

pub returns-then-length-eq0 : goal.returns-then-length-eq0
unfolding offset_of
returns-then-length-eq0 c = rw (eq-eqb _ 0 c.if-length-eq0.true)

pub returns-else-length-eq0 : goal.returns-else-length-eq0
unfolding offset_of
returns-else-length-eq0 c = rw (ne_eqb _ 0 c.if-length-eq0.false)
