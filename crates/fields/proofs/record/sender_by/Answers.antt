-- `sender_by`: by the same test as the definition.

use Rattle.fields.proofs.record.sender_by.Goals as goal

pub returns-then-length-connection : goal.returns-then-length-connection
returns-then-length-connection c = rw c.if-length-connection.true

pub returns : goal.returns
returns c = rw c.if-length-connection.false
