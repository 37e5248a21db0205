-- What executing a record gives: its payload, and what is left of tables and buffer.
-- A record is executed when it is decided and passed every check.
use Rattle.std.specs.Prelude.{◌≡◌, [], true, length}
use Rattle.rules.specs.declared.Tables.{Tables}
use Rattle.rules.specs.declared.Head.{Head}
use Rattle.rules.specs.declared.Judgement.{Judgement}
use Rattle.rules.specs.declared.Links.{Links}
use Rattle.rules.specs.declared.StoreRange.{StoreRange}
use Rattle.rules.specs.declared.Check.{Check}
use Rattle.rules.specs.declared.Check.TheVariants.{Pass, Refuse}
use Rattle.rules.specs.declared.Header.{Header}
use Rattle.rules.specs.Types.{Bytes}
use Rattle.rules.specs.Record.{Request, body, passed_on}
use Rattle.rules.specs.Reading.{filled}
use Rattle.rules.specs.Defaults.{Defaults}
use Rattle.rules.specs.Outcome.{outcome, response_to}
use Rattle.rules.specs.Promises.Results.{result_of, result_with}
use Rattle.rules.specs.declared.Decision.{Decision}
use Rattle.rules.specs.Tables.{sound}
use Rattle.rules.specs.Promises.Decision.{decided}
use Rattle.rules_terminal.specs.Slots.{Queue, queue_of, round_of, waiting}
use Rattle.rules_terminal.specs.Terminal.{queue_after}
use Rattle.queue.specs.Queue.{IsQueue}

-- the payload of a record r by what its checks say: a refused record has none
abbrev pub payload_by : Check → Header → Bytes → Bytes
payload_by Pass header r = passed_on header (body r)
payload_by (Refuse n) header r = []

-- what the sender of a permitted record r gets
abbrev pub permitted_by : Decision → Bytes → StoreRange → Links → Head → Judgement
permitted_by decision r store links head = record {
  answer = 0;
  permission = decision.permission;
  payload = length (payload_by decision.check decision.caller.header r);
  reply = decision.reply;
  store = store;
  links = links;
  head = head;
}

-- of a request q with tables t: what is reported with the tables afterwards, and the caller's buffer
pub record Executes (d : Defaults) (t : Tables) (q : Request) (lent : Bytes) (j : Judgement) (creds aces buffer : Bytes) : Type 0 where
  pub says : result_with j creds aces ≡ result_of (outcome d t q)
  pub fills : buffer ≡ filled lent (response_to d t q).contents

-- the tables are sound, the decision is that on this request, and it permits
abbrev pub Decided : Tables → Request → Decision → Type 0
Decided t q decision = (sound t ≡ true) × (decision ≡ decided t q) × (decision.check ≡ Pass)

-- the bytes are a queue, and nothing besides its round and its slots
abbrev pub IsWholeQueue : Queue → Type 0
IsWholeQueue queue = IsQueue queue × (queue ≡ queue_of (round_of queue) (waiting queue))

-- the queue before and after
abbrev pub LeavesQueue : Defaults → Tables → Request → Queue → Queue → Type 0
LeavesQueue d t q old new = new ≡ queue_after d t q (round_of old) (waiting old)
