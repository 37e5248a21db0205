-- The caller's memory: the bytes of the tables as five arrays, in their order, and those of the queue.
-- Any bytes are read as a terminal; a terminal is written as bytes.
use Rattle.std.specs.Prelude.{ℕ, List, [], ◌∷◌, get_or}
use Rattle.rules.specs.declared.Tables.{Tables}
use Rattle.rules.specs.declared.Head.{Head}
use Rattle.rules.specs.Tables.{tables_of, head_of}
use Rattle.rules.specs.Promises.Words.{Lent, was, became}
use Rattle.rules_terminal.specs.Terminal.{Terminal, terminal}
use Rattle.rules.specs.Types.{Bytes}
use Rattle.rules_terminal.specs.Slots.{Queue}

-- numbers of 64 bits, as C gets them
abbrev pub Words : Type 0
Words = List ℕ

-- `counts` are the four bytes before the owners: the state, whether there is an owner, and the rows held
pub record Memory : Type 0 where
  pub counts : Bytes
  pub devowner : Bytes
  pub rowners : Bytes
  pub creds : Bytes
  pub aces : Bytes
  pub queue : Queue

-- ---- read

abbrev pub head_at : Bytes → Bytes → Bytes → Head
head_at counts devowner rowners = record {
  state = get_or counts 0 0;
  owned = get_or counts 1 0;
  ncreds = get_or counts 2 0;
  naces = get_or counts 3 0;
  devowner = devowner;
  rowners = rowners;
}

abbrev pub tables_at : Bytes → Bytes → Bytes → Bytes → Bytes → Tables
tables_at counts devowner rowners creds aces = tables_of (head_at counts devowner rowners) creds aces

abbrev pub terminal_at : Memory → Terminal
terminal_at memory = terminal (tables_at memory.counts memory.devowner memory.rowners memory.creds memory.aces) memory.queue

-- ---- written

abbrev pub counts_of : Head → Bytes
counts_of head = head.state ∷ head.owned ∷ head.ncreds ∷ head.naces ∷ []

abbrev pub memory_of : Terminal → Memory
memory_of x = record {
  counts = counts_of (head_of x.tables);
  devowner = x.tables.devowner;
  rowners = x.tables.rowners;
  creds = x.tables.creds;
  aces = x.tables.aces;
  queue = x.queue;
}

-- the same tables with another queue
abbrev pub with_queue : Memory → Queue → Memory
with_queue memory queue = record {
  counts = memory.counts;
  devowner = memory.devowner;
  rowners = memory.rowners;
  creds = memory.creds;
  aces = memory.aces;
  queue = queue;
}

-- ---- for contracts: what is passed in, before a call and after it

abbrev pub memory_before : Lent → Lent → Lent → Lent → Lent → Lent → Memory
memory_before counts devowner rowners creds aces queue = record {
  counts = was counts;
  devowner = was devowner;
  rowners = was rowners;
  creds = was creds;
  aces = was aces;
  queue = was queue;
}

abbrev pub memory_after : Lent → Lent → Lent → Lent → Lent → Lent → Memory
memory_after counts devowner rowners creds aces queue = record {
  counts = became counts;
  devowner = became devowner;
  rowners = became rowners;
  creds = became creds;
  aces = became aces;
  queue = became queue;
}
