-- What the terminal holds that the entries are put to: six arrays, which are the caller's memory as C has it, and the
-- default lists of the build.
use Rattle.rules.specs.declared.Tables.{Tables}
use Rattle.rules.specs.Tables.{head_of}
use Rattle.rules.specs.Defaults.{Defaults, defaults}
use Rattle.rules_interface.specs.Memory.{Memory, counts_of}
use Rattle.terminal.specs.Memory.{memory_in}
use Rattle.vectors.specs.declared.terminal_at.Arrays.{Arrays}
use Rattle.vectors.specs.declared.terminal_at.Terminal.{Terminal}

-- the tables, an array for each part
abbrev pub arrays_of : Tables → Arrays
arrays_of t = record {
  counts = counts_of (head_of t);
  devowner = t.devowner;
  rowners = t.rowners;
  creds = t.creds;
  aces = t.aces;
}

-- its memory: the tables' arrays and the queue
abbrev pub memory_held : Terminal → Memory
memory_held x = memory_in x.tables.counts x.tables.devowner x.tables.rowners x.tables.creds x.tables.aces x.queue

-- the default lists of its build
abbrev pub lists_held : Terminal → Defaults
lists_held x = defaults x.default_creds.now x.default_aces.now
