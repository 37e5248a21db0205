-- The caller's memory at one moment, by its six arrays: before a call with `x.old` of each that is changed, after it with `x.new`.
use Rattle.rules.specs.Types.{Bytes}
use Rattle.rules_terminal.specs.Slots.{Queue}
use Rattle.rules_interface.specs.Memory.{Memory}

abbrev pub memory_in : Bytes → Bytes → Bytes → Bytes → Bytes → Queue → Memory
memory_in counts devowner rowners creds aces queue = record {
  counts = counts;
  devowner = devowner;
  rowners = rowners;
  creds = creds;
  aces = aces;
  queue = queue;
}
