use Rattle.std.proofs.Common.{◌≡◌, ◌+◌, ◌-◌, ◌<◌, ◌≤◌, eqb, take, length}
use Rattle.std.specs.List.{slice_split, All}
use Rattle.spl_script.specs.Verb.{IsDeed}
use Rattle.spl_script.specs.Lines.{script_text, lines_from}
use Rattle.spl_script.proofs.Readings.{lines_behind}
use Rattle.spl_script.proofs.reader.read_script.Given as goal

-- the lines that are read, and those that the rest spells, are those of the script
abbrev pub invariant-loop-after : goal.invariant-loop-after
invariant-loop-after l = record {
  whole : l.whole ≡ take 16777217 l.fn.bytes;
  within : length l.left ≤ length l.whole;
  before : length l.whole - length l.left ≤ 16777216;
  some : 1 ≤ l.number;
  near : l.number ≤ 500001;
  few : length l.lines.items + 1 ≤ l.number;
  callers : All (λ line. line.caller < l.callers) l.lines.items;
  deeds : All (λ line. IsDeed line.deed) l.lines.items;
  read : lines_behind l.lines.items (lines_from l.callers l.number (length l.whole - length l.left) (slice_split (λ byte. eqb byte 10) l.left)) ≡ script_text l.callers l.fn.bytes;
}

abbrev pub decreases-loop-after : goal.decreases-loop-after
decreases-loop-after l = length l.left
