use Rattle.std.proofs.Common.{◌≡◌, drop}
use Rattle.spl_script.specs.Verb.{lines_of}
use Rattle.spl_script.proofs.lines.Scripts.next_of.Given as goal

-- none of the lines that were passed is the caller's
abbrev pub invariant-loop-at : goal.invariant-loop-at
invariant-loop-at l = lines_of l.caller (drop l.from l.self) ≡ lines_of l.caller (drop l.at l.self)
