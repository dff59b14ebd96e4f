use Rattle.std.proofs.Common.{◌≡◌, length}
use Rattle.spl_script.specs.Text.{spelled}
use Rattle.spl_script.proofs.Texts.{behind_bytes}
use Rattle.spl_script.proofs.text.spell.Given as goal

-- the bytes so far, and what the rest spells, are what the text spells
abbrev pub invariant-loop-left : goal.invariant-loop-left
invariant-loop-left l = behind_bytes l.room.items (spelled l.left) ≡ spelled l.text

abbrev pub decreases-loop-left : goal.decreases-loop-left
decreases-loop-left l = length l.left
