use Rattle.std.proofs.Common.{◌≡◌, ◌*◌, drop}
use Rattle.std.specs.Cmp.Lexicographic.{slice_cmp}
use Rattle.std.specs.Ordering.{nat_cmp}
use Rattle.spl_message.proofs.room.compare_bytes.Given as goal

-- what was passed is the same in both
abbrev pub invariant-loop-i : goal.invariant-loop-i
invariant-loop-i l = slice_cmp nat_cmp l.bytes l.others ≡ slice_cmp nat_cmp (drop (8 * l.i) l.bytes) (drop (8 * l.i) l.others)
