use denote.Text.{Utf8}
use denote.Shadow.{shadow}
use Rattle.examples.proofs.pieces.are_of_one_scan.Given as goal

abbrev pub invariant-loop : goal.invariant-loop
invariant-loop l = (goal.iterator-loop).can_next l.rows × (goal.iterator-loop).is_finite l.rows

-- the end of the piece before is text
abbrev pub invariant-loop-place : goal.invariant-loop-place
invariant-loop-place l =
    (goal.iterator-loop-place).can_next l.rows ×
    (goal.iterator-loop-place).is_finite l.rows ×
    shadow (Utf8 l.end)
