use Rattle.std.proofs.Common.{◌≡◌, ◌++◌, max, map, take, drop}
use Rattle.spl_node.specs.declared.pivot.Pivot.{Pivot}
use Rattle.spl_node.specs.Steps.{at_mark}
use Rattle.spl_node.proofs.node.raise_marks.Given as goal

-- the marks so far are raised, and the others are as they were
abbrev pub invariant-loop-pivot : goal.invariant-loop-pivot
invariant-loop-pivot l =
    l.pivots ≡ map (λ (pivot : Pivot). at_mark pivot (max pivot.mark l.number)) (take l.pivot-index l.initial.pivots) ++ drop l.pivot-index l.initial.pivots
