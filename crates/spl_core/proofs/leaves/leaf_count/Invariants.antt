use Rattle.std.proofs.Common.{◌≡◌, ◌≤◌, take}
use Rattle.spl_core.specs.Leaves.{leaf_count}
use Rattle.spl_core.proofs.leaves.leaf_count.Given as goal

-- the leaves among the nodes below the number are counted
abbrev pub invariant-loop-number : goal.invariant-loop-number
invariant-loop-number l = (l.leaves ≡ leaf_count (take l.number l.trunk)) × (l.leaves ≤ l.number)
