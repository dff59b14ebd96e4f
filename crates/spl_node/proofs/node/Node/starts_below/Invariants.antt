use Rattle.std.proofs.Common.{◌≡◌, ◌+◌, ◌-◌, ◌≤◌, length, drop}
use Rattle.spl_node.specs.Steps.{starts_below}
use Rattle.spl_node.proofs.node.Node.starts_below.Given as goal

-- the pivots so far start below the key
abbrev pub invariant-loop-pivots : goal.invariant-loop-pivots
invariant-loop-pivots l = record {
  within : l.count ≤ length l.pivots;
  same : starts_below l.pivots l.key ≡ l.count + starts_below (drop l.count l.pivots) l.key;
}

abbrev pub decreases-loop-pivots : goal.decreases-loop-pivots
decreases-loop-pivots l = length l.pivots - l.count
