use Rattle.std.proofs.Common.{◌≡◌, ◌+◌, ◌-◌, ◌<◌, true, length, drop}
use Rattle.spl_message.specs.Span.{is_from}
use Rattle.spl_node.specs.Node.{pivot_at, pivot_for}
use Rattle.spl_node.proofs.node.Node.pivot_of.Given as goal

-- the pivot found so far starts at the key or below it
abbrev pub invariant-loop-pivots : goal.invariant-loop-pivots
invariant-loop-pivots l = record {
  within : l.found < length l.pivots;
  started : is_from (pivot_at l.pivots l.found).start l.key ≡ true;
  same : pivot_for l.pivots l.key ≡ l.found + pivot_for (drop l.found l.pivots) l.key;
}

abbrev pub decreases-loop-pivots : goal.decreases-loop-pivots
decreases-loop-pivots l = length l.pivots - l.found
