use Rattle.std.proofs.Common.{ℕ, ◌≡◌, ◌<◌, false}
use Rattle.spl_node.specs.Node.{pivot_at}
use Rattle.spl_flush.specs.Flushing.{is_to}
use Rattle.spl_flush.proofs.step.pivot_to.Given as goal

-- none of the pivots so far leads to the child
abbrev pub invariant-loop-pivot : goal.invariant-loop-pivot
invariant-loop-pivot l = (k : ℕ) → k < l.pivot → is_to l.child (pivot_at l.node.pivots k).child ≡ false
