use Rattle.std.proofs.Common.{◌≡◌, ℕ, ◌<◌, false}
use Rattle.spl_trunk.specs.Trunk.{node_at}
use Rattle.spl_compact.specs.Installing.{is_heir}
use Rattle.spl_compact.proofs.heirs.first_heir.Given as goal

-- no node so far is one
abbrev pub invariant-loop-node : goal.invariant-loop-node
invariant-loop-node l = (n : ℕ) → n < l.node → is_heir l.last l.actor (node_at l.trunk n) ≡ false
