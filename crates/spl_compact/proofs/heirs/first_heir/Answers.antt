use Rattle.std.proofs.Common.{◌≡◌, true, sym, ◌∙◌, arith}
use Rattle.spl_node.specs.Node.{bare}
use Rattle.spl_node.specs.Steps.{fresh}
use Rattle.spl_trunk.specs.Trunk.{node_at}
use Rattle.spl_compact.specs.Installing.{is_heir}
use Rattle.spl_compact.proofs.Positions.{position_is, position_none}
use Rattle.spl_compact.proofs.heirs.first_heir.Goals as goal

pub returns-then-is_heir : goal.returns-then-is_heir
returns-then-is_heir c =
    let here : is_heir c.args.last c.args.actor (node_at c.args.trunk.now c.loop-node.node) ≡ true = sym c.is_heir.ensures ∙ c.if-is_heir.true in
    sym (position_is (is_heir c.args.last c.args.actor) (fresh 0 bare) c.args.trunk.now c.loop-node.node (omega arith) c.loop-node.invariant here)

pub returns : goal.returns
returns c =
    sym (position_none (is_heir c.args.last c.args.actor) (fresh 0 bare) c.args.trunk.now (λ k below. c.loop-node.invariant k (omega arith)))
