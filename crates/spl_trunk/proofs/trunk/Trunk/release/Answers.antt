use Rattle.spl_bundle.specs.Numbered.{released}
use Rattle.spl_node.specs.Node.{NodeData}
use Rattle.spl_node.specs.Steps.{with_lists}
use Rattle.spl_trunk.proofs.Shapes.{shaped_at, shaped_released}
use Rattle.spl_trunk.proofs.trunk.Trunk.release.Goals as goal

pub returns-clause-shaped : goal.returns-clause-shaped
returns-clause-shaped c = λ shaped.
    let now = c.args.self.now in
    let n = c.args.node in
    shaped_at c.self.inside.nodes.items now n (λ (node : NodeData). with_lists node (released node.lists c.args.actor)) c.index_mut.result.now c.release.new.self c.self.view_is c.index_mut.ensures.value c.requires c.release.ensures
    (shaped_released now shaped n c.requires c.args.actor)
