use Rattle.spl_bundle.specs.Numbered.{merged}
use Rattle.spl_node.specs.Node.{NodeData}
use Rattle.spl_node.specs.Steps.{with_lists}
use Rattle.spl_trunk.proofs.Shapes.{shaped_at, shaped_merged}
use Rattle.spl_trunk.proofs.trunk.Trunk.merge.Goals as goal

pub returns-clause-shaped : goal.returns-clause-shaped
returns-clause-shaped c = λ shaped.
    let now = c.args.self.now in
    let n = c.args.node in
    shaped_at c.self.inside.nodes.items now n (λ (node : NodeData). with_lists node (merged node.lists c.args.first c.args.last c.args.output)) c.index_mut.result.now c.merge.new.self c.self.view_is c.index_mut.ensures.value c.requires.exists c.merge.ensures
    (shaped_merged now shaped n c.requires.exists c.args.first c.args.last c.args.output c.requires.in_order c.requires.stands c.requires.made)
