use Rattle.spl_node.specs.Node.{NodeData}
use Rattle.spl_node.specs.Steps.{with_mark}
use Rattle.spl_trunk.proofs.Shapes.{shaped_at, shaped_marked}
use Rattle.spl_trunk.proofs.trunk.Trunk.set_mark.Goals as goal

pub returns-clause-shaped : goal.returns-clause-shaped
returns-clause-shaped c = λ shaped.
    let now = c.args.self.now in
    let n = c.args.node in
    shaped_at c.self.inside.nodes.items now n (λ (node : NodeData). with_mark node c.args.pivot c.args.mark) c.index_mut.result.now c.set_mark.new.self c.self.view_is c.index_mut.ensures.value c.requires.exists c.set_mark.ensures
    (shaped_marked now shaped n c.requires.exists c.args.pivot c.args.mark c.requires.within c.requires.above c.requires.made)
