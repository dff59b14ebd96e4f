use Rattle.spl_node.specs.Steps.{trimmed}
use Rattle.spl_trunk.proofs.Shapes.{shaped_at, shaped_trimmed}
use Rattle.spl_trunk.proofs.trunk.Trunk.trim.Goals as goal

pub returns-clause-shaped : goal.returns-clause-shaped
returns-clause-shaped c = λ shaped.
    let now = c.args.self.now in
    let n = c.args.node in
    shaped_at c.self.inside.nodes.items now n (trimmed) c.index_mut.result.now c.trim.new.self c.self.view_is c.index_mut.ensures.value c.requires c.trim.ensures.value
    (shaped_trimmed now shaped n c.requires)
