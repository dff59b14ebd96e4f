use Rattle.std.proofs.Common.{◌<◌, length, get_or, set, arith, ap, ◌∙◌}
use Rattle.std.proofs.lemmas.List.{get_or_default}
use Rattle.std.proofs.lemmas.List.Edits.{map_over_more}
use Rattle.spl_node.specs.Node.{NodeData}
use Rattle.spl_trunk.specs.Trunk.{released_node}
use Rattle.spl_trunk.proofs.trunk.release_all.Goals as goal

pub loop-node-preserved : goal.loop-node-preserved
loop-node-preserved c =
    let nodes = c.loop-node.nodes in
    let i = c.loop-node.node-index in
    let node = get_or nodes i c.node-item.result in
    let within : i < length c.args.nodes.now = omega arith in
    let inside : i < length nodes = omega (arith, c.loop-node.auto.nodes) in
    ap (λ (new : NodeData). set nodes i new) c.release.ensures
    ∙ map_over_more (released_node c.args.actor) c.args.nodes.now nodes i node within c.loop-node.invariant (get_or_default nodes i c.node-item.result node inside)
