use Rattle.std.proofs.Common.{◌≡◌, List, length, ap, sym, subst, ◌∙◌}
use Rattle.std.proofs.lemmas.List.{length-map, with_items_is}
use Rattle.spl_node.specs.Node.{NodeData}
use Rattle.spl_trunk.specs.Trunk.{released_node, all_released}
use Rattle.spl_trunk.specs.Tree.{IsShaped}
use Rattle.spl_trunk.proofs.Released.{shaped_all_released}
use Rattle.spl_trunk.proofs.trunk.Trunk.release_all.Goals as goal

pub returns-clause-shaped : goal.returns-clause-shaped
returns-clause-shaped c = λ shaped.
    let actor = c.args.actor in
    let old = c.self.inside.nodes.items in
    let new = c.release_all.new.nodes in
    let made : new ≡ all_released old actor = c.release_all.ensures ∙ ap (λ (nodes : List NodeData). all_released nodes actor) c.as_mut_slice.ensures.value in
    let is =
    with_items_is c.self.inside.nodes new (ap length made ∙ length-map old (released_node actor) ∙ sym c.self.inside.nodes.ok.0)
    ∙ made
    ∙ ap (λ (nodes : List NodeData). all_released nodes actor) c.self.view_is in
    subst IsShaped (sym is) (shaped_all_released actor c.args.self.now shaped)
