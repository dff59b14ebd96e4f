use Rattle.std.proofs.Common.{◌≡◌, [], ◌∷◌, rules, subst, sym}
use Rattle.spl_node.specs.Node.{bare}
use Rattle.spl_node.specs.Steps.{fresh}
use Rattle.spl_trunk.specs.Tree.{IsShaped}
use Rattle.spl_trunk.proofs.Trees.{leaf_shaped}
use Rattle.spl_trunk.proofs.trunk.Trunk.new.Goals as goal

pub returns-clause-shaped : goal.returns-clause-shaped
returns-clause-shaped c =
    let one : c.push.new.self.items ≡ fresh 0 bare ∷ [] = search rules in
    subst IsShaped (sym one) leaf_shaped
