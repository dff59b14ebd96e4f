use Rattle.std.proofs.Common.{ℕ, List, Some, Option, refl, ap, ap₂, subst, sym, ◌∙◌}
use Rattle.spl_node.specs.declared.pivot.Pivot.{Pivot}
use Rattle.spl_node.specs.declared.node.Body.{Body}
use Rattle.spl_node.specs.Node.{NodeData, IsNode}
use Rattle.spl_node.proofs.Nodes.{right_node}
use Rattle.spl_node.proofs.Splits.{split_parts}
use Rattle.spl_node.proofs.node.Node.right.Goals as goal

-- the node with these pivots from the key up to an end
abbrev kept : NodeData → List ℕ → Option (List ℕ) → List Pivot → NodeData
kept node key to pivots = record node { range = record { from = Some key; to = to }; generation = 0; pivots = pivots }

pub with_part-requires-clause-node : goal.with_part-requires-clause-node
with_part-requires-clause-node c =
    let now = c.args.self.now in
    let is : IsNode now = subst IsNode c.self.view_is c.self.invariant.node in
    let end = ap (λ (b : Body). b.range.to) c.deref.ensures ∙ ap (λ (m : NodeData). m.range.to) c.self.view_is in
    subst IsNode (sym (ap₂ (kept now c.args.key.now) end c.right_pivots-pivots.ensures.items)) (right_node now is now.height c.args.key.now refl c.requires)

pub returns-clause-parts : goal.returns-clause-parts
returns-clause-parts c = split_parts c.args.self.now (subst IsNode c.self.view_is c.self.invariant.node) c.args.key.now c.requires
