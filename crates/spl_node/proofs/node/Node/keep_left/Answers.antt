use Rattle.std.proofs.Common.{ℕ, ◌≡◌, ◌+◌, List, Some, take, ap, ap₂, subst, sym, ◌∙◌, arith}
use Rattle.spl_node.specs.declared.pivot.Pivot.{Pivot}
use Rattle.spl_node.specs.declared.node.Body.{Body}
use Rattle.spl_node.specs.Node.{NodeData, IsNode}
use Rattle.spl_node.specs.Body.{in_body}
use Rattle.spl_node.specs.Parts.{IsParted}
use Rattle.spl_node.specs.Steps.{right_of}
use Rattle.spl_node.proofs.Nodes.{left_node}
use Rattle.spl_node.proofs.Splits.{split_parts}
use Rattle.spl_node.proofs.node.Node.keep_left.Goals as goal

-- the node with these pivots below the key
abbrev kept : NodeData → List ℕ → List Pivot → NodeData
kept node key pivots = record node { range = record { from = node.range.from; to = Some key }; generation = node.generation + 1; pivots = pivots }

pub invariant_of-self : goal.invariant_of-self
invariant_of-self c =
    let now = c.args.self.now in
    let body = c.deref_mut-body.result.now in
    let key = c.args.key.now in
    let same : in_body body ≡ now = ap in_body c.deref_mut-body.ensures.value ∙ c.self.view_is in
    let is : IsNode now = subst IsNode c.self.view_is c.self.invariant.node in
    let room = ap (λ (b : Body). b.pivots.capacity) c.deref_mut-body.ensures.value in
    let items = c.truncate.ensures.items ∙ ap₂ (λ (n : ℕ) (m : NodeData). take n m.pivots) c.starts_below-kept.ensures.value same in
    record {
      node = subst IsNode (sym (ap (λ (k : List ℕ). kept (in_body body) k c.truncate.new.self.items) c.of.ensures ∙ ap₂ (λ (m : NodeData) ps. kept m key ps) same items)) (left_node now is key c.requires.key);
      room = omega (arith, c.self.invariant.room, c.truncate.ensures.capacity);
    }

pub returns-clause-parts : goal.returns-clause-parts
returns-clause-parts c =
    let now = c.args.self.now in
    let body = c.deref_mut-body.result.now in
    let key = c.args.key.now in
    let same : in_body body ≡ now = ap in_body c.deref_mut-body.ensures.value ∙ c.self.view_is in
    let is : IsNode now = subst IsNode c.self.view_is c.self.invariant.node in
    let items = c.truncate.ensures.items ∙ ap₂ (λ (n : ℕ) (m : NodeData). take n m.pivots) c.starts_below-kept.ensures.value same in
    let P : NodeData → Type 0 = λ node. IsParted now node (right_of now key) in
    subst P (sym (ap (λ (k : List ℕ). kept (in_body body) k c.truncate.new.self.items) c.of.ensures ∙ ap₂ (λ (m : NodeData) ps. kept m key ps) same items)) (split_parts now is key c.requires.key)
