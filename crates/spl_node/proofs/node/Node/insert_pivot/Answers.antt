use Rattle.std.proofs.Common.{◌≡◌, ◌<◌, length, ap, ap₂, subst, sym, ◌∙◌, arith}
use Rattle.std.specs.List.{insert}
use Rattle.spl_node.specs.declared.node.Body.{Body}
use Rattle.spl_node.specs.declared.node.TheConstants.{MAX_PIVOTS}
use Rattle.spl_node.specs.Node.{NodeData, IsNode}
use Rattle.spl_node.specs.Steps.{with_pivots}
use Rattle.spl_node.specs.Body.{in_body}
use Rattle.spl_node.proofs.Nodes.{inserted_node}
use Rattle.spl_node.proofs.node.Node.insert_pivot.Goals as goal

pub invariant_of-self : goal.invariant_of-self
invariant_of-self c =
    let now = c.args.self.now in
    let body = c.deref_mut.result.now in
    let same : in_body body ≡ now = ap in_body c.deref_mut.ensures.value ∙ c.self.view_is in
    let is : IsNode now = subst IsNode c.self.view_is c.self.invariant.node in
    let items = rw c.unwrap.ensures at c.insert.ensures.ok in
    let room = ap (λ (b : Body). b.pivots.capacity) c.deref_mut.ensures.value in
    let counted = ap (λ (b : Body). length b.pivots.items) c.deref.ensures ∙ ap (λ (n : NodeData). length n.pivots) c.self.view_is in
    let free : length now.pivots < MAX_PIVOTS = let few = is.few in omega (arith, c.if-len-eq-MAX_PIVOTS.false, c.len.ensures.value) in
    record {
      node = subst IsNode (sym (ap₂ with_pivots same (items ∙ ap (λ (n : NodeData). insert n.pivots c.args.at c.args.pivot) same))) (inserted_node now is c.args.at c.args.pivot c.requires.height c.requires.above c.requires.within free c.requires.child c.requires.start c.requires.rising c.requires.mark);
      room = omega (arith, c.self.invariant.room, c.insert.ensures.capacity);
    }
