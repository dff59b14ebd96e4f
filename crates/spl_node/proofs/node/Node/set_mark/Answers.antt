use Rattle.std.proofs.Common.{◌≡◌, length, get_or, set, drop, ap, ap₂, subst, sym, ◌∙◌, arith, length-set}
use Rattle.std.proofs.lemmas.List.{get_or_default}
use Rattle.spl_node.specs.declared.pivot.Pivot.{Pivot}
use Rattle.spl_node.specs.declared.node.Body.{Body}
use Rattle.spl_node.specs.Node.{NodeData, bare, pivot_at, IsNode}
use Rattle.spl_node.specs.Steps.{with_pivots, at_mark}
use Rattle.spl_node.specs.Body.{in_body}
use Rattle.spl_node.proofs.Nodes.{marked_node, refilled}
use Rattle.spl_node.proofs.node.Node.set_mark.Goals as goal

pub invariant_of-self : goal.invariant_of-self
invariant_of-self c =
    let now = c.args.self.now in
    let body = c.deref_mut.result.now in
    let slice = c.as_mut_slice.result.now in
    let i = c.args.pivot in
    let mark = c.args.mark in
    let d = c.index-as_mut_slice-pivot.result in
    let same : in_body body ≡ now = ap in_body c.deref_mut.ensures.value ∙ c.self.view_is in
    let is : IsNode now = subst IsNode c.self.view_is c.self.invariant.node in
    let pivots : slice ≡ now.pivots = c.as_mut_slice.ensures.value ∙ ap (λ (n : NodeData). n.pivots) same in
    let long = ap length pivots in
    let kept = ap length c.as_mut_slice.ensures.value in
    let new = set slice i (at_mark (get_or slice i d) mark) in
    let full = length-set slice i (at_mark (get_or slice i d) mark) in
    let room = ap (λ (b : Body). b.pivots.capacity) c.deref_mut.ensures.value in
    let written =
    refilled (length body.pivots.items) new (drop (length new) body.pivots.items) (omega arith)
    ∙ ap (λ (p : Pivot). set slice i (at_mark p mark)) (get_or_default slice i d bare (omega (arith, c.requires.within)))
    ∙ ap (λ ps. set ps i (at_mark (pivot_at ps i) mark)) pivots in
    record {
      node = subst IsNode (sym (ap₂ with_pivots same written)) (marked_node now is i mark c.requires.within c.requires.above c.requires.made);
      room = omega (arith, c.self.invariant.room);
    }
