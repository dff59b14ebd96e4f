use Rattle.std.proofs.Common.{ℕ, ◌<◌, List, length, ap, ◌∙◌, arith}
use Rattle.std.proofs.lemmas.List.{get_or_default}
use Rattle.spl_node.specs.declared.pivot.Pivot.{Pivot}
use Rattle.spl_node.specs.Node.{NodeData, bare, pivot_at}
use Rattle.spl_state.specs.Actors.{pivot_from}
use Rattle.spl_descent.proofs.Places.{pivot_from_within}
use Rattle.spl_descent.proofs.lower.child_of.Goals as goal

pub bounds-pivots-pivot : goal.bounds-pivots-pivot
bounds-pivots-pivot c =
    let within = pivot_from_within c.unwrap-node.result.now.pivots c.args.span.now.from c.pivots.ensures.node.some in
    let long = ap length c.pivots.ensures.value in
    let is = c.pivot_from-pivot.ensures in
    omega arith

pub bounds-pivots-pivot-2 : goal.bounds-pivots-pivot-2
bounds-pivots-pivot-2 c =
    let within = pivot_from_within c.unwrap-node.result.now.pivots c.args.span.now.from c.pivots.ensures.node.some in
    let long = ap length c.pivots.ensures.value in
    let is = c.pivot_from-pivot.ensures in
    omega arith

pub returns : goal.returns
returns c =
    let node = c.unwrap-node.result.now in
    let from = c.args.span.now.from in
    let within = pivot_from_within node.pivots from c.pivots.ensures.node.some in
    let long = ap length c.pivots.ensures.value in
    let is = c.pivot_from-pivot.ensures in
    let inside : c.pivot_from-pivot.result < length c.pivots.result.now = omega arith in
    ap (λ (p : Pivot). p.child) (get_or_default c.pivots.result.now c.pivot_from-pivot.result c.index-pivots-pivot.result bare inside)
    ∙ ap (λ (ps : List Pivot). (pivot_at ps c.pivot_from-pivot.result).child) c.pivots.ensures.value
    ∙ ap (λ (i : ℕ). (pivot_at node.pivots i).child) is
    ∙ ap (λ (n : NodeData). (pivot_at n.pivots (pivot_from n.pivots from)).child) (rw c.unwrap-node.ensures at c.node.ensures.value)
