use Rattle.std.proofs.Common.{ℕ, ◌<◌, List, length, refl, sym, ap, subst, ◌∙◌, arith}
use Rattle.std.specs.Prelude.{IsSome}
use Rattle.std.proofs.lemmas.List.{get_or_default}
use Rattle.spl_bundle.specs.Numbered.{Bundle}
use Rattle.spl_node.specs.declared.pivot.Pivot.{Pivot}
use Rattle.spl_node.specs.Node.{NodeData, bare, pivot_at}
use Rattle.spl_refs.specs.Refs.{branch_at}
use Rattle.spl_state.specs.View.{branch_data, whole_of}
use Rattle.spl_state.specs.Whole.{Whole}
use Rattle.spl_descent.proofs.Named.{AllStand, named_stand, all_there}
use Rattle.spl_descent.proofs.Places.{pivot_from_within}
use Rattle.spl_descent.proofs.Read.{sight_is}
use Rattle.spl_descent.proofs.seen.sight_at.Goals as goal

pub bounds-pivots-pivot : goal.bounds-pivots-pivot
bounds-pivots-pivot g c =
    let within = pivot_from_within c.unwrap-node.result.now.pivots c.args.span.now.from c.pivots.ensures.node.some in
    let long = ap length c.pivots.ensures.value in
    let is = c.pivot_from-pivot.ensures in
    omega arith

pub bounds-pivots-pivot-2 : goal.bounds-pivots-pivot-2
bounds-pivots-pivot-2 g c =
    let within = pivot_from_within c.unwrap-node.result.now.pivots c.args.span.now.from c.pivots.ensures.node.some in
    let long = ap length c.pivots.ensures.value in
    let is = c.pivot_from-pivot.ensures in
    omega arith

pub live_branches-requires : goal.live_branches-requires
live_branches-requires g c =
    let data_of = branch_data g.B.Content.extents g.B.Content.entries g.B.Content.cuts g.B.Content.table in
    let nodes = ap (λ (w : Whole). length w.nodes) c.parts.view_is in
    let exists = c.requires.exists in
    let there : c.args.number < length c.parts.inside.trunk = omega arith in
    let is_node = rw c.unwrap-node.ensures at c.node.ensures.value in
    let bundles = ap (λ (n : NodeData). n.lists.bundles) is_node in
    let lists = ap (λ l. l.bundles) c.lists.ensures in
    let stand = all_there data_of c.parts.inside.refs _ (named_stand (whole_of data_of c.parts.inside) c.parts.invariant c.args.number there) in
    subst (λ (bs : List Bundle). AllStand (λ (n : ℕ). IsSome (branch_at c.parts.inside.refs n)) bs) (sym (lists ∙ bundles)) stand

pub returns-clause-sight : goal.returns-clause-sight
returns-clause-sight g c =
    let data_of = branch_data g.B.Content.extents g.B.Content.entries g.B.Content.cuts g.B.Content.table in
    let whole = whole_of data_of c.parts.inside in
    let node = c.unwrap-node.result.now in
    let within = pivot_from_within node.pivots c.args.span.now.from c.pivots.ensures.node.some in
    let long = ap length c.pivots.ensures.value in
    let is = c.pivot_from-pivot.ensures in
    let inside : c.pivot_from-pivot.result < length c.pivots.result.now = omega arith in
    let mark = ap (λ (p : Pivot). p.mark) (get_or_default c.pivots.result.now c.pivot_from-pivot.result c.index-pivots-pivot.result bare inside) ∙ ap (λ (ps : List Pivot). (pivot_at ps c.pivot_from-pivot.result).mark) c.pivots.ensures.value in
    sight_is g.B.Content.number data_of whole c.parts.inside.refs refl c.args.parts.now c.parts.view_is c.args.place c.args.number c.args.span.now node c.lists.result.now c.pivot_from-pivot.result _ c.height.result c.end_of.result c.with_end.result c.empty.result c.in_ok-live_branches.field-0
    (rw c.unwrap-node.ensures at c.node.ensures.value) c.lists.ensures is mark c.height.ensures.value c.end_of.ensures c.with_end.ensures.start c.with_end.ensures.end c.in_ok-live_branches.ensures
