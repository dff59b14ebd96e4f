use Rattle.std.proofs.Common.{arith, ◌≡◌, ◌<◌, true, nat_eq, Some, slice_index_or, sym, ap, ◌∙◌, length, List}
use Rattle.std.specs.Option.{option_eq}
use Rattle.std.proofs.lemmas.List.{get_or_default}
use Rattle.spl_node.specs.declared.pivot.Pivot.{Pivot}
use Rattle.spl_node.specs.Node.{bare, pivot_at}
use Rattle.spl_flush.specs.Flushing.{is_to}
use Rattle.spl_flush.proofs.Queues.{leads_here, position_found, position_none}
use Rattle.spl_flush.proofs.step.pivot_to.Goals as goal

pub returns-then-eq : goal.returns-then-eq
returns-then-eq c =
    let pivots = c.args.node.now.pivots in
    let i = c.loop-pivot.pivot in
    let within : i < length pivots = let same = ap length c.pivots-pivots.ensures.value in omega arith in
    let this : slice_index_or c.pivots-pivots.result.now i c.index-pivots-pivot.result ≡ pivot_at pivots i =
    ap (λ (ps : List Pivot). slice_index_or ps i c.index-pivots-pivot.result) c.pivots-pivots.ensures.value
    ∙ get_or_default pivots i c.index-pivots-pivot.result bare within in
    let to : is_to c.args.child (pivot_at pivots i).child ≡ true =
    sym (leads_here (pivot_at pivots i).child c.args.child)
    ∙ ap (λ (p : Pivot). option_eq nat_eq p.child (Some c.args.child)) (sym this) ∙ sym c.eq.ensures
    ∙ c.if-eq.true in
    sym (position_found (λ (pivot : Pivot). is_to c.args.child pivot.child) pivots bare i within
    c.loop-pivot.invariant to)

pub returns : goal.returns
returns c =
    sym (position_none (λ (pivot : Pivot). is_to c.args.child pivot.child) c.args.node.now.pivots bare
    (λ k within. c.loop-pivot.invariant k (let same = ap length c.pivots-pivots.ensures.value in omega
    arith)))
