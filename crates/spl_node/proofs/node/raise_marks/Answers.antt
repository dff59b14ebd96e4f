use Rattle.std.proofs.Common.{ℕ, ◌<◌, length, get_or, set, max, arith, ap, ◌∙◌}
use Rattle.std.proofs.lemmas.List.{get_or_default}
use Rattle.std.proofs.lemmas.List.Edits.{map_over_more}
use Rattle.spl_node.specs.declared.pivot.Pivot.{Pivot}
use Rattle.spl_node.specs.Steps.{at_mark}
use Rattle.spl_node.proofs.node.raise_marks.Goals as goal

pub loop-pivot-preserved : goal.loop-pivot-preserved
loop-pivot-preserved c =
    let pivots = c.loop-pivot.pivots in
    let i = c.loop-pivot.pivot-index in
    let pivot = get_or pivots i c.pivot-item.result in
    let raise : Pivot → Pivot = λ pivot. at_mark pivot (max pivot.mark c.args.number) in
    let within : i < length c.args.pivots.now = omega arith in
    let inside : i < length pivots = omega (arith, c.loop-pivot.auto.pivots) in
    ap (λ (mark : ℕ). set pivots i (at_mark pivot mark)) c.max-pivot.ensures
    ∙ map_over_more raise c.args.pivots.now pivots i pivot within c.loop-pivot.invariant (get_or_default pivots i c.pivot-item.result pivot inside)
