use Rattle.std.proofs.Common.{◌≡◌, ℕ, ◌≤◌, List, Some, length, filter, take, sym, ap, ◌∙◌, arith}
use Rattle.std.specs.Prelude.{slice_get}
use Rattle.spl_state.specs.Sight.{is_inside}
use Rattle.spl_survey.proofs.Inside.{found_at, found_none}
use Rattle.spl_survey.proofs.split.nth_inside.Goals as goal

pub returns-then-before-index : goal.returns-then-before-index
returns-then-before-index c =
    let p = is_inside c.args.range.now in
    let cuts = c.args.cuts.now in
    let i = c.loop-cut.cut-index in
    let passes = sym (ap p c.cut-item.is) ∙ sym c.is_inside.ensures ∙ c.if-is_inside.true in
    let place : c.args.index ≡ length (filter p (take i cuts)) = let met = c.loop-cut.invariant.0 in let here = c.if-before-index.true in omega arith in
    ap (λ (k : List ℕ). Some k) c.cut-item.is
    ∙ sym (found_at p cuts i c.cut-item.result c.loop-cut-test.true passes)
    ∙ ap (slice_get (filter p cuts)) (sym place)

pub returns : goal.returns
returns c =
    let p = is_inside c.args.range.now in
    let all : length c.args.cuts.now ≤ c.loop-cut.cut-index = omega arith in
    let met : length (filter p (take c.loop-cut.cut-index c.args.cuts.now)) ≤ c.args.index = let is = c.loop-cut.invariant.0 in let few = c.loop-cut.invariant.1 in omega arith in
    sym (found_none p c.args.cuts.now c.loop-cut.cut-index c.args.index all met)
