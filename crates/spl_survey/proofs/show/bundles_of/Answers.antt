use Rattle.std.proofs.Common.{◌≡◌, ℕ, ◌+◌, ◌-◌, ◌<◌, ◌++◌, ◌∷◌, [], List, length, take, sym, ap, ap₂, ◌∙◌, arith}
use Rattle.spl_bundle.specs.Numbered.{bundle_at}
use Rattle.spl_state.specs.declared.view.BundleView.{BundleView}
use Rattle.spl_survey.specs.Surveys.{view_with, views_from}
use Rattle.spl_survey.proofs.Shown.{views_more}
use Rattle.spl_survey.proofs.show.bundles_of.Goals as goal

pub loop-number-preserved : goal.loop-number-preserved
loop-number-preserved c =
    let lists = c.args.lists.now in
    let number = c.loop-number.number in
    let from = c.first-first.ensures.value in
    let next = c.next-next.ensures.value in
    let i = number - lists.first in
    let within : i < length lists.bundles = omega arith in
    let seen : record { number = number; branches = length c.list.result.now; ticket = c.owner.result } ≡ view_with number (bundle_at lists number) =
    ap₂ (λ ns t. record { number = number; branches = length ns; ticket = t }) c.list.ensures c.owner.ensures in
    let here : number ≡ lists.first + i = omega arith in
    let after : number + 1 - lists.first ≡ i + 1 = omega arith in
    c.in_ok-push.ensures.items
    ∙ ap₂ (λ (vs : List BundleView) (v : BundleView). vs ++ v ∷ []) c.loop-number.invariant (seen ∙ ap (λ (n : ℕ). view_with n (bundle_at lists number)) here)
    ∙ sym (views_more lists.first lists.bundles i within)
    ∙ ap (λ (n : ℕ). views_from lists.first (take n lists.bundles)) (sym after)
