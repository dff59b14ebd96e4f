-- Walks along the pivots and the bundles of a node, one step after another.
use Rattle.std.proofs.Common.{◌≡◌, ℕ, suc, ◌+◌, ◌-◌, ◌<◌, ◌≤◌, Bool, true, false, ◌||◌, not, nat_lt, if◌then◌else◌, List, [], ◌∷◌, Some, None, Option, length, drop, refl, sym, ap, ◌∙◌, inl, inr, arith}
use Rattle.std.proofs.lemmas.List.{drop_more, drop_all}
use Rattle.std.proofs.lemmas.Bool.{cases_lt, false≢true}
use Rattle.spl_message.specs.Span.{is_from, is_before}
use Rattle.spl_bundle.specs.Numbered.{Numbered, unmarked, bundle_at, next_of}
use Rattle.spl_node.specs.declared.pivot.Pivot.{Pivot}
use Rattle.spl_node.specs.Node.{bare, pivot_at, pivot_for, is_past}
use Rattle.spl_node.specs.Steps.{starts_below, is_empty, first_from}

module _ (pivots : List Pivot) (key : List ℕ) (i : ℕ) where
  here : i < length pivots → drop i pivots ≡ pivot_at pivots i ∷ drop (i + 1) pivots
  here within = drop_more pivots i bare within

  pub pivot_for_more : i + 1 < length pivots → is_from (pivot_at pivots (i + 1)).start key ≡ true → pivot_for (drop i pivots) key ≡ suc (pivot_for (drop (i + 1) pivots) key)
  pivot_for_more within started =
      let next = drop_more pivots (i + 1) bare within in
      ap (λ ps. pivot_for ps key) (here (omega arith) ∙ ap (λ ps. pivot_at pivots i ∷ ps) next)
      ∙ ap (λ (b : Bool). if b then suc (pivot_for (pivot_at pivots (i + 1) ∷ drop (i + 1 + 1) pivots) key) else 0) started
      ∙ ap (λ ps. suc (pivot_for ps key)) (sym next)

  pub pivot_for_end : i < length pivots → (i + 1 < length pivots → is_from (pivot_at pivots (i + 1)).start key ≡ false) → pivot_for (drop i pivots) key ≡ 0
  pivot_for_end within ends =
      ap (λ ps. pivot_for ps key) (here within)
      ∙ elim (cases_lt (i + 1) (length pivots)) [
        | inl more ↦
            ap (λ ps. pivot_for (pivot_at pivots i ∷ ps) key) (drop_more pivots (i + 1) bare more)
            ∙ ap (λ (b : Bool). if b then suc (pivot_for (pivot_at pivots (i + 1) ∷ drop (i + 1 + 1) pivots) key) else 0) (ends more)
        | inr last ↦ ap (λ ps. pivot_for (pivot_at pivots i ∷ ps) key) (drop_all (i + 1) pivots last)
      ]

  pub starts_below_more : i < length pivots → is_past (pivot_at pivots i).start key ≡ true → starts_below (drop i pivots) key ≡ suc (starts_below (drop (i + 1) pivots) key)
  starts_below_more within past =
      ap (λ ps. starts_below ps key) (here within)
      ∙ ap (λ (b : Bool). if b then suc (starts_below (drop (i + 1) pivots) key) else 0) past

  pub starts_below_end : (i < length pivots → is_past (pivot_at pivots i).start key ≡ false) → starts_below (drop i pivots) key ≡ 0
  starts_below_end ends = elim (cases_lt i (length pivots)) [
    | inl more ↦
        ap (λ ps. starts_below ps key) (here more)
        ∙ ap (λ (b : Bool). if b then suc (starts_below (drop (i + 1) pivots) key) else 0) (ends more)
    | inr last ↦ ap (λ ps. starts_below ps key) (drop_all i pivots last)
  ]

from_not : (b : Bool) → not b ≡ false → b ≡ true
from_not true h = refl
from_not false h = absurd (false≢true (sym h))

-- a key below a start
pub before_start : (start : Option (List ℕ)) (key : List ℕ) → is_from start key ≡ false → is_before start key ≡ true
before_start None key not_from = absurd (false≢true (sym not_from))
before_start (Some start) key not_from = from_not _ not_from

module _ (lists : Numbered) (least number : ℕ) (from : lists.first ≤ number) where
  bundles_from : number < next_of lists → drop (number - lists.first) lists.bundles ≡ bundle_at lists number ∷ drop (number + 1 - lists.first) lists.bundles
  bundles_from below =
      drop_more lists.bundles (number - lists.first) (unmarked []) (omega arith)
      ∙ ap (λ (n : ℕ). bundle_at lists number ∷ drop n lists.bundles) (omega arith)

  pub first_from_more : number < next_of lists → (nat_lt number least || is_empty (bundle_at lists number)) ≡ true → first_from least number (drop (number - lists.first) lists.bundles) ≡ first_from least (number + 1) (drop (number + 1 - lists.first) lists.bundles)
  first_from_more below dropped =
      ap (first_from least number) (bundles_from below)
      ∙ ap (λ (b : Bool). if b then first_from least (number + 1) (drop (number + 1 - lists.first) lists.bundles) else number) dropped

  pub first_from_end : (number < next_of lists → (nat_lt number least || is_empty (bundle_at lists number)) ≡ false) → first_from least number (drop (number - lists.first) lists.bundles) ≡ number
  first_from_end ends = elim (cases_lt number (next_of lists)) [
    | inl below ↦
        ap (first_from least number) (bundles_from below)
        ∙ ap (λ (b : Bool). if b then first_from least (number + 1) (drop (number + 1 - lists.first) lists.bundles) else number) (ends below)
    | inr past ↦ ap (first_from least number) (drop_all (number - lists.first) lists.bundles (omega arith))
  ]
