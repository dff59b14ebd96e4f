-- The order of the starts of pivots.
use Rattle.std.proofs.Common.{◌≡◌, ℕ, zero, suc, ◌<◌, ◌≤◌, Bool, true, false, ◌&&◌, not, if◌then◌else◌, List, [], ◌∷◌, Some, None, Option, length, refl, sym, ap, subst, ◌∙◌, inl, inr, arith, add-one}
use Rattle.std.specs.Ordering.{is_lt}
use Rattle.std.proofs.lemmas.Bool.{cases_lt, false≢true}
use Rattle.std.proofs.lemmas.Cmp.{nat_list_cmp_total, tied_itself}
use Rattle.spl_message.specs.declared.span.Span.{Span}
use Rattle.spl_message.specs.Key.{is_below}
use Rattle.spl_message.specs.Span.{is_from, is_before, InSpan}
use Rattle.spl_message.proofs.Spans.{below_trans}
use Rattle.spl_node.specs.declared.pivot.Pivot.{Pivot}
use Rattle.spl_node.specs.Node.{pivot_at, is_past, StartsBefore, StartsIn, AreRising}
use Rattle.spl_node.specs.Steps.{starts_below}

pub not_below_self : (a : List ℕ) → is_below a a ≡ false
not_below_self a = ap is_lt (tied_itself nat_list_cmp_total a)

pub not_below_back : (a b : List ℕ) → is_below a b ≡ true → is_below b a ≡ false
not_below_back a b ab = by (is_below b a) refl
  where
    by : (c : Bool) → is_below b a ≡ c → is_below b a ≡ false
    by true ba = absurd (false≢true (sym (not_below_self a) ∙ below_trans a b a ab ba))
    by false ba = ba

pub both : (a b : Bool) → a ≡ true → b ≡ true → (a && b) ≡ true
both a b p q = ap (λ x. x && b) p ∙ q

pub first_of_both : (a b : Bool) → (a && b) ≡ true → a ≡ true
first_of_both true b h = refl
first_of_both false b h = absurd (false≢true h)

pub second_of_both : (a b : Bool) → (a && b) ≡ true → b ≡ true
second_of_both true b h = h
second_of_both false b h = absurd (false≢true h)

-- a key that starts above another start is there
start_of : (start next : Option (List ℕ)) → StartsBefore start next → (key : List ℕ) × (next ≡ Some key)
start_of start None before = absurd (false≢true (sym before))
start_of start (Some key) before = (key, refl)

past_trans : (start : Option (List ℕ)) (a b : List ℕ) → is_past start a ≡ true → is_below a b ≡ true → is_past start b ≡ true
past_trans None a b sa ab = refl
past_trans (Some s) a b sa ab = below_trans s a b sa ab

module _ (pivots : List Pivot) (rising : AreRising pivots) where
  next_start : (i : ℕ) → suc i < length pivots → StartsBefore (pivot_at pivots i).start (pivot_at pivots (suc i)).start
  next_start i within =
      let P : ℕ → Type 0 = λ n. StartsBefore (pivot_at pivots i).start (pivot_at pivots n).start in
      subst P (add-one i) (rising i (omega arith))

  -- a pivot behind another one has a start
  pub later_start : (i : ℕ) → 0 < i → i < length pivots → (key : List ℕ) × ((pivot_at pivots i).start ≡ Some key)
  later_start zero some within = absurd (omega arith)
  later_start (suc i) some within = start_of (pivot_at pivots i).start (pivot_at pivots (suc i)).start (next_start i within)

  -- a pivot behind another one starts above it
  pub rising_past : (i : ℕ) (key : List ℕ) → i < length pivots → (pivot_at pivots i).start ≡ Some key → (j : ℕ) → j < i → is_past (pivot_at pivots j).start key ≡ true
  rising_past zero key within is j below = absurd (omega arith)
  rising_past (suc i) key within is j below =
      let P : Option (List ℕ) → Type 0 = λ next. StartsBefore (pivot_at pivots i).start next in
      let last : is_past (pivot_at pivots i).start key ≡ true = subst P is (next_start i within) in
      elim (cases_lt j i) [
        | inl lower ↦
            let there = later_start i (omega arith) (omega arith) in
            past_trans (pivot_at pivots j).start there.0 key (rising_past i there.0 (omega arith) there.1 j lower) (ap (λ s. is_past s key) (sym there.1) ∙ last)
        | inr same ↦ let eq : i ≡ j = omega arith in ap (λ (n : ℕ). is_past (pivot_at pivots n).start key) (sym eq) ∙ last
      ]

-- the pivots that start below a key are those in front of it
pub starts_below_is : (pivots : List Pivot) (key : List ℕ) (i : ℕ) → i ≤ length pivots → ((j : ℕ) → j < i → is_past (pivot_at pivots j).start key ≡ true) → (i < length pivots → is_past (pivot_at pivots i).start key ≡ false) → starts_below pivots key ≡ i
starts_below_is [] key zero within past ends = refl
starts_below_is [] key (suc i) within past ends = absurd (omega arith)
starts_below_is (pivot ∷ pivots) key zero within past ends =
    ap (λ (b : Bool). if b then suc (starts_below pivots key) else 0) (ends (omega arith))
starts_below_is (pivot ∷ pivots) key (suc i) within past ends =
    ap (λ (b : Bool). if b then suc (starts_below pivots key) else 0) (past 0 (omega arith))
    ∙ ap suc (starts_below_is pivots key i (omega arith) (λ j below. past (suc j) (omega arith)) (λ below. ends (omega arith)))

-- a start of the range in a part of it
pub starts_in_left : (span : Span) (key : List ℕ) (start : Option (List ℕ)) → StartsIn span start → is_past start key ≡ true → StartsIn (record { from = span.from; to = Some key }) start
starts_in_left span key None within past = refl
starts_in_left span key (Some s) within past = both _ _ (first_of_both (is_from span.from s) (is_before span.to s) within) past

pub starts_in_right : (span : Span) (key s : List ℕ) → InSpan span s → is_below s key ≡ false → InSpan (record { from = Some key; to = span.to }) s
starts_in_right span key s within above =
    both _ _ (ap not above) (second_of_both (is_from span.from s) (is_before span.to s) within)
