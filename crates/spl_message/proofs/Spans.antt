-- The order of starts and ends, and which keys lie between them.
use Rattle.std.proofs.Common.{◌≡◌, ℕ, Bool, true, false, ◌&&◌, not, cond, List, Option, Some, None, Ordering, refl, ap, ◌∙◌, sym}
use Rattle.std.proofs.lemmas.Bool.{false≢true}
use Rattle.std.specs.declared.cmp.Ordering.TheVariants.{Less, Equal, Greater}
use Rattle.std.specs.Cmp.Lexicographic.{slice_cmp, nat_list_cmp_total}
use Rattle.std.specs.Ordering.{nat_cmp, is_lt, ordering_reverse}
use Rattle.spl_message.specs.declared.span.Span.{Span}
use Rattle.spl_message.specs.Key.{is_below}
use Rattle.spl_message.specs.Span.{InSpan, are_empty, first_end, in_span, is_before, is_from}

less : (o : Ordering) → is_lt o ≡ true → o ≡ Less
less Less h = refl
less Equal h = absurd (false≢true h)
less Greater h = absurd (false≢true h)

pub below_trans : (x y z : List ℕ) → is_below x y ≡ true → is_below y z ≡ true → is_below x z ≡ true
below_trans x y z first second = ap is_lt (nat_list_cmp_total.trans x y z (less _ first) (less _ second))

below_by : (x y z : List ℕ) (o : Ordering) → slice_cmp nat_cmp z y ≡ o → is_below x y ≡ true → is_lt o ≡ false → is_below x z ≡ true
below_by x y z Less is below not_below = absurd (false≢true (sym not_below))
below_by x y z Equal is below not_below =
    ap is_lt (nat_list_cmp_total.antisymm x z ∙ ap ordering_reverse (nat_list_cmp_total.congr z y x is) ∙ sym (nat_list_cmp_total.antisymm x y)) ∙ below
below_by x y z Greater is below not_below = below_trans x y z below (ap is_lt (nat_list_cmp_total.antisymm y z ∙ ap ordering_reverse is))

-- what is below one is below another that is not below it
pub below_from : (x y z : List ℕ) → is_below x y ≡ true → is_below z y ≡ false → is_below x z ≡ true
below_from x y z below not_below = below_by x y z (slice_cmp nat_cmp z y) refl below not_below

pub both_true : (a b : Bool) → (a && b) ≡ true → (a ≡ true) × (b ≡ true)
both_true true b h = (refl, h)
both_true false b h = absurd (false≢true h)

not_true : (b : Bool) → not b ≡ true → b ≡ false
not_true true h = absurd (false≢true h)
not_true false h = refl

-- no key lies in a span whose end is not above its start
pub empty_has_none : (span : Span) → are_empty span.from span.to ≡ true → (key : List ℕ) → ¬ (InSpan span key)
empty_has_none span empty key inside = by span.from span.to empty inside
  where
    by : (from to : Option (List ℕ)) → are_empty from to ≡ true → (is_from from key && is_before to key) ≡ true → ⊥
    by None to e i = false≢true e
    by (Some start) None e i = false≢true e
    by (Some start) (Some end) e i =
        let both = both_true (not (is_below key start)) (is_below key end) i in
        false≢true (sym (not_true _ both.0) ∙ below_from key end start both.1 (not_true _ e))

two_ends : (key end other : List ℕ) (b : Bool) → is_below other end ≡ b → is_before (cond b (Some other) (Some end)) key ≡ (is_below key end && is_below key other)
two_ends key end other true is = by (is_below key other) refl
  where
    by : (b : Bool) → is_below key other ≡ b → is_below key other ≡ (is_below key end && is_below key other)
    by true e = e ∙ sym (ap (λ a. a && is_below key other) (below_trans key other end e is) ∙ e)
    by false e = e ∙ sym (ap (λ b. is_below key end && b) e ∙ and_false (is_below key end))
      where
        and_false : (a : Bool) → (a && false) ≡ false
        and_false true = refl
        and_false false = refl
two_ends key end other false is = by (is_below key end) refl
  where
    by : (b : Bool) → is_below key end ≡ b → is_below key end ≡ (is_below key end && is_below key other)
    by true e = e ∙ sym (ap (λ a. a && is_below key other) e ∙ below_from key end other e is)
    by false e = e ∙ sym (ap (λ a. a && is_below key other) e)

and_true : (a : Bool) → a ≡ (a && true)
and_true true = refl
and_true false = refl

-- a key is before the first of two ends where it is before both
pub is_before-first_end : (end other : Option (List ℕ)) (key : List ℕ) → is_before (first_end end other) key ≡ (is_before end key && is_before other key)
is_before-first_end None other key = refl
is_before-first_end (Some end) None key = and_true (is_below key end)
is_before-first_end (Some end) (Some other) key = two_ends key end other (is_below other end) refl

and_assoc : (a b c : Bool) → (a && (b && c)) ≡ ((a && b) && c)
and_assoc true b c = refl
and_assoc false b c = refl

-- a span that ends earlier holds the keys that are before that end too
pub in_span_with_end : (from to end : Option (List ℕ)) (key : List ℕ) →
    in_span (record { from = from; to = first_end to end }) key ≡ (in_span (record { from = from; to = to }) key && is_before end key)
in_span_with_end from to end key =
    ap (λ b. is_from from key && b) (is_before-first_end to end key) ∙ and_assoc (is_from from key) (is_before to key) (is_before end key)
