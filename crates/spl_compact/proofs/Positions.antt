-- Where the first element stands that passes a test.
use Rattle.std.proofs.Common.{◌≡◌, ℕ, zero, suc, ◌+◌, ◌<◌, Bool, true, false, cond, nat_lt, List, [], ◌∷◌, Some, None, length, get_or, refl, sym, ap, ◌∙◌, arith}
use Rattle.std.specs.Prelude.{position, not}
use Rattle.std.specs.List.{position_or_len}
use Rattle.std.proofs.lemmas.Bool.{lt-ltb, le-ltb}

module _ {X : Type 0} (p : X → Bool) (d : X) where
  first_is : (xs : List X) (i : ℕ) → i < length xs → ((k : ℕ) → k < i → p (get_or xs k d) ≡ false) → p (get_or xs i d) ≡ true → position_or_len p xs ≡ i
  first_is [] i within before here = absurd (omega arith)
  first_is (x ∷ xs) zero within before here = ap (λ (b : Bool). cond (not b) (1 + position_or_len p xs) 0) here
  first_is (x ∷ xs) (suc i) within before here =
      let rest = first_is xs i (omega arith) (λ k below. before (suc k) (omega arith)) here in
      ap (λ (b : Bool). cond (not b) (1 + position_or_len p xs) 0) (before 0 (omega arith)) ∙ omega arith

  no_first : (xs : List X) → ((k : ℕ) → k < length xs → p (get_or xs k d) ≡ false) → position_or_len p xs ≡ length xs
  no_first [] none = refl
  no_first (x ∷ xs) none =
      let rest = no_first xs (λ k below. none (suc k) (omega arith)) in
      ap (λ (b : Bool). cond (not b) (1 + position_or_len p xs) 0) (none 0 (omega arith)) ∙ omega arith

  at_first : (xs : List X) (n : ℕ) → position_or_len p xs ≡ n → position p xs ≡ cond (nat_lt n (length xs)) (Some n) None
  at_first xs n is = ap (λ (k : ℕ). cond (nat_lt k (length xs)) (Some k) None) is

  pub position_is : (xs : List X) (i : ℕ) → i < length xs → ((k : ℕ) → k < i → p (get_or xs k d) ≡ false) → p (get_or xs i d) ≡ true → position p xs ≡ Some i
  position_is xs i within before here =
      at_first xs i (first_is xs i within before here) ∙ ap (λ (b : Bool). cond b (Some i) None) (lt-ltb i (length xs) within)

  pub position_none : (xs : List X) → ((k : ℕ) → k < length xs → p (get_or xs k d) ≡ false) → position p xs ≡ None
  position_none xs none =
      at_first xs (length xs) (no_first xs none) ∙ ap (λ (b : Bool). cond b (Some (length xs)) None) (le-ltb (length xs) (length xs) (omega arith))

  no_some : (i : ℕ) → Some i ≡ None → ⊥
  no_some i is = cc

  first_below : (xs : List X) (k : ℕ) → k < length xs → p (get_or xs k d) ≡ true → position_or_len p xs < length xs
  first_below [] k within here = absurd (omega arith)
  first_below (x ∷ xs) zero within here = let is = ap (λ (b : Bool). cond (not b) (1 + position_or_len p xs) 0) here in omega arith
  first_below (x ∷ xs) (suc k) within here = by (p x) refl (first_below xs k (omega arith) here)
    where
      by : (b : Bool) → p x ≡ b → position_or_len p xs < length xs → position_or_len p (x ∷ xs) < length (x ∷ xs)
      by true is rest = let at = ap (λ (c : Bool). cond (not c) (1 + position_or_len p xs) 0) is in omega arith
      by false is rest = let at = ap (λ (c : Bool). cond (not c) (1 + position_or_len p xs) 0) is in omega arith

  -- where there is none, none passes
  pub none_passes : (xs : List X) → position p xs ≡ None → (k : ℕ) → k < length xs → p (get_or xs k d) ≡ false
  none_passes xs none k within = by (p (get_or xs k d)) refl
    where
      by : (b : Bool) → p (get_or xs k d) ≡ b → b ≡ false
      by false is = refl
      by true is =
          let below = first_below xs k within is in
          absurd (no_some (position_or_len p xs) (sym (ap (λ (b : Bool). cond b (Some (position_or_len p xs)) None) (lt-ltb (position_or_len p xs) (length xs) below)) ∙ none))

-- tests that agree on all elements pass the same one first
module _ {X : Type 0} (p q : X → Bool) (d : X) where
  same_first : (xs : List X) → ((k : ℕ) → k < length xs → p (get_or xs k d) ≡ q (get_or xs k d)) → position_or_len p xs ≡ position_or_len q xs
  same_first [] agree = refl
  same_first (x ∷ xs) agree =
      ap (λ (b : Bool). cond (not b) (1 + position_or_len p xs) 0) (agree 0 (omega arith))
      ∙ ap (λ (n : ℕ). cond (not (q x)) (1 + n) 0) (same_first xs (λ k below. agree (suc k) (omega arith)))

  pub position_alike : (xs : List X) → ((k : ℕ) → k < length xs → p (get_or xs k d) ≡ q (get_or xs k d)) → position p xs ≡ position q xs
  position_alike xs agree = ap (λ (k : ℕ). cond (nat_lt k (length xs)) (Some k) None) (same_first xs agree)
