-- What a walk over the elements that pass a test has met.
use Rattle.std.proofs.Common.{◌≡◌, ℕ, zero, suc, ◌<◌, ◌≤◌, Bool, true, false, cond, List, [], ◌∷◌, Some, None, length, filter, get_or, take, refl, ap, arith}
use Rattle.std.specs.Prelude.{slice_get}
use Rattle.std.proofs.lemmas.List.{take_all}

module _ {A : Type 0} (p : A → Bool) where
  -- an element that passes stands behind those before it that pass
  pub found_at : (xs : List A) (i : ℕ) (d : A) → i < length xs → p (get_or xs i d) ≡ true → slice_get (filter p xs) (length (filter p (take i xs))) ≡ Some (get_or xs i d)
  found_at [] i d within passes = absurd (omega arith)
  found_at (x ∷ xs) zero d within passes = ap (λ (b : Bool). slice_get (cond b (x ∷ filter p xs) (filter p xs)) 0) passes
  found_at (x ∷ xs) (suc i) d within passes = by (p x) (found_at xs i d (omega arith) passes)
    where
      by : (b : Bool) → slice_get (filter p xs) (length (filter p (take i xs))) ≡ Some (get_or xs i d) → slice_get (cond b (x ∷ filter p xs) (filter p xs)) (length (cond b (x ∷ filter p (take i xs)) (filter p (take i xs)))) ≡ Some (get_or xs i d)
      by true later = later
      by false later = later

  none_past : (xs : List A) (n : ℕ) → length xs ≤ n → slice_get xs n ≡ None
  none_past [] n past = refl
  none_past (x ∷ xs) zero past = absurd (omega arith)
  none_past (x ∷ xs) (suc n) past = none_past xs n (omega arith)

  pub found_none : (xs : List A) (i n : ℕ) → length xs ≤ i → length (filter p (take i xs)) ≤ n → slice_get (filter p xs) n ≡ None
  found_none xs i n all past =
      let whole = ap (λ (ys : List A). length (filter p ys)) (take_all i xs all) in
      none_past (filter p xs) n (omega arith)
