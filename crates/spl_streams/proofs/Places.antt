-- What stands at a place of a list, after a write and in a front part.
use Rattle.std.proofs.Common.{◌≡◌, ◌≢◌, ℕ, zero, suc, ◌<◌, List, [], ◌∷◌, map, take, set, length, ◌-◌, None, Some, ◌⊎◌, inl, inr, refl, ap, sym, arith}
use Rattle.std.proofs.lemmas.Option.{slice_get_cases}
use Rattle.std.specs.List.{slice_get}

module _ {X : Type 0} where
  -- a write stands at its place, and the others are as they were
  pub set_cases : (xs : List X) (i : ℕ) (x : X) (j : ℕ) (y : X) → slice_get (set xs i x) j ≡ Some y →
      ((j ≡ i) × (y ≡ x)) ⊎ ((j ≢ i) × (slice_get xs j ≡ Some y))
  set_cases [] i x j y is = cc
  set_cases (a ∷ xs) zero x zero y is = inl (refl, cc)
  set_cases (a ∷ xs) zero x (suc j) y is = inr (λ same. absurd (omega (arith, same)), is)
  set_cases (a ∷ xs) (suc i) x zero y is = inr (λ same. absurd (omega (arith, same)), is)
  set_cases (a ∷ xs) (suc i) x (suc j) y is =
      elim (set_cases xs i x j y is) [
        | inl here ↦ inl (ap suc here.0, here.1)
        | inr other ↦ inr (λ same. other.0 (omega (arith, same)), other.1)
      ]

  pub set_other : (xs : List X) (i : ℕ) (x : X) (j : ℕ) → j ≢ i → slice_get (set xs i x) j ≡ slice_get xs j
  set_other [] i x j other = refl
  set_other (a ∷ xs) zero x zero other = absurd (other refl)
  set_other (a ∷ xs) zero x (suc j) other = refl
  set_other (a ∷ xs) (suc i) x zero other = refl
  set_other (a ∷ xs) (suc i) x (suc j) other = set_other xs i x j (λ same. other (ap suc same))

  pub set_here : (xs : List X) (i : ℕ) (x old : X) → slice_get xs i ≡ Some old → slice_get (set xs i x) i ≡ Some x
  set_here [] i x old is = cc
  set_here (a ∷ xs) zero x old is = refl
  set_here (a ∷ xs) (suc i) x old is = set_here xs i x old is

  -- what is written again changes nothing
  pub set_same : (xs : List X) (i : ℕ) (x : X) → slice_get xs i ≡ Some x → set xs i x ≡ xs
  set_same [] i x is = refl
  set_same (a ∷ xs) zero x is = let same : a ≡ x = cc in ap (λ (b : X). b ∷ xs) (sym same)
  set_same (a ∷ xs) (suc i) x is = ap (λ (rest : List X). a ∷ rest) (set_same xs i x is)

  pub of_front : (n : ℕ) (xs : List X) (j : ℕ) (x : X) → slice_get (take n xs) j ≡ Some x →
      (j < n) × (slice_get xs j ≡ Some x)
  of_front zero xs j x is = cc
  of_front (suc n) [] j x is = cc
  of_front (suc n) (a ∷ xs) zero x is = (omega arith, is)
  of_front (suc n) (a ∷ xs) (suc j) x is =
      let rest = of_front n xs j x is in
      let below = rest.0 in
      (omega (arith, below), rest.1)

  pub to_front : (n : ℕ) (xs : List X) (j : ℕ) (x : X) → j < n → slice_get xs j ≡ Some x → slice_get (take n xs) j ≡ Some x
  to_front zero xs j x below is = absurd (omega arith)
  to_front (suc n) [] j x below is = is
  to_front (suc n) (a ∷ xs) zero x below is = is
  to_front (suc n) (a ∷ xs) (suc j) x below is = to_front n xs j x (omega arith) is

module _ {X Y : Type 0} (f : X → Y) where
  pub get_map : (xs : List X) (i : ℕ) (x : X) → slice_get xs i ≡ Some x → slice_get (map f xs) i ≡ Some (f x)
  get_map [] i x is = cc
  get_map (a ∷ xs) zero x is = let same : a ≡ x = cc in ap (λ (b : X). Some (f b)) same
  get_map (a ∷ xs) (suc i) x is = get_map xs i x is

  pub of_map : (xs : List X) (i : ℕ) (y : Y) → slice_get (map f xs) i ≡ Some y → (x : X) × (slice_get xs i ≡ Some x) × (f x ≡ y)
  of_map [] i y is = cc
  of_map (a ∷ xs) zero y is = (a, refl, cc)
  of_map (a ∷ xs) (suc i) y is = of_map xs i y is

-- a list without a last element is empty
pub none_last : (xs : List ℕ) → None ≡ slice_get xs (length xs - 1) → xs ≡ []
none_last [] none = refl
none_last (x ∷ xs) none = by xs none
  where
    by : (xs : List ℕ) → None ≡ slice_get (x ∷ xs) (length (x ∷ xs) - 1) → x ∷ xs ≡ []
    by [] none = cc
    by (y ∷ ys) none =
        let last = slice_get_cases (x ∷ y ∷ ys) (length (x ∷ y ∷ ys) - 1) in
        elim last.1 [
          | inl found ↦ cc (none, found.2)
          | inr past ↦ absurd (omega (arith, past.0))
        ]
