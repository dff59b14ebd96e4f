-- Lists with more at their end, by cases on the list.
use Rattle.std.proofs.Common.{◌≡◌, ℕ, zero, suc, ◌+◌, ◌<◌, List, [], ◌∷◌, ◌++◌, Some, IsSomeAnd, length, take, drop, slice_get, inl, inr, ◌⊎◌, refl, sym, ap, ◌∙◌, append_assoc, append-nil, arith}
use Rattle.std.specs.List.{AllByRecursion, enumerate_from, flat_map}

module _ {X : Type 0} where
  -- what stands in the front stands there still
  pub slice_get_front : (xs more : List X) (i : ℕ) (P : X → Type 0) → IsSomeAnd (slice_get xs i) P → slice_get (xs ++ more) i ≡ slice_get xs i
  slice_get_front [] more i P there = absurd there
  slice_get_front (x ∷ xs) more zero P there = refl
  slice_get_front (x ∷ xs) more (suc i) P there = slice_get_front xs more i P there

  pub some_front : (xs more : List X) (i : ℕ) (x : X) → slice_get xs i ≡ Some x → slice_get (xs ++ more) i ≡ Some x
  some_front [] more i x there = absurd (cc)
  some_front (y ∷ xs) more zero x there = there
  some_front (y ∷ xs) more (suc i) x there = some_front xs more i x there

  -- what comes next stands behind the front
  pub slice_get_end : (xs : List X) (x : X) (more : List X) → slice_get (xs ++ x ∷ more) (length xs) ≡ Some x
  slice_get_end [] x more = refl
  slice_get_end (y ∷ xs) x more = slice_get_end xs x more

  -- it stands in the front, or it is the one more
  pub slice_get_push_cases : (xs : List X) (x : X) (i : ℕ) (y : X) → slice_get (xs ++ x ∷ []) i ≡ Some y → ((i < length xs) × (slice_get xs i ≡ Some y)) ⊎ ((i ≡ length xs) × (x ≡ y))
  slice_get_push_cases [] x zero y there = inr (refl, cc)
  slice_get_push_cases [] x (suc i) y there = absurd (cc)
  slice_get_push_cases (z ∷ xs) x zero y there = inl (omega arith, there)
  slice_get_push_cases (z ∷ xs) x (suc i) y there = elim (slice_get_push_cases xs x i y there) [
    | inl front ↦ inl (omega arith, front.1)
    | inr last ↦ inr (ap suc last.0, last.1)
  ]

  pub all_append : (P : X → Type 0) (xs more : List X) → AllByRecursion P xs → AllByRecursion P more → AllByRecursion P (xs ++ more)
  all_append P [] more all others = others
  all_append P (x ∷ xs) more all others = (all.0, all_append P xs more all.1 others)

  pub all_front : (P : X → Type 0) (xs more : List X) → AllByRecursion P (xs ++ more) → AllByRecursion P xs
  all_front P [] more all = tt
  all_front P (x ∷ xs) more all = (all.0, all_front P xs more all.1)

  pub all_back : (P : X → Type 0) (xs more : List X) → AllByRecursion P (xs ++ more) → AllByRecursion P more
  all_back P [] more all = all
  all_back P (x ∷ xs) more all = all_back P xs more all.1

  pub all_weaker : (P Q : X → Type 0) (xs : List X) → ((x : X) → P x → Q x) → AllByRecursion P xs → AllByRecursion Q xs
  all_weaker P Q [] then all = tt
  all_weaker P Q (x ∷ xs) then all = (then x all.0, all_weaker P Q xs then all.1)

  pub all_take : (P : X → Type 0) (n : ℕ) (xs : List X) → AllByRecursion P xs → AllByRecursion P (take n xs)
  all_take P zero xs all = tt
  all_take P (suc n) [] all = tt
  all_take P (suc n) (x ∷ xs) all = (all.0, all_take P n xs all.1)

  pub all_drop : (P : X → Type 0) (n : ℕ) (xs : List X) → AllByRecursion P xs → AllByRecursion P (drop n xs)
  all_drop P zero xs all = all
  all_drop P (suc n) [] all = tt
  all_drop P (suc n) (x ∷ xs) all = all_drop P n xs all.1

  -- each with its place
  pub enumerate_push : (n : ℕ) (xs : List X) (x : X) → enumerate_from n (xs ++ x ∷ []) ≡ enumerate_from n xs ++ (n + length xs, x) ∷ []
  enumerate_push n [] x = ap (λ (place : ℕ). (place, x) ∷ []) (omega arith)
  enumerate_push n (y ∷ xs) x =
      ap (λ rest. (n, y) ∷ rest) (enumerate_push (n + 1) xs x)
      ∙ ap (λ (place : ℕ). (n, y) ∷ (enumerate_from (n + 1) xs ++ (place, x) ∷ [])) (omega arith)

  module _ {A : Type 0} (f : X → List A) where
    -- the last one gives more than another in its place
    pub flat_map_grow : (xs : List X) (x y : X) (more : List A) → f y ≡ f x ++ more → flat_map f (xs ++ y ∷ []) ≡ flat_map f (xs ++ x ∷ []) ++ more
    flat_map_grow [] x y more is = append-nil (f y) ∙ is ∙ ap (λ front. front ++ more) (sym (append-nil (f x)))
    flat_map_grow (z ∷ xs) x y more is =
        ap (λ rest. f z ++ rest) (flat_map_grow xs x y more is) ∙ sym (append_assoc (f z) (flat_map f (xs ++ x ∷ [])) more)

    -- the last one gives all that is more
    pub flat_map_push : (xs : List X) (y : X) → flat_map f (xs ++ y ∷ []) ≡ flat_map f xs ++ f y
    flat_map_push [] y = append-nil (f y)
    flat_map_push (x ∷ xs) y = ap (λ rest. f x ++ rest) (flat_map_push xs y) ∙ sym (append_assoc (f x) (flat_map f xs) (f y))
