-- What stands in a list, by cases on the list.
use Rattle.std.proofs.Common.{◌≡◌, ℕ, ◌<◌, ◌⊎◌, inl, inr, Bool, true, false, cond, List, [], ◌∷◌, ◌++◌, length, filter, get_or, refl, sym, ap, subst, ◌∙◌, arith, suc, zero}
use Rattle.std.proofs.lemmas.List.Elements.{Contains-append_right}
use Rattle.std.specs.List.{AllByRecursion, Contains}

module _ {X : Type 0} where
  abbrev pub In : X → List X → Type 0
  In x [] = ⊥
  In x (y ∷ ys) = (x ≡ y) ⊎ In x ys

  at_index : (xs : List X) (k : ℕ) (x : X) → k < length xs → get_or xs k x ≡ x → In x xs
  at_index [] k x l e = absurd (omega (arith, l))
  at_index (y ∷ ys) zero x l e = inl (sym e)
  at_index (y ∷ ys) (suc k) x l e = inr (at_index ys k x (omega (arith, l)) e)

  pub in_from_contains : (xs : List X) (x : X) → Contains xs x → In x xs
  in_from_contains xs x h = at_index xs h.0 x h.1 h.2

  pub contains_from_in : (xs : List X) (x : X) → In x xs → Contains xs x
  contains_from_in [] x i = absurd i
  contains_from_in (y ∷ ys) x (inl e) = (0, omega arith, sym e)
  contains_from_in (y ∷ ys) x (inr h) = Contains-append_right (y ∷ []) ys x (contains_from_in ys x h)

  pub all_at : (P : X → Type 0) (xs : List X) (x : X) → AllByRecursion P xs → In x xs → P x
  all_at P [] x h i = absurd i
  all_at P (y ∷ ys) x h (inl e) = subst P (sym e) h.0
  all_at P (y ∷ ys) x h (inr i) = all_at P ys x h.1 i

  pub all_from_in : (P : X → Type 0) (xs : List X) → ((x : X) → In x xs → P x) → AllByRecursion P xs
  all_from_in P [] f = tt
  all_from_in P (x ∷ xs) f = (f x (inl refl), all_from_in P xs (λ y i. f y (inr i)))

  pub in_append : (xs ys : List X) (x : X) → In x (xs ++ ys) → In x xs ⊎ In x ys
  in_append [] ys x i = inr i
  in_append (z ∷ xs) ys x (inl e) = inl (inl e)
  in_append (z ∷ xs) ys x (inr i) = by (in_append xs ys x i)
    where
      by : In x xs ⊎ In x ys → In x (z ∷ xs) ⊎ In x ys
      by (inl h) = inl (inr h)
      by (inr h) = inr h

  pub in_left : (xs ys : List X) (x : X) → In x xs → In x (xs ++ ys)
  in_left [] ys x i = absurd i
  in_left (z ∷ xs) ys x (inl e) = inl e
  in_left (z ∷ xs) ys x (inr i) = inr (in_left xs ys x i)

  pub in_right : (xs ys : List X) (x : X) → In x ys → In x (xs ++ ys)
  in_right [] ys x i = i
  in_right (z ∷ xs) ys x i = inr (in_right xs ys x i)

  pub in_filter : (p : X → Bool) (xs : List X) (x : X) → In x xs → p x ≡ true → In x (filter p xs)
  in_filter p [] x i t = absurd i
  in_filter p (y ∷ ys) x (inl e) t = rw (ap p (sym e) ∙ t) (inl e)
  in_filter p (y ∷ ys) x (inr i) t = by (p y) (in_filter p ys x i t)
    where
      by : (b : Bool) → In x (filter p ys) → In x (cond b (y ∷ filter p ys) (filter p ys))
      by true j = inr j
      by false j = j

  pub from_filter : (p : X → Bool) (xs : List X) (x : X) → In x (filter p xs) → In x xs × (p x ≡ true)
  from_filter p [] x i = absurd i
  from_filter p (y ∷ ys) x i = by (p y) refl i (λ j. from_filter p ys x j)
    where
      by : (b : Bool) → p y ≡ b → In x (cond b (y ∷ filter p ys) (filter p ys)) → (In x (filter p ys) → In x ys × (p x ≡ true)) → In x (y ∷ ys) × (p x ≡ true)
      by true e (inl s) rest = (inl s, ap p s ∙ e)
      by true e (inr j) rest = (inr (rest j).0, (rest j).1)
      by false e j rest = (inr (rest j).0, (rest j).1)

  pub all_filter : (P : X → Type 0) (p : X → Bool) (xs : List X) → AllByRecursion P xs → AllByRecursion P (filter p xs)
  all_filter P p xs h = all_from_in P (filter p xs) (λ x i. all_at P xs x h (from_filter p xs x i).0)

  -- an item that passes, or there is none
  pub passes_or_none : (p : X → Bool) (xs : List X) → ((x : X) × In x xs × (p x ≡ true)) ⊎ AllByRecursion (λ x. p x ≡ false) xs
  passes_or_none p [] = inr tt
  passes_or_none p (x ∷ xs) = by (p x) refl (passes_or_none p xs)
    where
      by : (b : Bool) → p x ≡ b → ((y : X) × In y xs × (p y ≡ true)) ⊎ AllByRecursion (λ y. p y ≡ false) xs → ((y : X) × In y (x ∷ xs) × (p y ≡ true)) ⊎ AllByRecursion (λ y. p y ≡ false) (x ∷ xs)
      by true e more = inl (x, inl refl, e)
      by false e (inl (y, i, t)) = inl (y, inr i, t)
      by false e (inr none) = inr (e, none)
