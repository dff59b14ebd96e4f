-- Sums over the views of all seats, and lists of views that change at one place.
use Rattle.std.proofs.Common.{◌≡◌, ℕ, zero, suc, ◌+◌, ◌*◌, ◌<◌, ◌≤◌, ◌≢◌, ◌⊎◌, List, [], ◌∷◌, ◌++◌, length, set, sym, refl, ap, ◌∙◌, inl, inr, ⊎_elim, subst, arith}
use mathlib.Core.Option.{some, some-injective, some-ne-none}
use mathlib.Core.Logic.{dite}
use native.Mathlib.Decide.{ℕ_discrete}
use lib.ListN.{get_elem?}
use Rattle.atomic_table.proofs.Lists.{at_set, set_else, at_longer}
use Rattle.spl_turn.specs.Rule.{total}

module _ {X : Type 0} where
  pub total_set : (f : X → ℕ) (vs : List X) (i : ℕ) (v w : X) → get_elem? vs i ≡ some v → total f (set vs i w) + f v ≡ total f vs + f w
  total_set f [] i v w at = absurd (some-ne-none v (sym at))
  total_set f (x ∷ xs) zero v w at = let e : f x ≡ f v = ap f (some-injective x v at) in omega arith
  total_set f (x ∷ xs) (suc i) v w at = let h = total_set f xs i v w at in omega (arith, h)

  pub total_snoc : (f : X → ℕ) (vs : List X) (w : X) → total f (vs ++ w ∷ []) ≡ total f vs + f w
  total_snoc f [] w = omega arith
  total_snoc f (x ∷ xs) w = omega (arith, total_snoc f xs w)

  pub total_le : (f g : X → ℕ) (vs : List X) → ((j : ℕ) (v : X) → get_elem? vs j ≡ some v → f v ≤ g v) → total f vs ≤ total g vs
  total_le f g [] h = omega arith
  total_le f g (x ∷ xs) h = let a : f x ≤ g x = h 0 x refl in let b = total_le f g xs (λ j v at. h (suc j) v at) in omega (arith, b)

  pub total_lt : (f g : X → ℕ) (vs : List X) (i : ℕ) (u : X) → ((j : ℕ) (v : X) → get_elem? vs j ≡ some v → f v ≤ g v) → get_elem? vs i ≡ some u → f u < g u → total f vs < total g vs
  total_lt f g [] i u h at lt = absurd (some-ne-none u (sym at))
  total_lt f g (x ∷ xs) zero u h at lt =
      let e = some-injective x u at in let a : f x < g x = subst (λ y. f y < g y) (sym e) lt in let b = total_le f g xs (λ j v at. h (suc j) v at) in omega (arith, b)
  total_lt f g (x ∷ xs) (suc i) u h at lt = let a : f x ≤ g x = h 0 x refl in let b = total_lt f g xs i u (λ j v at. h (suc j) v at) at lt in omega (arith, b)

  pub total_scale : (k : ℕ) (f : X → ℕ) (vs : List X) → total (λ v. k * f v) vs ≡ k * total f vs
  total_scale k f [] = omega arith
  total_scale k f (x ∷ xs) = grind (arith, total_scale k f xs)

  pub total_part : (f : X → ℕ) (vs : List X) (i : ℕ) (v : X) → get_elem? vs i ≡ some v → f v ≤ total f vs
  total_part f [] i v at = absurd (some-ne-none v (sym at))
  total_part f (x ∷ xs) zero v at = let e : f x ≡ f v = ap f (some-injective x v at) in omega arith
  total_part f (x ∷ xs) (suc i) v at = let h = total_part f xs i v at in omega (arith, h)

  pub total_none : (f : X → ℕ) (vs : List X) → ((j : ℕ) (v : X) → get_elem? vs j ≡ some v → f v ≡ 0) → total f vs ≡ 0
  total_none f [] h = refl
  total_none f (x ∷ xs) h = let a : f x ≡ 0 = h 0 x refl in let b = total_none f xs (λ j v at. h (suc j) v at) in omega (arith, b)

  -- two places of the list have no more than the sum
  pub total_two : (f : X → ℕ) (vs : List X) (i j : ℕ) (v w : X) → i ≢ j → get_elem? vs i ≡ some v → get_elem? vs j ≡ some w → f v + f w ≤ total f vs
  total_two f [] i j v w ne a b = absurd (some-ne-none v (sym a))
  total_two f (x ∷ xs) zero zero v w ne a b = absurd (ne refl)
  total_two f (x ∷ xs) zero (suc j) v w ne a b = let e : f x ≡ f v = ap f (some-injective x v a) in let h = total_part f xs j w b in omega (arith, h)
  total_two f (x ∷ xs) (suc i) zero v w ne a b = let e : f x ≡ f w = ap f (some-injective x w b) in let h = total_part f xs i v a in omega (arith, h)
  total_two f (x ∷ xs) (suc i) (suc j) v w ne a b = let h = total_two f xs i j v w (λ e. ne (ap suc e)) a b in omega (arith, h)

  pub set_at : (vs : List X) (i : ℕ) (v w : X) → get_elem? vs i ≡ some v → get_elem? (set vs i w) i ≡ some w
  set_at [] i v w at = absurd (some-ne-none v (sym at))
  set_at (x ∷ xs) zero v w at = refl
  set_at (x ∷ xs) (suc i) v w at = set_at xs i v w at

  pub snoc_at : (vs : List X) (w : X) → get_elem? (vs ++ w ∷ []) (length vs) ≡ some w
  snoc_at [] w = refl
  snoc_at (x ∷ xs) w = snoc_at xs w

  pub at_end : (vs : List X) (w : X) (j : ℕ) (v : X) → get_elem? (vs ++ w ∷ []) j ≡ some v → (get_elem? vs j ≡ some v) ⊎ ((j ≡ length vs) × (w ≡ v))
  at_end [] w zero v at = inr (refl, some-injective w v at)
  at_end [] w (suc j) v at = absurd (some-ne-none v (sym at))
  at_end (x ∷ xs) w zero v at = inl at
  at_end (x ∷ xs) w (suc j) v at = ⊎_elim (λ h. inl h) (λ h. inr (ap suc h.0, h.1)) (at_end xs w j v at)

  pub at_once : (vs : List X) (i : ℕ) (v w : X) → get_elem? vs i ≡ some v → get_elem? vs i ≡ some w → v ≡ w
  at_once vs i v w a b = some-injective v w (sym a ∙ b)

  -- what holds of each view holds of each after one has changed
  pub each_set : (Q : ℕ → X → Type 0) (vs : List X) (i : ℕ) (w : X) → ((j : ℕ) (v : X) → j ≢ i → get_elem? vs j ≡ some v → Q j v) → Q i w → (j : ℕ) (v : X) → get_elem? (set vs i w) j ≡ some v → Q j v
  each_set Q vs i w others mine j v at =
      ⊎_elim (λ t. subst (λ (z : ℕ). Q z v) (sym t.0) (subst (Q i) t.1 mine)) (λ t. others j v t.0 t.1) (at_set vs i j w v at)
