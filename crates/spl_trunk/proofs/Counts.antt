-- How often a number stands in joined lists.
use Rattle.std.proofs.Common.{◌≡◌, ℕ, zero, suc, ◌+◌, ◌<◌, ◌≤◌, Bool, cond, nat_eq, List, [], ◌∷◌, ◌++◌, flat_map, length, get_or, set, refl, ap, arith, eq-eqb}
use Rattle.std.proofs.lemmas.List.Sums.{sum_by-append}
use Rattle.spl_trunk.specs.Tree.{times}

pub times-append : (n : ℕ) (xs ys : List ℕ) → times n (xs ++ ys) ≡ times n xs + times n ys
times-append n xs ys = sum_by-append (λ (other : ℕ). cond (nat_eq other n) 1 0) xs ys

module _ {X : Type 0} (f : X → List ℕ) (n : ℕ) where
  pub times-joined : (x : X) (xs : List X) → times n (flat_map f (x ∷ xs)) ≡ times n (f x) + times n (flat_map f xs)
  times-joined x xs = times-append n (f x) (flat_map f xs)

  -- a list that is replaced changes the count by its own part
  pub times-replaced : (xs : List X) (i : ℕ) (x d : X) → i < length xs → times n (flat_map f (set xs i x)) + times n (f (get_or xs i d)) ≡ times n (flat_map f xs) + times n (f x)
  times-replaced [] i x d within = absurd (omega arith)
  times-replaced (y ∷ ys) zero x d within =
      let before = times-joined y ys in
      let after = times-joined x ys in
      omega arith
  times-replaced (y ∷ ys) (suc i) x d within =
      let before = times-joined y ys in
      let after = times-joined y (set ys i x) in
      let rest = times-replaced ys i x d (omega arith) in
      omega arith

  pub times_one : (xs : List X) (i : ℕ) (d : X) → i < length xs → times n (f (get_or xs i d)) ≤ times n (flat_map f xs)
  times_one [] i d within = absurd (omega arith)
  times_one (y ∷ ys) zero d within = let all = times-joined y ys in omega arith
  times_one (y ∷ ys) (suc i) d within =
      let all = times-joined y ys in
      let rest = times_one ys i d (omega arith) in
      omega arith

  pub times_two : (xs : List X) (i j : ℕ) (d : X) → i < j → j < length xs → times n (f (get_or xs i d)) + times n (f (get_or xs j d)) ≤ times n (flat_map f xs)
  times_two [] i j d order within = absurd (omega arith)
  times_two (y ∷ ys) i zero d order within = absurd (omega arith)
  times_two (y ∷ ys) zero (suc j) d order within =
      let all = times-joined y ys in
      let rest = times_one ys j d (omega arith) in
      omega arith
  times_two (y ∷ ys) (suc i) (suc j) d order within =
      let all = times-joined y ys in
      let rest = times_two ys i j d (omega arith) (omega arith) in
      omega arith

pub times_itself : (n : ℕ) → times n (n ∷ []) ≡ 1
times_itself n = ap (λ (b : Bool). 0 + cond b 1 0) (eq-eqb n n refl)
