-- Branches that are named once more, one after another.
use Rattle.std.proofs.Common.{◌≡◌, ℕ, ◌+◌, ◌<◌, ◌≤◌, ◌^◌, List, [], ◌∷◌, Option, Some, None, length, length-take-le, take, get_or, refl, sym, ap, subst, ◌∙◌, inl, inr, arith}
use Rattle.std.specs.Prelude.{All, IsSome}
use Rattle.std.specs.Option.{option_map}
use Rattle.std.proofs.lemmas.Bool.{cases_eq}
use Rattle.std.proofs.lemmas.Bool.Decides.{nat_tests}
use Rattle.std.proofs.lemmas.List.{take_more}
use Rattle.std.proofs.lemmas.List.Elements.{All-get_or}
use Rattle.spl_refs.specs.Refs.{Published, held_at, count_at, branch_at, CountsAt}
use Rattle.spl_trunk.specs.Tree.{times}
use Rattle.spl_trunk.proofs.Counts.{times-append, times_itself}

some_held : {B : Type 0} (held : Option (ℕ × B)) → IsSome (option_map (λ (h : ℕ × B). h.1) held) → IsSome held
some_held None some = some
some_held (Some h) some = refl

-- a list has no number more often than it has numbers
pub times_most : (n : ℕ) (numbers : List ℕ) → times n numbers ≤ length numbers
times_most n [] = omega arith
times_most n (number ∷ numbers) =
    let rest = times_most n numbers in
    let all = times-append n (number ∷ []) numbers in
    let first : times n (number ∷ []) ≤ 1 = one in
    omega arith
  where
    one : times n (number ∷ []) ≤ 1
    one = elim (cases_eq n number) [
      | inl same ↦ let is = times_itself n in let there = ap (λ (m : ℕ). times n (m ∷ [])) same in omega arith
      | inr apart ↦ let none : times n (number ∷ []) ≡ 0 = grind (arith, nat_tests) in omega arith
    ]

-- so many names of each branch were added, and every branch stays what it was
pub record HeldSo {B : Type 0} (old now : Published B) (numbers : List ℕ) : Type 0 where
  pub counts : (n : ℕ) → count_at now n ≡ count_at old n + times n numbers
  pub branches : (n : ℕ) → branch_at now n ≡ branch_at old n

module _ {B : Type 0} where
  pub none_held : (refs : Published B) → HeldSo refs refs []
  none_held refs = record { counts = λ n. omega arith; branches = λ n. refl }

  module _ (old now : Published B) (numbers : List ℕ) (i : ℕ) (within : i < length numbers) (so_far : HeldSo old now (take i numbers)) where
    pub stands_next : All (λ n. IsSome (branch_at old n)) numbers → IsSome (held_at now (get_or numbers i 0))
    stands_next all =
        let number = get_or numbers i 0 in
        some_held (held_at now number) (subst (λ (o : Option B). IsSome o) (sym (so_far.branches number)) (All-get_or (λ n. IsSome (branch_at old n)) numbers i 0 within all))

    pub room_next : ((n : ℕ) → count_at old n + length numbers < 2 ^ 63) → count_at now (get_or numbers i 0) < 2 ^ 63
    room_next room =
        let number = get_or numbers i 0 in
        let is = so_far.counts number in
        let most = times_most number (take i numbers) in
        let short = length-take-le i numbers (omega arith) in
        let below = room number in
        omega arith

    pub held_more : (new : Published B) → CountsAt now new (get_or numbers i 0) (count_at now (get_or numbers i 0) + 1) → ((n : ℕ) → branch_at new n ≡ branch_at now n) → HeldSo old new (take (i + 1) numbers)
    held_more new counts same =
        let number = get_or numbers i 0 in
        record {
          counts = λ n. elim (cases_eq n number) [
            | inl here ↦
                let all = ap (times number) (take_more numbers i 0 within) in
                let parts = times-append number (take i numbers) (number ∷ []) in
                let one = times_itself number in
                let is = so_far.counts number in
                let this = counts.this_number in
                let at : count_at new number ≡ count_at old number + times number (take (i + 1) numbers) = omega arith in
                subst (λ (m : ℕ). count_at new m ≡ count_at old m + times m (take (i + 1) numbers)) (sym here) at
            | inr apart ↦
                let all = ap (times n) (take_more numbers i 0 within) in
                let parts = times-append n (take i numbers) (number ∷ []) in
                let none : times n (number ∷ []) ≡ 0 = grind (arith, nat_tests) in
                let is = so_far.counts n in
                let other = counts.other_numbers n apart in
                omega arith
          ];
          branches = λ n. same n ∙ so_far.branches n;
        }
