-- Branches that are counted once more, and lists of names that end.
use Rattle.std.proofs.Common.{◌≡◌, ℕ, nat_eq, ◌+◌, ◌<◌, ◌≤◌, List, ◌++◌, Option, Some, None, length, get_or, take, refl, sym, subst, ◌∙◌, inl, inr, arith, append_assoc}
use Rattle.std.specs.Prelude.{IsSome, ◌↔◌}
use Rattle.std.specs.Option.{option_map}
use Rattle.std.proofs.lemmas.Bool.{cases_lt}
use Rattle.std.proofs.lemmas.List.{get_or_default}
use Rattle.std.proofs.lemmas.List.Sums.{count_by-le-length}
use Rattle.spl_extent.specs.declared.owner.Owner.{Owner}
use Rattle.spl_extent.specs.Pool.{granted_to}
use Rattle.spl_refs.specs.Refs.{Published, held_at, branch_at, count_at}
use Rattle.spl_trunk.specs.Tree.{times}
use Rattle.spl_trunk.proofs.Counts.{times-append}
use Rattle.spl_state.specs.Names.{AreAccounted}
use Rattle.spl_state.proofs.LettingGo.{LettingGo}
use Rattle.spl_state.proofs.Named.{stands_in}

-- a number stands in a list at most as often as the list is long
pub times_few : (n : ℕ) (numbers : List ℕ) → times n numbers ≤ length numbers
times_few n numbers = count_by-le-length (λ (other : ℕ). nat_eq other n) numbers

-- where the same branch is seen, one stands
stands_alike : {B : Type 0} (held other : Option (ℕ × B))
    → option_map (λ (h : ℕ × B). h.1) held ≡ option_map (λ (h : ℕ × B). h.1) other → IsSome other
    → IsSome held
stands_alike None None same some = some
stands_alike (Some h) None same some = refl
stands_alike None (Some k) same some = cc
stands_alike (Some h) (Some k) same some = refl

-- The branches before one in a list were counted once more.
module _ {B : Type 0} (old now : Published B) (numbers : List ℕ) (i : ℕ) (within : i < length numbers)
    (counts : (n : ℕ) → count_at now n ≡ count_at old n + times n (take i numbers))
    (branches : (n : ℕ) → branch_at now n ≡ branch_at old n) where
  abbrev this : ℕ
  this = get_or numbers i 0

  -- this one still stands
  pub this_stands : ((n : ℕ) → 0 < times n numbers → IsSome (held_at old n)) → IsSome (held_at now this)
  this_stands there = stands_alike (held_at now this) (held_at old this) (branches this)
      (there this (stands_in this numbers i within (get_or_default numbers i this 0 within)))

-- a list of names ends that stands before others
pub lets_list_go : {B : Type 0} (extents_of : B → List ℕ) (all : List ℕ) (old now new : Published B)
    (owners after last : List Owner) (list numbers : List ℕ)
    → LettingGo extents_of all old now owners after (list ++ numbers)
    → ((rest : List ℕ) → AreAccounted extents_of (list ++ rest) now after
    → AreAccounted extents_of rest new last)
    → ((actor : ℕ) → granted_to last actor ≡ granted_to after actor)
    → ((other : ℕ) → 0 < count_at new other → branch_at new other ≡ branch_at now other)
    → ((other : ℕ) → count_at new other ≤ count_at now other)
    → LettingGo extents_of all old new owners last numbers
lets_list_go extents_of all old now new owners after last list numbers so_far gone same kept fewer = record {
  accounted = λ rest first.
      let joined = append_assoc list numbers rest in
      let here = so_far.accounted rest first in
      gone (numbers ++ rest) (subst (λ (m : List ℕ). AreAccounted extents_of m now after) joined here);
  granted = λ actor. same actor ∙ so_far.granted actor;
  branches = λ other above. kept other above ∙ so_far.branches other (omega (arith, fewer other));
  fewer = λ other. omega (arith, fewer other, so_far.fewer other);
}

-- What is counted once more is accounted for with these names in front.
module _ {B : Type 0} (extents_of : B → List ℕ) (mentions list : List ℕ) (old now : Published B)
    (owners : List Owner) (counts : (n : ℕ) → count_at now n ≡ count_at old n + times n list)
    (branches : (n : ℕ) → branch_at now n ≡ branch_at old n)
    (there : (n : ℕ) → 0 < times n list → 0 < times n mentions) where
  pub accounted_more : AreAccounted extents_of mentions old owners
      → AreAccounted extents_of (list ++ mentions) now owners
  accounted_more was = record {
    counts = λ n.
        let parts = times-append n list mentions in
        let is = counts n in
        let before = was.counts n in
        omega arith;
    stands = λ n. subst (λ (o : Option B). IsSome o ↔ (0 < count_at now n)) (sym (branches n)) (
      (λ some. let above = (was.stands n).0 some in let is = counts n in omega arith),
      λ above. (was.stands n).1 (elim (cases_lt 0 (times n list)) [
        | inl named ↦ let some = there n named in let before = was.counts n in omega arith
        | inr none ↦ let is = counts n in omega arith
      ]),
    );
    held = λ n. rw (branches n) (was.held n);
    not_held = λ n extent none. was.not_held n extent (sym (branches n) ∙ none);
  }
