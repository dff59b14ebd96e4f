-- What callers see at a number, by the look-up in the map, and what a change at one number keeps.
use Rattle.std.proofs.Common.{◌≡◌, ℕ, List, [], ◌∷◌, Bool, true, false, cond, Option, Some, IfSome, refl, sym, subst, rules}
use Rattle.std.specs.Ordering.{nat_cmp}
use Rattle.std.specs.BTreeMap.{is_at}
use Rattle.std.specs.Map.{lookup}
use Rattle.std.specs.Option.{option_map}
use Rattle.spl_refs.specs.declared.counted.Counted.{Counted}
use Rattle.spl_refs.specs.Refs.{plain, as_published, held_at, IsCounted, AreCounted}

same_number : (number other : ℕ) → is_at (nat_cmp number) other ≡ true → number ≡ other
same_number number other here = search rules

module _ {B : Type 0} where
  pub held_in : (entries : List (ℕ × Counted B)) (number : ℕ) → held_at (as_published entries) number ≡ option_map plain (lookup (is_at (nat_cmp number)) entries)
  held_in [] number = refl
  held_in (e ∷ entries) number = by (is_at (nat_cmp number) e.0) (held_in entries number)
    where
      by : (here : Bool) → held_at (as_published entries) number ≡ option_map plain (lookup (is_at (nat_cmp number)) entries) → cond here (Some (plain e.1)) (held_at (as_published entries) number) ≡ option_map plain (cond here (Some e.1) (lookup (is_at (nat_cmp number)) entries))
      by true below = refl
      by false below = below

  module _ (number_of : B → ℕ) where
    pub counted_in : (entries : List (ℕ × Counted B)) (number : ℕ) → AreCounted number_of (as_published entries) → IfSome (option_map plain (lookup (is_at (nat_cmp number)) entries)) (IsCounted number_of number)
    counted_in entries number all = subst (λ held. IfSome held (IsCounted number_of number)) (held_in entries number) (all number)

    -- after a change at one number, where what stands there then is counted
    pub counted_after : (old new : List (ℕ × Counted B)) (number : ℕ) (there : Option (Counted B)) → AreCounted number_of (as_published old)
        → ((other : ℕ) → lookup (is_at (nat_cmp other)) new ≡ cond (is_at (nat_cmp number) other) there (lookup (is_at (nat_cmp other)) old))
        → IfSome (option_map plain there) (IsCounted number_of number) → AreCounted number_of (as_published new)
    counted_after old new number there all updates counted other =
        subst (λ held. IfSome held (IsCounted number_of other)) (sym (held_in new other)) (subst (λ found. IfSome (option_map plain found) (IsCounted number_of other)) (sym (updates other)) (by (is_at (nat_cmp number) other) refl))
      where
        by : (here : Bool) → is_at (nat_cmp number) other ≡ here → IfSome (option_map plain (cond here there (lookup (is_at (nat_cmp other)) old))) (IsCounted number_of other)
        by true here = subst (λ place. IfSome (option_map plain there) (IsCounted number_of place)) (same_number number other here) counted
        by false here = counted_in old other all
