-- What contracts say of the published branches: the count and the branch that stand at a number.
use Rattle.std.specs.Prelude.{◌≡◌, ◌≢◌, ℕ, ◌+◌, ◌-◌, ◌<◌, ◌==◌, if◌then◌else◌, List, map, Option, None, Some, IfSome, unwrap_or}
use Rattle.std.specs.Ordering.{nat_cmp}
use Rattle.std.specs.BTreeMap.{is_at}
use Rattle.std.specs.Map.{lookup}
use Rattle.std.specs.Option.{option_map}
use Rattle.spl_refs.specs.declared.counted.Counted.{Counted}

-- by rising numbers, a count and a branch at each
abbrev pub Published : Type 0 → Type 0
Published B = List (ℕ × (ℕ × B))

module _ {B : Type 0} where
  abbrev pub plain : Counted B → ℕ × B
  plain counted = (counted.count, counted.branch.value)

  -- what the entries hold, whatever memory the branches lie in
  abbrev pub as_published : List (ℕ × Counted B) → Published B
  as_published entries = map (λ entry. (entry.0, plain entry.1)) entries

  -- the count and the branch at the number
  abbrev pub held_at : Published B → ℕ → Option (ℕ × B)
  held_at refs number = lookup (is_at (nat_cmp number)) refs

  -- how often the branch of the number is named, and 0 where there is none
  abbrev pub count_at : Published B → ℕ → ℕ
  count_at refs number = unwrap_or (option_map (λ held. held.0) (held_at refs number)) 0

  abbrev pub branch_at : Published B → ℕ → Option B
  branch_at refs number = option_map (λ held. held.1) (held_at refs number)

  abbrev pub one_more : Option (ℕ × B) → Option (ℕ × B)
  one_more None = None
  one_more (Some held) = Some (held.0 + 1, held.1)

  -- at a count of 1 nothing is left
  abbrev pub one_less : Option (ℕ × B) → Option (ℕ × B)
  one_less None = None
  one_less (Some held) = if held.0 == 1 then None else Some (held.0 - 1, held.1)

  -- the branch, where the count is 1
  abbrev pub last_of : Option (ℕ × B) → Option B
  last_of None = None
  last_of (Some held) = if held.0 == 1 then Some held.1 else None

  -- new has at the number what is given, and at every other number what old has
  pub record SetsAt (old new : Published B) (number : ℕ) (held : Option (ℕ × B)) : Type 0 where
    pub this_number : held_at new number ≡ held
    pub other_numbers : (other : ℕ) → other ≢ number → held_at new other ≡ held_at old other

  -- new counts so many at the number, and at every other number as many as old
  pub record CountsAt (old new : Published B) (number count : ℕ) : Type 0 where
    pub this_number : count_at new number ≡ count
    pub other_numbers : (other : ℕ) → other ≢ number → count_at new other ≡ count_at old other

  -- the branch stands at its own number, with a count above 0
  abbrev pub IsCounted : (B → ℕ) → ℕ → ℕ × B → Type 0
  IsCounted number_of number held = (0 < held.0) × (number_of held.1 ≡ number)

  abbrev pub AreCounted : (B → ℕ) → Published B → Type 0
  AreCounted number_of refs = (number : ℕ) → IfSome (held_at refs number) (IsCounted number_of number)
