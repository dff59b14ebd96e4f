-- What it takes to name branches once more, and what that makes of their counts.
use Rattle.std.specs.Prelude.{◌≡◌, ℕ, ◌+◌, ◌<◌, ◌≤◌, ◌^◌, List, IsSome}
use Rattle.spl_refs.specs.Refs.{Published, count_at, branch_at}
use Rattle.spl_trunk.specs.Tree.{times}

module _ {B : Type 0} where
  -- each branch of the list stands
  abbrev pub AreNamed : Published B → List ℕ → Type 0
  AreNamed refs list = (number : ℕ) → 0 < times number list → IsSome (branch_at refs number)

  -- the count of each branch of the list has room for the names that the list gives
  abbrev pub HaveRoom : Published B → List ℕ → Type 0
  HaveRoom refs list = (number : ℕ) → 0 < times number list → count_at refs number + times number list ≤ 2 ^
      63

  -- each branch is named more often by the times that the list has it
  pub record NamedMore (old new : Published B) (list : List ℕ) : Type 0 where
    pub counts : (number : ℕ) → count_at new number ≡ count_at old number + times number list
    pub branches : (number : ℕ) → branch_at new number ≡ branch_at old number
