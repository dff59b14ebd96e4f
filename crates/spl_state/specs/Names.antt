-- What ending a name leaves.
use Rattle.std.specs.Prelude.{◌≡◌, ◌≢◌, ℕ, ◌<◌, ◌↔◌, false, List, length, Option, Some, None, IsSome, IfSome}
use Rattle.spl_numbers.specs.Numbers.{has, ListsEach}
use Rattle.spl_extent.specs.declared.owner.Owner.{Owner}
use Rattle.spl_extent.specs.Pool.{granted_to}
use Rattle.spl_refs.specs.Refs.{Published, count_at, branch_at}
use Rattle.spl_trunk.specs.Tree.{times}
use Rattle.spl_state.specs.Extents.{held_by}

-- the branch holds nothing any more, and every other extent has the owner that it had
pub record IsFreed (old new : List Owner) (branch : ℕ) : Type 0 where
  pub count : length new ≡ length old
  pub freed : (extent : ℕ) → has (held_by new branch) extent ≡ false
  pub others : (other extent : ℕ) → other ≢ branch → has (held_by new other) extent ≡ has (held_by old other) extent
  pub granted : (actor : ℕ) → granted_to new actor ≡ granted_to old actor

-- a branch's count is how often it is named, it stands where that is above 0, and it holds exactly its extents
pub record AreAccounted {B : Type 0} (extents_of : B → List ℕ) (mentions : List ℕ) (refs : Published B) (owners : List Owner) : Type 0 where
  pub counts : (number : ℕ) → count_at refs number ≡ times number mentions
  pub stands : (number : ℕ) → IsSome (branch_at refs number) ↔ (0 < count_at refs number)
  pub held : (number : ℕ) → IfSome (branch_at refs number) (λ branch. ListsEach (extents_of branch) (held_by owners number))
  pub not_held : (number extent : ℕ) → branch_at refs number ≡ None → has (held_by owners number) extent ≡ false
