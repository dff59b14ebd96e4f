-- What ending names of branches leaves of the branches and of the extents.
use Rattle.std.specs.Prelude.{◌≡◌, ℕ, ◌+◌, ◌<◌, ◌≤◌, List}
use Rattle.spl_extent.specs.declared.owner.Owner.{Owner}
use Rattle.spl_extent.specs.Pool.{granted_to}
use Rattle.spl_refs.specs.Refs.{Published, count_at, branch_at}
use Rattle.spl_trunk.specs.Tree.{times}

-- names were ended, and some were added: what is still named is the branch that it was, and every actor is granted
-- what it was
pub record LetsGo {B : Type 0} (old new : Published B) (before after : List Owner) (added : List ℕ) : Type 0 where
  pub fewer : (number : ℕ) → count_at new number ≤ count_at old number + times number added
  pub branches : (number : ℕ) → 0 < count_at new number → branch_at new number ≡ branch_at old number
  pub granted : (actor : ℕ) → granted_to after actor ≡ granted_to before actor
