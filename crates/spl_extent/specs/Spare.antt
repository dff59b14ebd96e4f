-- How a pool keeps the numbers of its free extents.
use Rattle.std.specs.Prelude.{◌≡◌, ◌≢◌, ℕ, ◌≤◌, List, length, slice_get, Some, All, AllPairs}
use Rattle.spl_extent.specs.declared.owner.Owner.{Owner}
use Rattle.spl_extent.specs.declared.owner.Owner.TheVariants.{Free}
use Rattle.spl_extent.specs.declared.pool.TheConstants.{EXTENTS}
use Rattle.spl_extent.specs.Pool.{free_count}

-- the numbers are those of the free extents, each once, and there is room for the numbers of all
pub record IsSpare (owners : List Owner) (spare : List ℕ) (room : ℕ) : Type 0 where
  pub free : All (λ extent. slice_get owners extent ≡ Some Free) spare
  pub apart : AllPairs (λ extent other. extent ≢ other) spare
  pub count : length spare ≡ free_count owners
  pub room_for_all : length owners ≤ room
  pub limit : length owners ≤ EXTENTS
