-- How a pool keeps the numbers of its free extents, and those of each actor's.
use Rattle.std.specs.Prelude.{◌≡◌, ℕ, ◌<◌, List, [], Bool, length, slice_index_or}
use Rattle.spl_extent.specs.declared.owner.Owner.{Owner}
use Rattle.spl_base.specs.declared.TheConstants.{ACTORS}
use Rattle.spl_extent.specs.Pool.{granted_to}
use Rattle.spl_extent.specs.Spare.{IsSpare}

pub record IsKept (owners : List Owner) (spare : List ℕ) (room : ℕ) (granted : List (List Bool)) : Type 0 where
  pub free : IsSpare owners spare room
  pub actors : length granted ≡ ACTORS
  pub each : (actor : ℕ) → actor < ACTORS → slice_index_or granted actor [] ≡ granted_to owners actor
