-- How a latch keeps the grips on its node: a bit for each reader, and who may write.
use Rattle.std.specs.Prelude.{◌≡◌, ℕ, ◌<◌, Option, Some, None, List, map, if◌then◌else◌, ◌==◌}
use Rattle.std.specs.Int.{bit_at}
use Rattle.std.specs.List.{range_with_len}
use Rattle.spl_holds.specs.declared.grip.Grip.{Grip}
use Rattle.spl_holds.specs.declared.grip.Grip.TheVariants.{Free, Read, Claim, Write}
use Rattle.spl_holds.specs.declared.latch.Owner.{Owner}
use Rattle.spl_holds.specs.declared.latch.Owner.TheVariants.{Nobody, Claimant, Writer}
use Rattle.spl_base.specs.declared.TheConstants.{ACTORS}

-- who may write
abbrev pub owner_of : Owner → Option ℕ
owner_of Nobody = None
owner_of (Claimant owner) = Some owner
owner_of (Writer owner) = Some owner

-- what an actor that may not write has
abbrev pub reader_grip : ℕ → ℕ → Grip
reader_grip readers actor = if bit_at readers actor == 1 then Read else Free

-- what an actor has
abbrev pub grip_under : ℕ → Owner → ℕ → Grip
grip_under readers Nobody actor = reader_grip readers actor
grip_under readers (Claimant owner) actor = if actor == owner then Claim else reader_grip readers actor
grip_under readers (Writer owner) actor = if actor == owner then Write else reader_grip readers actor

-- what each actor has
unfoldable pub grips_in : ℕ → Owner → List Grip
grips_in readers owner = map (grip_under readers owner) (range_with_len 0 ACTORS)

-- a claimant does not read, and beside a writer nobody does
abbrev pub IsSound : ℕ → Owner → Type 0
IsSound readers Nobody = Unit {0}
IsSound readers (Claimant owner) = (owner < ACTORS) × (bit_at readers owner ≡ 0)
IsSound readers (Writer owner) = (owner < ACTORS) × (readers ≡ 0)
