-- What contracts say of the grips on one node, a list by the actors' numbers.
use Rattle.std.specs.Prelude.{◌≡◌, ◌≢◌, ℕ, List, length, slice_index_or, true, Option, Some, None, Result, Ok, Err, position, replicate}
use Rattle.spl_holds.specs.declared.grip.Grip.{Grip}
use Rattle.spl_holds.specs.declared.grip.Grip.TheVariants.{Free, Write}
use Rattle.spl_holds.specs.declared.held.Held.{Held}
use Rattle.spl_base.specs.declared.TheConstants.{ACTORS}
use Rattle.spl_holds.specs.Grip.{is_read, is_write, may_write}

-- what an actor has
abbrev pub grip_in : List Grip → ℕ → Grip
grip_in grips actor = slice_index_or grips actor Free

-- the rules of a latch: any number of actors may read, at most one has a claim or a write, and a write
-- excludes every other grip
pub record IsLatched (grips : List Grip) : Type 0 where
  pub actors : length grips ≡ ACTORS
  pub one_claim : (actor other : ℕ) → may_write (grip_in grips actor) ≡ true → may_write (grip_in grips other) ≡ true → actor ≡ other
  pub write_alone : (actor other : ℕ) → actor ≢ other → grip_in grips actor ≡ Write → grip_in grips other ≡ Free

-- no actor has anything
unfoldable pub nobody : List Grip
nobody = replicate ACTORS Free

-- the actor that writes, if one does
abbrev pub writer_of : List Grip → Option ℕ
writer_of grips = position is_write grips

-- the actor that has a claim or a write, if one does
abbrev pub claimant_of : List Grip → Option ℕ
claimant_of grips = position may_write grips

-- the lowest-numbered actor that reads, if one does
abbrev pub first_reader_of : List Grip → Option ℕ
first_reader_of grips = position is_read grips

-- the answer where this actor's grip forbids what was asked, or nobody's does
abbrev pub refused_by : Option ℕ → Result (Unit {0}) Held
refused_by None = Ok tt
refused_by (Some actor) = Err (record { by = actor })
