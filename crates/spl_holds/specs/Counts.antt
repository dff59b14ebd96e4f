-- How many reads, claims and writes an actor has.
use Rattle.std.specs.Prelude.{◌≡◌, ℕ, ◌+◌, ◌≤◌, List, count_by}
use Rattle.spl_numbers.specs.Numbers.{one_if}
use Rattle.spl_holds.specs.declared.grip.Grip.{Grip}
use Rattle.spl_holds.specs.declared.counts.Counts.{Counts}
use Rattle.spl_holds.specs.declared.holds.TheConstants.{NODES}
use Rattle.spl_holds.specs.Grip.{is_read, is_claim, is_write}
use Rattle.spl_holds.specs.Latch.{grip_in}

abbrev pub no_grip : Counts
no_grip = record { reads = 0; claims = 0; writes = 0 }

abbrev pub reads_of : List (List Grip) → ℕ → ℕ
reads_of holds actor = count_by (λ grips. is_read (grip_in grips actor)) holds

abbrev pub claims_of : List (List Grip) → ℕ → ℕ
claims_of holds actor = count_by (λ grips. is_claim (grip_in grips actor)) holds

abbrev pub writes_of : List (List Grip) → ℕ → ℕ
writes_of holds actor = count_by (λ grips. is_write (grip_in grips actor)) holds

-- how many of each the actor has
abbrev pub counts_of : List (List Grip) → ℕ → Counts
counts_of holds actor = record { reads = reads_of holds actor; claims = claims_of holds actor; writes = writes_of holds actor }

-- more has one more of this grip, and as many of the others
pub record IsAdded (fewer more : Counts) (grip : Grip) : Type 0 where
  pub reads : more.reads ≡ fewer.reads + one_if (is_read grip)
  pub claims : more.claims ≡ fewer.claims + one_if (is_claim grip)
  pub writes : more.writes ≡ fewer.writes + one_if (is_write grip)

-- no more of each than there can be nodes
pub record IsFew (counts : Counts) : Type 0 where
  pub reads : counts.reads ≤ NODES
  pub claims : counts.claims ≤ NODES
  pub writes : counts.writes ≤ NODES
