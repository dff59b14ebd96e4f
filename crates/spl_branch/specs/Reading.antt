-- What looking a key up in a branch reads, and why it may have no answer.
use Rattle.std.specs.Prelude.{◌≡◌, ℕ, ◌/◌, ◌%◌, ◌==◌, ◌≤◌, ◌<◌, if◌then◌else◌, Bool, List, Some}
use Rattle.std.specs.List.{list_any, slice_get}
use Rattle.std.specs.Option.{IsSomeAnd}
use Rattle.spl_port.specs.declared.at.At.{At}
use Rattle.spl_port.specs.declared.damaged.Damaged.{Damaged as Damage}
use Rattle.spl_port.specs.Counts.{Counts, Rose}
use Rattle.spl_port.specs.Page.{page_fault}
use Rattle.spl_port.specs.Seal.{Sealed, page_count, place}
use Rattle.spl_quotient.specs.Filter.{Filter}
use Rattle.spl_quotient.specs.Fnv.{fingerprint_of}
use Rattle.spl_branch.specs.declared.fault.BranchFault.{BranchFault}
use Rattle.spl_branch.specs.declared.fault.BranchFault.TheVariants.{Fault, Damaged, NoMemory}
use Rattle.spl_branch.specs.Branch.{Branch}
use Rattle.spl_branch.specs.Pages.{AreTold}

-- whether the filter admits the key
abbrev pub admits : Filter → List ℕ → Bool
admits filter key = list_any (λ print. print == fingerprint_of filter.q key) filter.prints

-- at most how many pages are read for the key where pages are told
abbrev pub reach_of : Branch → List ℕ → ℕ
reach_of branch key = if admits branch.filter key then branch.levels else 0

-- the place is that of a page of these parts
abbrev pub IsPlaceOf : List Sealed → At → Type 0
IsPlaceOf parts at = IsSomeAnd (slice_get parts (at.page / 32)) (λ part. (at.page % 32 < page_count part) × (at ≡ place part (at.page % 32)))

-- pages were read, and none written
pub record OnlyReads (before after : Counts) : Type 0 where
  pub faults : before.faults ≤ after.faults
  pub reads : before.reads ≤ after.reads
  pub writes : after.writes ≡ before.writes

-- nothing was read
pub record ReadsNone (before after : Counts) : Type 0 where
  pub faults : after.faults ≡ before.faults
  pub reads : after.reads ≡ before.reads
  pub writes : after.writes ≡ before.writes
  pub last : after.last ≡ before.last

-- the branch does not tell its pages, and the latest page that was read is one of it, and outside the page grammar for its place
pub record IsDamage (branch : Branch) (before after : Counts) (damage : Damage) : Type 0 where
  pub untold : ¬ (AreTold branch.parts)
  pub place : IsPlaceOf branch.parts damage.at
  pub page : IsSomeAnd after.last (λ shown. (shown.at ≡ damage.at) × (page_fault shown.at shown.bytes ≡ Some damage.why))
  pub read : before.reads < after.reads

-- the port failed in this call, or gave a damaged page, or memory ran out
abbrev pub HasBranchCause : Branch → Counts → Counts → BranchFault → Type 0
HasBranchCause branch before after Fault = Rose before.faults after.faults
HasBranchCause branch before after (Damaged damage) = IsDamage branch before after damage
HasBranchCause branch before after NoMemory = Unit {0}
