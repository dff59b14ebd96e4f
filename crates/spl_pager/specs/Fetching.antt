-- What a pager gives, and why it gives nothing.
use Rattle.std.specs.Prelude.{◌≡◌, ℕ, ◌+◌, ◌%◌, ◌<◌, Some}
use Rattle.std.specs.Option.{IsSomeAnd}
use Rattle.spl_port.specs.declared.at.At.{At}
use Rattle.spl_port.specs.declared.damaged.Damaged.{Damaged as Damage}
use Rattle.spl_port.specs.Counts.{Counts, Rose, Shown}
use Rattle.spl_port.specs.Page.{page_fault}
use Rattle.spl_port.specs.Seal.{Allows, Sealed}
use Rattle.spl_pager.specs.declared.fault.FetchFault.{FetchFault}
use Rattle.spl_pager.specs.declared.fault.FetchFault.TheVariants.{Failed, Damaged, NoMemory}

-- the page is one for the place, and the bytes are allowed by the seal there; the port did not fail, and a page that was read is this one
pub record IsFetched (sealed : Sealed) (at : At) (before after : Counts) (shown : Shown) : Type 0 where
  pub place : shown.at ≡ at
  pub allowed : Allows sealed (at.page % 32) shown.bytes
  pub faults : after.faults ≡ before.faults
  pub latest : before.reads < after.reads → after.last ≡ Some shown

-- the page was read in this call
pub record IsLatest (before after : Counts) (shown : Shown) : Type 0 where
  pub reads : after.reads ≡ before.reads + 1
  pub last : after.last ≡ Some shown

-- the page that was read in this call is outside the page grammar for the place, for this reason
pub record IsPageDamage (sealed : Sealed) (at : At) (before after : Counts) (damage : Damage) : Type 0 where
  pub place : damage.at ≡ at
  pub read : before.reads < after.reads
  pub latest : IsSomeAnd after.last (λ shown. (shown.at ≡ at) × (page_fault at shown.bytes ≡ Some damage.why) × Allows sealed (at.page % 32) shown.bytes)

-- the port failed in this call, or gave a damaged page, or memory ran out
abbrev pub HasFetchCause : Sealed → At → Counts → Counts → FetchFault → Type 0
HasFetchCause sealed at before after Failed = Rose before.faults after.faults
HasFetchCause sealed at before after (Damaged damage) = IsPageDamage sealed at before after damage
HasFetchCause sealed at before after NoMemory = Unit {0}
