-- What is known of a branch while a job builds it.
use Rattle.std.specs.Prelude.{◌≡◌, ◌⊎◌, ℕ, ◌+◌, ◌*◌, ◌≤◌, Bool, List, [], ◌∷◌, ◌++◌, length, Option, Some, None, IsSome}
use Rattle.spl_message.specs.declared.message.Message.{Message}
use Rattle.spl_message.specs.History.{History}
use Rattle.spl_port.specs.Counts.{Counts, Rose}
use Rattle.spl_branch.specs.Branch.{Branch}
use Rattle.spl_branch.specs.Pages.{page_total}
use Rattle.spl_build.specs.declared.fault.BuildFault.{BuildFault}
use Rattle.spl_build.specs.declared.fault.BuildFault.TheVariants as build_fault
use Rattle.spl_build.specs.Builder.{Adds, Building, Builds, HasNoRoom}
use Rattle.spl_state.specs.declared.reply.Reply.TheVariants as reply
use Rattle.spl_desk.specs.Calls.{IsSpentAt}
use Rattle.spl_desk.specs.Causes.{WasAnswered}
use Rattle.spl_desk.specs.declared.fault.CallFault.{CallFault}
use Rattle.spl_desk.specs.declared.fault.CallFault.TheVariants.{Fault, Full, Spent, NoMemory}
use Rattle.spl_desk.specs.Holder.{BranchKind, Holder}
use Rattle.spl_job.specs.Holding.{Holding, IsHolding, after_grant}

-- the builder has one more extent, which the actor was granted
pub record Extends (old new : Holder) (before after : Building) : Type 0 where
  pub extent : ℕ
  pub builder : after ≡ record before { extents = before.extents ++ extent ∷ [] }
  pub holds : (holding : Holding) → IsHolding old holding → IsHolding new (after_grant holding (Some extent))

-- no extent was free, or the holder has made as many steps as it may, or memory ran out
abbrev pub HasGrantCause : {B : Type 0} → BranchKind B → Holder → (History → Type 0) → Holder → (History → Type 0) → CallFault → Type 0
HasGrantCause kind old Saw new Sees Full = (history : History) → Saw history → WasAnswered kind old history new Sees (λ answer. answer ≡ reply.NoExtent)
HasGrantCause kind old Saw new Sees (Spent turns) = IsSpentAt turns new
HasGrantCause kind old Saw new Sees NoMemory = Unit {0}
HasGrantCause kind old Saw new Sees _ = ⊥

-- what the faults of a builder are to a call
abbrev pub of_build : BuildFault → CallFault
of_build build_fault.Fault = Fault
of_build build_fault.NoMemory = NoMemory

-- the device failed in this call, or memory ran out
abbrev pub HasPageCause : Counts → Counts → CallFault → Type 0
HasPageCause before after Fault = Rose before.faults after.faults
HasPageCause before after NoMemory = Unit {0}
HasPageCause before after _ = ⊥

-- the builder with one extent more, or with none more
abbrev pub with_granted : Building → Option ℕ → Building
with_granted builder None = builder
with_granted builder (Some extent) = record builder { extents = builder.extents ++ extent ∷ [] }

-- the key was added with its message, in the extents that were there, or, where the next page had none left, with one more that the actor was
-- granted
pub record AddsAt (tells : Bool) (old new : Holder) (before after : Building) (key : List ℕ) (message : Message) : Type 0 where
  pub granted : Option ℕ
  pub needed : IsSome granted → HasNoRoom before key message
  pub adds : Adds tells (with_granted before granted) after key message
  pub holds : (holding : Holding) → IsHolding old holding → IsHolding new (after_grant holding granted)

-- the builder with these extents behind its own
abbrev pub with_extents : Building → List ℕ → Building
with_extents builder granted = record builder { extents = builder.extents ++ granted }

-- the actor was granted these extents, in this order
abbrev pub after_grants : Holding → List ℕ → Holding
after_grants holding granted = record holding { extents = holding.extents ++ granted }

-- the branch is that of what was added, in the extents that were there and those that the actor was granted. Where one was granted, the
-- pages fill the extents before the last one.
pub record BuildsAt (tells : Bool) (old new : Holder) (builder : Building) (branch : Branch) : Type 0 where
  pub granted : List ℕ
  pub needed : (granted ≡ []) ⊎ (32 * length branch.extents ≤ page_total branch.parts + 32)
  pub builds : Builds tells (with_extents builder granted) branch
  pub holds : (holding : Holding) → IsHolding old holding → IsHolding new (after_grants holding granted)
