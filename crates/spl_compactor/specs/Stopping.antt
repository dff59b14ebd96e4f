-- Why reading the branches of a run is stopped.
use Rattle.std.specs.Prelude.{◌≡◌, ℕ, Bool, true, List, Some}
use Rattle.std.specs.List.{slice_get}
use Rattle.spl_port.specs.Counts.{Counts, Rose}
use Rattle.spl_branch.specs.declared.fault.BranchFault.{BranchFault}
use Rattle.spl_branch.specs.declared.fault.BranchFault.TheVariants as branch_fault
use Rattle.spl_branch.specs.Branch.{Branch}
use Rattle.spl_branch.specs.Pages.{AreTold}
use Rattle.spl_desk.specs.declared.fault.CallFault.{CallFault}
use Rattle.spl_desk.specs.declared.fault.CallFault.TheVariants.{Fault, Damaged, NoMemory}
use Rattle.spl_desk.specs.Causes.{IsDamageRead}

-- the pages of each branch are told
abbrev pub AllTold : List Branch → Type 0
AllTold branches = (i : ℕ) (branch : Branch) → slice_get branches i ≡ Some branch → AreTold branch.parts

-- what the faults of a branch are to a call
abbrev pub of_branch : BranchFault → CallFault
of_branch branch_fault.Fault = Fault
of_branch (branch_fault.Damaged damage) = Damaged damage
of_branch branch_fault.NoMemory = NoMemory

-- the device failed in this call, or, where it does not tell its pages, gave a damaged one, or memory ran out
abbrev pub HasReadCause : Bool → Counts → Counts → CallFault → Type 0
HasReadCause tells before after Fault = Rose before.faults after.faults
HasReadCause tells before after (Damaged damage) = (tells ≡ true → ⊥) × IsDamageRead before after damage
HasReadCause tells before after NoMemory = Unit {0}
HasReadCause tells before after _ = ⊥
