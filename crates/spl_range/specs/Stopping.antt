-- Why a piece is stopped.
use Rattle.std.specs.Prelude.{◌≡◌, Bool, true}
use Rattle.spl_port.specs.Counts.{Counts, Rose}
use Rattle.spl_branch.specs.Branch.{Branch}
use Rattle.spl_branch.specs.Reading.{IsDamage}
use Rattle.spl_branch.specs.declared.fault.BranchFault.{BranchFault}
use Rattle.spl_branch.specs.declared.fault.BranchFault.TheVariants as branch_fault
use Rattle.spl_desk.specs.declared.fault.CallFault.{CallFault}
use Rattle.spl_desk.specs.declared.fault.CallFault.TheVariants.{Fault, Damaged, Full, Nodes, Spent, NoMemory}
use Rattle.spl_desk.specs.Calls.{IsSpentAt}
use Rattle.spl_desk.specs.Holder.{Holder}

-- what the faults of a branch are to a call
abbrev pub of_branch : BranchFault → CallFault
of_branch branch_fault.Fault = Fault
of_branch (branch_fault.Damaged damage) = Damaged damage
of_branch branch_fault.NoMemory = NoMemory

-- the device failed in this call, or does not tell its pages and gave a damaged one of some branch, or memory ran out
abbrev pub HasReadCause : Bool → Counts → Counts → CallFault → Type 0
HasReadCause tells before after Fault = Rose before.faults after.faults
HasReadCause tells before after (Damaged damage) = (tells ≡ true → ⊥) × ((branch : Branch) × IsDamage branch before after damage)
HasReadCause tells before after Full = ⊥
HasReadCause tells before after Nodes = ⊥
HasReadCause tells before after (Spent turns) = ⊥
HasReadCause tells before after NoMemory = Unit {0}

-- and beside these, the holder has made as many steps as it may
abbrev pub HasPieceCause : Bool → Counts → Counts → Holder → CallFault → Type 0
HasPieceCause tells before after new Fault = Rose before.faults after.faults
HasPieceCause tells before after new (Damaged damage) = (tells ≡ true → ⊥) × ((branch : Branch) × IsDamage branch before after damage)
HasPieceCause tells before after new Full = ⊥
HasPieceCause tells before after new Nodes = ⊥
HasPieceCause tells before after new (Spent turns) = IsSpentAt turns new
HasPieceCause tells before after new NoMemory = Unit {0}
