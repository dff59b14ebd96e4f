-- What is made of the messages that a key has in some tables, and why asking for them stops.
use Rattle.std.specs.Prelude.{◌≡◌, ℕ, Bool, true, false, List, Option, Some, None, option_to_list}
use Rattle.spl_message.specs.declared.message.Message.{Message}
use Rattle.spl_message.specs.declared.message.Message.TheVariants.{Insert, Delete, Update}
use Rattle.spl_message.specs.Cell.{Cell}
use Rattle.spl_message.specs.Message.{act_all}
use Rattle.spl_message.specs.Rule.{Rule}
use Rattle.spl_port.specs.Counts.{Counts, Rose}
use Rattle.spl_branch.specs.Branch.{Branch}
use Rattle.spl_branch.specs.Reading.{IsDamage}
use Rattle.spl_branch.specs.declared.fault.BranchFault.{BranchFault}
use Rattle.spl_branch.specs.declared.fault.BranchFault.TheVariants as branch_fault
use Rattle.spl_desk.specs.declared.fault.CallFault.{CallFault}
use Rattle.spl_desk.specs.declared.fault.CallFault.TheVariants.{Fault, Damaged, Full, Nodes, Spent, NoMemory}

-- the one message does what the messages do, one after another
abbrev pub Folds : Rule → List ℕ → List Message → Option Message → Type 0
Folds rule key messages found = (cell : Cell) → act_all rule key cell (option_to_list found) ≡ act_all rule key cell messages

-- behind an insert and a delete it does not matter what lies below
abbrev pub decides : Option Message → Bool
decides None = false
decides (Some (Insert value)) = true
decides (Some Delete) = true
decides (Some (Update operand)) = false

-- what the faults of a branch are to a call
abbrev pub of_branch : BranchFault → CallFault
of_branch branch_fault.Fault = Fault
of_branch (branch_fault.Damaged damage) = Damaged damage
of_branch branch_fault.NoMemory = NoMemory

-- the device failed in this call, or does not tell its pages and gave a damaged one of some branch, or memory ran out
abbrev pub HasReadCause : Bool → Counts → Counts → CallFault → Type 0
HasReadCause tells before after Fault = Rose before.faults after.faults
HasReadCause tells before after (Damaged damage) = (tells ≡ true → ⊥) × ((branch : Branch) × IsDamage branch before after damage)
HasReadCause tells before after Full = ⊥
HasReadCause tells before after Nodes = ⊥
HasReadCause tells before after (Spent turns) = ⊥
HasReadCause tells before after NoMemory = Unit {0}
