-- Why a job by which the trunk grows is stopped.
use Rattle.std.specs.Prelude.{◌≡◌, ℕ}
use Rattle.spl_message.specs.History.{History}
use Rattle.spl_state.specs.declared.reply.Reply.TheVariants as reply
use Rattle.spl_desk.specs.declared.fault.CallFault.{CallFault}
use Rattle.spl_desk.specs.declared.fault.CallFault.TheVariants.{Nodes, Spent, NoMemory}
use Rattle.spl_desk.specs.Calls.{IsSpentAt}
use Rattle.spl_desk.specs.Causes.{WasAnswered}
use Rattle.spl_desk.specs.Holder.{BranchKind, Holder}

-- the holder has made as many steps as it may, there are as many nodes as there can be, or memory ran out
abbrev pub HasGrowCause : {B : Type 0} → BranchKind B → Holder → (History → Type 0) → Holder → (History → Type 0) → CallFault → Type 0
HasGrowCause kind old Saw new Sees Nodes = (history : History) → Saw history → WasAnswered kind old history new Sees (λ answer. (nodes : ℕ) × (answer ≡ reply.Nodes nodes))
HasGrowCause kind old Saw new Sees (Spent turns) = IsSpentAt turns new
HasGrowCause kind old Saw new Sees NoMemory = Unit {0}
HasGrowCause kind old Saw new Sees _ = ⊥
