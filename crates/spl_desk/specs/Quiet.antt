-- What steps that make no call leave.
use Rattle.std.specs.Prelude.{◌≡◌, [], Contains}
use Rattle.spl_message.specs.History.{History}
use Rattle.spl_port.specs.Counts.{Counts}
use Rattle.spl_desk.specs.declared.fault.CallFault.{CallFault}
use Rattle.spl_desk.specs.Calls.{HasSeen, IsSameCaller, MadeNoCall}
use Rattle.spl_desk.specs.Causes.{HasCallCause}
use Rattle.spl_desk.specs.Holder.{BranchKind, Holder}
use Rattle.spl_desk.specs.Turn.{Turn}
use Rattle.spl_desk.specs.Walk.{Went, calls_in}

-- The same holder went on by steps none of which is a call that has a place, and has seen the history behind them.
pub record IsQuiet {B : Type 0} (kind : BranchKind B) (old : Holder) (Saw : History → Type 0) (new : Holder) (Sees : History → Type 0) : Type 0 where
  pub same : IsSameCaller old new
  pub seen : HasSeen Sees
  pub no_call : (history : History) → Saw history → MadeNoCall kind old history new Sees

-- the holder made no call that has a place, and one of its turns is such
abbrev pub WasMade : {B : Type 0} → BranchKind B → Holder → History → Holder → (History → Type 0) → (Turn B → Type 0) → Type 0
WasMade {B} kind old history new Saw Is = Went kind old history new Saw (λ turns seen. (calls_in old.actor turns ≡ []) × ((turn : Turn B) × Contains turns turn × Is turn))

-- what stopped a piece of work that makes no call, in which the holder and its device's counts went from the old ones to the new ones
abbrev pub HasWorkCause : {B : Type 0} → BranchKind B → Holder → (History → Type 0) → Holder → (History → Type 0) → Counts → Counts → CallFault → Type 0
HasWorkCause kind old Saw new Sees before after fault = (history : History) → Saw history → HasCallCause kind old history new Sees before after fault
