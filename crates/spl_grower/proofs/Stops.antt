-- How the cause of a part of a job is that of the whole.
use Rattle.std.proofs.Common.{◌≡◌, ℕ, subst, sym, arith}
use Rattle.std.specs.Prelude.{Result, Ok, Err, IfErr}
use Rattle.std.specs.Result.{IsErrAnd}
use Rattle.spl_message.specs.History.{History}
use Rattle.spl_port.specs.Counts.{Counts}
use Rattle.spl_state.specs.declared.reply.Reply.TheVariants as reply
use Rattle.spl_desk.specs.declared.fault.CallFault.{CallFault}
use Rattle.spl_desk.specs.declared.fault.CallFault.TheVariants as fault
use Rattle.spl_desk.specs.Holder.{BranchKind, Holder}
use Rattle.spl_desk.specs.Quiet.{HasWorkCause, IsQuiet}
use Rattle.spl_desk.specs.Turn.{Turn}
use Rattle.spl_desk.proofs.Quiet.{made_before, made_behind}
use Rattle.spl_enter.specs.Turning.{HasTurnCause}
use Rattle.spl_grower.specs.Stopping.{HasGrowCause}

-- what is known of an error is known of the result that it becomes
pub if_err_same : {T E : Type 0} (r : Result T E) (e : E) (P : E → Type 0) → IsErrAnd r (λ x. x ≡ e) → P e → IfErr r P
if_err_same (Ok x) e P is p = tt
if_err_same (Err x) e P is p = subst P (sym is) p

pub if_err_map : {T E : Type 0} (r : Result T E) (P Q : E → Type 0) → ((e : E) → P e → Q e) → IfErr r P → IfErr r Q
if_err_map (Ok x) P Q each p = tt
if_err_map (Err e) P Q each p = each e p

module _ {B : Type 0} (kind : BranchKind B) (old new : Holder) (Saw Sees : History → Type 0) where
  -- what stops a step stops the job
  pub turn_stops : (f : CallFault) → HasTurnCause new f → HasGrowCause kind old Saw new Sees f
  turn_stops (fault.Spent turns) cause = cause
  turn_stops fault.NoMemory cause = tt
  turn_stops fault.Fault cause = absurd cause
  turn_stops (fault.Damaged damage) cause = absurd cause
  turn_stops fault.Full cause = absurd cause
  turn_stops fault.Nodes cause = absurd cause

  -- and what stops the job stops the work that it is a part of
  pub work_stops : (before after : Counts) (f : CallFault) → HasGrowCause kind old Saw new Sees f → HasWorkCause kind old Saw new Sees before after f
  work_stops before after (fault.Spent turns) cause = λ history saw. cause
  work_stops before after fault.NoMemory cause = λ history saw. tt
  work_stops before after fault.Nodes cause = cause
  work_stops before after fault.Fault cause = absurd cause
  work_stops before after (fault.Damaged damage) cause = absurd cause
  work_stops before after fault.Full cause = absurd cause

module _ {B : Type 0} (kind : BranchKind B) (old mid new : Holder) (Saw Between Sees : History → Type 0) where
  -- what stopped the later part stopped the whole
  pub stops_behind : (f : CallFault) → IsQuiet kind old Saw mid Between → HasGrowCause kind mid Between new Sees f → HasGrowCause kind old Saw new Sees f
  stops_behind (fault.Spent turns) one cause = cause
  stops_behind fault.NoMemory one cause = tt
  stops_behind fault.Nodes one cause =
      made_behind kind old mid new Saw Between Sees (λ (turn : Turn B). (nodes : ℕ) × (turn.reply ≡ reply.Nodes nodes)) one cause
  stops_behind fault.Fault one cause = absurd cause
  stops_behind (fault.Damaged damage) one cause = absurd cause
  stops_behind fault.Full one cause = absurd cause

  -- and what stopped the earlier part
  pub stops_before : (f : CallFault) → IsQuiet kind old Saw mid Between → HasGrowCause kind old Saw mid Between f → IsQuiet kind mid Between new Sees → HasGrowCause kind old Saw new Sees f
  stops_before (fault.Spent turns) one cause two = let later = two.same.turns in (cause.0, omega (arith, cause.1, later))
  stops_before fault.NoMemory one cause two = tt
  stops_before fault.Nodes one cause two =
      made_before kind old mid new Saw Between Sees (λ (turn : Turn B). (nodes : ℕ) × (turn.reply ≡ reply.Nodes nodes)) one.same cause two
  stops_before fault.Fault one cause two = absurd cause
  stops_before (fault.Damaged damage) one cause two = absurd cause
  stops_before fault.Full one cause two = absurd cause
