-- Why a part of the job is stopped is why the job is.
use Rattle.std.proofs.Common.{◌≡◌, sym, subst}
use Rattle.std.specs.Prelude.{Result, Ok, Err, IfErr}
use Rattle.std.specs.Result.{IsErrAnd}
use Rattle.spl_message.specs.History.{History}
use Rattle.spl_port.specs.Counts.{Counts}
use Rattle.spl_desk.specs.declared.fault.CallFault.{CallFault}
use Rattle.spl_desk.specs.declared.fault.CallFault.TheVariants as fault
use Rattle.spl_desk.specs.Calls.{NeverFell}
use Rattle.spl_desk.specs.Holder.{BranchKind, Holder}
use Rattle.spl_desk.specs.Quiet.{HasWorkCause, IsQuiet}
use Rattle.spl_desk.proofs.Quiet.{cause_behind, cause_before}
use Rattle.spl_enter.specs.Turning.{HasTurnCause}

-- what is known of an error is known of the result that it becomes
pub if_err_same : {T E : Type 0} (r : Result T E) (e : E) (P : E → Type 0) → IsErrAnd r (λ x. x ≡ e) → P e → IfErr r P
if_err_same (Ok x) e P is p = tt
if_err_same (Err x) e P is p = subst P (sym is) p

pub if_err_map : {T E : Type 0} (r : Result T E) (P Q : E → Type 0) → ((e : E) → P e → Q e) → IfErr r P → IfErr r Q
if_err_map (Ok x) P Q each p = tt
if_err_map (Err e) P Q each p = each e p

module _ {B : Type 0} (kind : BranchKind B) (old new : Holder) (Saw Sees : History → Type 0) (before after : Counts) where
  -- steps alone
  pub turn_cause : (f : CallFault) → HasTurnCause new f → HasWorkCause kind old Saw new Sees before after f
  turn_cause (fault.Spent turns) cause = λ history saw. cause
  turn_cause fault.NoMemory cause = λ history saw. tt
  turn_cause fault.Fault cause = absurd cause
  turn_cause (fault.Damaged damage) cause = absurd cause
  turn_cause fault.Full cause = absurd cause
  turn_cause fault.Nodes cause = absurd cause

module _ {T : Type 0} {B : Type 0} (kind : BranchKind B) (old mid new : Holder) (Saw Between Sees : History → Type 0) where
  -- the later part
  pub stopped_behind : (r : Result T CallFault) (before counts after : Counts) → IsQuiet kind old Saw mid Between → NeverFell before counts → IfErr r (HasWorkCause kind mid Between new Sees counts after) → IfErr r (HasWorkCause kind old Saw new Sees before after)
  stopped_behind r before counts after one fell two =
      if_err_map r (HasWorkCause kind mid Between new Sees counts after) (HasWorkCause kind old Saw new Sees before after)
      (λ f cause. cause_behind kind old mid new Saw Between Sees before counts after f one fell cause) two

  -- the earlier part, where the device is not touched after it
  pub stopped_before : (r : Result T CallFault) (before after : Counts) → IsQuiet kind old Saw mid Between → IfErr r (HasWorkCause kind old Saw mid Between before after) → IsQuiet kind mid Between new Sees → IfErr r (HasWorkCause kind old Saw new Sees before after)
  stopped_before r before after one cause two =
      if_err_map r (HasWorkCause kind old Saw mid Between before after) (HasWorkCause kind old Saw new Sees before after)
      (λ f had. cause_before kind old mid new Saw Between Sees before after f one.same had two) cause
