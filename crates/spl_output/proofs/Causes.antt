-- Why a branch is not built is why the call stopped.
use Rattle.std.proofs.Common.{◌≡◌, sym, subst}
use Rattle.std.specs.Prelude.{Result, Ok, Err, IfErr}
use Rattle.std.specs.Result.{IsErrAnd}
use Rattle.spl_message.specs.History.{History}
use Rattle.spl_port.specs.Counts.{Counts}
use Rattle.spl_desk.specs.Quiet.{HasWorkCause}
use Rattle.spl_desk.specs.declared.fault.CallFault.{CallFault}
use Rattle.spl_desk.specs.declared.fault.CallFault.TheVariants as fault
use Rattle.spl_desk.specs.Holder.{BranchKind, Holder}
use Rattle.spl_output.specs.Building.{HasGrantCause}

-- what is known of an error is known of the result that it becomes
pub if_err_same : {T E : Type 0} (r : Result T E) (e : E) (P : E → Type 0) → IsErrAnd r (λ x. x ≡ e) → P e → IfErr r P
if_err_same (Ok x) e P is p = tt
if_err_same (Err x) e P is p = subst P (sym is) p

module _ {B : Type 0} (kind : BranchKind B) (old : Holder) (Saw : History → Type 0) (new : Holder) (Sees : History → Type 0) where
  -- why no extent was granted
  pub grant_cause : (before after : Counts) (f : CallFault) → HasGrantCause kind old Saw new Sees f → HasWorkCause kind old Saw new Sees before after f
  grant_cause before after fault.Full cause = cause
  grant_cause before after (fault.Spent turns) cause = λ history saw. cause
  grant_cause before after fault.NoMemory cause = λ history saw. tt
  grant_cause before after fault.Fault cause = absurd cause
  grant_cause before after (fault.Damaged d) cause = absurd cause
  grant_cause before after fault.Nodes cause = absurd cause
