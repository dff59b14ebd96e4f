-- How the parts of a piece of work are joined, and how what a part shows is shown by the whole.
use Rattle.std.proofs.Common.{◌≡◌, ◌⊎◌, ℕ, ◌<◌, ◌≤◌, nat_eq, cond, Bool, true, false, Option, Some, None, inl, inr, sym, subst, arith}
use Rattle.std.specs.Prelude.{Result, Ok, Err, IfErr, IfOk, OnOk}
use Rattle.std.specs.Result.{IsErrAnd}
use Rattle.spl_message.specs.History.{History}
use Rattle.spl_port.specs.Counts.{Counts}
use Rattle.spl_desk.specs.declared.fault.CallFault.{CallFault}
use Rattle.spl_desk.specs.declared.fault.CallFault.TheVariants as fault
use Rattle.spl_desk.specs.Calls.{MayCall, NeverFell}
use Rattle.spl_desk.specs.Holder.{BranchKind, Holder}
use Rattle.spl_desk.specs.Quiet.{HasWorkCause, IsQuiet}
use Rattle.spl_desk.proofs.Quiet.{cause_behind, counts_on, counts_same, made_behind, quiet_then}
use Rattle.spl_enter.specs.Turning.{HasTurnCause}
use Rattle.spl_grower.specs.Stopping.{HasGrowCause}
use Rattle.spl_job.specs.Holding.{told_by}
use Rattle.spl_compactor.specs.Compacting.{IsEnd}
use Rattle.spl_worker.specs.Plans.{IsNamed, IsWay}
use Rattle.spl_worker.specs.Reliefs.{Flushes, Grows, WasPassed, WasRelieved, next_for}
use Rattle.spl_worker.specs.Stale.{ShowsStale}
use Rattle.spl_worker.specs.Working.{HasGoneOn, HasWorked}
use Rattle.spl_worker.specs.Works.{next_of}
use Rattle.spl_worker.specs.declared.plan.Way.{Way}
use Rattle.spl_worker.specs.declared.relief.Relief.{Relief}
use Rattle.spl_worker.specs.declared.relief.Relief.TheVariants as relief

-- what is known of an error is known of the result that it becomes
pub if_err_same : {T E : Type 0} (r : Result T E) (e : E) (P : E → Type 0) → IsErrAnd r (λ x. x ≡ e) → P e → IfErr r P
if_err_same (Ok x) e P is p = tt
if_err_same (Err x) e P is p = subst P (sym is) p

pub on_ok : {T E : Type 0} {P : Type 0} (r : Result T E) → P → OnOk r P
on_ok (Ok x) p = p
on_ok (Err e) p = tt

none_some : (n : ℕ) → ◌≡◌ {A = Option ℕ} None (Some n) → ⊥
none_some n is = cc

some_zero : (n : ℕ) → Some 0 ≡ Some n → n ≡ 0
some_zero n is = cc

some_same : (a b : ℕ) → Some a ≡ Some b → a ≡ b
some_same a b is = cc

pub gone_on : (old mid new : Holder) → HasGoneOn old mid → HasGoneOn mid new → HasGoneOn old new
gone_on old mid new one two =
    let few = one.few in
    let more = two.few in
    let told = one.told in
    let later = two.told in
    record { few = omega (arith, few, more); told = omega (arith, told, later) }

pub went_on : {T E : Type 0} (old mid new : Holder) (r : Result T E) → HasGoneOn old mid → OnOk r (HasGoneOn mid new) → OnOk r (HasGoneOn old new)
went_on old mid new (Ok x) one two = gone_on old mid new one two
went_on old mid new (Err e) one two = tt

pub still_way : (old new : Holder) (node : ℕ) (way : Way) → told_by old ≤ told_by new → IsWay old node way → IsWay new node way
still_way old new node way told is =
    let here = is.here in
    let there = is.child in
    record { here = omega (arith, told, here); child = omega (arith, told, there); apart = is.apart }

pub still_named : (old new : Holder) (node : ℕ) → told_by old ≤ told_by new → IsNamed old node → IsNamed new node
still_named old new node told named = elim named [ inl root ↦ inl root | inr below ↦ inr (omega (arith, told, below)) ]

module _ {B : Type 0} (kind : BranchKind B) (old new : Holder) (Saw Sees : History → Type 0) where
  -- steps that touch no device
  pub turns_worked : (counts : Counts) → IsQuiet kind old Saw new Sees → MayCall new → HasWorked kind old Saw new Sees counts counts
  turns_worked counts quiet nothing = record { quiet = quiet; nothing = nothing; port = counts_same counts }

  pub turn_cause : (before after : Counts) (f : CallFault) → HasTurnCause new f → HasWorkCause kind old Saw new Sees before after f
  turn_cause before after (fault.Spent turns) cause = λ history saw. cause
  turn_cause before after fault.NoMemory cause = λ history saw. tt
  turn_cause before after fault.Fault cause = absurd cause
  turn_cause before after (fault.Damaged damage) cause = absurd cause
  turn_cause before after fault.Full cause = absurd cause
  turn_cause before after fault.Nodes cause = absurd cause

  pub grow_cause : (before after : Counts) (f : CallFault) → HasGrowCause kind old Saw new Sees f → HasWorkCause kind old Saw new Sees before after f
  grow_cause before after (fault.Spent turns) cause = λ history saw. cause
  grow_cause before after fault.NoMemory cause = λ history saw. tt
  grow_cause before after fault.Nodes cause = cause
  grow_cause before after fault.Fault cause = absurd cause
  grow_cause before after (fault.Damaged damage) cause = absurd cause
  grow_cause before after fault.Full cause = absurd cause

module _ {B : Type 0} (kind : BranchKind B) (old mid new : Holder) (Saw Between Sees : History → Type 0) where
  pub worked_on : (before counts after : Counts) → HasWorked kind old Saw mid Between before counts → HasWorked kind mid Between new Sees counts after → HasWorked kind old Saw new Sees before after
  worked_on before counts after one two = record {
    quiet = quiet_then kind old mid new Saw Between Sees one.quiet two.quiet;
    nothing = two.nothing;
    port = counts_on before counts after one.port two.port;
  }

  -- what stopped the later part
  pub stopped_on : {T : Type 0} (r : Result T CallFault) (before counts after : Counts) → IsQuiet kind old Saw mid Between → NeverFell before counts → IfErr r (HasWorkCause kind mid Between new Sees counts after) → IfErr r (HasWorkCause kind old Saw new Sees before after)
  stopped_on (Ok x) before counts after quiet fell cause = tt
  stopped_on (Err f) before counts after quiet fell cause = cause_behind kind old mid new Saw Between Sees before counts after f quiet fell cause

  passed : (answer : Relief) → IsQuiet kind old Saw mid Between → WasPassed kind mid Between new Sees answer → WasPassed kind old Saw new Sees answer
  passed (relief.Room running) quiet was = absurd was
  passed (relief.Below child) quiet was = was
  passed relief.Grown quiet was = made_behind kind old mid new Saw Between Sees Grows quiet was
  passed relief.Flushed quiet was = made_behind kind old mid new Saw Between Sees Flushes quiet was
  passed relief.Compacted quiet was = made_behind kind old mid new Saw Between Sees IsEnd quiet was
  passed relief.Stale quiet was = made_behind kind old mid new Saw Between Sees ShowsStale quiet was

  pub passed_on : (r : Result Relief CallFault) → IsQuiet kind old Saw mid Between → IfOk r (WasPassed kind mid Between new Sees) → IfOk r (WasPassed kind old Saw new Sees)
  passed_on (Ok answer) quiet was = passed answer quiet was
  passed_on (Err _) quiet was = tt

  pub relieved_on : (node least : ℕ) (r : Result Relief CallFault) → IsQuiet kind old Saw mid Between → IfOk r (WasPassed kind mid Between new Sees) → IfOk r (WasRelieved kind old Saw new Sees node least)
  relieved_on node least (Ok answer) quiet was = by answer (passed answer quiet was)
    where
      by : (answer : Relief) → WasPassed kind old Saw new Sees answer → WasRelieved kind old Saw new Sees node least answer
      by (relief.Room running) is = absurd is
      by (relief.Below child) is = is
      by relief.Grown is = is
      by relief.Flushed is = is
      by relief.Compacted is = is
      by relief.Stale is = is
  relieved_on node least (Err _) quiet was = tt

-- where the work goes on is a node that the actor may name
module _ {B : Type 0} (kind : BranchKind B) (old new : Holder) (Saw Sees : History → Type 0) where
  pub next_named : (node at least : ℕ) (answer : Relief) → IsNamed new node → IsNamed new at → WasRelieved kind old Saw new Sees at least answer → IsNamed new (next_for node at answer)
  next_named node at least (relief.Room running) here there was = here
  next_named node at least (relief.Below child) here there was = inr was
  next_named node at least relief.Grown here there was = there
  next_named node at least relief.Flushed here there was = there
  next_named node at least relief.Compacted here there was = there
  next_named node at least relief.Stale here there was = there

  pub search_named : (at least next : ℕ) (answer : Relief) → next_of at answer ≡ Some next → WasRelieved kind old Saw new Sees at least answer → IsNamed new next
  search_named at least next (relief.Room running) is was = by (nat_eq at 0) is
    where
      by : (here : Bool) → cond here None (Some 0) ≡ Some next → IsNamed new next
      by true is = absurd (none_some next is)
      by false is = inl (some_zero next is)
  search_named at least next (relief.Below child) is was = inr (subst (λ (n : ℕ). n < told_by new) (some_same child next is) was)
  search_named at least next relief.Grown is was = absurd (none_some next is)
  search_named at least next relief.Flushed is was = absurd (none_some next is)
  search_named at least next relief.Compacted is was = absurd (none_some next is)
  search_named at least next relief.Stale is was = absurd (none_some next is)
