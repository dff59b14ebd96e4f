-- What stopped a part of a piece stopped the piece.
use Rattle.std.proofs.Common.{◌≡◌, ℕ, ◌<◌, ◌≤◌, Bool, true, refl, sym, subst, ◌∙◌, arith}
use Rattle.std.specs.Prelude.{Result, Ok, Err, IfErr}
use Rattle.std.specs.Result.{IsErrAnd}
use Rattle.spl_port.specs.Counts.{Counts, Rose}
use Rattle.spl_branch.specs.Branch.{Branch}
use Rattle.spl_branch.specs.Pages.{AreTold}
use Rattle.spl_branch.specs.Reading.{HasBranchCause, OnlyReads}
use Rattle.spl_branch.specs.declared.fault.BranchFault.{BranchFault}
use Rattle.spl_branch.specs.declared.fault.BranchFault.TheVariants as branch_fault
use Rattle.spl_desk.specs.declared.fault.CallFault.{CallFault}
use Rattle.spl_desk.specs.declared.fault.CallFault.TheVariants as call_fault
use Rattle.spl_desk.specs.Holder.{Holder}
use Rattle.spl_down.specs.Descending.{HasTurnCause}
use Rattle.spl_range.specs.Stopping.{HasPieceCause, HasReadCause, of_branch}

pub reads_none : (counts : Counts) → OnlyReads counts counts
reads_none counts = record { faults = omega arith; reads = omega arith; writes = refl }

pub reads_on : (start mid after : Counts) → OnlyReads start mid → OnlyReads mid after → OnlyReads start after
reads_on start mid after one two = record {
  faults = omega (arith, one.faults, two.faults);
  reads = omega (arith, one.reads, two.reads);
  writes = two.writes ∙ one.writes;
}

-- where devices tell their pages, no page is damaged
pub read_cause : (tells : Bool) (branch : Branch) (before after : Counts) (fault : BranchFault) → (tells ≡ true → AreTold branch.parts) → HasBranchCause branch before after fault → HasReadCause tells before after (of_branch fault)
read_cause tells branch before after branch_fault.Fault told cause = cause
read_cause tells branch before after (branch_fault.Damaged damage) told cause = ((λ is. cause.untold (told is)), (branch, cause))
read_cause tells branch before after branch_fault.NoMemory told cause = tt

pub if_err_same : {T E : Type 0} (r : Result T E) (e : E) (P : E → Type 0) → IsErrAnd r (λ x. x ≡ e) → P e → IfErr r P
if_err_same (Ok x) e P is p = tt
if_err_same (Err x) e P is p = subst P (sym is) p

rose : (a b c : ℕ) → a ≤ b → Rose b c → Rose a c
rose a b c below r = omega (arith, below, r)

-- behind reads without an error
pub read_behind : (tells : Bool) (start mid after : Counts) (fault : CallFault) → OnlyReads start mid → HasReadCause tells mid after fault → HasReadCause tells start after fault
read_behind tells start mid after call_fault.Fault only cause = rose start.faults mid.faults after.faults only.faults cause
read_behind tells start mid after (call_fault.Damaged damage) only cause =
    let before : start.reads ≤ mid.reads = only.reads in
    let read : mid.reads < after.reads = cause.1.1.read in
    (cause.0, (cause.1.0, record { untold = cause.1.1.untold; place = cause.1.1.place; page = cause.1.1.page; read = omega (arith, before, read) }))
read_behind tells start mid after call_fault.Full only cause = absurd cause
read_behind tells start mid after call_fault.Nodes only cause = absurd cause
read_behind tells start mid after (call_fault.Spent turns) only cause = absurd cause
read_behind tells start mid after call_fault.NoMemory only cause = tt

-- what stopped the reading stopped the piece
pub read_stops : (tells : Bool) (start mid after : Counts) (new : Holder) (fault : CallFault) → OnlyReads start mid → HasReadCause tells mid after fault → HasPieceCause tells start after new fault
read_stops tells start mid after new fault only cause = by fault (read_behind tells start mid after fault only cause)
  where
    by : (fault : CallFault) → HasReadCause tells start after fault → HasPieceCause tells start after new fault
    by call_fault.Fault cause = cause
    by (call_fault.Damaged damage) cause = cause
    by call_fault.Full cause = absurd cause
    by call_fault.Nodes cause = absurd cause
    by (call_fault.Spent turns) cause = absurd cause
    by call_fault.NoMemory cause = tt

-- what stopped a turn stopped the piece
pub turn_stops : (tells : Bool) (start after : Counts) (new : Holder) (fault : CallFault) → HasTurnCause new fault → HasPieceCause tells start after new fault
turn_stops tells start after new call_fault.Fault cause = absurd cause
turn_stops tells start after new (call_fault.Damaged damage) cause = absurd cause
turn_stops tells start after new call_fault.Full cause = absurd cause
turn_stops tells start after new call_fault.Nodes cause = absurd cause
turn_stops tells start after new (call_fault.Spent turns) cause = cause
turn_stops tells start after new call_fault.NoMemory cause = tt

-- the holder has made more steps since
pub stopped_on : (tells : Bool) (start after : Counts) (mid new : Holder) (fault : CallFault) → mid.turns ≤ new.turns → HasPieceCause tells start after mid fault → HasPieceCause tells start after new fault
stopped_on tells start after mid new call_fault.Fault more cause = cause
stopped_on tells start after mid new (call_fault.Damaged damage) more cause = cause
stopped_on tells start after mid new call_fault.Full more cause = absurd cause
stopped_on tells start after mid new call_fault.Nodes more cause = absurd cause
stopped_on tells start after mid new (call_fault.Spent turns) more cause = (cause.0, let most = cause.1 in omega (arith, most, more))
stopped_on tells start after mid new call_fault.NoMemory more cause = tt
