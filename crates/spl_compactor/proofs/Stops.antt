-- Why a part of the job is stopped is why the job is.
use Rattle.std.proofs.Common.{◌≡◌, ℕ, ◌+◌, ◌<◌, Bool, true, List, [], ◌∷◌, ◌++◌, Option, Some, None, map, take, get_or, length, ◌⊎◌, inl, inr, zero, suc, sym, ap, subst, ◌∙◌}
use Rattle.std.specs.Prelude.{Contains, Result, Ok, Err, IfErr}
use Rattle.std.specs.List.{slice_get}
use Rattle.std.specs.Option.{IsSomeAnd}
use Rattle.std.specs.Result.{IsErrAnd}
use Rattle.std.proofs.lemmas.List.{map-append, take_more}
use Rattle.std.proofs.lemmas.Option.{slice_get-get_or}
use Rattle.spl_message.specs.History.{History}
use Rattle.spl_port.specs.declared.damaged.Damaged.{Damaged as Damage}
use Rattle.spl_port.specs.Counts.{Counts, Shown}
use Rattle.spl_port.specs.Page.{page_fault}
use Rattle.spl_branch.specs.declared.fault.BranchFault.{BranchFault}
use Rattle.spl_branch.specs.declared.fault.BranchFault.TheVariants as branch_fault
use Rattle.spl_branch.specs.Branch.{Branch}
use Rattle.spl_branch.specs.Pages.{AreTold}
use Rattle.spl_streams.specs.Merging.{HasMergeCause}
use Rattle.spl_desk.specs.declared.fault.CallFault.{CallFault}
use Rattle.spl_desk.specs.declared.fault.CallFault.TheVariants as fault
use Rattle.spl_desk.specs.Calls.{NeverFell}
use Rattle.spl_desk.specs.Holder.{BranchKind, Holder}
use Rattle.spl_desk.specs.Quiet.{HasWorkCause, IsQuiet, WasMade}
use Rattle.spl_desk.specs.Turn.{Turn}
use Rattle.spl_desk.proofs.Quiet.{cause_behind, cause_before}
use Rattle.spl_enter.specs.Turning.{HasTurnCause}
use Rattle.spl_compactor.specs.Stopping.{AllTold, HasReadCause, of_branch}

-- what is known of an error is known of the result that it becomes
pub if_err_same : {T E : Type 0} (r : Result T E) (e : E) (P : E → Type 0) → IsErrAnd r (λ x. x ≡ e) → P e → IfErr r P
if_err_same (Ok x) e P is p = tt
if_err_same (Err x) e P is p = subst P (sym is) p

pub if_err_map : {T E : Type 0} (r : Result T E) (P Q : E → Type 0) → ((e : E) → P e → Q e) → IfErr r P → IfErr r Q
if_err_map (Ok x) P Q each p = tt
if_err_map (Err e) P Q each p = each e p

-- ---- branches whose pages are told
push_cases : {X : Type 0} (xs : List X) (x : X) (i : ℕ) (y : X) → slice_get (xs ++ x ∷ []) i ≡ Some y → (slice_get xs i ≡ Some y) ⊎ (x ≡ y)
push_cases [] x zero y is = inr cc
push_cases [] x (suc i) y is = cc
push_cases (a ∷ xs) x zero y is = inl is
push_cases (a ∷ xs) x (suc i) y is = push_cases xs x i y is

pub told_none : AllTold []
told_none i branch is = cc

-- one branch more
pub told_more : {A : Type 0} (value : A → Branch) (branches : List A) (i : ℕ) (branch : A) → i < length branches → branch ≡ get_or branches i branch → AllTold (map value (take i branches)) → AreTold (value branch).parts → AllTold (map value (take (i + 1) branches))
told_more {A} value branches i branch within is before here j b at =
    let more : map value (take (i + 1) branches) ≡ map value (take i branches) ++ value branch ∷ [] =
    ap (map value) (take_more branches i branch within)
    ∙ map-append value (take i branches) (get_or branches i branch ∷ [])
    ∙ ap (λ (one : A). map value (take i branches) ++ value one ∷ []) (sym is) in
    elim (push_cases (map value (take i branches)) (value branch) j b (subst (λ (bs : List Branch). slice_get bs j ≡ Some b) more at)) [
      | inl old ↦ before j b old
      | inr new ↦ subst (λ (one : Branch). AreTold one.parts) new here
    ]

-- ---- causes
damage_latest : (damage : Damage) (last : Option Shown) → IsSomeAnd last (λ shown. (shown.at ≡ damage.at) × (page_fault shown.at shown.bytes ≡ Some damage.why)) → IsSomeAnd last (λ shown. (shown.at ≡ damage.at) × (page_fault damage.at shown.bytes ≡ Some damage.why))
damage_latest damage None is = is
damage_latest damage (Some shown) is = (is.0, subst (λ at. page_fault at shown.bytes ≡ Some damage.why) is.0 is.1)

pub merge_cause : (tells : Bool) (branches : List Branch) (before after : Counts) (f : BranchFault) → (tells ≡ true → AllTold branches) → HasMergeCause branches before after f → HasReadCause tells before after (of_branch f)
merge_cause tells branches before after branch_fault.Fault known cause = cause
merge_cause tells branches before after (branch_fault.Damaged damage) known cause = (
  λ told. cause.2.untold (known told cause.1.0 cause.0 (there branches cause.0 cause.1)),
  record { read = cause.2.read; latest = damage_latest damage after.last cause.2.page },
)
  where
    there : (xs : List Branch) (x : Branch) (has : Contains xs x) → slice_get xs has.0 ≡ Some x
    there xs x has = slice_get-get_or xs has.0 x has.1 ∙ ap Some has.2
merge_cause tells branches before after branch_fault.NoMemory known cause = tt

module _ {B : Type 0} (kind : BranchKind B) (old new : Holder) (Saw Sees : History → Type 0) (before after : Counts) where
  -- steps alone
  pub turn_cause : (f : CallFault) → HasTurnCause new f → HasWorkCause kind old Saw new Sees before after f
  turn_cause (fault.Spent turns) cause = λ history saw. cause
  turn_cause fault.NoMemory cause = λ history saw. tt
  turn_cause fault.Fault cause = absurd cause
  turn_cause (fault.Damaged damage) cause = absurd cause
  turn_cause fault.Full cause = absurd cause
  turn_cause fault.Nodes cause = absurd cause

  -- reading alone
  pub read_cause : (f : CallFault) → HasReadCause kind.tells before after f → HasWorkCause kind old Saw new Sees before after f
  read_cause fault.Fault cause = λ history saw. cause
  read_cause (fault.Damaged damage) cause = λ history saw. cause
  read_cause fault.NoMemory cause = λ history saw. tt
  read_cause (fault.Spent turns) cause = absurd cause
  read_cause fault.Full cause = absurd cause
  read_cause fault.Nodes cause = absurd cause

module _ {T : Type 0} {B : Type 0} (kind : BranchKind B) (old mid new : Holder) (Saw Between Sees : History → Type 0) where
  -- the later part
  pub stopped_behind : (r : Result T CallFault) (before counts after : Counts) → IsQuiet kind old Saw mid Between → NeverFell before counts → IfErr r (HasWorkCause kind mid Between new Sees counts after) → IfErr r (HasWorkCause kind old Saw new Sees before after)
  stopped_behind r before counts after one fell two =
      if_err_map r (HasWorkCause kind mid Between new Sees counts after) (HasWorkCause kind old Saw new Sees before after)
      (λ f cause. cause_behind kind old mid new Saw Between Sees before counts after f one fell cause) two

  -- the earlier part, where the device is not touched after it
  pub stopped_before : (r : Result T CallFault) (before after : Counts) → IsQuiet kind old Saw mid Between → IfErr r (HasWorkCause kind old Saw mid Between before after) → IsQuiet kind mid Between new Sees → IfErr r (HasWorkCause kind old Saw new Sees before after)
  stopped_before r before after one cause two =
      if_err_map r (HasWorkCause kind old Saw mid Between before after) (HasWorkCause kind old Saw new Sees before after)
      (λ f had. cause_before kind old mid new Saw Between Sees before after f one.same had two) cause

-- what is weaker is known of the turn too
pub made_weaker : {B : Type 0} (kind : BranchKind B) (old : Holder) (history : History) (new : Holder) (Sees : History → Type 0) (Is Was : Turn B → Type 0) → ((turn : Turn B) → Is turn → Was turn) → WasMade kind old history new Sees Is → WasMade kind old history new Sees Was
made_weaker kind old history new Sees Is Was each went = record {
  turns = went.turns;
  seen = went.seen;
  walks = went.walks;
  saw = went.saw;
  says = (went.says.0, (went.says.1.0, went.says.1.1, each went.says.1.0 went.says.1.2));
}
