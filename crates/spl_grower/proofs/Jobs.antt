-- What the steps of a job come to.
use Rattle.std.proofs.Common.{◌≡◌, ℕ, ◌≤◌, List, Option, Some, sym, subst, ◌∙◌, arith}
use Rattle.std.specs.Prelude.{Result, Ok, Err, IfOk, OnOk, IsSome}
use Rattle.spl_message.specs.History.{History}
use Rattle.spl_state.specs.declared.reply.Reply.TheVariants as reply
use Rattle.spl_state.specs.declared.view.View.{View}
use Rattle.spl_desk.specs.declared.fault.CallFault.{CallFault}
use Rattle.spl_desk.specs.declared.fault.CallFault.TheVariants as fault
use Rattle.spl_desk.specs.Holder.{BranchKind, Holder}
use Rattle.spl_desk.specs.Quiet.{IsQuiet, WasMade}
use Rattle.spl_desk.specs.Turn.{Turn}
use Rattle.spl_desk.proofs.Quiet.{made_before, made_behind}
use Rattle.spl_job.specs.declared.growing.Raising.TheVariants as raising
use Rattle.spl_job.specs.declared.growing.Splitting.{Splitting}
use Rattle.spl_job.specs.declared.growing.Splitting.TheVariants as splitting
use Rattle.spl_job.specs.Growing.{IsRaiseTurn, IsSplitTurn}
use Rattle.spl_job.specs.Holding.{Holding, Holds, IsHolding, told_by}
use Rattle.spl_job.specs.Merging.{IsHoldingOn, split_in, with_told}
use Rattle.spl_job.proofs.Nothing.{no_holding}
use Rattle.spl_enter.proofs.Refusals.{made_so}
use Rattle.spl_grower.specs.declared.grown.Grown.{Grown}
use Rattle.spl_grower.specs.declared.grown.Grown.TheVariants as grown
use Rattle.spl_grower.specs.Ends.{IsChildEnd, IsRootEnd}
use Rattle.spl_grower.specs.Stopping.{HasGrowCause}

-- what an actor has that has nothing
abbrev pub had : Holder → Holding
had holder = no_holding holder.at holder.actor

-- ---- of how many nodes an actor was told
pub told_once : (old new : Holder) (p : Holding) → Holds old p → IsHoldingOn new p → told_by old ≤ told_by new
told_once old new p had on =
    let were = had.told in
    let more = on.1 in
    let are = on.2.has.told in
    omega (arith, were, more, are)

pub told_twice : (old mid new : Holder) (p : Holding) → Holds old p → (on : IsHoldingOn mid p) → IsHoldingOn new (with_told p on.0) → told_by old ≤ told_by new
told_twice old mid new p had on then =
    let were = had.told in
    let more = on.1 in
    let later = then.1 in
    let are = then.2.has.told in
    omega (arith, were, more, later, are)

pub told_then : (old mid new : Holder) (p : Holding) → Holds old p → (on : IsHoldingOn mid p) → IsHolding new (with_told p on.0) → told_by old ≤ told_by new
told_then old mid new p had on then =
    let were = had.told in
    let more = on.1 in
    let are = then.has.told in
    omega (arith, were, more, are)

pub told_from : {T E : Type 0} (r : Result T E) (old mid new : Holder) → told_by mid ≡ told_by old → OnOk r (told_by mid ≤ told_by new) → OnOk r (told_by old ≤ told_by new)
told_from r old mid new same = subst (λ (n : ℕ). OnOk r (n ≤ told_by new)) same

pub told_to : {T E : Type 0} (r : Result T E) (old mid new : Holder) → told_by new ≡ told_by mid → OnOk r (told_by old ≤ told_by mid) → OnOk r (told_by old ≤ told_by new)
told_to r old mid new same = subst (λ (n : ℕ). OnOk r (told_by old ≤ n)) (sym same)

-- ---- the turns that say what came of it
module _ {B : Type 0} (kind : BranchKind B) (old mid new : Holder) (Saw Between Sees : History → Type 0) where
  -- the root was to be split, and was raised
  pub root_ends : (view : View) → view.split ≡ split_in mid.at 0 → IsSome view.split → IsQuiet kind old Saw mid Between → ((history : History) → Between history → WasMade kind mid history new Sees (IsRaiseTurn mid (Ok raising.Done))) → (history : History) → Saw history → WasMade kind old history new Sees (IsRootEnd grown.Done)
  root_ends view shown some one made =
      made_behind kind old mid new Saw Between Sees (IsRootEnd grown.Done) one (λ history had.
      made_so kind mid history new Sees (IsRaiseTurn mid (Ok raising.Done)) (IsRootEnd grown.Done)
      (λ turn is. (is.0, subst (λ (o : Option (List ℕ)). IsSome o) (shown ∙ sym is.1) some, is.2)) (made history had))

  -- or there were as many nodes as there can be
  pub root_stops : IsQuiet kind old Saw mid Between → ((history : History) → Between history → WasMade kind mid history new Sees (IsRaiseTurn mid (Ok raising.Nodes))) → HasGrowCause kind old Saw new Sees fault.Nodes
  root_stops one made =
      made_behind kind old mid new Saw Between Sees (λ (turn : Turn B). (nodes : ℕ) × (turn.reply ≡ reply.Nodes nodes)) one (λ history had.
      made_so kind mid history new Sees (IsRaiseTurn mid (Ok raising.Nodes)) (λ (turn : Turn B). (nodes : ℕ) × (turn.reply ≡ reply.Nodes nodes)) (λ turn is. is.2) (made history had))

  -- what came of it in the later part is what came of it
  pub ends_behind : (r : Result Grown CallFault) (Is : Grown → Turn B → Type 0) → IsQuiet kind old Saw mid Between → ((history : History) → Between history → IfOk r (λ one. WasMade kind mid history new Sees (Is one))) → (history : History) → Saw history → IfOk r (λ one. WasMade kind old history new Sees (Is one))
  ends_behind (Ok one) Is quiet made = made_behind kind old mid new Saw Between Sees (Is one) quiet made
  ends_behind (Err f) Is quiet made = λ history had. tt

  -- and so in the earlier part
  pub ends_before : (r : Result Grown CallFault) (Is : Grown → Turn B → Type 0) → IsQuiet kind old Saw mid Between → ((history : History) → Saw history → IfOk r (λ one. WasMade kind old history mid Between (Is one))) → IsQuiet kind mid Between new Sees → (history : History) → Saw history → IfOk r (λ one. WasMade kind old history new Sees (Is one))
  ends_before (Ok one) Is quiet made then = made_before kind old mid new Saw Between Sees (Is one) quiet.same made then
  ends_before (Err f) Is quiet made then = λ history had. tt

  module _ (parent child : ℕ) (key : List ℕ) (view : View) (shown : view.split ≡ split_in mid.at child) (some : view.split ≡ Some key) (one : IsQuiet kind old Saw mid Between) where
    -- the child was to be split at the key of the view, and this came of it
    child_ends : (answer : Splitting) (end : Grown) → ((turn : Turn B) → IsSplitTurn mid parent child key (Ok answer) turn → IsChildEnd parent child end turn) → ((history : History) → Between history → WasMade kind mid history new Sees (IsSplitTurn mid parent child key (Ok answer))) → (history : History) → Saw history → WasMade kind old history new Sees (IsChildEnd parent child end)
    child_ends answer end then made =
        made_behind kind old mid new Saw Between Sees (IsChildEnd parent child end) one (λ history had.
        made_so kind mid history new Sees (IsSplitTurn mid parent child key (Ok answer)) (IsChildEnd parent child end) then (made history had))

    pub child_done : ((history : History) → Between history → WasMade kind mid history new Sees (IsSplitTurn mid parent child key (Ok splitting.Done))) → (history : History) → Saw history → WasMade kind old history new Sees (IsChildEnd parent child grown.Done)
    child_done = child_ends splitting.Done grown.Done (λ turn is. ((key, is.0, is.1 ∙ sym shown ∙ some), is.2))

    pub child_full : ((history : History) → Between history → WasMade kind mid history new Sees (IsSplitTurn mid parent child key (Ok splitting.Pivots))) → (history : History) → Saw history → WasMade kind old history new Sees (IsChildEnd parent child grown.Full)
    child_full = child_ends splitting.Pivots grown.Full (λ turn is. ((key, is.0, is.1 ∙ sym shown ∙ some), is.2))

    pub child_moved : ((history : History) → Between history → WasMade kind mid history new Sees (IsSplitTurn mid parent child key (Ok splitting.Moved))) → (history : History) → Saw history → WasMade kind old history new Sees (IsChildEnd parent child grown.Moved)
    child_moved = child_ends splitting.Moved grown.Moved (λ turn is. ((key, is.0, is.1 ∙ sym shown ∙ some), is.2))

    pub child_stops : ((history : History) → Between history → WasMade kind mid history new Sees (IsSplitTurn mid parent child key (Ok splitting.Nodes))) → HasGrowCause kind old Saw new Sees fault.Nodes
    child_stops made =
        made_behind kind old mid new Saw Between Sees (λ (turn : Turn B). (nodes : ℕ) × (turn.reply ≡ reply.Nodes nodes)) one (λ history had.
        made_so kind mid history new Sees (IsSplitTurn mid parent child key (Ok splitting.Nodes)) (λ (turn : Turn B). (nodes : ℕ) × (turn.reply ≡ reply.Nodes nodes)) (λ turn is. is.2) (made history had))
