-- What a call over a desk keeps from one part to the next, and how its causes are those of its last part.
use Rattle.std.proofs.Common.{◌≡◌, ℕ, ◌≤◌, [], refl, sym, subst, ◌∙◌, arith}
use Rattle.std.specs.Prelude.{Result, Ok, Err, Contains, OnErr, IfErr}
use Rattle.std.proofs.lemmas.List.Elements.{Contains-append_right}
use Rattle.spl_message.specs.declared.call.Call.{Call}
use Rattle.spl_message.specs.History.{History}
use Rattle.spl_port.specs.Counts.{Counts, Rose}
use Rattle.spl_state.specs.declared.reply.Reply.{Reply}
use Rattle.spl_state.specs.declared.reply.Reply.TheVariants as reply
use Rattle.spl_desk.specs.declared.fault.CallFault.{CallFault}
use Rattle.spl_desk.specs.declared.fault.CallFault.TheVariants as fault
use Rattle.spl_desk.specs.Calls.{HasCalled, MadeCall, MadeNoCall, MayCall, NeverFell}
use Rattle.spl_desk.specs.Causes.{HasCallCause, WasAnswered}
use Rattle.spl_desk.specs.Holder.{BranchKind, Holder}
use Rattle.spl_desk.specs.Turn.{Turn}
use Rattle.spl_desk.specs.Walk.{calls_in}
use Rattle.spl_desk.proofs.Walks.{IsAlike, went_none, went_on, no_call_on, none_then_none, none_then_call}
use Rattle.std.specs.Result.{IsErr, IsErrAnd}
use Rattle.std.proofs.lemmas.Bool.{true≢false}
use Rattle.spl_session.specs.declared.steps.Progress.{Progress}
use Rattle.spl_down.specs.Descending.{HasTurnCause}
use Rattle.spl_session.specs.Putting.{AfterAttempt}

pub alike_of : (old new : Holder) → HasCalled old new → IsAlike old new
alike_of old new called = record { alone = called.alone; actor = called.actor; rule = called.rule }

pub called_none : (old : Holder) → MayCall old → HasCalled old old
called_none old nothing = record { alone = refl; actor = refl; rule = refl; turns = omega arith; nothing = nothing }

pub called_on : (old mid new : Holder) → HasCalled old mid → HasCalled mid new → HasCalled old new
called_on old mid new one two = record {
  alone = two.alone ∙ one.alone;
  actor = two.actor ∙ one.actor;
  rule = two.rule ∙ one.rule;
  turns = omega (arith, one.turns, two.turns);
  nothing = two.nothing;
}

pub fell_none : (counts : Counts) → NeverFell counts counts
fell_none counts = record { faults = omega arith; reads = omega arith; writes = omega arith }

pub fell_on : (old mid new : Counts) → NeverFell old mid → NeverFell mid new → NeverFell old new
fell_on old mid new one two = record {
  faults = omega (arith, one.faults, two.faults);
  reads = omega (arith, one.reads, two.reads);
  writes = omega (arith, one.writes, two.writes);
}

module _ {B : Type 0} (kind : BranchKind B) where
  pub no_turn : (old : Holder) (history : History) (Saw : History → Type 0) → Saw history → MadeNoCall kind old history old Saw
  no_turn old history Saw saw = went_none kind old history old Saw (λ turns seen. calls_in old.actor turns ≡ []) refl saw refl

  module _ (old mid new : Holder) (Before Between Saw : History → Type 0) (alike : IsAlike old mid) (one : (history : History) → Before history → MadeNoCall kind old history mid Between) where
    pub no_call_then : ((history : History) → Between history → MadeNoCall kind mid history new Saw) → (history : History) → Before history → MadeNoCall kind old history new Saw
    no_call_then two history saw = none_then_none kind old history mid new Between Saw alike (one history saw) two

    pub call_then : (made : Call) (place : ℕ) → ((history : History) → Between history → MadeCall kind mid history new Saw made place) → (history : History) → Before history → MadeCall kind old history new Saw made place
    call_then made place two history saw = none_then_call kind old history mid new Between Saw made place alike (one history saw) two

    answered_then : (Is : Reply B → Type 0) (history : History) (saw : Before history) → WasAnswered kind mid (one history saw).seen new Saw Is → WasAnswered kind old history new Saw Is
    answered_then Is history saw two =
        let first = one history saw in
        went_on kind old history mid new Between Saw (λ turns seen. calls_in old.actor turns ≡ [])
        (λ turns seen. (calls_in mid.actor turns ≡ []) × ((turn : Turn B) × Contains turns turn × Is turn.reply))
        (λ turns seen. (calls_in old.actor turns ≡ []) × ((turn : Turn B) × Contains turns turn × Is turn.reply))
        alike first two
        (λ more seen walks says. (no_call_on kind old history mid first.turns more alike.actor first.says [] says.0, (says.1.0, Contains-append_right first.turns more says.1.0 says.1.1, says.1.2)))

    -- what stopped the later part stopped the whole
    pub cause_then : (counts mid_counts after : Counts) (f : CallFault) → NeverFell counts mid_counts → ((history : History) → Between history → HasCallCause kind mid history new Saw mid_counts after f) → (history : History) → Before history → HasCallCause kind old history new Saw counts after f
    cause_then counts mid_counts after fault.Fault fell two history saw = rose counts.faults mid_counts.faults after.faults fell.faults (two (one history saw).seen (one history saw).saw)
      where
        rose : (a b c : ℕ) → a ≤ b → Rose b c → Rose a c
        rose a b c below r = omega (arith, below, r)
    cause_then counts mid_counts after (fault.Damaged d) fell two history saw =
        let was = two (one history saw).seen (one history saw).saw in
        (was.0, record { read = omega (arith, fell.reads, was.1.read); latest = was.1.latest })
    cause_then counts mid_counts after fault.Full fell two history saw = answered_then (λ answer. answer ≡ reply.NoExtent) history saw (two (one history saw).seen (one history saw).saw)
    cause_then counts mid_counts after fault.Nodes fell two history saw = answered_then (λ answer. (nodes : ℕ) × (answer ≡ reply.Nodes nodes)) history saw (two (one history saw).seen (one history saw).saw)
    cause_then counts mid_counts after (fault.Spent turns) fell two history saw = two (one history saw).seen (one history saw).saw
    cause_then counts mid_counts after fault.NoMemory fell two history saw = tt

  -- a fault of a call that touches no device
  pub own_cause : (old new : Holder) (Saw : History → Type 0) (before after : Counts) (f : CallFault) → HasTurnCause new f → (history : History) → HasCallCause kind old history new Saw before after f
  own_cause old new Saw before after fault.NoMemory own history = tt
  own_cause old new Saw before after (fault.Spent turns) own history = own
  own_cause old new Saw before after fault.Fault own history = absurd own
  own_cause old new Saw before after (fault.Damaged d) own history = absurd own
  own_cause old new Saw before after fault.Full own history = absurd own
  own_cause old new Saw before after fault.Nodes own history = absurd own

-- a fault of the call's own stays one when more steps are made
pub own_later : (mid new : Holder) (f : CallFault) → mid.turns ≤ new.turns → HasTurnCause mid f → HasTurnCause new f
own_later mid new fault.NoMemory later own = tt
own_later mid new (fault.Spent turns) later own = (own.0, omega (arith, own.1, later))
own_later mid new fault.Fault later own = absurd own
own_later mid new (fault.Damaged d) later own = absurd own
own_later mid new fault.Full later own = absurd own
own_later mid new fault.Nodes later own = absurd own

-- a try that ended with an error made no call
pub after_err : {B : Type 0} (kind : BranchKind B) (old : Holder) (history : History) (new : Holder) (Saw : History → Type 0) (made : Call) (outcome : Result Progress CallFault) → IsErr outcome → MadeNoCall kind old history new Saw → AfterAttempt kind old history new Saw made outcome
after_err kind old history new Saw made (Err f) is none = none
after_err kind old history new Saw made (Ok progress) is none = absurd (true≢false (sym is))

pub none_of_err : {B : Type 0} (kind : BranchKind B) (old : Holder) (history : History) (new : Holder) (Saw : History → Type 0) (made : Call) (outcome : Result Progress CallFault) → IsErr outcome → AfterAttempt kind old history new Saw made outcome → MadeNoCall kind old history new Saw
none_of_err kind old history new Saw made (Err f) is none = none
none_of_err kind old history new Saw made (Ok progress) is none = absurd (true≢false (sym is))

pub on_err : {T E : Type 0} (r : Result T E) (P : Type 0) → P → OnErr r P
on_err (Ok x) P p = tt
on_err (Err e) P p = p

pub if_err_same : {T E : Type 0} (r : Result T E) (e : E) (P : E → Type 0) → IsErrAnd r (λ x. x ≡ e) → P e → IfErr r P
if_err_same (Ok x) e P is p = tt
if_err_same (Err x) e P is p = subst P (sym is) p
