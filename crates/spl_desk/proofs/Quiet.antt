-- How pieces of work that make no call are joined, and how the cause of a part is that of the whole.
use Rattle.std.proofs.Common.{◌≡◌, ℕ, ◌≤◌, List, [], ◌++◌, refl, sym, ap, subst, ◌∙◌, arith}
use Rattle.std.specs.Prelude.{Contains}
use Rattle.std.proofs.lemmas.List.Elements.{Contains-append_left, Contains-append_right, Contains-push}
use Rattle.spl_message.specs.History.{History}
use Rattle.spl_port.specs.Counts.{Counts, Rose}
use Rattle.spl_state.specs.declared.reply.Reply.{Reply}
use Rattle.spl_state.specs.declared.reply.Reply.TheVariants as reply
use Rattle.spl_core.specs.declared.step.Step.{Step}
use Rattle.spl_core.specs.Standing.{called}
use Rattle.spl_desk.specs.declared.fault.CallFault.{CallFault}
use Rattle.spl_desk.specs.declared.fault.CallFault.TheVariants as fault
use Rattle.spl_desk.specs.Calls.{HasSeen, IsSameCaller, MadeNoCall, NeverFell}
use Rattle.spl_desk.specs.Causes.{HasCallCause, WasAnswered}
use Rattle.spl_desk.specs.Holder.{BranchKind, Holder, IsSameHolder}
use Rattle.spl_desk.specs.Quiet.{HasWorkCause, IsQuiet, WasMade}
use Rattle.spl_desk.specs.Turn.{MadeTurn, Turn}
use Rattle.spl_desk.specs.Walk.{Walks, calls_in}
use Rattle.spl_desk.proofs.Walks.{IsAlike, calls_made, calls_on, no_call, no_call_on, none_then_none, went_none, went_on, went_turn}

pub same_caller : (old new : Holder) (steps : ℕ) → IsSameHolder old new steps → IsSameCaller old new
same_caller old new steps same = record { alone = same.alone; actor = same.actor; rule = same.rule; turns = omega (arith, same.turns) }

pub caller_none : (old : Holder) → IsSameCaller old old
caller_none old = record { alone = refl; actor = refl; rule = refl; turns = omega arith }

pub caller_on : (old mid new : Holder) → IsSameCaller old mid → IsSameCaller mid new → IsSameCaller old new
caller_on old mid new one two = record {
  alone = two.alone ∙ one.alone;
  actor = two.actor ∙ one.actor;
  rule = two.rule ∙ one.rule;
  turns = omega (arith, one.turns, two.turns);
}

pub caller_alike : (old new : Holder) → IsSameCaller old new → IsAlike old new
caller_alike old new same = record { alone = same.alone; actor = same.actor; rule = same.rule }

pub counts_same : (counts : Counts) → NeverFell counts counts
counts_same counts = record { faults = omega arith; reads = omega arith; writes = omega arith }

pub counts_on : (old mid new : Counts) → NeverFell old mid → NeverFell mid new → NeverFell old new
counts_on old mid new one two = record {
  faults = omega (arith, one.faults, two.faults);
  reads = omega (arith, one.reads, two.reads);
  writes = omega (arith, one.writes, two.writes);
}

module _ {B : Type 0} (kind : BranchKind B) where
  -- no step
  pub quiet_none : (old : Holder) (Saw : History → Type 0) → HasSeen Saw → IsQuiet kind old Saw old Saw
  quiet_none old Saw seen = record {
    same = caller_none old;
    seen = seen;
    no_call = λ history saw. went_none kind old history old Saw (λ turns seen. calls_in old.actor turns ≡ []) refl saw refl;
  }

  -- one step that is no call
  pub quiet_step : (old new : Holder) (made : Step B) (answer : Reply B) (Saw Sees : History → Type 0) → IsSameHolder old new 1 → HasSeen Saw → called old.actor made answer ≡ [] → ((history : History) → Saw history → MadeTurn kind old new history made answer Sees) → IsQuiet kind old Saw new Sees
  quiet_step old new made answer Saw Sees same seen none turn = record {
    same = same_caller old new 1 same;
    seen = (_, (turn seen.0 seen.1).saw);
    no_call = λ history saw. no_call kind old new history made answer Sees (turn history saw) none;
  }

  -- one piece of work behind another
  pub quiet_then : (old mid new : Holder) (Saw Between Sees : History → Type 0) → IsQuiet kind old Saw mid Between → IsQuiet kind mid Between new Sees → IsQuiet kind old Saw new Sees
  quiet_then old mid new Saw Between Sees one two = record {
    same = caller_on old mid new one.same two.same;
    seen = two.seen;
    no_call = λ history saw. none_then_none kind old history mid new Between Sees (caller_alike old mid one.same) (one.no_call history saw) two.no_call;
  }

  -- one step, of which something is said
  pub made_step : (old new : Holder) (history : History) (made : Step B) (answer : Reply B) (Sees : History → Type 0) (Is : Turn B → Type 0) → called old.actor made answer ≡ [] → (turn : MadeTurn kind old new history made answer Sees) → Is turn.turn → WasMade kind old history new Sees Is
  made_step old new history made answer Sees Is none turn is =
      went_turn kind old history new made answer Sees (λ turns seen. (calls_in old.actor turns ≡ []) × ((one : Turn B) × Contains turns one × Is one)) turn
      (calls_made kind old new history made answer Sees turn ∙ none, (turn.turn, Contains-push [] turn.turn, is))

  -- a step that was answered so
  pub answered_step : (old new : Holder) (history : History) (made : Step B) (answer : Reply B) (Sees : History → Type 0) (Is : Reply B → Type 0) → called old.actor made answer ≡ [] → MadeTurn kind old new history made answer Sees → Is answer → WasAnswered kind old history new Sees Is
  answered_step old new history made answer Sees Is none turn is =
      made_step old new history made answer Sees (λ one. Is one.reply) none turn (subst Is (sym turn.reply) is)

  module _ (old mid new : Holder) (Saw Between Sees : History → Type 0) where
    -- a turn of the later part is one of the whole
    pub made_behind : (Is : Turn B → Type 0) → IsQuiet kind old Saw mid Between → ((history : History) → Between history → WasMade kind mid history new Sees Is) → (history : History) → Saw history → WasMade kind old history new Sees Is
    made_behind Is one two history saw =
        let alike = caller_alike old mid one.same in
        let first = one.no_call history saw in
        went_on kind old history mid new Between Sees (λ turns seen. calls_in old.actor turns ≡ [])
        (λ turns seen. (calls_in mid.actor turns ≡ []) × ((turn : Turn B) × Contains turns turn × Is turn))
        (λ turns seen. (calls_in old.actor turns ≡ []) × ((turn : Turn B) × Contains turns turn × Is turn))
        alike first (two first.seen first.saw)
        (λ more seen walks says. (no_call_on kind old history mid first.turns more alike.actor first.says [] says.0, (says.1.0, Contains-append_right first.turns more says.1.0 says.1.1, says.1.2)))

    -- and so is one of the earlier part
    pub made_before : (Is : Turn B → Type 0) → IsSameCaller old mid → ((history : History) → Saw history → WasMade kind old history mid Between Is) → IsQuiet kind mid Between new Sees → (history : History) → Saw history → WasMade kind old history new Sees Is
    made_before Is same one two history saw =
        let alike = caller_alike old mid same in
        let first = one history saw in
        went_on kind old history mid new Between Sees
        (λ turns seen. (calls_in old.actor turns ≡ []) × ((turn : Turn B) × Contains turns turn × Is turn))
        (λ turns seen. calls_in mid.actor turns ≡ [])
        (λ turns seen. (calls_in old.actor turns ≡ []) × ((turn : Turn B) × Contains turns turn × Is turn))
        alike first (two.no_call first.seen first.saw)
        (λ more seen walks none. (no_call_on kind old history mid first.turns more alike.actor first.says.0 [] none, (first.says.1.0, Contains-append_left first.turns more first.says.1.0 first.says.1.1, first.says.1.2)))

    -- what stopped the later part stopped the whole
    pub cause_behind : (before counts after : Counts) (f : CallFault) → IsQuiet kind old Saw mid Between → NeverFell before counts → HasWorkCause kind mid Between new Sees counts after f → HasWorkCause kind old Saw new Sees before after f
    cause_behind before counts after fault.Fault one fell two history saw = rose before.faults counts.faults after.faults fell.faults (two (one.no_call history saw).seen (one.no_call history saw).saw)
      where
        rose : (a b c : ℕ) → a ≤ b → Rose b c → Rose a c
        rose a b c below r = omega (arith, below, r)
    cause_behind before counts after (fault.Damaged d) one fell two history saw =
        let was = two (one.no_call history saw).seen (one.no_call history saw).saw in
        (was.0, record { read = omega (arith, fell.reads, was.1.read); latest = was.1.latest })
    cause_behind before counts after fault.Full one fell two history saw = made_behind (λ turn. turn.reply ≡ reply.NoExtent) one two history saw
    cause_behind before counts after fault.Nodes one fell two history saw = made_behind (λ turn. (nodes : ℕ) × (turn.reply ≡ reply.Nodes nodes)) one two history saw
    cause_behind before counts after (fault.Spent turns) one fell two history saw = two (one.no_call history saw).seen (one.no_call history saw).saw
    cause_behind before counts after fault.NoMemory one fell two history saw = tt

    -- what stopped the earlier part stopped the whole, where the device is not touched after it
    pub cause_before : (before after : Counts) (f : CallFault) → IsSameCaller old mid → HasWorkCause kind old Saw mid Between before after f → IsQuiet kind mid Between new Sees → HasWorkCause kind old Saw new Sees before after f
    cause_before before after fault.Fault same one two history saw = one history saw
    cause_before before after (fault.Damaged d) same one two history saw = one history saw
    cause_before before after fault.Full same one two history saw = made_before (λ turn. turn.reply ≡ reply.NoExtent) same one two history saw
    cause_before before after fault.Nodes same one two history saw = made_before (λ turn. (nodes : ℕ) × (turn.reply ≡ reply.Nodes nodes)) same one two history saw
    cause_before before after (fault.Spent turns) same one two history saw =
        let was = one history saw in
        let later = two.same.turns in
        (was.0, omega (arith, was.1, later))
    cause_before before after fault.NoMemory same one two history saw = tt
