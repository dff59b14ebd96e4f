-- What a call that was answered leaves to the next one, and a holder that counts more steps than its core.
use Rattle.std.proofs.Common.{◌≡◌, ℕ, ◌≤◌, ◌^◌, max, true, [], Result, Ok, Err, refl, sym, ap, subst, ◌∙◌, arith}
use Rattle.std.specs.Prelude.{IfOk, OnOk}
use Rattle.spl_message.specs.declared.call.Call.{Call}
use Rattle.spl_message.specs.History.{History}
use Rattle.spl_message.specs.Rule.{Rule, newest}
use Rattle.spl_state.specs.declared.reply.Reply.{Reply}
use Rattle.spl_state.specs.declared.counters.Counters.{Counters}
use Rattle.spl_state.specs.Sound.{IsEmpty}
use Rattle.spl_state.specs.Whole.{Whole}
use Rattle.spl_core.specs.Standing.{StandsFor}
use Rattle.spl_core.specs.declared.step.Step.{Step}
use Rattle.spl_desk.specs.Calls.{HasCalled, MadeCall, MadeFew}
use Rattle.spl_desk.specs.Holder.{BranchKind, Holder}
use Rattle.spl_desk.specs.Turn.{MadeTurn}
use Rattle.spl_alone.specs.Alone.{only_holder}
use Rattle.spl_session.specs.Calling.{MayAsk, late_holder}
use Rattle.spl_session.proofs.Fresh.{empty_nothing}

-- a call may be made after one that was answered
pub ask_again : {B E : Type 0} (kind : BranchKind B) (old : Holder) (history : History) (new : Holder) (Saw : History → Type 0) (made : Call) (IsReady : Type 0) (rule : Rule) (IsLawful : Type 0) (r : Result ℕ E) → old.turns ≤ 2 ^ 40 → OnOk r (MadeFew old new 0) → HasCalled old new → IfOk r (MadeCall kind old history new Saw made) → IsReady → rule ≡ old.rule → IsLawful → OnOk r (MayAsk new Saw IsReady rule IsLawful)
ask_again kind old history new Saw made IsReady rule IsLawful (Ok place) before few called call ready law lawful = record {
  few = omega (arith, before, few);
  nothing = called.nothing;
  seen = (call.seen, call.saw);
  ready = ready;
  law = law ∙ sym called.rule;
  lawful = lawful;
}
ask_again kind old history new Saw made IsReady rule IsLawful (Err fault) before few called call ready law lawful = tt

-- and over a core in which no call was made
pub ask_first : (extents callers : ℕ) (whole : Whole) (IsReady IsLawful : Type 0) → IsEmpty extents callers whole → StandsFor newest true whole [] → IsReady → IsLawful → MayAsk (only_holder newest whole) (StandsFor newest true whole) IsReady newest IsLawful
ask_first extents callers whole IsReady IsLawful empty stands ready lawful =
    let none : whole.counters.steps ≡ 0 = ap (λ (k : Counters). k.steps) empty.counters in
    record {
      few = omega (arith, none);
      nothing = empty_nothing extents callers whole empty;
      seen = ([], stands);
      ready = ready;
      law = refl;
      lawful = lawful;
    }

pub late_first : (turns extents callers : ℕ) (whole : Whole) (IsReady IsLawful : Type 0) → turns ≤ 2 ^ 40 → IsEmpty extents callers whole → StandsFor newest true whole [] → IsReady → IsLawful → MayAsk (late_holder turns whole) (StandsFor newest true whole) IsReady newest IsLawful
late_first turns extents callers whole IsReady IsLawful few empty stands ready lawful = record {
  few = few;
  nothing = empty_nothing extents callers whole empty;
  seen = ([], stands);
  ready = ready;
  law = refl;
  lawful = lawful;
}

module _ {B : Type 0} (kind : BranchKind B) (before after : ℕ) (old new : Whole) (history : History) (Saw : History → Type 0) where
  -- how many steps the holder made does not matter to a turn
  pub late_turn : (step : Step B) (reply : Reply B) → MadeTurn kind (only_holder newest old) (only_holder newest new) history step reply Saw → MadeTurn kind (late_holder before old) (late_holder after new) history step reply Saw
  late_turn step reply made = record {
    turn = made.turn;
    step = made.step;
    reply = made.reply;
    after = made.after;
    legal = record {
      apart = made.legal.apart;
      alone = made.legal.alone;
      kept = made.legal.kept;
      sound = made.legal.sound;
      stood = made.legal.stood;
      step = made.legal.step;
      after = made.legal.after;
      stands = made.legal.stands;
    };
    saw = made.saw;
  }
