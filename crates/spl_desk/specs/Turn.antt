-- One step of a holder of turns, with what others did since its step before.
use Rattle.std.specs.Prelude.{◌≡◌, ◌≢◌, ℕ, true, [], ◌++◌, All}
use Rattle.spl_message.specs.History.{Event, History}
use Rattle.spl_state.specs.declared.reply.Reply.{Reply}
use Rattle.spl_state.specs.Frame.{refused}
use Rattle.spl_state.specs.Sight.{KeepsSight}
use Rattle.spl_state.specs.Sound.{IsSound}
use Rattle.spl_state.specs.Whole.{Whole}
use Rattle.spl_core.specs.declared.step.Step.{Step}
use Rattle.spl_core.specs.Standing.{StandsFor, called}
use Rattle.spl_core.specs.Steps.{IsStep}
use Rattle.spl_desk.specs.Holder.{BranchKind, Holder}

pub record Turn (B : Type 0) : Type 0 where
  -- the calls that others made since the holder's step before
  pub others : History
  -- the core as it was when the step was made
  pub before : Whole
  pub step : Step B
  pub reply : Reply B
  pub after : Whole

-- the history of all calls, behind the turn
abbrev pub history_after : {B : Type 0} → ℕ → History → Turn B → History
history_after actor history turn = (history ++ turn.others) ++ called actor turn.step turn.reply

-- A legal turn of a holder that left the core as `holder.at` and had seen the history: whatever others did, its own sight is as it was, and the
-- core stands for the longer history; then comes its step.
pub record IsTurn {B : Type 0} (kind : BranchKind B) (holder : Holder) (history : History) (turn : Turn B) : Type 0 where
  pub apart : All (λ (event : Event). event.actor ≢ holder.actor) turn.others
  pub alone : holder.alone ≡ true → (turn.others ≡ []) × (turn.before ≡ holder.at)
  pub kept : KeepsSight holder.rule kind.tells holder.at turn.before holder.actor
  pub sound : IsSound turn.before
  pub stood : StandsFor holder.rule kind.tells turn.before (history ++ turn.others)
  pub step : IsStep kind.number_of kind.data_of holder.rule (refused turn.before) holder.actor turn.step turn.reply turn.after
  pub after : IsSound turn.after
  pub stands : StandsFor holder.rule kind.tells turn.after (history_after holder.actor history turn)

-- the holder made this step, was answered this, and has seen the history behind it
pub record MadeTurn {B : Type 0} (kind : BranchKind B) (old new : Holder) (history : History) (made : Step B) (answer : Reply B) (Saw : History → Type 0) : Type 0 where
  pub turn : Turn B
  pub step : turn.step ≡ made
  pub reply : turn.reply ≡ answer
  pub after : turn.after ≡ new.at
  pub legal : IsTurn kind old history turn
  pub saw : Saw (history_after old.actor history turn)
