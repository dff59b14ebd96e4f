-- How the step that passes bundles on to a child is answered.
use Rattle.std.specs.Prelude.{◌≡◌, ℕ}
use Rattle.spl_state.specs.declared.reply.Reply.{Reply}
use Rattle.spl_state.specs.declared.reply.Reply.TheVariants as reply
use Rattle.spl_core.specs.declared.step.Step.TheVariants as step
use Rattle.spl_desk.specs.Turn.{Turn}
use Rattle.spl_job.specs.declared.flushing.Flushing.{Flushing}
use Rattle.spl_job.specs.declared.flushing.Flushing.TheVariants as flushing

module _ {B : Type 0} where
  -- what the step was answered
  abbrev pub IsFlushAnswer : ℕ → Flushing → Reply B → Type 0
  IsFlushAnswer child flushing.Done answer = answer ≡ reply.Done
  IsFlushAnswer child flushing.Moved answer = answer ≡ reply.Moved child
  IsFlushAnswer child flushing.NeedsRoom answer = answer ≡ reply.NeedsRoom
  IsFlushAnswer child (flushing.NeedsCompact branches) answer = answer ≡ reply.NeedsCompact branches

  -- the turn in which the parent's bundles were to be passed on to the child
  abbrev pub IsFlushTurn : ℕ → ℕ → Flushing → Turn B → Type 0
  IsFlushTurn parent child result turn = (turn.step ≡ step.Flush parent child) × IsFlushAnswer child result turn.reply
