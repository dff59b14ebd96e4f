-- What the step that passes bundles on shows of the job.
use Rattle.std.proofs.Common.{◌≡◌, ℕ, ◌∙◌}
use Rattle.spl_desk.specs.Holder.{Holder}
use Rattle.spl_desk.specs.Turn.{Turn}
use Rattle.spl_job.specs.declared.flushing.Flushing.{Flushing}
use Rattle.spl_job.specs.declared.flushing.Flushing.TheVariants as flushing
use Rattle.spl_job.specs.Flushing.{IsFlushTurn}
use Rattle.spl_job.specs.Holding.{Holding, IsHolding, told_by}
use Rattle.spl_flusher.specs.Flushes.{ShowsFlush, outcome_of}

pub shows_outcome : {B : Type 0} (parent child : ℕ) (answer : Flushing) (turn : Turn B) → IsFlushTurn parent child answer turn → ShowsFlush parent child (outcome_of answer) turn
shows_outcome parent child flushing.Done turn is = is
shows_outcome parent child flushing.Moved turn is = is
shows_outcome parent child flushing.NeedsRoom turn is = is
shows_outcome parent child (flushing.NeedsCompact branches) turn is = is

-- the actor was told of as many nodes as what it has says
pub told_still : (old new : Holder) (p : Holding) → p.told ≡ told_by old → IsHolding new p → told_by new ≡ told_by old
told_still old new p were is = is.has.told ∙ were
