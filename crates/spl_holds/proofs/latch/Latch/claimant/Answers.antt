use Rattle.std.proofs.Common.{◌∙◌}
use Rattle.spl_holds.proofs.LatchLemmas.{claimant_is}
use Rattle.spl_holds.proofs.latch.Latch.claimant.Goals as goal

pub returns : goal.returns
returns c = rw (← c.self.view_is) (c.actor.ensures ∙ claimant_is _ _ c.self.invariant)
