use Rattle.spl_bundle.proofs.Soundness.{within_limits}
use Rattle.spl_bundle.proofs.bundles.Bundles.first.Goals as goal

pub returns-clause-limits : goal.returns-clause-limits
returns-clause-limits c = rw (← c.self.view_is) (within_limits _ c.self.invariant)
