use Rattle.spl_bundle.proofs.Soundness.{within_limits, next_is}
use Rattle.spl_bundle.proofs.bundles.Bundles.next.Goals as goal

pub returns-clause-limits : goal.returns-clause-limits
returns-clause-limits c = rw (← c.self.view_is) (within_limits _ c.self.invariant)

pub returns-clause-value : goal.returns-clause-value
returns-clause-value c = rw (← c.self.view_is) (next_is _ c.self.invariant)
