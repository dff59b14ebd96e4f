use Rattle.std.proofs.Common.{rules}
use Rattle.spl_bundle.proofs.Soundness.{within_limits, length-lists}
use Rattle.spl_bundle.proofs.bundles.Bundles.is_full.Goals as goal

pub returns-clause-limits : goal.returns-clause-limits
returns-clause-limits c = rw (← c.self.view_is) (within_limits _ c.self.invariant)

pub returns-clause-full : goal.returns-clause-full
returns-clause-full c = rw (← c.self.view_is, length-lists) (search rules)
