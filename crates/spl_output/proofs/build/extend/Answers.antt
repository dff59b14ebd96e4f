use Rattle.std.proofs.Common.{refl}
use Rattle.spl_output.proofs.build.extend.Goals as goal

pub returns-in_default-clause-cause : goal.returns-in_default-clause-cause
returns-in_default-clause-cause g c = c.grant.ensures.none (rw c.in_default.is refl)
