use Rattle.std.specs.Prelude.{true}
use Rattle.spl_message.specs.Rule.{newest}
use Rattle.spl_run.proofs.Solos.{is_fresh}
use Rattle.spl_load.proofs.tests.load_of.Goals as goal

pub load-requires-clause-fresh : goal.load-requires-clause-fresh
load-requires-clause-fresh c κs = is_fresh newest true 8192 1 c.in_ok-core.core.parts c.in_ok-core.ensures.empty (c.in_ok-core.ensures.stands newest)
