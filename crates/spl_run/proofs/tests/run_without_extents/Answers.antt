use Rattle.std.specs.Prelude.{true}
use Rattle.spl_message.specs.Rule.{newest}
use Rattle.spl_run.proofs.Solos.{is_fresh}
use Rattle.spl_run.proofs.tests.run_without_extents.Goals as goal

pub solo-ended-requires-clause-fresh : goal.solo-ended-requires-clause-fresh
solo-ended-requires-clause-fresh c κs = is_fresh newest true 0 1 c.in_ok-core.core.parts c.in_ok-core.ensures.empty (c.in_ok-core.ensures.stands newest)
