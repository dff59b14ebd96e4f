use Rattle.std.proofs.Common.{[]}
use Rattle.spl_message.specs.Rule.{newest}
use Rattle.spl_job.proofs.tests.an_empty_core_has_nothing_to_pick.Goals as goal

pub abandon-requires-clause-seen : goal.abandon-requires-clause-seen
abandon-requires-clause-seen g c = ([], rw c.new-turns.ensures (c.in_ok-core.ensures.stands newest))
