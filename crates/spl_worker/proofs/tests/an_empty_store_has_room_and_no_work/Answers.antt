use Rattle.std.proofs.Common.{[]}
use Rattle.spl_message.specs.Rule.{newest}
use Rattle.spl_worker.proofs.tests.an_empty_store_has_room_and_no_work.Goals as goal

pub abandon-requires-clause-seen : goal.abandon-requires-clause-seen
abandon-requires-clause-seen g c = ([], rw c.new-2.ensures (c.in_ok-core.ensures.stands newest))
