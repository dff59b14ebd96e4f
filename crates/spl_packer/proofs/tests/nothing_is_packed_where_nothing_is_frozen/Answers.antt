use Rattle.std.proofs.Common.{[]}
use Rattle.spl_message.specs.Rule.{newest}
use Rattle.spl_packer.proofs.tests.nothing_is_packed_where_nothing_is_frozen.Goals as goal

pub abandon-requires-clause-seen : goal.abandon-requires-clause-seen
abandon-requires-clause-seen g c = ([], rw c.new-2.ensures (c.in_ok-core.ensures.stands newest))
