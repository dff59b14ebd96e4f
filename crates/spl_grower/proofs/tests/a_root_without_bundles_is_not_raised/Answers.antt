use Rattle.std.proofs.Common.{[]}
use Rattle.spl_message.specs.Rule.{newest}
use Rattle.spl_grower.proofs.tests.a_root_without_bundles_is_not_raised.Goals as goal

pub raise-requires-clause-seen : goal.raise-requires-clause-seen
raise-requires-clause-seen g c = ([], rw c.new-turns.ensures (c.in_ok-core.ensures.stands newest))
