use Rattle.std.proofs.Common.{[]}
use Rattle.spl_message.specs.Rule.{newest}
use Rattle.spl_range.proofs.tests.a_scan_gives_the_keys_that_have_a_value.Goals as goal

pub scan_all-requires-clause-seen : goal.scan_all-requires-clause-seen
scan_all-requires-clause-seen g c = ([], rw c.new-2.ensures (c.in_ok-core.ensures.stands newest))
