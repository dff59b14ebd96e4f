use Rattle.std.proofs.Common.{[]}
use Rattle.spl_message.specs.Rule.{newest}
use Rattle.spl_range.proofs.tests.an_empty_span_has_one_piece_without_pairs.Goals as goal

pub scan_nothing-requires-clause-seen : goal.scan_nothing-requires-clause-seen
scan_nothing-requires-clause-seen g c = ([], rw c.new-2.ensures (c.in_ok-core.ensures.stands newest))
