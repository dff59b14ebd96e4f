use Rattle.std.proofs.Common.{[]}
use Rattle.spl_message.specs.Rule.{newest}
use Rattle.spl_range.proofs.tests.places_of_pieces_rise.Goals as goal

pub scan_twice-requires-clause-seen : goal.scan_twice-requires-clause-seen
scan_twice-requires-clause-seen g c = ([], rw c.new-2.ensures (c.in_ok-core.ensures.stands newest))
