use Rattle.std.proofs.Common.{[]}
use Rattle.spl_message.specs.Rule.{newest}
use Rattle.spl_flusher.proofs.tests.bundles_move_to_a_child_and_to_no_other_node.Goals as goal

pub raise-requires-clause-seen : goal.raise-requires-clause-seen
raise-requires-clause-seen g c = ([], rw c.new-turns.ensures (c.in_ok-core.ensures.stands newest))
