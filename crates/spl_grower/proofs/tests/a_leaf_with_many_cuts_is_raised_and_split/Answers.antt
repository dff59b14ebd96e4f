use Rattle.std.proofs.Common.{[]}
use Rattle.spl_message.specs.Rule.{newest}
use Rattle.spl_grower.proofs.tests.a_leaf_with_many_cuts_is_raised_and_split.Goals as goal

pub hang-requires-clause-seen : goal.hang-requires-clause-seen
hang-requires-clause-seen g c = ([], rw c.new-turns.ensures (c.in_ok-core.ensures.stands newest))
