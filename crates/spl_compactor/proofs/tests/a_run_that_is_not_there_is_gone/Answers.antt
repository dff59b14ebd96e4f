use Rattle.std.proofs.Common.{◌≡◌, [], arith}
use Rattle.spl_message.specs.Rule.{newest}
use Rattle.spl_state.specs.Actor.{actor_in}
use Rattle.spl_compactor.proofs.Fresh.{empty_told}
use Rattle.spl_compactor.proofs.tests.a_run_that_is_not_there_is_gone.Goals as goal

pub abandon-requires-clause-seen : goal.abandon-requires-clause-seen
abandon-requires-clause-seen g c = ([], rw c.new-2.ensures (c.in_ok-core.ensures.stands newest))

pub compact-requires-clause-known : goal.compact-requires-clause-known
compact-requires-clause-known g c κs =
    let first : (actor_in c.new-2.result.core.parts.actors 0).told ≡ 1 = rw c.new-2.ensures (empty_told 8 1 c.in_ok-core.core.parts c.in_ok-core.ensures.empty) in
    let same = c.abandon.ensures.told in
    omega (arith, first, same)
