use Rattle.std.proofs.Common.{[]}
use Rattle.spl_message.specs.Rule.{newest}
use Rattle.spl_session.proofs.Fresh.{empty_nothing}
use Rattle.embed.proofs.main.Goals as goal

-- no call was made before the put
pub insert-requires-clause-nothing : goal.insert-requires-clause-nothing
insert-requires-clause-nothing c κs = rw c.new-2.ensures (empty_nothing 8 1 c.in_ok-core.core.parts c.in_ok-core.ensures.empty)

pub insert-requires-clause-seen : goal.insert-requires-clause-seen
insert-requires-clause-seen c κs = rw c.new-2.ensures ([], c.in_ok-core.ensures.stands newest)

-- and the put is all that was made before the lookup
pub lookup-requires-clause-seen : goal.lookup-requires-clause-seen
lookup-requires-clause-seen c κs =
    let made = c.in_ok-insert.ensures.placed [] (rw c.new-2.ensures (c.in_ok-core.ensures.stands newest)) in
    (made.seen, made.saw)
