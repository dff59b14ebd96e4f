use Rattle.spl_message.specs.Rule.{newest}
use Rattle.spl_session.proofs.Asks.{ask_first}
use Rattle.spl_session.proofs.tests.a_key_is_found_once_it_was_inserted.Goals as goal

pub insert-requires-after_bounds : goal.insert-requires-after_bounds
insert-requires-after_bounds g c κs =
    rw c.new-2.ensures (ask_first 8 1 c.in_ok-core.core.parts (Unit {0}) (Unit {0}) c.in_ok-core.ensures.empty (c.in_ok-core.ensures.stands newest) tt tt)
