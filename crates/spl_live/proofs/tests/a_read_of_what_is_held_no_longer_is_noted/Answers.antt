use Rattle.spl_message.specs.Rule.{newest}
use Rattle.spl_session.proofs.Asks.{ask_first}
use Rattle.spl_live.proofs.tests.a_read_of_what_is_held_no_longer_is_noted.Goals as goal

pub use_late-requires-after_bounds : goal.use_late-requires-after_bounds
use_late-requires-after_bounds g c κs =
    rw c.new-4.ensures
    (rw c.new-3.ensures (ask_first 64 1 c.in_ok-core.core.parts (Unit {0}) (Unit {0}) c.in_ok-core.ensures.empty (c.in_ok-core.ensures.stands newest) tt tt))
