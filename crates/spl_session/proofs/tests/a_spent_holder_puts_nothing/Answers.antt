use Rattle.std.proofs.Common.{◌^◌, arith}
use Rattle.spl_message.specs.Rule.{newest}
use Rattle.spl_session.proofs.Asks.{late_first}
use Rattle.spl_session.proofs.tests.a_spent_holder_puts_nothing.Goals as goal

pub insert-requires-after_bounds : goal.insert-requires-after_bounds
insert-requires-after_bounds g c κs =
    late_first (2 ^ 40) 8 1 c.new-2.result.core.parts (Unit {0}) (Unit {0}) (omega arith) (rw c.new-2.ensures c.in_ok-core.ensures.empty) (rw c.new-2.ensures (c.in_ok-core.ensures.stands newest)) tt tt
