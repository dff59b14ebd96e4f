use denote.RattleType.{RattleType}
use denote.Builtin.{u64, u32, unit}
use denote.Param.Send.{sendable, param_send, param_sync, arg_sync, IsSend, IsSync}
use denote.Param.SendFields.{declared_send, declared_sync, as_row_sync}
use Rattle.spl_turn.proofs.Crossing.{seat_send, turn_sync}
use Rattle.spl_turn.specs.contracts.seat.Seat as Seat
use Rattle.spl_turn.specs.contracts.tests.Counter as Counter
use Rattle.spl_turn.specs.contracts.tests.Raise as Raise
use Rattle.spl_turn.specs.contracts.turn.Turn as Turn
use Rattle.spl_turn.specs.contracts.tests.CounterStandsFor.TheImpl as counting
use Rattle.spl_turn.proofs.tests.run_all.Lts as lts
use Rattle.spl_turn.proofs.tests.run_all.Goals as goal

counter_send : IsSend Counter.the_row
counter_send = search sendable depth 20

place_send : IsSend (Seat.the_row Counter.the_row Raise.the_row u64 u32 unit)
place_send = seat_send Counter.the_row Raise.the_row u64 u32 unit counter_send

counter_sync : IsSync (Turn.the_row Counter.the_row Raise.the_row u64 u32 unit counting.ghosts)
counter_sync = turn_sync Counter.the_row Raise.the_row u64 u32 unit counting.ghosts counter_send

pub for_each_mut-requires-send-T : goal.for_each_mut-requires-send-T
for_each_mut-requires-send-T g κs = λ κs' h. search (sendable, place_send)

pub for_each_mut-requires-sync-F : goal.for_each_mut-requires-sync-F
for_each_mut-requires-sync-F g κs = λ κs' h. let r = κs.type_bounds.sync-R in let t = counter_sync in
    param_sync 2 (lts.arg-0-2 g.row.R g.R.laws g.R.Threads-dict g.R.Wait-dict g.R.Abort-dict κs') record {
      shared = λ x b o κ. (
        (
          ((λ _. tt), ((λ _. tt), r.shared x.0.now.now x.0.now.ref_ptr.0 x.0.now.ref_ptr.1 _)),
          (((λ _. tt), t.shared x.1.now x.1.ref_ptr.0 x.1.ref_ptr.1 _), tt),
        ),
        λ _. tt,
      );
    }
