use denote.Builtin.{u64, u32, unit}
use denote.Param.Send.{sendable, param_sync, IsSend, IsSync}
use Rattle.spl_turn.proofs.Crossing.{seat_send, turn_sync}
use Rattle.spl_turn.specs.contracts.seat.Seat as Seat
use Rattle.spl_turn.specs.contracts.turn.Turn as Turn
use Rattle.spl_turn_bench.specs.contracts.Mixer as Mixer
use Rattle.spl_turn_bench.specs.contracts.Mix as Mix
use Rattle.spl_turn_bench.specs.contracts.MixerStandsFor.TheImpl as mixing
use Rattle.spl_turn_bench.proofs.work_all.Lts as lts
use Rattle.spl_turn_bench.proofs.work_all.Goals as goal

mixer_send : IsSend Mixer.the_row
mixer_send = search sendable depth 20

word_sync : IsSync u32
word_sync = search sendable

place_send : IsSend (Seat.the_row Mixer.the_row Mix.the_row u64 u32 unit)
place_send = seat_send Mixer.the_row Mix.the_row u64 u32 unit mixer_send

mixer_sync : IsSync (Turn.the_row Mixer.the_row Mix.the_row u64 u32 unit mixing.ghosts)
mixer_sync = turn_sync Mixer.the_row Mix.the_row u64 u32 unit mixing.ghosts mixer_send

pub for_each_mut-requires-send-T : goal.for_each_mut-requires-send-T
for_each_mut-requires-send-T g κs = λ κs' h. search (sendable, place_send)

pub for_each_mut-requires-sync-F : goal.for_each_mut-requires-sync-F
for_each_mut-requires-sync-F g κs = λ κs' h. let r = κs.type_bounds.sync-R in let t = mixer_sync in
    param_sync 2 (lts.arg-0-2 g.row.R g.R.laws g.R.Threads-dict g.R.Wait-dict κs') record {
      shared = λ x b o κ. (
        (
          ((λ _. tt), r.shared x.0.now x.0.ref_ptr.0 x.0.ref_ptr.1 _),
          (
            ((λ _. tt), t.shared x.1.now x.1.ref_ptr.0 x.1.ref_ptr.1 _),
            (
              ((λ _. tt), word_sync.shared x.2.now x.2.ref_ptr.0 x.2.ref_ptr.1 κ),
              (((λ _. tt), word_sync.shared x.3.now x.3.ref_ptr.0 x.3.ref_ptr.1 κ), tt),
            ),
          ),
        ),
        λ _. tt,
      );
    }
