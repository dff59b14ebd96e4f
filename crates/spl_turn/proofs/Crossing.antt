-- Seats may be sent to other threads, and a turn may be shared by them, where its values may be sent.
use denote.RattleType.{RattleType}
use denote.Param.Send.{IsSend, IsSync, sendable}
use denote.Param.SendFields.{declared_send, declared_sync}
use Rattle.std.proofs.Crossing.{crosses}
use Rattle.std.proofs.Crossing as heap
use Rattle.atomic_table.proofs.shared.Seat.TheSendSync as place
use Rattle.atomic_table.proofs.owned.Table.TheSendSync as table
use Rattle.spl_turn.specs.declared.stands_for.StandsFor.{Ghosts}
use Rattle.std.specs.contracts.snapshot.Snapshot as Snapshot
use Rattle.spl_turn.specs.contracts.history.OneHistory as Rule
use Rattle.spl_turn.specs.contracts.history.OneHistoryTableRuleSlotOfKnownOfSnapshot.TheImpl as rule
use Rattle.spl_turn.specs.contracts.guarded.Last as Last
use Rattle.spl_turn.specs.contracts.guarded.Guarded as Guarded
use Rattle.spl_turn.specs.contracts.known.Known as Known
use Rattle.spl_turn.specs.contracts.seat.Seat as Seat
use Rattle.spl_turn.specs.contracts.turn.Turn as Turn

pub last_send : (V S R : RattleType) → IsSend (Last.the_row V S R)
last_send V S R = search (sendable, crosses) depth 20

pub guarded_send : (V S R : RattleType) → IsSend V → IsSend (Guarded.the_row V S R)
guarded_send V S R s = let l = last_send V S R in search (sendable, crosses) depth 20

pub seat_send : (V S R E F : RattleType) → IsSend V → IsSend (Seat.the_row V S R E F)
seat_send V S R E F s = declared_send (Seat.the_type V S R E F)
    (search sendable, (search sendable, (search sendable, (place.the_send (Guarded.the_row V S R) (Known.the_row E F) (guarded_send V S R s), tt))))

pub turn_sync : (V S R E F : RattleType) (g : Ghosts V.Denot S.Denot R.Denot E.Denot F.Denot) → IsSend V → IsSync (Turn.the_row V S R E F g)
turn_sync V S R E F g s = declared_sync (Turn.the_type V S R E F g) (
  table.the_sync (Guarded.the_row V S R) (Known.the_row E F) (Snapshot.the_row V) (Rule.the_row V) _ (rule.ghosts V S R E F g rule.no_dict rule.no_dict) _
      (guarded_send V S R s) heap.send heap.sync heap.frees,
  tt,
)

pub turn_send : (V S R E F : RattleType) (g : Ghosts V.Denot S.Denot R.Denot E.Denot F.Denot) → IsSend V → IsSend (Turn.the_row V S R E F g)
turn_send V S R E F g s = declared_send (Turn.the_type V S R E F g) (
  table.the_send (Guarded.the_row V S R) (Known.the_row E F) (Snapshot.the_row V) (Rule.the_row V) _ (rule.ghosts V S R E F g rule.no_dict rule.no_dict) _
      (guarded_send V S R s) heap.send heap.frees,
  tt,
)
