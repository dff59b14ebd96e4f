-- Which turn a seat belongs to.
use Rattle.std.specs.Prelude.{◌≡◌}
use Rattle.atomic_table.specs.Seated.{TableId}
use Rattle.spl_turn.specs.Turning.{turn_of}
use Rattle.spl_turn.specs.declared.seat.Seat.{Seat}
use Rattle.spl_turn.specs.declared.turn.Turn.{Turn}

module _ {V S R E F : Type 0} where
  abbrev pub table_of : Turn V S R E F → TableId
  table_of turn = turn.table.shared.table_id

  -- the turn made the seat
  abbrev pub IsSeatOf : Turn V S R E F → Seat V S R E F → Type 0
  IsSeatOf turn seat = turn_of seat ≡ table_of turn
