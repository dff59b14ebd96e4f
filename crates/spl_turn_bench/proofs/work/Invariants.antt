use Rattle.std.proofs.Common.{◌≡◌, ◌+◌}
use Rattle.spl_turn.specs.Whose.{IsSeatOf}
use Rattle.spl_turn_bench.proofs.work.Given as goal

abbrev pub invariant-loop : goal.invariant-loop
invariant-loop g l = IsSeatOf l.turn l.seat × (l.seat.turns ≡ l.initial.seat.turns + l.counter)
