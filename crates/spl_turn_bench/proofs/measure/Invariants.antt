use Rattle.std.proofs.Common.{◌≡◌, ◌+◌, ◌<◌, All}
use Rattle.spl_turn.specs.Whose.{IsSeatOf}
use Rattle.spl_turn_bench.proofs.measure.Given as goal

abbrev pub invariant-loop : goal.invariant-loop
invariant-loop g l = IsSeatOf l.turn l.first × (l.first.turns ≡ 0) × (l.first.made ≡ l.counter + 1) × All (λ seat. IsSeatOf l.turn seat × (seat.turns ≡ 0)) l.seats.items
