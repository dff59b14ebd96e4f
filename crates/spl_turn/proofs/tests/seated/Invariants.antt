use Rattle.std.proofs.Common.{◌≡◌, ◌+◌, ◌≤◌, All, length}
use Rattle.spl_turn.specs.Whose.{IsSeatOf}
use Rattle.spl_turn.proofs.tests.seated.Given as goal

abbrev pub invariant-loop : goal.invariant-loop
invariant-loop g l = IsSeatOf l.turn l.first × (l.first.turns ≡ 0) × (l.first.made ≡ l.counter) × (length l.others.items + 1 ≡ l.counter) × All (λ seat. IsSeatOf l.turn seat × (seat.turns ≡ 0)) l.others.items
