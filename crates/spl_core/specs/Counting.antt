-- How often branches are named at most.
use Rattle.std.specs.Prelude.{ℕ, ◌≤◌, ◌*◌}
use Rattle.spl_state.specs.Whole.{Whole, counts}

-- A step names a branch at most 1,024 times more: so no count comes near its last value.
abbrev pub AreCounted : Whole → Type 0
AreCounted whole = (number : ℕ) → counts whole number ≤ 1024 * whole.counters.steps
