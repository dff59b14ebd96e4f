-- The order of the rows of a report, and the logs that its rows come from.
use Rattle.std.specs.Prelude.{◌≡◌, ℕ, ◌+◌, ◌<◌, ◌≤◌, ◌==◌, nat_lt, Bool, true, false, IsTrue, IsSome, IfSome, List, [], ◌∷◌, length, take, drop, map, filter, flat_map, slice_index_or, All, Contains, Option, Some, None}
use Rattle.std.specs.List.{AllByRecursion}
use Rattle.std.specs.List.Sorted.{IsStrictlyIncreasing}
use Rattle.spl_message.specs.Answer.{IsStopped}
use Rattle.spl_report.specs.declared.report.Row.{Row}

-- Places come in their order. What has a place comes before what has none, and there the callers are in order.
abbrev pub comes_before : Option ℕ → ℕ → Option ℕ → ℕ → Bool
comes_before (Some place) caller (Some later) other = nat_lt place later
comes_before (Some place) caller None other = true
comes_before None caller (Some later) other = false
comes_before None caller None other = nat_lt caller other

abbrev pub stands_before : Row → Row → Bool
stands_before row later = comes_before row.place row.caller later.place later.caller

-- each row stands before all that follow it
abbrev pub IsOrdered : List Row → Type 0
IsOrdered [] = Unit {0}
IsOrdered (row ∷ rows) = AllByRecursion (λ later. IsTrue (stands_before row later)) rows × IsOrdered rows

-- the rows of a caller, in their order
abbrev pub rows_of : ℕ → List Row → List Row
rows_of caller rows = filter (λ row. row.caller == caller) rows

-- the log of a caller, and the rows of all logs
abbrev pub log_of : ℕ → List (List Row) → List Row
log_of caller logs = slice_index_or logs caller []

abbrev pub rows_in : List (List Row) → List Row
rows_in logs = flat_map (λ log. log) logs

-- from a first caller on, each log has rows of its caller alone
abbrev pub HaveCallers : ℕ → List (List Row) → Type 0
HaveCallers first [] = Unit {0}
HaveCallers first (log ∷ logs) = AllByRecursion (λ row. row.caller ≡ first) log × HaveCallers (first + 1) logs

-- The log at a position has the rows of that caller, in order: as one caller made them all, their places rise, and a row
-- without a place is the last one. No place stands in two logs.
pub record AreLogs (logs : List (List Row)) : Type 0 where
  pub callers : HaveCallers 0 logs
  pub in_order : AllByRecursion IsOrdered logs
  pub apart : (row other : Row) → Contains (rows_in logs) row → Contains (rows_in logs) other → IsSome row.place → row.place ≡ other.place → row.caller ≡ other.caller

-- the places of the rows are the numbers below a count, and each row without a place was stopped
pub record ArePlaced (placed : ℕ) (rows : List Row) : Type 0 where
  pub each : (place : ℕ) → place < placed → (row : Row) × Contains rows row × (row.place ≡ Some place)
  pub below : All (λ row. IfSome row.place (λ place. place < placed)) rows
  pub stopped : All (λ row. row.place ≡ None → IsStopped row.answer) rows

-- the places rise from a first one without a gap
abbrev pub HavePlaces : ℕ → List Row → Type 0
HavePlaces first [] = Unit {0}
HavePlaces first (row ∷ rows) = (row.place ≡ Some first) × HavePlaces (first + 1) rows

-- so many rows with a place come first, and the row at a position has that position as its place; the rows without a place
-- follow in the order of their callers, and each of them was stopped
pub record IsInOrder (placed : ℕ) (rows : List Row) : Type 0 where
  pub within : placed ≤ length rows
  pub places : HavePlaces 0 (take placed rows)
  pub stopped : All (λ row. (row.place ≡ None) × IsStopped row.answer) (drop placed rows)
  pub by_caller : IsStrictlyIncreasing (map (λ (row : Row). row.caller) (drop placed rows))
