-- What the run of a script by one caller leaves of a core.
use Rattle.std.specs.Prelude.{◌≡◌, ℕ, ◌^◌, ◌≤◌, Bool, true, List, [], ◌∷◌}
use Rattle.spl_message.specs.Rule.{Rule}
use Rattle.spl_port.specs.Counts.{Counts, Rose, no_counts}
use Rattle.spl_alone.specs.Alone.{only_holder}
use Rattle.spl_branch.specs.Branch.{Branch}
use Rattle.spl_core.specs.Standing.{StandsFor}
use Rattle.spl_state.specs.declared.reply.Reply.TheVariants as reply
use Rattle.spl_state.specs.Sound.{IsEmpty}
use Rattle.spl_state.specs.Whole.{Whole}
use Rattle.spl_desk.specs.Branches.{branch_kind}
use Rattle.spl_desk.specs.Calls.{HasNothing}
use Rattle.spl_desk.specs.Turn.{Turn}
use Rattle.spl_desk.specs.Walk.{Walks}
use Rattle.spl_report.specs.declared.report.Row.{Row}
use Rattle.spl_run.specs.Turns.{EndsFor, HasReadDamage, WasTold, counted}

-- no call was made, and the caller has nothing
pub record IsFresh (rule : Rule) (tells : Bool) (whole : Whole) : Type 0 where
  pub stands : StandsFor rule tells whole []
  pub nothing : HasNothing whole 0
  pub steps : whole.counters.steps ≤ 2 ^ 40

-- the turns of the caller led the core from the start to the end, where its history is that of the rows, and show why the run ended
pub record HasRun (rule : Rule) (tells : Bool) (start : Whole) (before after : Counts) (end : Whole) (rows : List Row) (status : ℕ) : Type 0 where
  pub turns : List (Turn Branch)
  pub walks : Walks (branch_kind tells) (only_holder rule start) [] turns end (counted rows)
  pub stands : StandsFor rule tells end (counted rows)
  pub ends : EndsFor tells before after end.counters.steps turns rows status

-- In a run of the only caller of an empty core of so many extents, whose calls are those of the rows, this holds of its turns and of the core in the end.
pub record HasTurns (rule : Rule) (extents : ℕ) (tells : Bool) (rows : List Row) (Says : List (Turn Branch) → Whole → Type 0) : Type 0 where
  pub start : Whole
  pub empty : IsEmpty extents 1 start
  pub turns : List (Turn Branch)
  pub end : Whole
  pub walks : Walks (branch_kind tells) (only_holder rule start) [] turns end (counted rows)
  pub says : Says turns end

-- no extent was free at a turn
abbrev pub WasFull : Rule → ℕ → Bool → List Row → Type 0
WasFull rule extents tells rows = HasTurns rule extents tells rows (λ turns end. WasTold (λ answer. answer ≡ reply.NoExtent) turns)

-- no node was left at a turn
abbrev pub WasWide : Rule → ℕ → Bool → List Row → Type 0
WasWide rule extents tells rows = HasTurns rule extents tells rows (λ turns end. WasTold (λ answer. (nodes : ℕ) × (answer ≡ reply.Nodes nodes)) turns)

-- 2^40 turns were made
abbrev pub WasSpent : Rule → ℕ → Bool → List Row → Type 0
WasSpent rule extents tells rows = HasTurns rule extents tells rows (λ turns end. 2 ^ 40 ≤ end.counters.steps)

-- why a run with such rows over so many extents, while its device's counts went from the old ones to the new ones, ended with the status
pub record HasCause (rule : Rule) (extents : ℕ) (tells : Bool) (before after : Counts) (status : ℕ) (Are : List Row → Type 0) : Type 0 where
  pub device : status ≡ 5 → Rose before.faults after.faults
  pub full : status ≡ 6 → (rows : List Row) × Are rows × WasFull rule extents tells rows
  pub damaged : status ≡ 8 → (tells ≡ true → ⊥) × HasReadDamage before after
  pub nodes : status ≡ 9 → (rows : List Row) × Are rows × WasWide rule extents tells rows
  pub spent : status ≡ 10 → (rows : List Row) × Are rows × WasSpent rule extents tells rows

-- the counts of the first device
abbrev pub first : List Counts → Counts
first [] = no_counts
first (counts ∷ others) = counts
