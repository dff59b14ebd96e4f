-- How a run ends: which caller ended early, and why.
use Rattle.std.specs.Prelude.{◌≡◌, ℕ, ◌<◌, ◌⊎◌, Bool, true, List, [], ◌∷◌, All, Option, Some, None, IfSome}
use Rattle.std.specs.Option.{option_or}
use Rattle.spl_message.specs.declared.answer.Answer.{Answer}
use Rattle.spl_message.specs.declared.answer.Answer.TheVariants.{Done, Missing, Value, Pairs, Stopped}
use Rattle.spl_message.specs.declared.answer.Cause.{Cause}
use Rattle.spl_message.specs.declared.answer.Cause.TheVariants.{Fault, Damaged, Full, Nodes, Spent, Memory}
use Rattle.spl_message.specs.declared.call.Call.{Call}
use Rattle.spl_message.specs.declared.call.Call.TheVariants.{Put, Look, Piece}
use Rattle.spl_message.specs.Rule.{Rule}
use Rattle.spl_script.specs.declared.lines.ScriptLine.{ScriptLine}
use Rattle.spl_script.specs.Verb.{lines_of}
use Rattle.spl_report.specs.declared.report.Row.{Row}
use Rattle.spl_report.specs.Merge.{rows_of}
use Rattle.spl_run.specs.Legal.{Expand, EndEarly, IsLegal, IsOneHistory, IsComplete}

-- why an answer was stopped, where it was
abbrev pub cause_of : Answer → Option Cause
cause_of (Stopped cause) = Some cause
cause_of Done = None
cause_of Missing = None
cause_of (Value value) = None
cause_of (Pairs end pairs) = None

-- why the first of the rows that was stopped was, where one was
abbrev pub cause_in : List Row → Option Cause
cause_in [] = None
cause_in (row ∷ rows) = option_or (cause_of row.answer) (cause_in rows)

-- the status of a run whose first caller that ended early was stopped so; where its stopped row is missing, memory ran out
abbrev pub status_of_cause : Option Cause → ℕ
status_of_cause (Some Fault) = 5
status_of_cause (Some Full) = 6
status_of_cause (Some Memory) = 7
status_of_cause None = 7
status_of_cause (Some Damaged) = 8
status_of_cause (Some Nodes) = 9
status_of_cause (Some Spent) = 10

-- the caller is the lowest-numbered one that ended early
pub record IsFirstToEnd (caller : ℕ) (rows : List Row) (script : List ScriptLine) : Type 0 where
  pub early : EndEarly (lines_of caller script) (rows_of caller rows)
  pub others : (other : ℕ) → other < caller → Expand (lines_of other script) (rows_of other rows)

-- the status of a run with these rows: 0 where no caller ended early, or else that of the cause of the first that did
abbrev pub HasStatus : List Row → List ScriptLine → ℕ → Type 0
HasStatus rows script status =
    ((status ≡ 0) × IsComplete rows script)
    ⊎ ((caller : ℕ) × IsFirstToEnd caller rows script × (status ≡ status_of_cause (cause_in (rows_of caller rows))))

-- which causes a stopped call may have: a lookup and a piece ask for no extent and no node, and a device that tells its pages gives no damaged one
abbrev pub MayStop : Bool → Call → Cause → Type 0
MayStop tells call Fault = Unit {0}
MayStop tells call Damaged = tells ≡ true → ⊥
MayStop tells (Put key message) Full = Unit {0}
MayStop tells (Look key) Full = ⊥
MayStop tells (Piece span) Full = ⊥
MayStop tells (Put key message) Nodes = Unit {0}
MayStop tells (Look key) Nodes = ⊥
MayStop tells (Piece span) Nodes = ⊥
MayStop tells call Spent = Unit {0}
MayStop tells call Memory = Unit {0}

abbrev pub MayStand : Bool → Row → Type 0
MayStand tells row = IfSome (cause_of row.answer) (MayStop tells row.call)

-- the rows are those of a run of the script, which ends with this status; where devices tell their pages each call is answered rightly
pub record IsRunOf (rule : Rule) (tells : Bool) (script : List ScriptLine) (rows : List Row) (status : ℕ) : Type 0 where
  pub history : IsOneHistory rows script
  pub legal : tells ≡ true → IsLegal rule rows script
  pub ended : HasStatus rows script status
  pub causes : All (MayStand tells) rows
