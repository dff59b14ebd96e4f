-- Legal rows: the rows of a report are one history of the callers' scripts.
use Rattle.std.specs.Prelude.{◌≡◌, ◌≢◌, ℕ, ◌⊎◌, List, [], ◌∷◌, ◌++◌, map, filter, All, is_some, Option, Some, None}
use Rattle.spl_message.specs.declared.answer.Answer.{Answer}
use Rattle.spl_message.specs.declared.answer.Answer.TheVariants.{Done, Missing, Value, Pairs, Stopped}
use Rattle.spl_message.specs.declared.call.Call.{Call}
use Rattle.spl_message.specs.declared.call.Call.TheVariants.{Put, Look, Piece}
use Rattle.spl_message.specs.Answer.{Answered, IsStopped}
use Rattle.spl_message.specs.History.{Event, History}
use Rattle.spl_message.specs.Rule.{Rule}
use Rattle.spl_script.specs.declared.lines.Deed.{Deed}
use Rattle.spl_script.specs.declared.lines.Deed.TheVariants.{One, Scan}
use Rattle.spl_script.specs.declared.lines.ScriptLine.{ScriptLine}
use Rattle.spl_script.specs.Verb.{lines_of}
use Rattle.spl_report.specs.declared.report.Row.{Row}
use Rattle.spl_report.specs.Merge.{IsInOrder, rows_of}

-- the history that rows show: the calls of those that have a place
abbrev pub event_of : Row → Event
event_of row = record { actor = row.caller; call = row.call }

abbrev pub history_of : List Row → History
history_of rows = map event_of (filter (λ row. is_some row.place) rows)

-- a put that was stopped changed nothing, so it has no place; a stopped lookup or piece may have one
abbrev pub MayHavePlace : Call → Option ℕ → Type 0
MayHavePlace (Put key message) place = place ≡ None
MayHavePlace (Look key) place = Unit {0}
MayHavePlace (Piece span) place = Unit {0}

-- the row of a call that was stopped
pub record IsStoppedRow (call : Call) (row : Row) : Type 0 where
  pub is : row.call ≡ call
  pub stopped : IsStopped row.answer
  pub place : MayHavePlace row.call row.place

-- the call for what a scan that ends here has left from this start on
abbrev pub piece_from : Option (List ℕ) → Option (List ℕ) → Call
piece_from end start = Piece (record { from = start; to = end })

-- the answer is that of a piece, of whose end this holds
abbrev pub IfPairs : Answer → (Option (List ℕ) → Type 0) → Type 0
IfPairs (Pairs end pairs) Holds = Holds end
IfPairs Done Holds = ⊥
IfPairs Missing Holds = ⊥
IfPairs (Value value) Holds = ⊥
IfPairs (Stopped cause) Holds = ⊥

-- The rows of a scan that is done: the first piece starts here, and each later one where the one before it ended; each asks up to
-- the scan's end, and only the last one ends there.
abbrev pub AreLinked : Option (List ℕ) → Option (List ℕ) → List Row → Type 0
AreLinked end start [] = ⊥
AreLinked end start (row ∷ rows) =
    (row.call ≡ piece_from end start)
    × IfPairs row.answer (λ reached. ((reached ≡ end) × (rows ≡ [])) ⊎ ((reached ≢ end) × AreLinked end reached rows))

-- The rows of a scan in which its caller ends early: answered pieces that link up and do not reach the end, and behind them the
-- stopped row, which may be missing.
abbrev pub AreCut : Option (List ℕ) → Option (List ℕ) → List Row → Type 0
AreCut end start [] = Unit {0}
AreCut end start (row ∷ rows) =
    ((rows ≡ []) × IsStoppedRow (piece_from end start) row)
    ⊎ ((row.call ≡ piece_from end start) × IfPairs row.answer (λ reached. (reached ≢ end) × AreCut end reached rows))

-- the rows that a line makes when it is done: one call is one row, and a scan is its pieces
abbrev pub IsChain : Deed → List Row → Type 0
IsChain (One call) rows = (row : Row) × (rows ≡ row ∷ []) × (row.call ≡ call) × ¬ (IsStopped row.answer)
IsChain (Scan span) rows = AreLinked span.to span.from rows

-- the rows that a line makes when its caller ends early in it: the stopped row, which may be missing, and before it those of a
-- scan's pieces that were answered
abbrev pub IsCutShort : Deed → List Row → Type 0
IsCutShort (One call) rows = (rows ≡ []) ⊎ ((row : Row) × (rows ≡ row ∷ []) × IsStoppedRow call row)
IsCutShort (Scan span) rows = AreCut span.to span.from rows

-- the rows expand the lines, each line in its place
abbrev pub Expand : List ScriptLine → List Row → Type 0
Expand [] rows = rows ≡ []
Expand (line ∷ lines) rows = (chain rest : List Row) × (rows ≡ chain ++ rest) × IsChain line.deed chain × Expand lines rest

-- the rows expand a proper front of the lines, and end within the next line
abbrev pub EndEarly : List ScriptLine → List Row → Type 0
EndEarly [] rows = ⊥
EndEarly (line ∷ lines) rows =
    IsCutShort line.deed rows ⊎ ((chain rest : List Row) × (rows ≡ chain ++ rest) × IsChain line.deed chain × EndEarly lines rest)

-- each row that has a place and was not stopped is answered with what the calls above it make of its key
abbrev pub IsAnswered : Rule → History → Row → Type 0
IsAnswered rule history row = (place : ℕ) → row.place ≡ Some place → ¬ (IsStopped row.answer) → Answered rule history place row.call row.answer

-- rows are one history of the script: each caller's calls stand in it once, and in the caller's order
pub record IsOneHistory (rows : List Row) (script : List ScriptLine) : Type 0 where
  pub order : (placed : ℕ) × IsInOrder placed rows
  pub each_caller : (caller : ℕ) → Expand (lines_of caller script) (rows_of caller rows) ⊎ EndEarly (lines_of caller script) (rows_of caller rows)

-- rows are legal for the script, under the rule of updates: one history, in which each call is answered rightly at its place
pub record IsLegal (rule : Rule) (rows : List Row) (script : List ScriptLine) : Type 0 where
  pub history : IsOneHistory rows script
  pub answers : All (IsAnswered rule (history_of rows)) rows

-- no caller ended early
abbrev pub IsComplete : List Row → List ScriptLine → Type 0
IsComplete rows script = (caller : ℕ) → Expand (lines_of caller script) (rows_of caller rows)
