-- What the rows of a run of caller 0 are so far, and what one call more and one line more add to them.
use Rattle.std.specs.Prelude.{◌≡◌, ℕ, Bool, true, ◌⊎◌, List, [], ◌∷◌, ◌++◌, length, None, Some, IfSome, Result, Ok, Err}
use Rattle.std.specs.List.{AllByRecursion}
use Rattle.spl_message.specs.declared.answer.Answer.{Answer}
use Rattle.spl_message.specs.declared.answer.Cause.{Cause}
use Rattle.spl_message.specs.declared.answer.Cause.TheVariants.{Memory}
use Rattle.spl_message.specs.declared.call.Call.{Call}
use Rattle.spl_message.specs.History.{History}
use Rattle.spl_message.specs.Rule.{Rule}
use Rattle.spl_port.specs.Counts.{Counts}
use Rattle.spl_branch.specs.Branch.{Branch}
use Rattle.spl_script.specs.declared.lines.Deed.{Deed}
use Rattle.spl_desk.specs.Holder.{Holder}
use Rattle.spl_desk.specs.Turn.{Turn}
use Rattle.spl_report.specs.declared.report.Row.{Row}
use Rattle.spl_report.specs.Merge.{HavePlaces}
use Rattle.spl_run.specs.Legal.{IsAnswered, IsChain, IsCutShort, history_of}
use Rattle.spl_run.specs.Status.{MayStop, cause_of}
use Rattle.spl_run.specs.Turns.{IsMade, IsStoppedBy, counted}

-- the rows of caller 0 so far: they have the places from 0 on, none was stopped, and where devices tell their pages each is answered rightly
pub record AreGoing (rule : Rule) (tells : Bool) (rows : List Row) : Type 0 where
  pub places : HavePlaces 0 rows
  pub callers : AllByRecursion (λ row. row.caller ≡ 0) rows
  pub going : AllByRecursion (λ row. cause_of row.answer ≡ None) rows
  pub answers : tells ≡ true → AllByRecursion (IsAnswered rule (history_of rows)) rows

module _ (tells : Bool) (holder : Holder) (history : History) (before after : Counts) (steps : ℕ) (old new : List Row) (who : ℕ) (asked : Call) where
  -- the call was made, and its row stands behind the others
  pub record Adds (turns : List (Turn Branch)) (seen : History) (row : Row) : Type 0 where
    pub rows : new ≡ old ++ row ∷ []
    pub caller : row.caller ≡ who
    pub call : row.call ≡ asked
    pub is : IsMade tells holder history before after steps row.call row.place row.answer turns seen

  -- the row is there and its answer is such; or it was stopped for the cause; or memory ran out before the call was made, and there is none
  abbrev pub Logs : (Answer → Type 0) → Result (Unit {0}) Cause → List (Turn Branch) → History → Type 0
  Logs Is (Ok _) turns seen = (row : Row) × Adds turns seen row × Is row.answer
  Logs Is (Err cause) turns seen =
      ((new ≡ old) × (cause ≡ Memory) × (seen ≡ history))
      ⊎ ((row : Row) × Adds turns seen row × (cause_of row.answer ≡ Some cause))

-- the row of caller 0 is that of a call that was stopped for the cause; where it has a place, it is the next one
pub record Stops (tells : Bool) (before after : Counts) (steps count : ℕ) (turns : List (Turn Branch)) (row : Row) (cause : Cause) : Type 0 where
  pub caller : row.caller ≡ 0
  pub next : IfSome row.place (λ place. place ≡ count)
  pub stopped : cause_of row.answer ≡ Some cause
  pub may : MayStop tells row.call cause
  pub why : IsStoppedBy tells before after steps turns cause

module _ (rule : Rule) (tells : Bool) (before after : Counts) (steps : ℕ) (old new : List Row) (deed : Deed) where
  -- the line is done, and its rows stand behind the others
  pub record Does (history : History) : Type 0 where
    pub chain : List Row
    pub rows : new ≡ old ++ chain
    pub is : IsChain deed chain
    pub going : AreGoing rule tells new
    pub seen : history ≡ counted new

  -- the caller ended early in the line: behind its rows that were answered stands the stopped one, or none where memory ran out
  pub record Breaks (cause : Cause) (turns : List (Turn Branch)) (history : History) : Type 0 where
    pub front : List Row
    pub tail : List Row
    pub rows : new ≡ (old ++ front) ++ tail
    pub cut : IsCutShort deed (front ++ tail)
    pub going : AreGoing rule tells (old ++ front)
    pub last : ((tail ≡ []) × (cause ≡ Memory)) ⊎ ((row : Row) × (tail ≡ row ∷ []) × Stops tells before after steps (length (old ++ front)) turns row cause)
    pub seen : history ≡ counted new

  -- what a line leaves
  abbrev pub Runs : Result (Unit {0}) Cause → List (Turn Branch) → History → Type 0
  Runs (Ok _) turns seen = Does seen
  Runs (Err cause) turns seen = Breaks cause turns seen
