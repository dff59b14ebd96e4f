-- What the calls of the only caller of a core leave.
use Rattle.std.specs.Prelude.{◌≡◌, ℕ, ◌^◌, ◌<◌, ◌≤◌, ◌⊎◌, true, Bool, List, [], ◌∷◌, ◌++◌, length, map, Contains, Option, Some, None, IsSome, IfSome, MatchOption}
use Rattle.std.specs.Option.{IsSomeAnd}
use Rattle.spl_message.specs.declared.answer.Answer.{Answer}
use Rattle.spl_message.specs.declared.answer.Cause.{Cause}
use Rattle.spl_message.specs.declared.answer.Cause.TheVariants.{Fault, Damaged, Full, Nodes, Spent, Memory}
use Rattle.spl_message.specs.declared.call.Call.{Call}
use Rattle.spl_message.specs.declared.call.Call.TheVariants.{Put, Look, Piece}
use Rattle.spl_message.specs.Answer.{Answered}
use Rattle.spl_message.specs.History.{Event, History}
use Rattle.spl_port.specs.declared.damaged.Why.{Why}
use Rattle.spl_port.specs.Counts.{Counts, Rose}
use Rattle.spl_port.specs.Page.{page_fault}
use Rattle.spl_branch.specs.Branch.{Branch}
use Rattle.spl_state.specs.declared.reply.Reply.{Reply}
use Rattle.spl_state.specs.declared.reply.Reply.TheVariants as reply
use Rattle.spl_desk.specs.Calls.{span_of_key}
use Rattle.spl_desk.specs.Holder.{Holder}
use Rattle.spl_desk.specs.Turn.{Turn}
use Rattle.spl_report.specs.declared.report.Row.{Row}
use Rattle.spl_run.specs.Legal.{MayHavePlace, history_of}
use Rattle.spl_run.specs.Status.{MayStop, cause_in, cause_of, status_of_cause}

-- a core counts a lookup as the look at the span of its key
abbrev pub as_counted : Call → Call
as_counted (Put key message) = Put key message
as_counted (Look key) = Piece (span_of_key key)
as_counted (Piece span) = Piece span

abbrev pub counted_event : Event → Event
counted_event event = record { actor = event.actor; call = as_counted event.call }

-- the history of a core whose calls are those of the rows that have a place
abbrev pub counted : List Row → History
counted rows = map counted_event (history_of rows)

-- what a call adds to that history
abbrev pub added : ℕ → Call → Option ℕ → History
added actor call None = []
added actor call (Some place) = record { actor = actor; call = as_counted call } ∷ []

-- one of the turns was answered so
abbrev pub WasTold : (Reply Branch → Type 0) → List (Turn Branch) → Type 0
WasTold Is turns = (turn : Turn Branch) × Contains turns turn × Is turn.reply

-- the page that was read last, and meanwhile, is outside the page grammar for its place
pub record HasReadDamage (before after : Counts) : Type 0 where
  pub read : before.reads < after.reads
  pub latest : IsSomeAnd after.last (λ shown. (why : Why) × (page_fault shown.at shown.bytes ≡ Some why))

-- What stopped a caller who made these turns, while the counts of its device went from the old ones to the new ones, and had made so many
-- steps in the end: the device failed; it does not tell its pages and gave a damaged one; a turn found no free extent, or no free node; 2^40
-- steps were made. Memory may run out at any time.
abbrev pub IsStoppedBy : Bool → Counts → Counts → ℕ → List (Turn Branch) → Cause → Type 0
IsStoppedBy tells before after steps turns Fault = Rose before.faults after.faults
IsStoppedBy tells before after steps turns Damaged = (tells ≡ true → ⊥) × HasReadDamage before after
IsStoppedBy tells before after steps turns Full = WasTold (λ answer. answer ≡ reply.NoExtent) turns
IsStoppedBy tells before after steps turns Nodes = WasTold (λ answer. (nodes : ℕ) × (answer ≡ reply.Nodes nodes)) turns
IsStoppedBy tells before after steps turns Spent = 2 ^ 40 ≤ steps
IsStoppedBy tells before after steps turns Memory = Unit {0}

-- One call of the only caller. Where it has a place, that is the next one, and the history grows by it. Where it was not stopped it has a
-- place, and is answered rightly there if the device tells its pages. Where it was stopped, it was for its cause.
pub record IsMade (tells : Bool) (old : Holder) (history : History) (before after : Counts) (steps : ℕ) (call : Call) (place : Option ℕ) (answer : Answer) (turns : List (Turn Branch)) (seen : History) : Type 0 where
  pub added : seen ≡ history ++ added old.actor call place
  pub next : IfSome place (λ place. place ≡ length history)
  pub ends : MatchOption (cause_of answer)
      (IsSome place × (tells ≡ true → Answered old.rule history (length history) call answer))
      (λ cause. MayHavePlace call place × MayStop tells call cause × IsStoppedBy tells before after steps turns cause)

-- why a run has this status: no row was stopped, and all is done or memory ran out before a row; or a row was stopped for its cause
abbrev pub EndsFor : Bool → Counts → Counts → ℕ → List (Turn Branch) → List Row → ℕ → Type 0
EndsFor tells before after steps turns rows status =
    ((cause_in rows ≡ None) × ((status ≡ 0) ⊎ (status ≡ 7)))
    ⊎ ((cause : Cause) × (cause_in rows ≡ Some cause) × (status ≡ status_of_cause (Some cause)) × IsStoppedBy tells before after steps turns cause)
