-- What a call at a place has to answer.
use Rattle.std.specs.Prelude.{◌≡◌, ◌≢◌, ℕ, ◌⊎◌, List, Option, Some, None, if◌then◌else◌}
use Rattle.spl_message.specs.declared.call.Call.{Call}
use Rattle.spl_message.specs.declared.call.Call.TheVariants.{Put, Look, Piece}
use Rattle.spl_message.specs.declared.answer.Answer.{Answer}
use Rattle.spl_message.specs.declared.answer.Answer.TheVariants.{Done, Missing, Value, Pairs, Stopped}
use Rattle.spl_message.specs.declared.span.Span.{Span}
use Rattle.spl_message.specs.Cell.{Cell}
use Rattle.spl_message.specs.History.{History, cell_at}
use Rattle.spl_message.specs.Key.{IsKey}
use Rattle.spl_message.specs.Pairs.{AreInOrder, value_in}
use Rattle.spl_message.specs.Rule.{Rule}
use Rattle.spl_message.specs.Span.{in_span, InSpan}

-- what a lookup says of a cell
abbrev pub told_of : Cell → Answer
told_of (Some value) = Value value
told_of None = Missing

-- a piece of a span ends where the span ends, or at a key of the span above its start
abbrev pub EndsIn : Span → Option (List ℕ) → Type 0
EndsIn span end = (end ≡ span.to) ⊎ ((key : List ℕ) × (end ≡ Some key) × IsKey key × InSpan span key × (span.from ≢ Some key))

-- the pairs are the keys of the span that have a value, each with that value, in the order of the keys
pub record AreLiving (cells : List ℕ → Cell) (span : Span) (pairs : List (List ℕ × List ℕ)) : Type 0 where
  pub order : AreInOrder pairs
  pub values : (key : List ℕ) → value_in pairs key ≡ (if in_span span key then cells key else None)

-- what a piece of a span is answered over these cells: all of the span up to an end
abbrev pub IsPieceOf : (List ℕ → Cell) → Span → Answer → Type 0
IsPieceOf cells span (Pairs end pairs) = EndsIn span end × AreLiving cells (record span { to = end }) pairs
IsPieceOf cells span Done = ⊥
IsPieceOf cells span Missing = ⊥
IsPieceOf cells span (Value value) = ⊥
IsPieceOf cells span (Stopped cause) = ⊥

-- the answer is right for a call that stands at the place of the history
abbrev pub Answered : Rule → History → ℕ → Call → Answer → Type 0
Answered rule history place (Put key message) answer = answer ≡ Done
Answered rule history place (Look key) answer = answer ≡ told_of (cell_at rule history place key)
Answered rule history place (Piece span) answer = IsPieceOf (cell_at rule history place) span answer

-- the call was stopped, for whatever cause
abbrev pub IsStopped : Answer → Type 0
IsStopped (Stopped cause) = Unit {0}
IsStopped Done = ⊥
IsStopped Missing = ⊥
IsStopped (Value value) = ⊥
IsStopped (Pairs end pairs) = ⊥
