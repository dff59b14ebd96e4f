-- A piece of a span, and what is left of the span behind it.
use Rattle.std.specs.Prelude.{◌≡◌, ◌≢◌, ℕ, true, List, Option, Some, None, if◌then◌else◌}
use Rattle.std.specs.List.{AllByRecursion}
use Rattle.spl_message.specs.declared.answer.Answer.TheVariants as answer
use Rattle.spl_message.specs.declared.call.Call.TheVariants as call
use Rattle.spl_message.specs.declared.span.Span.{Span}
use Rattle.spl_message.specs.Answer.{Answered, EndsIn}
use Rattle.spl_message.specs.Cell.{Cell}
use Rattle.spl_message.specs.History.{History}
use Rattle.spl_message.specs.declared.message.Message.{Message}
use Rattle.spl_message.specs.Message.{settle}
use Rattle.spl_message.specs.Pairs.{AreInOrder, value_in}
use Rattle.spl_message.specs.Rule.{Rule}
use Rattle.spl_message.specs.Span.{in_span}
use Rattle.spl_desk.specs.Calls.{IsOnlyCall}
use Rattle.spl_desk.specs.Holder.{BranchKind, Holder}
use Rattle.spl_desk.specs.Walk.{Went}
use Rattle.spl_range.specs.declared.pieces.Piece.{Piece}

-- what an entry's message makes of no value, where the span holds the key
abbrev pub living_of : Rule → Span → List ℕ × Message → Cell
living_of rule span entry = if in_span span entry.0 then settle rule entry.0 (Some entry.1) else None

-- the pairs lie in the span, and each key of it has the value that this cell of it has
pub record AreValues (span : Span) (cells : List ℕ → Cell) (pairs : List (List ℕ × List ℕ)) : Type 0 where
  pub inside : AllByRecursion (λ pair. in_span span pair.0 ≡ true) pairs
  pub values : (key : List ℕ) → value_in pairs key ≡ (if in_span span key then cells key else None)

-- On every device: the piece starts where the span starts and ends in it, and its keys rise and lie in the piece.
pub record IsPart (span : Span) (piece : Piece) : Type 0 where
  pub from : piece.span.from ≡ span.from
  pub to : EndsIn span piece.span.to
  pub order : AreInOrder piece.pairs
  pub inside : AllByRecursion (λ pair. in_span piece.span pair.0 ≡ true) piece.pairs

-- The holder's only call is for a piece of the span, at the piece's place. Where devices tell, the piece is right for
-- that place: its pairs are the keys of its span that have a value there.
abbrev pub Pieced : {B : Type 0} → BranchKind B → Holder → History → Holder → (History → Type 0) → Span → Piece → Type 0
Pieced kind old history new Saw span piece = Went kind old history new Saw (λ turns seen.
    IsOnlyCall old.actor history (call.Piece span) piece.place turns seen
    × (kind.tells ≡ true → Answered old.rule seen piece.place (call.Piece span) (answer.Pairs piece.span.to piece.pairs)))

-- what is left of the span behind a piece that ends here: nothing where the span ends here, and else all from here on
pub record IsLeft (span : Span) (end : Option (List ℕ)) (left : Option Span) : Type 0 where
  pub last : end ≡ span.to → left ≡ None
  pub more : end ≢ span.to → left ≡ Some (record { from = end; to = span.to })
