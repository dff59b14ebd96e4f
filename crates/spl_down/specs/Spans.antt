-- Parts of a span that start where it starts.
use Rattle.std.specs.Prelude.{◌≡◌, ℕ, ◌⊎◌, true, List, Option, Some, None}
use Rattle.spl_message.specs.declared.span.Span.{Span}
use Rattle.spl_message.specs.Span.{is_before}
use Rattle.spl_node.specs.Node.{is_past}

-- the end lies above the span's start and below its end
abbrev pub EndsWithin : Span → Option (List ℕ) → Type 0
EndsWithin span None = ⊥
EndsWithin span (Some end) = (is_past span.from end ≡ true) × (is_before span.to end ≡ true)

-- the part starts where the span starts, and ends where the span ends, or earlier and above the start
pub record IsFront (span part : Span) : Type 0 where
  pub from : part.from ≡ span.from
  pub to : (part.to ≡ span.to) ⊎ EndsWithin span part.to
