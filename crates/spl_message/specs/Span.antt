-- Spans of keys.
use Rattle.std.specs.Prelude.{◌≡◌, ℕ, Bool, true, false, ◌&&◌, not, List, Option, Some, None, if◌then◌else◌}
use Rattle.spl_message.specs.declared.span.Span.{Span}
use Rattle.spl_message.specs.Key.{is_below}

-- the bytes are not below a start, which is included; an open start excludes nothing
abbrev pub is_from : Option (List ℕ) → List ℕ → Bool
is_from None bytes = true
is_from (Some start) bytes = not (is_below bytes start)

-- the bytes are below an end, which is not included; an open end excludes nothing
abbrev pub is_before : Option (List ℕ) → List ℕ → Bool
is_before None bytes = true
is_before (Some end) bytes = is_below bytes end

-- the span holds the key
abbrev pub in_span : Span → List ℕ → Bool
in_span span key = is_from span.from key && is_before span.to key

abbrev pub InSpan : Span → List ℕ → Type 0
InSpan span key = in_span span key ≡ true

-- an end that is not above the start leaves no key
abbrev pub are_empty : Option (List ℕ) → Option (List ℕ) → Bool
are_empty None end = false
are_empty (Some start) None = false
are_empty (Some start) (Some end) = not (is_below start end)

-- the end that comes first
abbrev pub first_end : Option (List ℕ) → Option (List ℕ) → Option (List ℕ)
first_end None other = other
first_end (Some end) None = Some end
first_end (Some end) (Some other) = if is_below other end then Some other else Some end
