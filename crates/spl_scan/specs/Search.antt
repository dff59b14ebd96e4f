-- The entries of a span above a key, and a search for the first of them.
use Rattle.std.specs.Prelude.{◌≡◌, ℕ, Bool, true, ◌&&◌, if◌then◌else◌, List, [], ◌∷◌, drop, filter, Option, Some, None}
use Rattle.spl_message.specs.declared.message.Message.{Message}
use Rattle.spl_message.specs.declared.span.Span.{Span}
use Rattle.spl_message.specs.Entries.{Entries}
use Rattle.spl_message.specs.Key.{is_below}
use Rattle.spl_message.specs.Span.{in_span, is_before}
use Rattle.spl_scan.specs.declared.met.Met.{Met}
use Rattle.spl_scan.specs.declared.met.Met.TheVariants.{Entry, Past, Over}

-- the key is above the last one, if there is a last one
abbrev pub is_after : Option (List ℕ) → List ℕ → Bool
is_after None key = true
is_after (Some last) key = is_below last key

-- the key is one of the span, above the last one
abbrev pub is_next : Span → Option (List ℕ) → List ℕ → Bool
is_next span last key = in_span span key && is_after last key

-- the entries of the span that are still to come
abbrev pub to_come : Span → Option (List ℕ) → Entries → Entries
to_come span last entries = filter (λ entry. is_next span last entry.0) entries

-- what a search comes to: an entry with those that follow, an entry past the span, or the end of the entries
pub data Found : Type 0 where
  found : List ℕ × Message → Entries → Found
  past : Found
  over : Found

-- the first entry that is next, of the entries up to the end of the span
abbrev pub search : Span → Option (List ℕ) → Entries → Found
search span last [] = over
search span last (entry ∷ entries) =
    if is_before span.to entry.0
    then (if is_next span last entry.0 then found entry entries else search span last entries)
    else past

-- this was met from a place of the table on
abbrev pub IsMet : Span → Option (List ℕ) → Entries → ℕ → Met → Type 0
IsMet span last table place (Entry key message next) =
    search span last (drop place table) ≡ found (key, message) (drop next table)
IsMet span last table place Past = search span last (drop place table) ≡ past
IsMet span last table place Over = search span last (drop place table) ≡ over
