-- Parts of tables.
use Rattle.std.proofs.Common.{◌≡◌, ℕ, true, cond, List, [], ◌∷◌, filter, None, refl, ap, ◌∙◌, sym}
use Rattle.std.proofs.lemmas.Map.Entries.{lookup-filter-keys}
use Rattle.std.proofs.lemmas.Map.Text.{is_eq-slice_cmp}
use Rattle.std.proofs.lemmas.Slice.Eq.{bytes_eq-Decides}
use Rattle.std.specs.BTreeMap.{is_at}
use Rattle.std.specs.Cmp.Lexicographic.{slice_cmp}
use Rattle.std.specs.Ordering.{nat_cmp}
use Rattle.spl_message.specs.declared.span.Span.{Span}
use Rattle.spl_message.specs.Entries.{Entries}
use Rattle.spl_message.specs.Span.{in_span}
use Rattle.spl_message.specs.Table.{Table, as_table, message_at, part_of}

same_bytes : (xs ys : List ℕ) → is_at (slice_cmp nat_cmp xs) ys ≡ true → xs ≡ ys
same_bytes xs ys is = (bytes_eq-Decides xs ys).0 (sym (is_eq-slice_cmp xs ys) ∙ is)

-- the part of a span has the messages of the span's keys
pub message_at-part_of : (span : Span) (table : Table) (key : List ℕ) → message_at (part_of span table) key ≡ cond (in_span span key) (message_at table key) None
message_at-part_of span table key =
    lookup-filter-keys (is_at (slice_cmp nat_cmp key)) (in_span span) (in_span span key) (λ k is. ap (in_span span) (sym (same_bytes key k is))) table.messages

all_of : (entries : Entries) → filter (λ entry. in_span (record { from = None; to = None }) entry.0) entries ≡ entries
all_of [] = refl
all_of (entry ∷ entries) = ap (λ rest. entry ∷ rest) (all_of entries)

-- the open span is the whole table
pub part_of-open : (table : Table) → part_of (record { from = None; to = None }) table ≡ table
part_of-open table = ap as_table (all_of table.messages)
