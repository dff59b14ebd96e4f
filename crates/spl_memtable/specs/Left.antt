-- What an iterator over entries has left.
use Rattle.std.specs.Prelude.{ℕ, List, filter, Option}
use Rattle.spl_message.specs.Entries.{Entries, AreEntries}
use Rattle.spl_message.specs.Span.{is_before}
use Rattle.spl_memtable.specs.declared.entries.Rest.{Rest}
use Rattle.spl_memtable.specs.declared.entries.Rest.TheVariants.{Own, Shared}

abbrev pub left : Rest → Option (List ℕ) → Entries
left (Own entries) end = entries.now
left (Shared entries) end = filter (λ entry. is_before end entry.0) entries

abbrev pub IsInOrder : Rest → Type 0
IsInOrder (Own entries) = AreEntries entries.now
IsInOrder (Shared entries) = AreEntries entries
