-- What a slice has.
use Rattle.spl_message.specs.Entries.{AreEntries}
use Rattle.spl_message.specs.Table.{Table, as_table, part_of}
use Rattle.spl_memtable.specs.declared.slice.Part.{Part}
use Rattle.spl_memtable.specs.declared.slice.Part.TheVariants.{Own, Shared}

-- a list of its own, or the part of a span of a table that it shares
abbrev pub shown : Part → Table
shown (Own entries) = as_table entries.items
shown (Shared frozen span) = part_of span frozen.value

-- a list of its own is in order, as what is shared always is
abbrev pub IsSound : Part → Type 0
IsSound (Own entries) = AreEntries entries.items
IsSound (Shared frozen span) = Unit {0}
