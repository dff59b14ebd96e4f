-- Tables: what a memtable or a branch holds.
use Rattle.std.specs.Prelude.{◌≡◌, ℕ, ◌%◌, ◌==◌, nat_lt, Bool, true, false, ◌&&◌, if◌then◌else◌, List, length, map, filter, flat_map, Option, None, option_to_list}
use Rattle.std.specs.List.{enumerate_from}
use Rattle.std.specs.Map.{keys_of}
use Rattle.std.specs.Option.{option_map}
use Rattle.spl_message.specs.declared.message.Message.{Message}
use Rattle.spl_message.specs.declared.message.Message.TheVariants.{Insert}
use Rattle.spl_message.specs.declared.span.Span.{Span}
use Rattle.spl_message.specs.Entries.{Entries, AreEntries, message_in}
use Rattle.spl_message.specs.Message.{combine_all, settle}
use Rattle.spl_message.specs.Rule.{Rule}
use Rattle.spl_message.specs.Span.{in_span}

-- a message for each of some keys
pub record Table : Type 0 where
  pub messages : Entries

-- the table with these messages
abbrev pub as_table : Entries → Table
as_table entries = record { messages = entries }

-- its messages stand in the order of their keys, and no key has two
abbrev pub IsTable : Table → Type 0
IsTable table = AreEntries table.messages

-- the message of a key, where it has one
abbrev pub message_at : Table → List ℕ → Option Message
message_at table key = message_in table.messages key

-- how many keys have a message
abbrev pub key_count : Table → ℕ
key_count table = length table.messages

-- the part of the table whose keys lie in the span
abbrev pub part_of : Span → Table → Table
part_of span table = as_table (filter (λ entry. in_span span entry.0) table.messages)

-- the messages of a key in the tables, in the order of the tables
abbrev pub chain : List Table → List ℕ → List Message
chain tables key = flat_map (λ table. option_to_list (message_at table key)) tables

-- the keys of rank 1,024, 2,048, 3,072 and so on, counted from 0
abbrev pub cuts_of : Table → List (List ℕ)
cuts_of table = map (λ ranked. ranked.1) (filter (λ ranked. nat_lt 0 ranked.0 && (ranked.0 % 1024 == 0)) (enumerate_from 0 (keys_of table.messages)))

-- what a merge keeps of a key's combined message: above the bottom the message; at the bottom, where nothing older lies below,
-- the insert of the value that it settles to, and nothing where that is none
abbrev pub kept : Rule → Bool → List ℕ → Option Message → Option Message
kept rule false key message = message
kept rule true key message = option_map Insert (settle rule key message)

-- the message that a key of the span has when the tables are merged, of which the oldest comes first
abbrev pub merged : Rule → List Table → Span → Bool → List ℕ → Option Message
merged rule tables span bottom key = if in_span span key then kept rule bottom key (combine_all rule key (chain tables key)) else None

-- the table is the merged tables
pub record IsMerged (rule : Rule) (tables : List Table) (span : Span) (bottom : Bool) (table : Table) : Type 0 where
  pub order : IsTable table
  pub messages : (key : List ℕ) → message_at table key ≡ merged rule tables span bottom key
