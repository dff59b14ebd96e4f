-- Entries: keys with their messages in the order of the keys, as a leaf page or an ordered map holds them.
use Rattle.std.specs.Prelude.{ℕ, List, Option}
use Rattle.std.specs.BTreeMap.{is_at}
use Rattle.std.specs.Cmp.Lexicographic.{slice_cmp}
use Rattle.std.specs.Map.{keys_of, lookup}
use Rattle.std.specs.Ordering.{nat_cmp}
use Rattle.spl_message.specs.declared.message.Message.{Message}
use Rattle.spl_message.specs.Key.{AreRising}

abbrev pub Entries : Type 0
Entries = List (List ℕ × Message)

-- the entries stand in the order of their keys, and no key has two
abbrev pub AreEntries : Entries → Type 0
AreEntries entries = AreRising (keys_of entries)

-- the message of a key, where it has one
abbrev pub message_in : Entries → List ℕ → Option Message
message_in entries key = lookup (is_at (slice_cmp nat_cmp key)) entries
