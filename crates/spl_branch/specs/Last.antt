-- Where a table ends.
use Rattle.std.specs.Prelude.{ℕ, List, Option, None}
use Rattle.std.specs.List.{last_or}
use Rattle.std.specs.Map.{keys_of}
use Rattle.spl_message.specs.Entries.{Entries}

-- the key of the last entry
abbrev pub last_key : Entries → Option (List ℕ)
last_key table = last_or None (keys_of table)
