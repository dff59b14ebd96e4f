-- What a memtable does with a message.
use Rattle.std.specs.Prelude.{◌≡◌, ◌≢◌, ℕ, ◌+◌, [], ◌∷◌, ◌++◌, List, None, option_to_list, is_some, if◌then◌else◌}
use Rattle.spl_message.specs.declared.message.Message.{Message}
use Rattle.spl_message.specs.Message.{combine_all}
use Rattle.spl_message.specs.Rule.{Rule}
use Rattle.spl_message.specs.Table.{Table, IsTable, key_count, message_at}

-- the key is not in the table, and as many others are as there may be
pub record IsFull (table : Table) (key : List ℕ) : Type 0 where
  pub missing : message_at table key ≡ None
  pub keys : key_count table ≡ 1024

-- the new table has at the key the one message that stands for what the old one had and this message, and at every other key
-- what the old one had; a key that was not there is one more
pub record Puts (rule : Rule) (old new : Table) (key : List ℕ) (message : Message) : Type 0 where
  pub order : IsTable new
  pub this_key : message_at new key ≡ combine_all rule key (option_to_list (message_at old key) ++ message ∷ [])
  pub other_keys : (other : List ℕ) → other ≢ key → message_at new other ≡ message_at old other
  pub keys : key_count new ≡ key_count old + (if is_some (message_at old key) then 0 else 1)
