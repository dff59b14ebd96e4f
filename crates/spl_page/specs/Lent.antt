-- What is lent, as a value of its own.
use Rattle.std.specs.Prelude.{ℕ, List}
use Rattle.spl_message.specs.declared.message.Message.{Message}
use Rattle.spl_message.specs.declared.message.Message.TheVariants.{Insert, Delete, Update}
use Rattle.spl_page.specs.declared.lent_entry.LentEntry.{LentEntry}
use Rattle.spl_page.specs.declared.lent_message.LentMessage.{LentMessage}
use Rattle.spl_page.specs.declared.lent_message.LentMessage.TheVariants.{Insert as LentInsert, Delete as LentDelete, Update as LentUpdate}

abbrev pub message_lent : LentMessage → Message
message_lent (LentInsert value) = Insert value.bytes.now
message_lent LentDelete = Delete
message_lent (LentUpdate operand) = Update operand.bytes.now

-- the key with its message
abbrev pub entry_lent : LentEntry → List ℕ × Message
entry_lent entry = (entry.key.now, message_lent entry.message)
