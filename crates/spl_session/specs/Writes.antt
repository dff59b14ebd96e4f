-- What a put writes.
use Rattle.spl_message.specs.declared.message.Message.{Message}
use Rattle.spl_message.specs.declared.message.Message.TheVariants as message
use Rattle.spl_session.specs.declared.write.Write.{Write}
use Rattle.spl_session.specs.declared.write.Write.TheVariants.{Insert, Delete, Update}

-- the message of a write
abbrev pub message_of : Write → Message
message_of (Insert value) = message.Insert value.now
message_of Delete = message.Delete
message_of (Update operand) = message.Update operand.now
