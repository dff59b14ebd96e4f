-- Histories. The model of the store is one fold for each key: it has no memtable, tree or branch.
use Rattle.std.specs.Prelude.{ℕ, List, [], ◌∷◌, take, flat_map, None, if◌then◌else◌}
use Rattle.spl_message.specs.declared.message.Message.{Message}
use Rattle.spl_message.specs.declared.call.Call.{Call}
use Rattle.spl_message.specs.declared.call.Call.TheVariants.{Put, Look, Piece}
use Rattle.spl_message.specs.Cell.{Cell}
use Rattle.spl_message.specs.Key.{same_key}
use Rattle.spl_message.specs.Message.{HoldsValue, act_all}
use Rattle.spl_message.specs.Rule.{Rule}

-- a call with the actor that made it
pub record Event : Type 0 where
  pub actor : ℕ
  pub call : Call

-- all calls, in the order of their places; a place is a position, counted from 0
abbrev pub History : Type 0
History = List Event

-- the messages that a call puts to a key
abbrev pub messages_to : List ℕ → Call → List Message
messages_to key (Put other message) = if same_key other key then message ∷ [] else []
messages_to key (Look other) = []
messages_to key (Piece span) = []

-- the cell of a key at a place: what the messages of the calls above it make of no value, in their order
abbrev pub cell_at : Rule → History → ℕ → List ℕ → Cell
cell_at rule history place key = act_all rule key None (flat_map (λ event. messages_to key event.call) (take place history))

-- what a call holds of a value
abbrev pub CallHoldsValue : Call → Type 0
CallHoldsValue (Put key message) = HoldsValue message
CallHoldsValue (Look key) = ⊥
CallHoldsValue (Piece span) = ⊥
