-- What messages make of a key's cell, and one message in the place of several.
use Rattle.std.specs.Prelude.{ℕ, List, [], ◌∷◌, Option, Some, None, fold}
use Rattle.spl_message.specs.declared.message.Message.{Message}
use Rattle.spl_message.specs.declared.message.Message.TheVariants.{Insert, Delete, Update}
use Rattle.spl_message.specs.Cell.{Cell}
use Rattle.spl_message.specs.Rule.{Rule}

-- what a message makes of the cell of a key
abbrev pub act : Rule → List ℕ → Cell → Message → Cell
act rule key cell (Insert value) = Some value
act rule key cell Delete = None
act rule key cell (Update operand) = Some (rule.apply key cell operand)

-- what messages make of it, the first one first
abbrev pub act_all : Rule → List ℕ → Cell → List Message → Cell
act_all rule key cell messages = fold (act rule key) cell messages

-- the one message that stands for two, of which the older comes first
abbrev pub combine : Rule → List ℕ → Message → Message → Message
combine rule key older (Insert value) = Insert value
combine rule key older Delete = Delete
combine rule key (Insert value) (Update operand) = Insert (rule.apply key (Some value) operand)
combine rule key Delete (Update operand) = Insert (rule.apply key None operand)
combine rule key (Update older) (Update newer) = Update (rule.join key older newer)

-- the one message that stands for those of a list, the oldest first, where there is one
abbrev pub combine_all : Rule → List ℕ → List Message → Option Message
combine_all rule key [] = None
combine_all rule key (oldest ∷ messages) = Some (fold (combine rule key) oldest messages)

-- what a message makes of no value, where there is a message
abbrev pub settle : Rule → List ℕ → Option Message → Cell
settle rule key None = None
settle rule key (Some message) = act rule key None message

-- only an update asks the law
abbrev pub IsUpdate : Option Message → Type 0
IsUpdate None = ⊥
IsUpdate (Some (Insert value)) = ⊥
IsUpdate (Some Delete) = ⊥
IsUpdate (Some (Update operand)) = Unit {0}

-- an insert and an update hold a value, which lies in memory of its own
abbrev pub HoldsValue : Message → Type 0
HoldsValue (Insert value) = Unit {0}
HoldsValue (Update operand) = Unit {0}
HoldsValue Delete = ⊥
