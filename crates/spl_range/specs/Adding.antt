-- What is in hand of a piece: for each key one message that does what all that were met of it do.
use Rattle.std.specs.Prelude.{◌≡◌, ◌≢◌, ℕ, List, ◌∷◌, ◌++◌, Option, option_to_list}
use Rattle.spl_message.specs.declared.message.Message.{Message}
use Rattle.spl_message.specs.declared.span.Span.{Span}
use Rattle.spl_message.specs.Cell.{Cell}
use Rattle.spl_message.specs.Entries.{Entries, message_in}
use Rattle.spl_message.specs.Message.{act_all}
use Rattle.spl_message.specs.Rule.{Rule}
use Rattle.spl_message.specs.Span.{InSpan}

-- the one message does what the messages do, one after another
abbrev pub Folds : Rule → List ℕ → List Message → Option Message → Type 0
Folds rule key messages found = (cell : Cell) → act_all rule key cell (option_to_list found) ≡ act_all rule key cell messages

-- the older message of the key came under the newer one, and each other key has what it had
pub record PutsUnder (rule : Rule) (old new : Entries) (key : List ℕ) (older : Message) : Type 0 where
  pub this_key : Folds rule key (older ∷ option_to_list (message_in old key)) (message_in new key)
  pub other_keys : (other : List ℕ) → other ≢ key → message_in new other ≡ message_in old other

-- the messages of the key in the older entries and in the newer ones
abbrev pub under : Entries → Entries → List ℕ → List Message
under older newer key = option_to_list (message_in older key) ++ option_to_list (message_in newer key)

-- for each key the entries, with those that are left to put under them, do what the first entries do with all of those
abbrev pub ComeTo : Rule → Entries → Entries → Entries → Entries → Type 0
ComeTo rule left now all first = (key : List ℕ) (cell : Cell) → act_all rule key cell (under left now key) ≡ act_all rule key cell (under all first key)

-- the older messages of the key came under the newer one
abbrev pub AddsAt : Rule → (List ℕ → List Message) → Entries → Entries → List ℕ → Type 0
AddsAt rule older old new key = Folds rule key (older key ++ option_to_list (message_in old key)) (message_in new key)

-- and so for each key of the span
abbrev pub AddsUnder : Rule → Span → (List ℕ → List Message) → Entries → Entries → Type 0
AddsUnder rule span older old new = (key : List ℕ) → InSpan span key → AddsAt rule older old new key

-- each key of the span has what it had
abbrev pub HasSame : Span → Entries → Entries → Type 0
HasSame span old new = (key : List ℕ) → InSpan span key → message_in new key ≡ message_in old key
