-- What history a core stands for.
use Rattle.std.specs.Prelude.{◌≡◌, ℕ, Bool, true, false, List, [], ◌∷◌, length}
use Rattle.spl_message.specs.declared.call.Call.TheVariants as call
use Rattle.spl_message.specs.declared.message.Message.{Message}
use Rattle.spl_message.specs.declared.span.Span.{Span}
use Rattle.spl_message.specs.History.{History, cell_at}
use Rattle.spl_message.specs.Rule.{Rule}
use Rattle.spl_message.specs.Table.{Table}
use Rattle.spl_compact.specs.Installing.{MergesToNothing}
use Rattle.spl_pack.specs.Publishing.{AsksFor}
use Rattle.spl_state.specs.declared.reply.Reply.{Reply}
use Rattle.spl_state.specs.declared.reply.Reply.TheVariants.{Placed, Sight}
use Rattle.spl_state.specs.Sound.{AreDrafts, meaning}
use Rattle.spl_state.specs.Whole.{Whole}
use Rattle.spl_core.specs.declared.step.Step.{Step}
use Rattle.spl_core.specs.declared.step.Step.TheVariants.{Put, Rotate, Begin, MoveDown, End, Claim, Lock, Unlock, PickFrozen, Grant, Publish, Incorporate, Flush, Start, Install, Raise, Split, Survey, Abandon, Retire}

-- The calls of the history have the places, and where devices tell their pages each key means what the history leaves of it, and
-- what a job published is what the job asks for.
pub record StandsFor (rule : Rule) (tells : Bool) (whole : Whole) (history : History) : Type 0 where
  pub places : whole.counters.places ≡ length history
  pub means : tells ≡ true → (key : List ℕ) → meaning rule whole key ≡ cell_at rule history (length history) key
  pub drafts : tells ≡ true → AreDrafts rule whole

module _ {B : Type 0} where
  -- the put, where it was answered a place
  abbrev pub put_called : ℕ → List ℕ → Message → Reply B → History
  put_called actor key message (Placed place) = record { actor = actor; call = call.Put key message } ∷ []
  put_called actor key message reply = []

  -- the look at a span, where it was answered a place
  abbrev pub begin_called : ℕ → Span → Reply B → History
  begin_called actor span (Sight sight) = record { actor = actor; call = call.Piece span } ∷ []
  begin_called actor span reply = []

  -- the call that a step makes, where it was answered a place
  abbrev pub called : ℕ → Step B → Reply B → History
  called actor (Put key message) reply = put_called actor key message reply
  called actor Rotate reply = []
  called actor (Begin span) reply = begin_called actor span reply
  called actor MoveDown reply = []
  called actor End reply = []
  called actor (Claim node) reply = []
  called actor (Lock node) reply = []
  called actor (Unlock node) reply = []
  called actor PickFrozen reply = []
  called actor Grant reply = []
  called actor (Publish branch) reply = []
  called actor Incorporate reply = []
  called actor (Flush parent child) reply = []
  called actor (Start node first last) reply = []
  called actor (Install node output) reply = []
  called actor Raise reply = []
  called actor (Split parent child key) reply = []
  called actor (Survey node) reply = []
  called actor Abandon reply = []
  called actor Retire reply = []

  -- what the actor knows that makes a step: the branch that it publishes has the table that its job asks for,
  -- and where it has none nothing is left of what it merges
  abbrev pub Knows : (B → Table) → Rule → Whole → ℕ → Step B → Type 0
  Knows table_of rule whole actor (Put key message) = Unit {0}
  Knows table_of rule whole actor Rotate = Unit {0}
  Knows table_of rule whole actor (Begin span) = Unit {0}
  Knows table_of rule whole actor MoveDown = Unit {0}
  Knows table_of rule whole actor End = Unit {0}
  Knows table_of rule whole actor (Claim node) = Unit {0}
  Knows table_of rule whole actor (Lock node) = Unit {0}
  Knows table_of rule whole actor (Unlock node) = Unit {0}
  Knows table_of rule whole actor PickFrozen = Unit {0}
  Knows table_of rule whole actor Grant = Unit {0}
  Knows table_of rule whole actor (Publish branch) = AsksFor rule whole actor (table_of branch.value)
  Knows table_of rule whole actor Incorporate = Unit {0}
  Knows table_of rule whole actor (Flush parent child) = Unit {0}
  Knows table_of rule whole actor (Start node first last) = Unit {0}
  Knows table_of rule whole actor (Install node output) = output ≡ false → MergesToNothing rule whole actor
  Knows table_of rule whole actor Raise = Unit {0}
  Knows table_of rule whole actor (Split parent child key) = Unit {0}
  Knows table_of rule whole actor (Survey node) = Unit {0}
  Knows table_of rule whole actor Abandon = Unit {0}
  Knows table_of rule whole actor Retire = Unit {0}
