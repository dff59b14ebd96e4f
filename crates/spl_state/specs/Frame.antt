-- What every step but a put leaves: what the store means, and what each other actor relies on.
use Rattle.std.specs.Prelude.{◌≡◌, ◌≢◌, ℕ, ◌+◌, ◌<◌, Bool, true, List}
use Rattle.spl_base.specs.declared.TheConstants.{ACTORS}
use Rattle.spl_message.specs.Rule.{Rule}
use Rattle.spl_state.specs.declared.counters.Counters.{Counters}
use Rattle.spl_state.specs.Whole.{Whole}
use Rattle.spl_state.specs.Sound.{AreDrafts, meaning}
use Rattle.spl_state.specs.Sight.{KeepsSight}

-- one step more
abbrev pub counted : Counters → Counters
counted counters = record counters { steps = counters.steps + 1 }

-- a step of the actor leaves what each key means, and what every other actor relies on
pub record IsFramed (rule : Rule) (tells : Bool) (old new : Whole) (actor : ℕ) : Type 0 where
  pub drafts : tells ≡ true → AreDrafts rule new
  pub means : tells ≡ true → (key : List ℕ) → meaning rule new key ≡ meaning rule old key
  pub others : (other : ℕ) → other < ACTORS → other ≢ actor → KeepsSight rule tells old new other

-- a refused step counts, and does nothing else
abbrev pub refused : Whole → Whole
refused whole = record whole { counters = counted whole.counters }

-- what every actor relies on stays
abbrev pub Others : Rule → Bool → Whole → Whole → Type 0
Others rule tells old new = (other : ℕ) → other < ACTORS → KeepsSight rule tells old new other
