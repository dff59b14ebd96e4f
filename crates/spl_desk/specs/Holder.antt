-- What is known of a holder of turns.
use Rattle.std.specs.Prelude.{◌≡◌, ℕ, ◌+◌, Bool}
use Rattle.spl_message.specs.Rule.{Rule}
use Rattle.spl_state.specs.Whole.{BranchData, Whole}

-- how the branches of a core are seen
pub record BranchKind (B : Type 0) : Type 0 where
  pub number_of : B → ℕ
  pub data_of : B → BranchData
  pub tells : Bool

abbrev pub kind_of : {B : Type 0} → (B → ℕ) → (B → BranchData) → Bool → BranchKind B
kind_of number_of data_of tells = record { number_of = number_of; data_of = data_of; tells = tells }

pub record Holder : Type 0 where
  -- nobody else makes steps of the core
  pub alone : Bool
  pub actor : ℕ
  -- how many steps it made
  pub turns : ℕ
  -- how the core merges updates
  pub rule : Rule
  -- the core as it was after the latest step that the holder made
  pub at : Whole

-- the same holder, after so many more steps
pub record IsSameHolder (old new : Holder) (steps : ℕ) : Type 0 where
  pub alone : new.alone ≡ old.alone
  pub actor : new.actor ≡ old.actor
  pub rule : new.rule ≡ old.rule
  pub turns : new.turns ≡ old.turns + steps
