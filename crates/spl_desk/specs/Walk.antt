-- The turns of one call over a desk, one after the other.
use Rattle.std.specs.Prelude.{◌≡◌, ℕ, List, [], ◌∷◌, flat_map}
use Rattle.spl_message.specs.History.{History}
use Rattle.spl_state.specs.Whole.{Whole}
use Rattle.spl_core.specs.Standing.{called}
use Rattle.spl_desk.specs.Holder.{BranchKind, Holder}
use Rattle.spl_desk.specs.Turn.{Turn, IsTurn, history_after}

-- the holder after a turn that left the core so
abbrev pub holder_at : Holder → Whole → Holder
holder_at holder whole = record holder { at = whole }

-- The turns lead from the holder, which had seen the first history, to the core as it is in the end, and the second history.
abbrev pub Walks : {B : Type 0} → BranchKind B → Holder → History → List (Turn B) → Whole → History → Type 0
Walks kind holder history [] end seen = (end ≡ holder.at) × (seen ≡ history)
Walks kind holder history (turn ∷ turns) end seen =
    IsTurn kind holder history turn × Walks kind (holder_at holder turn.after) (history_after holder.actor history turn) turns end seen

-- the calls that the holder made in these turns, each with its actor
abbrev pub calls_in : {B : Type 0} → ℕ → List (Turn B) → History
calls_in actor turns = flat_map (λ turn. called actor turn.step turn.reply) turns

-- The holder went on by some turns, of which something is said; it has seen the history behind them.
pub record Went {B : Type 0} (kind : BranchKind B) (old : Holder) (history : History) (new : Holder) (Saw : History → Type 0) (Says : List (Turn B) → History → Type 0) : Type 0 where
  pub turns : List (Turn B)
  pub seen : History
  pub walks : Walks kind old history turns new.at seen
  pub saw : Saw seen
  pub says : Says turns seen
