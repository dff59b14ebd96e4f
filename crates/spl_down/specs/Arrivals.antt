-- What the turns of a descent were answered: where it came to, and how often it had to wait.
use Rattle.std.specs.Prelude.{◌≡◌, ℕ, ◌≤◌, Bool, true, false, not, List, [], ◌∷◌, flat_map, count_by, sum_by, Option, Some, None, Result, Ok, Err}
use Rattle.spl_base.specs.declared.NoMemory.{NoMemory}
use Rattle.spl_message.specs.History.{History}
use Rattle.spl_trunk.specs.Trunk.{node_at}
use Rattle.spl_state.specs.declared.reply.Reply.{Reply}
use Rattle.spl_state.specs.declared.reply.Reply.TheVariants as reply
use Rattle.spl_state.specs.declared.sight.Sight.{Sight}
use Rattle.spl_state.specs.Whole.{Whole}
use Rattle.spl_desk.specs.Holder.{BranchKind, Holder}
use Rattle.spl_desk.specs.Turn.{Turn}
use Rattle.spl_desk.specs.Walk.{Went, calls_in}

-- a node that a descent came to: what the descent was given there, and how high the node is
pub record Arrival (B : Type 0) : Type 0 where
  pub sight : Sight B
  pub height : ℕ

module _ {B : Type 0} where
  -- the height of the sight's node, where the core is so
  abbrev pub height_in : Whole → Sight B → ℕ
  height_in whole sight = (node_at whole.nodes sight.node).height

  abbrev pub arrival_in : Whole → Sight B → Arrival B
  arrival_in whole sight = record { sight = sight; height = height_in whole sight }

  -- the step has to be made again
  abbrev pub is_again : Reply B → Bool
  is_again (reply.Again node by) = true
  is_again answer = false

  -- the arrival that a turn was that got this answer and left the core so, where it was one
  abbrev pub arrival_of : Reply B → Whole → List (Arrival B)
  arrival_of (reply.Sight sight) whole = arrival_in whole sight ∷ []
  arrival_of answer whole = []

  -- the nodes that the turns came to, in order
  abbrev pub arrivals_in : List (Turn B) → List (Arrival B)
  arrivals_in turns = flat_map (λ (turn : Turn B). arrival_of turn.reply turn.after) turns

  -- how many of the turns were not answered `Again`
  abbrev pub others_than_again : List (Turn B) → ℕ
  others_than_again turns = count_by (λ (turn : Turn B). not (is_again turn.reply)) turns

  -- how far the branches of the sight reach for the key, added up
  abbrev pub reach_at : (B → List ℕ → ℕ) → List ℕ → Sight B → ℕ
  reach_at reach key sight = sum_by (λ (branch : B). reach branch key) sight.branches

  -- and those of all the sights that the turns were answered
  abbrev pub reach_in : (B → List ℕ → ℕ) → List ℕ → List (Turn B) → ℕ
  reach_in reach key turns = sum_by (λ (arrival : Arrival B). reach_at reach key arrival.sight) (arrivals_in turns)

  abbrev pub first_height : List (Arrival B) → ℕ
  first_height [] = 0
  first_height (arrival ∷ arrivals) = arrival.height

  -- the height of the root where the descent of the turns began, and 0 where none did
  abbrev pub top_in : List (Turn B) → ℕ
  top_in turns = first_height (arrivals_in turns)

  -- the turns are these calls of the actor and came to these nodes, and at most so many of them were not answered `Again`
  pub record AreTurns (actor : ℕ) (made : History) (most : ℕ) (seen : List (Arrival B)) (turns : List (Turn B)) : Type 0 where
    pub calls : calls_in actor turns ≡ made
    pub few : others_than_again turns ≤ most
    pub arrivals : arrivals_in turns ≡ seen

  -- the holder made no call that has a place, came to these nodes, and made at most so many turns beside those answered `Again`
  abbrev pub CameTo : BranchKind B → Holder → History → Holder → (History → Type 0) → ℕ → List (Arrival B) → Type 0
  CameTo kind old history new Saw most arrivals = Went kind old history new Saw (λ turns seen. AreTurns old.actor [] most arrivals turns)

  -- the answer is this sight, or that the step has to be made again, or that memory ran out
  abbrev pub IsAnswer : Reply B → Result (Option (Sight B)) NoMemory → Type 0
  IsAnswer answer (Ok (Some sight)) = answer ≡ reply.Sight sight
  IsAnswer answer (Ok None) = is_again answer ≡ true
  IsAnswer answer (Err fault) = answer ≡ reply.NoMemory

  -- one thing holds where there is a sight, another where the step has to be made again, and another where it failed
  abbrev pub OnTry : {E : Type 0} → Result (Option (Sight B)) E → (Sight B → Type 0) → Type 0 → Type 0 → Type 0
  OnTry (Ok (Some sight)) IsSeen IsAgain IsFailed = IsSeen sight
  OnTry (Ok None) IsSeen IsAgain IsFailed = IsAgain
  OnTry (Err fault) IsSeen IsAgain IsFailed = IsFailed
