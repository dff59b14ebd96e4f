-- What a value means to the turn: the records that it stands for, and the entry that a step adds.
use Rattle.std.specs.Prelude.{◌≡◌, ℕ, ◌<◌, ◌^◌, List, filter, ◌==◌, length}

-- of a value's type, its steps, replies and entries, and its fixed part
pub record Meaning (V S R E F : Type 0) : Type 1 where
  -- the value stands for the record
  pub stands : V → List E → Type 0
  -- the actor may make the step after these entries of its own
  pub may : ℕ → List E → S → Type 0
  -- the entry of an actor's step and its reply, which took the first value to the second
  pub entry : V → ℕ → S → R → V → E
  -- who made an entry
  pub maker : E → ℕ
  pub made_by : (before : V) (actor : ℕ) (step : S) (reply : R) (after : V) → maker (entry before actor step reply after) ≡ actor
  -- the part of a value that no step changes
  pub fixed : V → F

module _ {V S R E F : Type 0} (m : Meaning V S R E F) where
  -- the actor's entries in a record
  abbrev pub own : ℕ → List E → List E
  own actor past = filter (λ e. m.maker e == actor) past

  -- the value stands for the record, after which the actor may make the step
  pub record MayStep (value : V) (actor : ℕ) (step : S) (past : List E) : Type 0 where
    pub actor_is : actor < 32
    pub room : length past < 2 ^ 46
    pub stands : m.stands value past
    pub may : m.may actor (own actor past) step
