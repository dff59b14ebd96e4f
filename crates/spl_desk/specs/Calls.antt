-- What one call of the store over a desk leaves.
use Rattle.std.specs.Prelude.{◌≡◌, ℕ, ◌+◌, ◌≤◌, ◌^◌, true, false, List, [], ◌∷◌, ◌++◌, length, max, Some, None, slice_get}
use Rattle.spl_message.specs.declared.call.Call.{Call}
use Rattle.spl_message.specs.declared.call.Call.TheVariants as call
use Rattle.spl_message.specs.declared.span.Span.{Span}
use Rattle.spl_message.specs.Cell.{Cell}
use Rattle.spl_message.specs.History.{History, cell_at}
use Rattle.spl_numbers.specs.Numbers.{has}
use Rattle.spl_extent.specs.Pool.{granted_to}
use Rattle.spl_holds.specs.declared.grip.Grip.TheVariants.{Free}
use Rattle.spl_holds.specs.Holds.{grip_of}
use Rattle.spl_port.specs.Counts.{Counts}
use Rattle.spl_state.specs.Actor.{actor_in}
use Rattle.spl_state.specs.Whole.{Whole}
use Rattle.spl_desk.specs.Holder.{BranchKind, Holder}
use Rattle.spl_desk.specs.Turn.{Turn}
use Rattle.spl_desk.specs.Walk.{Went, calls_in}

-- the actor has no descent, job, latch and granted extent
pub record HasNothing (whole : Whole) (actor : ℕ) : Type 0 where
  pub descent : (actor_in whole.actors actor).descent ≡ None
  pub job : (actor_in whole.actors actor).job ≡ None
  pub latches : (node : ℕ) → grip_of whole.grips actor node ≡ Free
  pub extents : (extent : ℕ) → has (granted_to whole.owners actor) extent ≡ false

-- before a call the holder's actor has nothing
abbrev pub MayCall : Holder → Type 0
MayCall holder = HasNothing holder.at holder.actor

-- The call has left the same holder, which has nothing again and made so many steps or more.
pub record HasCalled (old new : Holder) : Type 0 where
  pub alone : new.alone ≡ old.alone
  pub actor : new.actor ≡ old.actor
  pub rule : new.rule ≡ old.rule
  pub turns : old.turns ≤ new.turns
  pub nothing : HasNothing new.at new.actor

-- the holder has seen some history
abbrev pub HasSeen : (History → Type 0) → Type 0
HasSeen Saw = (history : History) × Saw history

-- the same holder, which made more steps or none
pub record IsSameCaller (old new : Holder) : Type 0 where
  pub alone : new.alone ≡ old.alone
  pub actor : new.actor ≡ old.actor
  pub rule : new.rule ≡ old.rule
  pub turns : old.turns ≤ new.turns

-- no count of the device fell
pub record NeverFell (old new : Counts) : Type 0 where
  pub faults : old.faults ≤ new.faults
  pub reads : old.reads ≤ new.reads
  pub writes : old.writes ≤ new.writes

-- The holder made no call that has a place.
abbrev pub MadeNoCall : {B : Type 0} → BranchKind B → Holder → History → Holder → (History → Type 0) → Type 0
MadeNoCall kind old history new Saw = Went kind old history new Saw (λ turns seen. calls_in old.actor turns ≡ [])

-- of all turns one call is made, at this place, which comes after all that had been seen before
pub record IsOnlyCall {B : Type 0} (actor : ℕ) (history : History) (made : Call) (place : ℕ) (turns : List (Turn B)) (seen : History) : Type 0 where
  pub only : calls_in actor turns ≡ record { actor = actor; call = made } ∷ []
  pub at : slice_get seen place ≡ Some (record { actor = actor; call = made })
  pub after : length history ≤ place

-- The holder made this one call, at this place.
abbrev pub MadeCall : {B : Type 0} → BranchKind B → Holder → History → Holder → (History → Type 0) → Call → ℕ → Type 0
MadeCall kind old history new Saw made place = Went kind old history new Saw (IsOnlyCall old.actor history made place)

-- the span of one key: from the key on, below the next bound
abbrev pub span_of_key : List ℕ → Span
span_of_key key = record { from = Some key; to = Some (key ++ 0 ∷ []) }

-- The holder asked for the key, at this place, and where devices tell their pages the answer is the key's cell there.
abbrev pub Looked : {B : Type 0} → BranchKind B → Holder → History → Holder → (History → Type 0) → List ℕ → ℕ → Cell → Type 0
Looked kind old history new Saw key place value = Went kind old history new Saw (λ turns seen.
    IsOnlyCall old.actor history (call.Piece (span_of_key key)) place turns seen
    × (kind.tells ≡ true → value ≡ cell_at old.rule seen place key))

-- at so many steps a holder is spent
abbrev pub IsSpentAt : ℕ → Holder → Type 0
IsSpentAt turns new = (2 ^ 40 ≤ turns) × (turns ≤ new.turns)

-- The holder makes steps only below 2^40 of them, and so many more.
abbrev pub MadeFew : Holder → Holder → ℕ → Type 0
MadeFew old new more = new.turns ≤ max old.turns (2 ^ 40) + more
