-- What the steps on the table tell, and how a seat's view is cut and joined.
use Rattle.std.specs.Prelude.{◌≡◌, ◌≢◌, ℕ, ◌+◌, ◌*◌, ◌<◌, ◌≤◌, ◌^◌, List, [], ◌∷◌, ◌++◌, length, Option, Some, None}
use Rattle.atomic_table.specs.Table.{Me, Step, rest}
use Rattle.spl_turn.specs.Meaning.{Meaning, MayStep, own}
use Rattle.spl_turn.specs.Rule.{sight, sights}
use Rattle.spl_turn.specs.declared.known.Known.{Known}
use Rattle.spl_turn.specs.declared.known.Stage.{Stage}
use Rattle.spl_turn.specs.declared.known.Stage.TheVariants.{Idle, Waits, Holds}
use Rattle.spl_turn.specs.declared.guarded.Last.{Last}
use Rattle.spl_turn.specs.declared.guarded.Guarded.{Guarded}

module _ {E F : Type 0} where
  -- the view of the first seat
  abbrev pub opening : F → Known E F
  opening fixed = record { number = 0; seen = []; seats = 1; turns = 0; made = 1; fixed = Some fixed; stage = Idle; joined = [] }

  -- the first seat's view after a split, and the new seat's
  abbrev pub counted : Known E F → Known E F
  counted v = record v { made = v.made + 1 }

  abbrev pub another : Known E F → Known E F
  another v = record { number = v.made; seen = v.seen; seats = 1; turns = 0; made = 0; fixed = v.fixed; stage = Idle; joined = [] }

  -- a seat's view with another's, and that of a seat that was joined into another
  abbrev pub joined : Known E F → Known E F → Known E F
  joined v w = record v { seats = v.seats + w.seats; turns = v.turns + w.turns; joined = sights w ++ v.joined }

  abbrev pub spent : Known E F
  spent = record { number = 0; seen = []; seats = 0; turns = 0; made = 0; fixed = None; stage = Idle; joined = [] }

  abbrev pub staged : Known E F → Stage → Known E F
  staged v stage = record v { stage = stage }

module _ {V S R E F : Type 0} (m : Meaning V S R E F) where
  abbrev Sat : Type 0
  Sat = Me (Guarded V S R) (Known E F)

  abbrev At : Type 0
  At = Step (Guarded V S R)

  -- the seat has the value, and has seen all of the record that it stands for; what is new to it are entries of others
  pub record Took (me after : Sat) : Type 0 where
    pub guarded : Guarded V S R
    pub between : List E
    pub others : own m me.0.number between ≡ []
    pub view : after.0 ≡ record me.0 { seen = me.0.seen ++ between; stage = Holds }
    pub slot : after.1 ≡ (0, guarded) ∷ me.1
    pub stands : m.stands guarded.value (me.0.seen ++ between)
    pub fixed : me.0.fixed ≡ Some (m.fixed guarded.value)
    pub room : length (me.0.seen ++ between) < 2 ^ 46

  abbrev pub entered : At → Sat → ℕ → Sat → Type 0
  entered step me found after = (found ≡ step.first → Took me after) × (found ≢ step.first → after ≡ me)

  -- the entry of the step that was made last
  abbrev pub entry_of : ℕ → V → Last V S R → E
  entry_of number value last = m.entry last.before.value number last.step.value last.reply.value value

  -- the seat has given the value back, and the entry of the step that was made on it is the record's last
  abbrev pub Added : Sat → Sat → Type 0
  Added me after = (g : Guarded V S R) (last : Last V S R) → me.1 ≡ (0, g) ∷ [] → g.last ≡ Some last
      → (after.1 ≡ []) × (after.0 ≡ record me.0 { seen = me.0.seen ++ entry_of me.0.number g.value last ∷ []; turns = me.0.turns + 1; stage = Idle })

  abbrev pub added : At → Sat → ℕ → Sat → Type 0
  added step me found after = Added me after

  -- the seat has made a step on the value that it has taken, which stands for all that the seat has seen and the step's entry
  pub record MayLeave (me : Sat) : Type 0 where
    pub guarded : Guarded V S R
    pub last : Last V S R
    pub slot : me.1 ≡ (0, guarded) ∷ []
    pub noted : guarded.last ≡ Some last
    pub stands : m.stands guarded.value (me.0.seen ++ entry_of me.0.number guarded.value last ∷ [])
    pub fixed : me.0.fixed ≡ Some (m.fixed guarded.value)
    pub holds : me.0.stage ≡ Holds
    pub one_seat : me.0.seats ≡ 1
    pub alone : me.0.joined ≡ []
    pub few_turns : me.0.turns < 2199023255552
    pub room : length me.0.seen < 2 ^ 46

  abbrev pub lain : At → Sat → ℕ → Sat → Type 0
  lain step me found after = after ≡ (staged me.0 Waits, me.1)

  abbrev pub risen : At → Sat → ℕ → Sat → Type 0
  risen step me found after = after ≡ (staged me.0 Idle, me.1)

-- a look tells the first seat that the next number has no entry
abbrev pub looked : {V S R E F : Type 0} → Meaning V S R E F → Step (Guarded V S R) → Me (Guarded V S R) (Known E F) → ℕ → Me (Guarded V S R) (Known E F) → Type 0
looked m step me found after = (after ≡ me) × (0 < me.0.made → 0 < me.0.seats → own m me.0.made me.0.seen ≡ [])

-- the note of a step has the value before, the step and its reply
abbrev pub IsNoted : {V S R : Type 0} → V → S → R → Option (Last V S R) → Type 0
IsNoted {V} {S} {R} before step reply note =
    (last : Last V S R) × (note ≡ Some last) × (last.before.value ≡ before) × (last.step.value ≡ step) × (last.reply.value ≡ reply)

-- the seat holds the slot, and may make the step on its value
pub record MayMake {V S R E F : Type 0} (m : Meaning V S R E F) (me : Me (Guarded V S R) (Known E F)) (number : ℕ) (step : S) : Type 0 where
  pub guarded : Guarded V S R
  pub slot : me.1 ≡ (0, guarded) ∷ []
  pub past : List E
  pub may : MayStep m guarded.value number step past

-- a step was made on the value of the slot that the seat holds
pub record Held {V S R E F : Type 0} (m : Meaning V S R E F) (me after : Me (Guarded V S R) (Known E F)) (number : ℕ) (step : S) (reply : R) : Type 0 where
  pub old : Guarded V S R
  pub new : Guarded V S R
  pub view : after.0 ≡ me.0
  pub old_slot : me.1 ≡ (0, old) ∷ []
  pub new_slot : after.1 ≡ (0, new) ∷ []
  pub noted : IsNoted old.value step reply new.last
  pub fixed : m.fixed new.value ≡ m.fixed old.value
  pub stands : (past : List E) → MayStep m old.value number step past → m.stands new.value (past ++ m.entry old.value number step reply new.value ∷ [])

-- One step was made on the value, and the seat added its entry behind entries of others.
pub record Makes {V S R E F : Type 0} (m : Meaning V S R E F) (me after : Me (Guarded V S R) (Known E F)) (step : S) (reply : R) : Type 0 where
  pub before : V
  pub value : V
  pub between : List E
  pub others : own m me.0.number between ≡ []
  pub view : after.0 ≡ record me.0 { seen = (me.0.seen ++ between) ++ m.entry before me.0.number step reply value ∷ []; turns = me.0.turns + 1; stage = Idle }
  pub bare : after.1 ≡ me.1
  pub stood : m.stands before (me.0.seen ++ between)
  pub stands : m.stands value ((me.0.seen ++ between) ++ m.entry before me.0.number step reply value ∷ [])
  pub fixed : me.0.fixed ≡ Some (m.fixed value)
