-- What a turn and its calls do, in the words of their clauses.
use Rattle.std.specs.Prelude.{◌≡◌, ℕ, ◌+◌, ◌<◌, ◌≤◌, List, [], ◌∷◌, ◌++◌, All, Contains, length, Option, Some}
use Rattle.atomic_table.specs.Seated.{TableId}
use Rattle.atomic_table.specs.Table.{Me}
use Rattle.spl_turn.specs.declared.known.Known.{Known}
use Rattle.spl_turn.specs.declared.known.Stage.TheVariants.{Idle}
use Rattle.spl_turn.specs.Meaning.{Meaning, own}
use Rattle.spl_turn.specs.Rule.{sight, Begins}
use Rattle.spl_turn.specs.declared.known.Sight.{Sight}
use Rattle.spl_turn.specs.declared.seat.Seat.{Seat}

module _ {V S R E F : Type 0} where
  -- the front of the record that the seat has seen
  abbrev pub seen_by : Seat V S R E F → List E
  seen_by s = s.place.me.0.seen

  -- the fixed part of the value that the seat's turn was made with
  abbrev pub fixed_of : Seat V S R E F → Option F
  fixed_of s = s.place.me.0.fixed

  -- the turn that made the seat
  abbrev pub turn_of : Seat V S R E F → TableId
  turn_of s = s.place.table_id

  abbrev pub sight_of : Seat V S R E F → Sight E
  sight_of s = sight s.number (seen_by s)

  -- it is the same seat of the same turn
  pub record IsSameSeat (old new : Seat V S R E F) : Type 0 where
    pub number : new.number ≡ old.number
    pub turn : turn_of new ≡ turn_of old
    pub fixed : fixed_of new ≡ fixed_of old

-- a place that speaks for a seat, and for all that were joined into it
pub record Gathers {G E F : Type 0} (me after : Me G (Known E F)) (others : List (Sight E)) : Type 0 where
  pub joined : after.0.joined ≡ others
  pub seats : after.0.seats ≡ length others + 1
  pub number : after.0.number ≡ me.0.number
  pub seen : after.0.seen ≡ me.0.seen
  pub made : after.0.made ≡ me.0.made
  pub fixed : after.0.fixed ≡ me.0.fixed
  pub idle : after.0.stage ≡ Idle
  pub bare : after.1 ≡ []

module _ {V S R E F : Type 0} (m : Meaning V S R E F) where
  -- the first seat, of a turn over the value
  pub record Opens (value : V) (seat : Seat V S R E F) : Type 0 where
    pub number : seat.number ≡ 0
    pub turns : seat.turns ≡ 0
    pub made : seat.made ≡ 1
    pub seen : seen_by seat ≡ []
    pub fixed : fixed_of seat ≡ Some (m.fixed value)

  -- The other seat has seen what the first one has seen, and has no entry in it. The first one counts it.
  pub record Splits (old new other : Seat V S R E F) : Type 0 where
    pub same : IsSameSeat old new
    pub seen : seen_by new ≡ seen_by old
    pub turns : new.turns ≡ old.turns
    pub made : new.made ≡ old.made + 1
    pub other_number : other.number ≡ old.made
    pub other_turn : turn_of other ≡ turn_of old
    pub other_seen : seen_by other ≡ seen_by old
    pub other_mine : own m other.number (seen_by other) ≡ []
    pub other_fixed : fixed_of other ≡ fixed_of old
    pub other_turns : other.turns ≡ 0
    pub other_made : other.made ≡ 0

  -- One step was made, and its entry was added. What the seat has seen begins with what it had seen, goes on with entries of others, and ends with its own.
  pub record Turned (old new : Seat V S R E F) (step : S) (reply : R) : Type 0 where
    pub before : V
    pub after : V
    pub between : List E
    pub others : own m old.number between ≡ []
    pub seen : seen_by new ≡ (seen_by old ++ between) ++ m.entry before old.number step reply after ∷ []
    pub mine : own m old.number (seen_by new) ≡ own m old.number (seen_by old) ++ m.entry before old.number step reply after ∷ []
    pub stood : m.stands before (seen_by old ++ between)
    pub stands : m.stands after (seen_by new)
    pub fixed : fixed_of new ≡ Some (m.fixed after)
    pub same : IsSameSeat old new
    pub made : new.made ≡ old.made
    pub turns : new.turns ≡ old.turns + 1

  -- The value stands for one record. It is what one of the seats has seen, each has seen a front of it with all of its own entries, and no other has an entry.
  pub record StandsForAll (value : V) (all : List (Sight E)) : Type 0 where
    pub past : List E
    pub stands : m.stands value past
    pub longest : (x : Sight E) × Contains all x × (x.seen ≡ past)
    pub fronts : All (Begins m past) all
    pub makers : (n : ℕ) → length all ≤ n → own m n past ≡ []
