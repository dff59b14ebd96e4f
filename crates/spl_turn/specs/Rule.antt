-- The rule of the table, which holds between any two steps: one record, of which each seat has seen a front.
use Rattle.std.specs.Prelude.{◌≡◌, ℕ, ◌+◌, ◌*◌, ◌<◌, ◌≤◌, zero, suc, List, [], ◌∷◌, ◌++◌, length, All, Contains, Option, Some, None}
use mathlib.Core.Option.{some, none}
use mathlib.Core.Option as maybe
use lib.ListN.{get_elem?}
use Rattle.atomic_table.specs.Table.{State}
use Rattle.spl_turn.specs.Meaning.{Meaning, own}
use Rattle.spl_turn.specs.declared.known.Known.{Known}
use Rattle.spl_turn.specs.declared.known.Sight.{Sight}
use Rattle.spl_turn.specs.declared.known.Stage.{Stage}
use Rattle.spl_turn.specs.declared.known.Stage.TheVariants.{Idle, Waits, Holds}
use Rattle.spl_turn.specs.declared.guarded.Guarded.{Guarded}

-- the values of all views, added up
abbrev pub total : {X : Type 0} → (X → ℕ) → List X → ℕ
total f [] = 0
total f (v ∷ vs) = f v + total f vs

-- the seats are at most 32, and each makes at most 2^41 turns
abbrev pub most_seats : ℕ
most_seats = 32

abbrev pub most_turns : ℕ
most_turns = 2199023255552

abbrev pub is_waiting : Stage → ℕ
is_waiting Idle = 0
is_waiting Waits = 1
is_waiting Holds = 0

abbrev pub is_holding : Stage → ℕ
is_holding Idle = 0
is_holding Waits = 0
is_holding Holds = 1

abbrev pub sight : {E : Type 0} → ℕ → List E → Sight E
sight number seen = record { number = number; seen = seen }

module _ {E F : Type 0} where
  -- what the seats had seen that a view speaks for
  abbrev pub sights : Known E F → List (Sight E)
  sights v = sight v.number v.seen ∷ v.joined

module _ {V S R E F : Type 0} (m : Meaning V S R E F) where
  -- the record begins with what was seen, and behind it stands no entry of the seat's
  pub record Begins (past : List E) (x : Sight E) : Type 0 where
    pub rest : List E
    pub whole : past ≡ x.seen ++ rest
    pub others : own m x.number rest ≡ []

  -- a seat at the index j, where each number is one seat's: it has seen a front of the record, and so had those that were joined into it
  pub record FitsSight (past : List E) (made : ℕ) (owner : ℕ → ℕ) (j : ℕ) (x : Sight E) : Type 0 where
    pub owned : owner x.number ≡ j
    pub below : x.number < made
    pub begins : Begins past x

  pub record Fits (past : List E) (made : ℕ) (fixed : F) (owner : ℕ → ℕ) (j : ℕ) (v : Known E F) : Type 0 where
    pub fronts : 0 < v.seats → All (FitsSight past made owner j) (sights v)
    pub few_turns : v.turns ≤ most_turns * v.seats
    pub is_first : 0 < v.made → (j ≡ 0) × (v.made ≡ made)
    pub same_fixed : 0 < v.seats → v.fixed ≡ Some fixed
    pub holder : v.stage ≡ Holds → v.seen ≡ past
    pub spent : v.seats ≡ 0 → v.stage ≡ Idle

  -- the value is at home, and stands for the whole record; or it is out
  abbrev pub Home : List E → F → ℕ → List (maybe.Option (Guarded V S R)) → Type 0
  Home past fixed zero homes = (g : Guarded V S R) × (homes ≡ some g ∷ []) × m.stands g.value past × (m.fixed g.value ≡ fixed)
  Home past fixed (suc _) homes = homes ≡ none ∷ []

  -- some seat has seen the whole record
  pub record Witness (past : List E) (views : List (Known E F)) : Type 0 where
    pub index : ℕ
    pub view : Known E F
    pub there : get_elem? views index ≡ some view
    pub unspent : 0 < view.seats
    pub at : Sight E
    pub among : Contains (sights view) at
    pub whole : at.seen ≡ past

  pub record Kept (s : State (Guarded V S R) (Known E F)) : Type 0 where
    pub past : List E
    pub fixed : F
    pub made : ℕ
    pub owner : ℕ → ℕ
    pub out : ℕ
    -- the words
    pub words : s.words ≡ (2 * length past + out) ∷ total (λ v. is_waiting v.stage) s.views ∷ []
    pub holders : total (λ v. is_holding v.stage) s.views ≡ out
    pub one_holder : out ≤ 1
    pub home : Home past fixed out s.homes
    -- the seats
    pub few_made : made ≤ most_seats
    pub all_seats : total (λ v. v.seats) s.views ≡ made
    pub all_turns : total (λ v. v.turns) s.views ≡ length past
    pub makers : (n : ℕ) → made ≤ n → own m n past ≡ []
    pub each : (j : ℕ) (v : Known E F) → get_elem? s.views j ≡ some v → Fits past made fixed owner j v
    pub witness : Witness past s.views
