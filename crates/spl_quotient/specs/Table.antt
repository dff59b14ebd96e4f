-- What a contract sees of a table of slots: the slots, read from one on that no run from before reaches.
use Rattle.std.specs.Prelude.{◌≡◌, ℕ, suc, ◌+◌, ◌-◌, ◌/◌, ◌%◌, ◌^◌, Bool, true, false, ◌==◌, nat_lt, ◌&&◌, if◌then◌else◌, List, ◌++◌, length, take, drop, slice_index_or}
use Rattle.spl_quotient.specs.Slot.{Slot, blank, is_used, begins_run}
use Rattle.spl_quotient.specs.Spot.{spot_of}
use Rattle.spl_quotient.specs.Counts.{tally, some_below, passing}

-- the slots in the order in which their runs lie, and the number of the first of them
pub record Table : Type 0 where
  pub slots : List Slot
  pub origin : ℕ

-- a list read from a place on, and then from its begin up to that place
abbrev pub turned : {X : Type 0} → ℕ → List X → List X
turned origin xs = drop origin xs ++ take origin xs

-- the place that comes to stand at a position when a list of that length is so read
abbrev pub place_in_turn : ℕ → ℕ → ℕ → ℕ
place_in_turn origin len position =
    if nat_lt position (len - origin) then origin + position else position - (len - origin)

-- the position of the slot with this number, where so many are counted from the origin
abbrev pub position_in : ℕ → ℕ → ℕ → ℕ
position_in origin len number = if nat_lt number origin then number + len - origin else number - origin

-- the slot at a position; behind the last one nothing lies
abbrev pub at : List Slot → ℕ → Slot
at slots position = slice_index_or slots position blank

abbrev pub occupied_at : List Slot → ℕ → Bool
occupied_at slots position = (at slots position).occupied

abbrev pub used_at : List Slot → ℕ → Bool
used_at slots position = is_used (at slots position)

abbrev pub begins_at : List Slot → ℕ → Bool
begins_at slots position = begins_run (at slots position)

-- how many of the first n slots are occupied, and in how many of them a run begins
abbrev pub homes : List Slot → ℕ → ℕ
homes slots n = tally (occupied_at slots) n

abbrev pub runs : List Slot → ℕ → ℕ
runs slots n = tally (begins_at slots) n

-- the slot at the place has the remainder, and is in the run with this number, counted from 1
abbrev pub has_at : List Slot → ℕ → ℕ → ℕ → Bool
has_at slots run remainder place =
    used_at slots place && (runs slots (suc place) == run) && ((at slots place).remainder == remainder)

-- the home is occupied, and its run has the remainder: the runs lie in the order of their homes
abbrev pub has : List Slot → ℕ → ℕ → Bool
has slots home remainder =
    occupied_at slots home && some_below (has_at slots (homes slots (suc home)) remainder) (length slots)

-- the position of the slot of a fingerprint's quotient
abbrev pub home_in : ℕ → ℕ → ℕ → ℕ
home_in origin len print = position_in origin len (print / 2 ^ 12)

-- the remainder of the spot lies in the run of its home
abbrev pub shows : Table → ℕ → Bool
shows table spot = has table.slots (home_in table.origin (length table.slots) spot) (spot % 2 ^ 12)

-- the spots that a table of 2 ^ q slots shows, in order
unfoldable pub spots_in : ℕ → Table → List ℕ
spots_in q table = passing (shows table) (2 ^ (q + 12))

-- the fingerprints whose spots it shows, in order
unfoldable pub prints_in : ℕ → Table → List ℕ
prints_in q table = passing (λ print. shows table (spot_of q print)) (2 ^ (q + 12))

-- how runs lie
pub record IsLaid (slots : List Slot) : Type 0 where
  -- no run from before reaches the first slot
  pub first : (at slots 0).shifted ≡ false
  -- where a slot is its own quotient's or empty, each run of the quotients up to it has begun
  pub balanced : (j : ℕ) → (at slots j).shifted ≡ false → runs slots (suc j) ≡ homes slots (suc j)
  -- a continuation comes right behind another remainder
  pub shifted : (j : ℕ) → (at slots j).continuation ≡ true → (at slots j).shifted ≡ true
  pub follows : (j : ℕ) → (at slots (suc j)).continuation ≡ true → used_at slots j ≡ true
