-- How a queue of numbered bundles lies in its slots: the bundle with number n in the slot n % MAX_LISTS.
use Rattle.std.specs.Prelude.{ℕ, zero, suc, ◌+◌, ◌-◌, ◌%◌, ◌^◌, ◌<◌, ◌≤◌, List, [], ◌∷◌, length, map, slice_index_or, All}
use Rattle.spl_bundle.specs.declared.bundles.TheConstants.{MAX_LISTS, MAX_BRANCHES}
use Rattle.spl_bundle.specs.declared.bundles.Bundles.TheInside.{Inside}
use Rattle.spl_bundle.specs.declared.slots.Slot.{Slot}
use Rattle.spl_bundle.specs.Numbered.{Numbered, Bundle, unmarked}

-- so many bundles, from this number on
unfoldable pub window : List Bundle → ℕ → ℕ → List Bundle
window slots first zero = []
window slots first (suc count) = slice_index_or slots (first % MAX_LISTS) (unmarked []) ∷ window slots (first + 1) count

-- what a slot holds
abbrev pub bundle_in : Slot → Bundle
bundle_in slot = record { branches = slot.branches.items; owner = slot.owner }

abbrev pub contents : List Slot → List Bundle
contents slots = map bundle_in slots

-- the queue that the slots hold
abbrev pub numbered : Inside → Numbered
numbered inside = record {
  first = inside.first;
  bundles = window (contents inside.slots) inside.first (inside.next - inside.first);
}

-- a slot holds at most one list's branches, and never needs an allocation
pub record IsSlot (slot : Slot) : Type 0 where
  pub branches : length slot.branches.items ≤ MAX_BRANCHES
  pub room : MAX_BRANCHES ≤ slot.branches.capacity

-- what holds of the fields
pub record IsSound (inside : Inside) : Type 0 where
  pub in_order : inside.first ≤ inside.next
  pub lists : inside.next - inside.first ≤ MAX_LISTS
  pub numbers : inside.next < 2 ^ 64
  pub slots : All IsSlot inside.slots
