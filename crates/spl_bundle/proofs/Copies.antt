-- Slots that are copied or changed one after another.
use Rattle.std.proofs.Common.{◌≡◌, ℕ, ◌+◌, ◌<◌, List, length, map, get_or, set, take, drop, sym, ap, ap₂, ◌++◌, ◌∷◌, [], ◌∙◌, arith}
use Rattle.std.proofs.lemmas.List.{map-set, take_more, take_more_set, get_or-map, length-map, take_all}
use Rattle.std.proofs.lemmas.List.Edits.{map_over_more}
use Rattle.spl_bundle.specs.declared.slots.Slot.{Slot}
use Rattle.spl_bundle.specs.Numbered.{unmarked, without_mark}
use Rattle.spl_bundle.specs.Slots.{bundle_in, contents}

module _ (slots copy : List Slot) (i : ℕ) where
  pub copied_more : (slot x : Slot) → i < length slots → i < length copy → bundle_in slot ≡ bundle_in (get_or slots i x) → take i (contents copy) ≡ take i (contents slots) → take (i + 1) (contents (set copy i slot)) ≡ take (i + 1) (contents slots)
  copied_more slot x in_slots in_copy same before =
      ap (take (i + 1)) (map-set bundle_in copy i slot)
      ∙ take_more_set (contents copy) i (bundle_in slot) (rw (length-map copy bundle_in) in_copy)
      ∙ ap₂ (λ front bundle. front ++ bundle ∷ []) before (same ∙ sym (get_or-map bundle_in slots i x (unmarked []) in_slots))
      ∙ sym (take_more (contents slots) i (unmarked []) (rw (length-map slots bundle_in) in_slots))

  pub copied_all : length slots ≡ i → length copy ≡ i → take i (contents copy) ≡ take i (contents slots) → contents copy ≡ contents slots
  copied_all long_slots long_copy same =
      sym (take_all i (contents copy) (rw (length-map copy bundle_in) (omega arith)))
      ∙ same
      ∙ take_all i (contents slots) (rw (length-map slots bundle_in) (omega arith))

-- the slots before i have no mark of the actor, and slot i is cleared next
module _ (actor : ℕ) (before slots : List Slot) (i : ℕ) where
  pub cleared_more : (slot x : Slot) → i < length before → i < length slots → bundle_in slot ≡ without_mark actor (bundle_in (get_or slots i x)) → contents slots ≡ map (without_mark actor) (take i (contents before)) ++ drop i (contents before) → contents (set slots i slot) ≡ map (without_mark actor) (take (i + 1) (contents before)) ++ drop (i + 1) (contents before)
  cleared_more slot x in_before in_slots cleared marks =
      let next = bundle_in (get_or slots i x) in
      map-set bundle_in slots i slot
      ∙ ap (set (contents slots) i) cleared
      ∙ map_over_more (without_mark actor) (contents before) (contents slots) i next (rw (length-map before bundle_in) in_before) marks (sym (get_or-map bundle_in slots i x next in_slots))
