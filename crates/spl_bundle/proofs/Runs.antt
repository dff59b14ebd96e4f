-- Lemmas on a run of lists that is emptied one by one.
use Rattle.std.proofs.Common.{◌≡◌, ℕ, ◌+◌, ◌-◌, ◌%◌, ◌<◌, ◌≤◌, List, [], ◌∷◌, ◌++◌, Option, length, map, get_or, set, take, drop, replicate, sym, ap, ap₂, ◌∙◌, arith, append_assoc, length-append, length-set, length-take-le, length-drop, get_or-drop, take-append-drop}
use Rattle.std.proofs.lemmas.List.{drop_more, set_at, replicate_more, length-replicate, length-map, get_or-append_right, take_more, map_push}
use Rattle.spl_bundle.specs.declared.bundles.TheConstants.{MAX_LISTS}
use Rattle.spl_bundle.specs.Numbered.{Bundle, unmarked, owned_by}
use Rattle.spl_bundle.specs.Slots.{window}
use Rattle.spl_bundle.proofs.Windows.{window-set, get_or-window}

-- the lists with so many of them emptied, from a place on
abbrev pub emptied : List Bundle → ℕ → ℕ → List Bundle
emptied lists at count = take at lists ++ replicate count (unmarked []) ++ drop (at + count) lists

-- a write where the rest of a list begins
set-front_drop : (front lists : List Bundle) (n : ℕ) (list : Bundle) → length front ≡ n → n < length lists → set (front ++ drop n lists) n list ≡ front ++ list ∷ drop (n + 1) lists
set-front_drop front lists n list long within =
    ap (λ rest. set (front ++ rest) n list) (drop_more lists n (unmarked []) within)
    ∙ set_at front (get_or lists n (unmarked [])) (drop (n + 1) lists) list n long

module _ (lists : List Bundle) (at : ℕ) where
  pub emptied_none : lists ≡ emptied lists at 0
  emptied_none =
      sym (
      append_assoc (take at lists) [] (drop (at + 0) lists)
      ∙ ap (λ (n : ℕ). take at lists ++ drop n lists) (omega arith)
      ∙ take-append-drop at lists
      )

  set-emptied : (count : ℕ) (list : Bundle) → at + count < length lists → set (emptied lists at count) (at + count) list ≡ take at lists ++ replicate count (unmarked []) ++ list ∷ drop (at + count + 1) lists
  set-emptied count list within =
      set-front_drop (take at lists ++ replicate count (unmarked [])) lists (at + count) list (length-append (take at lists) (replicate count (unmarked [])) ∙ ap₂ ◌+◌ (length-take-le at lists (omega arith)) (length-replicate count (unmarked []))) within

  emptied_more : (count : ℕ) → at + count < length lists → set (emptied lists at count) (at + count) (unmarked []) ≡ emptied lists at (count + 1)
  emptied_more count within =
      set-emptied count (unmarked []) within
      ∙ sym (append_assoc (take at lists ++ replicate count (unmarked [])) (unmarked [] ∷ []) (drop (at + count + 1) lists))
      ∙ ap (λ front. front ++ drop (at + count + 1) lists) (append_assoc (take at lists) (replicate count (unmarked [])) (unmarked [] ∷ []) ∙ ap (λ run. take at lists ++ run) (replicate_more count (unmarked [])))
      ∙ ap (λ (n : ℕ). take at lists ++ replicate (count + 1) (unmarked []) ++ drop n lists) (omega arith)

-- slots whose lists before `number` are emptied from `from` on, and what a write to the slot of `number` makes of them
module _ (lists slots new : List Bundle) (first count from number : ℕ) (list : Bundle) (counted : length lists ≡ count) (fits : count ≤ MAX_LISTS) (start : first ≤ from) (ordered : from ≤ number) (below : number < first + count) (full : length new ≡ MAX_LISTS) (written : new ≡ set slots (number % MAX_LISTS) list) (run : window slots first count ≡ emptied lists (from - first) (number - from)) where
  written_list : window new first count ≡ set (emptied lists (from - first) (number - from)) ((from - first) + (number - from)) list
  written_list =
      ap (λ slots. window slots first count) written
      ∙ window-set slots first count list (sym (ap length written ∙ length-set slots (number % MAX_LISTS) list) ∙ full) number fits (omega arith) below
      ∙ ap₂ (λ lists n. set lists n list) run (omega arith)

  pub run_more : list ≡ unmarked [] → window new first count ≡ emptied lists (from - first) (number + 1 - from)
  run_more empty =
      written_list
      ∙ ap (λ list. set (emptied lists (from - first) (number - from)) ((from - first) + (number - from)) list) empty
      ∙ emptied_more lists (from - first) (number - from) (omega arith)
      ∙ ap (emptied lists (from - first)) (omega arith)

  pub run_end : window new first count ≡ take (from - first) lists ++ replicate (number - from) (unmarked []) ++ list ∷ drop (number + 1 - first) lists
  run_end =
      written_list
      ∙ set-emptied lists (from - first) (number - from) list (omega arith)
      ∙ ap (λ (n : ℕ). take (from - first) lists ++ replicate (number - from) (unmarked []) ++ list ∷ drop n lists) (omega arith)

-- the bundles with so many of them given an owner, from a place on
abbrev pub owned : Option ℕ → List Bundle → ℕ → ℕ → List Bundle
owned owner bundles at count =
    take at bundles ++ map (owned_by owner) (take count (drop at bundles)) ++ drop (at + count) bundles

module _ (owner : Option ℕ) (bundles : List Bundle) (at : ℕ) where
  pub owned_none : bundles ≡ owned owner bundles at 0
  owned_none =
      sym (
      append_assoc (take at bundles) [] (drop (at + 0) bundles)
      ∙ ap (λ (n : ℕ). take at bundles ++ drop n bundles) (omega arith)
      ∙ take-append-drop at bundles
      )

  module _ (count : ℕ) (within : at + count < length bundles) where
    length-run : length (take at bundles ++ map (owned_by owner) (take count (drop at bundles))) ≡ at + count
    length-run =
        length-append (take at bundles) (map (owned_by owner) (take count (drop at bundles)))
        ∙ ap₂ ◌+◌ (length-take-le at bundles (omega arith)) (length-map (take count (drop at bundles)) (owned_by owner) ∙ length-take-le count (drop at bundles) (omega (arith, length-drop at bundles)))

    -- the next bundle is still as it was
    pub owned-next : get_or (owned owner bundles at count) (at + count) (unmarked []) ≡ get_or bundles (at + count) (unmarked [])
    owned-next =
        get_or-append_right (take at bundles ++ map (owned_by owner) (take count (drop at bundles))) (drop (at + count) bundles) (at + count) (at + count) (unmarked []) length-run (omega arith)
        ∙ get_or-drop (at + count) bundles (at + count - (at + count)) (unmarked [])
        ∙ ap (λ (n : ℕ). get_or bundles n (unmarked [])) (omega arith)

    pub owned_more : set (owned owner bundles at count) (at + count) (owned_by owner (get_or bundles (at + count) (unmarked []))) ≡ owned owner bundles at (count + 1)
    owned_more =
        let run = take count (drop at bundles) in
        let next = get_or bundles (at + count) (unmarked []) in
        let longer : take (count + 1) (drop at bundles) ≡ run ++ next ∷ [] = take_more (drop at bundles) count (unmarked []) (omega (arith, length-drop at bundles)) ∙ ap (λ (b : Bundle). run ++ b ∷ []) (get_or-drop at bundles count (unmarked [])) in
        set-front_drop (take at bundles ++ map (owned_by owner) run) bundles (at + count) (owned_by owner next) length-run within
        ∙ sym (append_assoc (take at bundles ++ map (owned_by owner) run) (owned_by owner next ∷ []) (drop (at + count + 1) bundles))
        ∙ ap (λ front. front ++ drop (at + count + 1) bundles) (append_assoc (take at bundles) (map (owned_by owner) run) (owned_by owner next ∷ []) ∙ ap (λ run. take at bundles ++ run) (sym (map_push (owned_by owner) run next) ∙ ap (map (owned_by owner)) (sym longer)))
        ∙ ap (λ (n : ℕ). take at bundles ++ map (owned_by owner) (take (count + 1) (drop at bundles)) ++ drop n bundles) (omega arith)

-- slots whose bundles of a run below `number` have the owner, and what a change in the slot of `number` makes of them
module _ (owner : Option ℕ) (bundles slots new : List Bundle) (first count from number : ℕ) (counted : length bundles ≡ count) (fits : count ≤ MAX_LISTS) (start : first ≤ from) (ordered : from ≤ number) (below : number < first + count) (full : length new ≡ MAX_LISTS) (written : new ≡ set slots (number % MAX_LISTS) (owned_by owner (get_or slots (number % MAX_LISTS) (unmarked [])))) (run : window slots first count ≡ owned owner bundles (from - first) (number - from)) where
  pub owned_run_more : window new first count ≡ owned owner bundles (from - first) (number + 1 - from)
  owned_run_more =
      let at = from - first in
      let done = number - from in
      let slot = get_or slots (number % MAX_LISTS) (unmarked []) in
      let old : slot ≡ get_or bundles (at + done) (unmarked []) =
      sym (get_or-window slots first count (number - first) (unmarked []) (omega arith) ∙ ap (λ (n : ℕ). get_or slots (n % MAX_LISTS) (unmarked [])) (omega arith))
      ∙ ap₂ (λ bs (n : ℕ). get_or bs n (unmarked [])) run (omega arith)
      ∙ owned-next owner bundles at done (omega arith) in
      ap (λ slots. window slots first count) written
      ∙ window-set slots first count (owned_by owner slot) (sym (ap length written ∙ length-set slots (number % MAX_LISTS) (owned_by owner slot)) ∙ full) number fits (omega arith) below
      ∙ ap₂ (λ bs n. set bs n (owned_by owner slot)) run (omega arith)
      ∙ ap (λ b. set (owned owner bundles at done) (at + done) (owned_by owner b)) old
      ∙ owned_more owner bundles at done (omega arith)
      ∙ ap (owned owner bundles at) (omega arith)
