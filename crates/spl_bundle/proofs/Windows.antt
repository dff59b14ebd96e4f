-- Lemmas on the window of lists that slots hold.
use Rattle.std.proofs.Common.{◌≡◌, ◌≢◌, ℕ, zero, suc, ◌+◌, ◌-◌, ◌%◌, ◌<◌, ◌≤◌, List, [], ◌∷◌, ◌++◌, length, map, get_or, set, drop, refl, sym, ap, ap₂, ◌∙◌, inl, inr, arith, length-set, length-drop, length-append, get_or-set_same, get_or-set_other, get_or-drop}
use Rattle.std.specs.Prelude.{All}
use Rattle.std.proofs.lemmas.List.{same_lists, get_or_append_left, get_or_at, get_or_past}
use Rattle.std.proofs.lemmas.List.Elements.{All-get_or, All-from_get_or}
use Rattle.std.proofs.lemmas.Bool.{cases_lt, cases_eq}
use Rattle.spl_bundle.specs.declared.bundles.TheConstants.{MAX_LISTS}
use Rattle.spl_bundle.specs.Numbered.{Bundle, unmarked}
use Rattle.spl_bundle.specs.Slots.{window}

read_map : (f : Bundle → Bundle) → f (unmarked []) ≡ unmarked [] → (slots : List Bundle) (i : ℕ) → get_or (map f slots) i (unmarked []) ≡ f (get_or slots i (unmarked []))
read_map f none [] i = sym none
read_map f none (x ∷ xs) zero = refl
read_map f none (x ∷ xs) (suc i) = read_map f none xs i

-- numbers less than the number of slots apart have slots of their own
slots_differ : (m n : ℕ) → m ≢ n → m < n + MAX_LISTS → n < m + MAX_LISTS → m % MAX_LISTS ≢ n % MAX_LISTS
slots_differ m n differ near_m near_n same = absurd (omega arith)

module _ (slots : List Bundle) where
  pub length-window : (first count : ℕ) → length (window slots first count) ≡ count
  unfolding window
  length-window first zero = refl
  length-window first (suc count) = ap suc (length-window (first + 1) count)

  -- list i of a window lies in the slot of its number
  pub get_or-window : (first count i : ℕ) (d : Bundle) → i < count → get_or (window slots first count) i d ≡ get_or slots ((first + i) % MAX_LISTS) (unmarked [])
  unfolding window
  get_or-window first zero i d within = absurd (omega arith)
  get_or-window first (suc count) zero d within = ap (λ (n : ℕ). get_or slots (n % MAX_LISTS) (unmarked [])) (omega arith)
  get_or-window first (suc count) (suc i) d within =
      get_or-window (first + 1) count i d (omega arith) ∙ ap (λ (n : ℕ). get_or slots (n % MAX_LISTS) (unmarked [])) (omega arith)

  pub drop-window : (k first count : ℕ) → drop k (window slots first count) ≡ window slots (first + k) (count - k)
  drop-window k first count =
      let whole = length-window first count in
      let rest = length-window (first + k) (count - k) in
      same_lists _ _ (length-drop k _ ∙ omega arith) (λ i d within.
      let within_rest : i < count - k = omega (arith, length-drop k (window slots first count)) in
      get_or-drop k _ i d
      ∙ get_or-window first count (k + i) d (omega arith)
      ∙ ap (λ (n : ℕ). get_or slots (n % MAX_LISTS) (unmarked [])) (omega arith)
      ∙ sym (get_or-window (first + k) (count - k) i d within_rest))

  -- what holds of each slot and of no branches holds of each list
  pub All-window : (P : Bundle → Type 0) (first count : ℕ) → P (unmarked []) → All P slots → All P (window slots first count)
  All-window P first count none each =
      All-from_get_or P _ (unmarked []) (λ i within.
      let j = (first + i) % MAX_LISTS in
      rw (get_or-window first count i (unmarked []) (rw (length-window first count) at within)) (elim (cases_lt j (length slots)) [
        | inl inside ↦ All-get_or P slots j (unmarked []) inside each
        | inr past ↦ rw (get_or_past slots j (unmarked []) past) none
      ]))

-- a second block, since these use the lemmas above at the slots after a write
module _ (slots : List Bundle) (first count : ℕ) (list : Bundle) (full : length slots ≡ MAX_LISTS) where
  -- a write to the slot of a number of the window is a write to its list
  pub window-set : (n : ℕ) → count ≤ MAX_LISTS → first ≤ n → n < first + count → window (set slots (n % MAX_LISTS) list) first count ≡ set (window slots first count) (n - first) list
  window-set n fits from below =
      let written = set slots (n % MAX_LISTS) list in
      let before = length-window slots first count in
      let after = length-window written first count in
      same_lists _ _ (after ∙ sym before ∙ sym (length-set (window slots first count) (n - first) list)) (λ i d within.
      let within_count : i < count = omega arith in
      get_or-window written first count i d within_count ∙ elim (cases_eq i (n - first)) [
        | inl same ↦
            ap (λ (m : ℕ). get_or written (m % MAX_LISTS) (unmarked [])) (omega arith)
            ∙ get_or-set_same slots (n % MAX_LISTS) list (unmarked []) (omega arith)
            ∙ sym (ap (λ (m : ℕ). get_or (set (window slots first count) (n - first) list) m d) same ∙ get_or-set_same _ (n - first) list d (omega arith))
        | inr other ↦
            get_or-set_other slots (n % MAX_LISTS) _ list (unmarked []) (slots_differ (first + i) n (omega arith) (omega arith) (omega arith))
            ∙ sym (get_or-window slots first count i d within_count)
            ∙ sym (get_or-set_other (window slots first count) (n - first) i list d other)
      ])

  -- a write to the slot behind the window adds a list
  pub window-push : count < MAX_LISTS → window (set slots ((first + count) % MAX_LISTS) list) first (count + 1) ≡ window slots first count ++ list ∷ []
  window-push room =
      let written = set slots ((first + count) % MAX_LISTS) list in
      let before = length-window slots first count in
      let after = length-window written first (count + 1) in
      same_lists _ _ (after ∙ sym (length-append (window slots first count) (list ∷ []) ∙ ap (λ n. n + 1) before)) (λ i d within.
      get_or-window written first (count + 1) i d (omega arith) ∙ elim (cases_lt i count) [
        | inl older ↦
            get_or-set_other slots ((first + count) % MAX_LISTS) _ list (unmarked []) (slots_differ (first + i) (first + count) (omega arith) (omega arith) (omega arith))
            ∙ sym (get_or-window slots first count i d older)
            ∙ sym (get_or_append_left (window slots first count) (list ∷ []) d i (omega arith))
        | inr last ↦
            ap (λ (m : ℕ). get_or written (m % MAX_LISTS) (unmarked [])) (omega arith)
            ∙ get_or-set_same slots ((first + count) % MAX_LISTS) list (unmarked []) (omega arith)
            ∙ sym (get_or_at (window slots first count) list [] d i (omega arith))
      ])

-- a change of each slot that leaves an empty one is a change of each bundle
pub window-map : (f : Bundle → Bundle) → f (unmarked []) ≡ unmarked [] → (slots : List Bundle) (first count : ℕ) → window (map f slots) first count ≡ map f (window slots first count)
unfolding window
window-map f none slots first zero = refl
window-map f none slots first (suc count) =
    ap₂ ◌∷◌ (read_map f none slots (first % MAX_LISTS)) (window-map f none slots (first + 1) count)
