-- What sound fields say of the queue that they hold, and the queue after a step on the fields.
use Rattle.std.proofs.Common.{◌≡◌, ℕ, ◌+◌, ◌-◌, ◌%◌, ◌<◌, ◌≤◌, max, List, [], ◌∷◌, ◌++◌, Option, None, Some, MatchOption, length, map, get_or, set, take, drop, replicate, refl, sym, ap, ap₂, ◌∙◌, arith, length-set}
use Rattle.std.specs.Option.{option_to_list}
use Rattle.std.proofs.lemmas.List.{get_or-map, nil_from_length}
use Rattle.std.proofs.lemmas.List.Elements.{All-map}
use Rattle.spl_bundle.specs.declared.bundles.TheConstants.{MAX_LISTS, MAX_BRANCHES}
use Rattle.spl_bundle.specs.declared.bundles.Bundles.TheInside.{Inside}
use Rattle.spl_bundle.specs.declared.slots.Slot.{Slot}
use Rattle.spl_bundle.specs.Numbered.{Numbered, Bundle, unmarked, bundle_at, next_of, pushed, dropped_below, merged, marked, owned_by, released, without_mark, IsWithinLimits}
use Rattle.spl_bundle.specs.Slots.{window, bundle_in, contents, numbered, IsSound}
use Rattle.spl_bundle.proofs.Windows.{length-window, get_or-window, drop-window, All-window, window-push, window-map}
use Rattle.spl_bundle.proofs.Runs.{owned}

-- equal parts make equal queues
same_queue : (a b : ℕ) (xs ys : List Bundle) → a ≡ b → xs ≡ ys → let q : Numbered = record { first = a; bundles = xs } in let r : Numbered = record { first = b; bundles = ys } in q ≡ r
same_queue a b xs ys p q = cc

pub numbered-none : (slots : List Slot) (first : ℕ) → numbered (record { slots = slots; first = first; next = first }) ≡ record { first = first; bundles = [] }
numbered-none slots first =
    same_queue _ _ _ _ refl (nil_from_length _ (length-window (contents slots) first (first - first) ∙ omega arith))

module _ (inside : Inside) where
  pub length-lists : length (numbered inside).bundles ≡ inside.next - inside.first
  length-lists = length-window (contents inside.slots) inside.first (inside.next - inside.first)

  pub next_is : IsSound inside → inside.next ≡ next_of (numbered inside)
  next_is sound = let counted = length-lists in omega (arith, sound.in_order)

  pub within_limits : IsSound inside → IsWithinLimits (numbered inside)
  within_limits sound = record {
    lists = rw length-lists sound.lists;
    branches =
        let fits : Bundle → Type 0 = λ bundle. length bundle.branches ≤ MAX_BRANCHES in
        All-window (contents inside.slots) fits inside.first (inside.next - inside.first) (omega arith) (All-map fits bundle_in inside.slots (λ k d within. (sound.slots k d within).branches));
    numbers = let next = next_is sound in omega (arith, sound.numbers);
  }

  -- the bundle with a number that stands
  pub bundle-is : (number : ℕ) (x : Slot) → length inside.slots ≡ MAX_LISTS → inside.first ≤ number → number < inside.next → bundle_in (get_or inside.slots (number % MAX_LISTS) x) ≡ bundle_at (numbered inside) number
  bundle-is number x full from below =
      sym (get_or-window (contents inside.slots) inside.first (inside.next - inside.first) (number - inside.first) (unmarked []) (omega arith)
      ∙ ap (λ (n : ℕ). get_or (contents inside.slots) (n % MAX_LISTS) (unmarked [])) (omega arith)
      ∙ get_or-map bundle_in inside.slots (number % MAX_LISTS) x (unmarked []) (omega arith))

  pub numbered-drop : (number : ℕ) → inside.first ≤ number → numbered (record inside { first = number }) ≡ dropped_below (numbered inside) number
  numbered-drop number from =
      same_queue _ _ _ _ (omega arith) (sym (drop-window (contents inside.slots) (number - inside.first) inside.first (inside.next - inside.first) ∙ ap₂ (window (contents inside.slots)) (omega arith) (omega arith)))

  pub numbered-push : (slots : List Slot) (list : List ℕ) → IsSound inside → length (contents slots) ≡ MAX_LISTS → inside.next - inside.first < MAX_LISTS → contents slots ≡ set (contents inside.slots) (inside.next % MAX_LISTS) (unmarked list) → numbered (record inside { slots = slots; next = inside.next + 1 }) ≡ pushed (numbered inside) list
  numbered-push slots list sound full room filled =
      let count = inside.next - inside.first in
      let ordered = sound.in_order in
      let end : inside.first + count ≡ inside.next = omega arith in
      same_queue _ _ _ _ refl (
      ap₂ (λ xs n. window xs inside.first n) filled (omega arith)
      ∙ ap (λ (n : ℕ). window (set (contents inside.slots) (n % MAX_LISTS) (unmarked list)) inside.first (count + 1)) (sym end)
      ∙ window-push (contents inside.slots) inside.first count (unmarked list) (sym (ap length filled ∙ length-set _ _ _) ∙ full) room
      )

  pub numbered-merge : (after : Inside) (first last from : ℕ) (output : Option ℕ) (list : List ℕ) → after.first ≡ inside.first → after.next ≡ inside.next → from ≡ max inside.first first → list ≡ option_to_list output → window (contents after.slots) inside.first (inside.next - inside.first) ≡ take (from - inside.first) (numbered inside).bundles ++ replicate (last - from) (unmarked []) ++ unmarked list ∷ drop (last + 1 - inside.first) (numbered inside).bundles → numbered after ≡ merged (numbered inside) first last output
  numbered-merge after first last from output list same_first same_next start held lists =
      let old = (numbered inside).bundles in
      let before : from - inside.first ≡ first - inside.first = omega arith in
      let run : last - from ≡ last - max first inside.first = omega arith in
      same_queue _ _ _ _ same_first (
      ap₂ (window (contents after.slots)) same_first (omega arith)
      ∙ lists
      ∙ ap₂ (λ (m n : ℕ). take m old ++ replicate n (unmarked []) ++ unmarked list ∷ drop (last + 1 - inside.first) old) before run
      ∙ ap (λ held. take (first - inside.first) old ++ replicate (last - max first inside.first) (unmarked []) ++ unmarked held ∷ drop (last + 1 - inside.first) old) held
      )

  pub numbered-mark : (after : Inside) (first last from : ℕ) (owner : Option ℕ) → after.first ≡ inside.first → after.next ≡ inside.next → from ≤ last → from ≡ max inside.first first → window (contents after.slots) inside.first (inside.next - inside.first) ≡ owned owner (numbered inside).bundles (from - inside.first) (last + 1 - from) → numbered after ≡ marked (numbered inside) first last owner
  numbered-mark after first last from owner same_first same_next ordered start bundles =
      let old = (numbered inside).bundles in
      let at = first - inside.first in
      let before : from - inside.first ≡ at = omega arith in
      let run : last + 1 - from ≡ last + 1 - max first inside.first = omega arith in
      same_queue _ _ _ _ same_first (
      ap₂ (window (contents after.slots)) same_first (omega arith)
      ∙ bundles
      ∙ ap₂ (λ (m n : ℕ). take m old ++ map (owned_by owner) (take n (drop m old)) ++ drop (m + n) old) before run
      ∙ ap (λ (n : ℕ). take at old ++ map (owned_by owner) (take (last + 1 - max first inside.first) (drop at old)) ++ drop n old) (omega arith)
      )

  pub numbered-release : (slots : List Slot) (actor : ℕ) → contents slots ≡ map (without_mark actor) (contents inside.slots) → numbered (record inside { slots = slots }) ≡ released (numbered inside) actor
  numbered-release slots actor cleared =
      same_queue _ _ _ _ refl (
      ap (λ bs. window bs inside.first (inside.next - inside.first)) cleared
      ∙ window-map (without_mark actor) refl (contents inside.slots) inside.first (inside.next - inside.first)
      )

-- an option as a slice
pub slice_of_option : (output : Option ℕ) (list : List ℕ) → MatchOption output (list ≡ []) (λ x. list ≡ x ∷ []) → list ≡ option_to_list output
slice_of_option None list none = none
slice_of_option (Some x) list some = some
