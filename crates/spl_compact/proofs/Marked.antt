-- The bundles of a queue after those of a run get a mark.
use Rattle.std.proofs.Common.{◌≡◌, ℕ, ◌+◌, ◌-◌, ◌<◌, ◌≤◌, max, List, [], ◌∷◌, ◌++◌, Option, map, flat_map, length, take, drop, get_or, refl, sym, ap, subst, ◌∙◌, arith, append_assoc, length-append, length-drop, length-take-le, take-append-drop}
use Rattle.std.specs.Prelude.{All}
use Rattle.std.proofs.lemmas.List.{drop-drop, map-append, length-map, take-map, drop-map, get_or_append_left, get_or-append_right, get_or-take, get_or-drop, get_or-map}
use Rattle.std.proofs.lemmas.List.Elements.{All-get_or, All-from_get_or}
use Rattle.spl_message.specs.declared.span.Span.{Span}
use Rattle.spl_bundle.specs.Numbered.{Numbered, Bundle, unmarked, bundle_at, next_of, joined, owned_by, marked}
use Rattle.spl_node.specs.Parts.{branches_from}
use Rattle.spl_state.specs.Bounds.{StartsFull}
use Rattle.spl_state.specs.Sight.{leaf_split}
use Rattle.spl_state.specs.Whole.{BranchData}

-- the branches of the bundles, bundle by bundle
abbrev pub lists_of : List Bundle → List (List ℕ)
lists_of bundles = map (λ (bundle : Bundle). bundle.branches) bundles

joined_lists : (bundles : List Bundle) → joined bundles ≡ flat_map (λ (list : List ℕ). list) (lists_of bundles)
joined_lists [] = refl
joined_lists (bundle ∷ bundles) = ap (λ (rest : List ℕ). bundle.branches ++ rest) (joined_lists bundles)

-- Who marked bundles is no matter to what asks for their branches alone.
module _ (xs ys : List Bundle) (alike : lists_of xs ≡ lists_of ys) where
  pub same_length : length xs ≡ length ys
  same_length =
      let branches : Bundle → List ℕ = λ bundle. bundle.branches in
      sym (length-map xs branches) ∙ ap (λ (lists : List (List ℕ)). length lists) alike ∙ length-map ys branches

  pub same_joined : (k n : ℕ) → joined (take k (drop n xs)) ≡ joined (take k (drop n ys))
  same_joined k n =
      let branches : Bundle → List ℕ = λ bundle. bundle.branches in
      let parts : (bundles : List Bundle) → lists_of (take k (drop n bundles)) ≡ take k (drop n (lists_of bundles)) = λ bundles.
      sym (take-map branches k (drop n bundles)) ∙ ap (take k) (sym (drop-map branches n bundles)) in
      joined_lists (take k (drop n xs))
      ∙ ap (flat_map (λ (list : List ℕ). list)) (parts xs ∙ ap (λ (lists : List (List ℕ)). take k (drop n lists)) alike ∙ sym (parts ys))
      ∙ sym (joined_lists (take k (drop n ys)))

abbrev first_full : List (List ℕ) → Type 0
first_full [] = Unit {0}
first_full (list ∷ lists) = 0 < length list

pub starts_full : (xs ys : List Bundle) → lists_of xs ≡ lists_of ys → StartsFull ys → StartsFull xs
starts_full xs ys alike full = from xs (subst first_full (sym alike) (to ys full))
  where
    to : (bundles : List Bundle) → StartsFull bundles → first_full (lists_of bundles)
    to [] full = full
    to (bundle ∷ bundles) full = full

    from : (bundles : List Bundle) → first_full (lists_of bundles) → StartsFull bundles
    from [] full = full
    from (bundle ∷ bundles) full = full

-- what holds of the branches of each bundle
pub all_alike : (P : List ℕ → Type 0) (xs ys : List Bundle) → lists_of xs ≡ lists_of ys → All (λ (bundle : Bundle). P bundle.branches) ys → All (λ (bundle : Bundle). P bundle.branches) xs
all_alike P xs ys alike all =
    let branches : Bundle → List ℕ = λ bundle. bundle.branches in
    let long = same_length xs ys alike in
    All-from_get_or (λ (bundle : Bundle). P bundle.branches) xs (unmarked []) (λ i within.
    let within_y : i < length ys = omega arith in
    let is : (get_or xs i (unmarked [])).branches ≡ (get_or ys i (unmarked [])).branches =
    sym (get_or-map branches xs i (unmarked []) [] within) ∙ ap (λ (lists : List (List ℕ)). get_or lists i []) alike ∙ get_or-map branches ys i (unmarked []) [] within_y in
    subst P (sym is) (All-get_or (λ (bundle : Bundle). P bundle.branches) ys i (unmarked []) within_y all))

-- and to where a leaf is to be split
pub split_alike : (range : Span) (branch : ℕ → Option BranchData) (xs ys : List Bundle) → lists_of xs ≡ lists_of ys → leaf_split range branch xs ≡ leaf_split range branch ys
split_alike range branch [] [] alike = refl
split_alike range branch [] (y ∷ ys) alike = cc
split_alike range branch (x ∷ xs) [] alike = cc
split_alike range branch (x ∷ []) (y ∷ []) alike =
    let same : x.branches ≡ y.branches = cc in
    rw same refl
split_alike range branch (x ∷ []) (y ∷ y₁ ∷ ys) alike = cc
split_alike range branch (x ∷ x₁ ∷ xs) (y ∷ []) alike = cc
split_alike range branch (x ∷ x₁ ∷ xs) (y ∷ y₁ ∷ ys) alike = refl

lists-owned : (owner : Option ℕ) (bundles : List Bundle) → lists_of (map (owned_by owner) bundles) ≡ lists_of bundles
lists-owned owner [] = refl
lists-owned owner (bundle ∷ bundles) = ap (λ (rest : List (List ℕ)). bundle.branches ∷ rest) (lists-owned owner bundles)

-- The bundles from `first` up to `last`, which all stand, get an owner.
module _ (queue : Numbered) (first last : ℕ) (owner : Option ℕ) (stands : queue.first ≤ first) (order : first ≤ last) (made : last < next_of queue) where
  abbrev at : ℕ
  at = first - queue.first

  abbrev count : ℕ
  count = last + 1 - max first queue.first

  abbrev front : List Bundle
  front = take at queue.bundles

  abbrev run : List Bundle
  run = take count (drop at queue.bundles)

  abbrev back : List Bundle
  back = drop (last + 1 - queue.first) queue.bundles

  pub lists-marked : lists_of (marked queue first last owner).bundles ≡ lists_of queue.bundles
  lists-marked =
      let branches : Bundle → List ℕ = λ bundle. bundle.branches in
      map-append branches (front ++ map (owned_by owner) run) back
      ∙ ap (λ (lists : List (List ℕ)). lists ++ lists_of back) (map-append branches front (map (owned_by owner) run) ∙ ap (λ (lists : List (List ℕ)). lists_of front ++ lists) (lists-owned owner run) ∙ sym (map-append branches front run))
      ∙ sym (map-append branches (front ++ run) back)
      ∙ ap lists_of (
      append_assoc front run back
      ∙ ap (λ (rest : List Bundle). front ++ rest) (ap (λ (n : ℕ). run ++ drop n queue.bundles) (let e : last + 1 - queue.first ≡ at + count = omega arith in e) ∙ ap (λ (rest : List Bundle). run ++ rest) (sym (drop-drop count at queue.bundles)) ∙ take-append-drop count (drop at queue.bundles))
      ∙ take-append-drop at queue.bundles
      )

  pub next-marked : next_of (marked queue first last owner) ≡ next_of queue
  next-marked = ap (λ (n : ℕ). queue.first + n) (same_length (marked queue first last owner).bundles queue.bundles lists-marked)

  pub branches-marked : (from number : ℕ) → branches_from (marked queue first last owner) from number ≡ branches_from queue from number
  branches-marked from number = same_joined (marked queue first last owner).bundles queue.bundles lists-marked (number - max from queue.first) (from - queue.first)

  length-front : length front ≡ at
  length-front = length-take-le at queue.bundles (omega arith)

  length-run : length run ≡ count
  length-run =
      let rest = length-drop at queue.bundles in
      length-take-le count (drop at queue.bundles) (omega arith)

  length-owned : length (map (owned_by owner) run) ≡ count
  length-owned = length-map run (owned_by owner) ∙ length-run

  length-both : length (front ++ map (owned_by owner) run) ≡ at + count
  length-both = let all = length-append front (map (owned_by owner) run) in let a = length-front in let b = length-owned in omega arith

  -- a bundle of the run has the owner
  pub bundle_inside : (number : ℕ) → first ≤ number → number ≤ last → bundle_at (marked queue first last owner) number ≡ owned_by owner (bundle_at queue number)
  bundle_inside number from to =
      let i = number - queue.first in
      let both = length-both in
      let none = unmarked [] in
      get_or_append_left (front ++ map (owned_by owner) run) back none i (omega arith)
      ∙ get_or-append_right front (map (owned_by owner) run) at i none length-front (omega arith)
      ∙ get_or-map (owned_by owner) run (i - at) none none (let long = length-run in omega arith)
      ∙ ap (owned_by owner) (
      get_or-take count (drop at queue.bundles) (i - at) none (omega arith)
      ∙ get_or-drop at queue.bundles (i - at) none
      ∙ ap (λ (n : ℕ). get_or queue.bundles n none) (let e : at + (i - at) ≡ i = omega arith in e)
      )

  -- and every other bundle the one that it had
  pub bundle_before : (number : ℕ) → queue.first ≤ number → number < first → bundle_at (marked queue first last owner) number ≡ bundle_at queue number
  bundle_before number from below =
      let i = number - queue.first in
      let both = length-both in
      let none = unmarked [] in
      get_or_append_left (front ++ map (owned_by owner) run) back none i (omega arith)
      ∙ get_or_append_left front (map (owned_by owner) run) none i (let long = length-front in omega arith)
      ∙ get_or-take at queue.bundles i none (omega arith)

  pub bundle_behind : (number : ℕ) → last < number → bundle_at (marked queue first last owner) number ≡ bundle_at queue number
  bundle_behind number above =
      let i = number - queue.first in
      let none = unmarked [] in
      get_or-append_right (front ++ map (owned_by owner) run) back (at + count) i none length-both (omega arith)
      ∙ get_or-drop (last + 1 - queue.first) queue.bundles (i - (at + count)) none
      ∙ ap (λ (n : ℕ). get_or queue.bundles n none) (let e : last + 1 - queue.first + (i - (at + count)) ≡ i = omega arith in e)
