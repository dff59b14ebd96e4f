-- The live lists and the names of a queue after each call.
use Rattle.std.proofs.Common.{◌≡◌, ℕ, ◌+◌, ◌-◌, ◌<◌, ◌≤◌, max, List, [], ◌∷◌, ◌++◌, Option, length, map, flat_map, take, drop, refl, sym, ap, ◌∙◌, arith, append_assoc, take-append-drop}
use Rattle.std.proofs.lemmas.List.{append-nil, drop-append-le, drop-drop, drop-map, drop_all, map-append}
use Rattle.spl_bundle.specs.Numbered.{Numbered, Bundle, unmarked, next_of, joined, live, names, owned_by, without_mark, pushed, dropped_below, marked, released}
use Rattle.spl_bundle.proofs.Live.{joined-append}

joined-released : (actor : ℕ) (bundles : List Bundle) → joined (map (without_mark actor) bundles) ≡ joined bundles
joined-released actor [] = refl
joined-released actor (bundle ∷ bundles) = ap (λ (rest : List ℕ). bundle.branches ++ rest) (joined-released actor bundles)

-- the branches of the bundles, bundle by bundle
abbrev lists_of : List Bundle → List (List ℕ)
lists_of bundles = map (λ (bundle : Bundle). bundle.branches) bundles

joined_lists : (bundles : List Bundle) → joined bundles ≡ flat_map (λ (list : List ℕ). list) (lists_of bundles)
joined_lists [] = refl
joined_lists (bundle ∷ bundles) = ap (λ (rest : List ℕ). bundle.branches ++ rest) (joined_lists bundles)

-- bundles with the same branches have the same branches live
joined_alike : (xs ys : List Bundle) → lists_of xs ≡ lists_of ys → (n : ℕ) → joined (drop n xs) ≡ joined (drop n ys)
joined_alike xs ys alike n =
    let branches : Bundle → List ℕ = λ bundle. bundle.branches in
    joined_lists (drop n xs)
    ∙ ap (flat_map (λ (list : List ℕ). list)) (sym (drop-map branches n xs) ∙ ap (drop n) alike ∙ drop-map branches n ys)
    ∙ sym (joined_lists (drop n ys))

lists-owned : (owner : Option ℕ) (bundles : List Bundle) → lists_of (map (owned_by owner) bundles) ≡ lists_of bundles
lists-owned owner [] = refl
lists-owned owner (bundle ∷ bundles) = ap (λ rest. bundle.branches ∷ rest) (lists-owned owner bundles)

-- a change of marks keeps the branches
marked-alike : (queue : Numbered) (first last : ℕ) (owner : Option ℕ) → first ≤ last → lists_of (marked queue first last owner).bundles ≡ lists_of queue.bundles
marked-alike queue first last owner ordered =
    let at = first - queue.first in
    let count = last + 1 - max first queue.first in
    let front = take at queue.bundles in
    let run = take count (drop at queue.bundles) in
    let back = drop (last + 1 - queue.first) queue.bundles in
    let branches : Bundle → List ℕ = λ bundle. bundle.branches in
    map-append branches (front ++ map (owned_by owner) run) back
    ∙ ap (λ lists. lists ++ lists_of back) (map-append branches front (map (owned_by owner) run) ∙ ap (λ lists. lists_of front ++ lists) (lists-owned owner run) ∙ sym (map-append branches front run))
    ∙ sym (map-append branches (front ++ run) back)
    ∙ ap lists_of (
    append_assoc front run back
    ∙ ap (λ rest. front ++ rest) (ap (λ (n : ℕ). run ++ drop n queue.bundles) (omega arith) ∙ ap (λ rest. run ++ rest) (sym (drop-drop count at queue.bundles)) ∙ take-append-drop count (drop at queue.bundles))
    ∙ take-append-drop at queue.bundles
    )

-- The live lists and the names after each call.
module _ (queue : Numbered) (mark : ℕ) where
  pub live-pushed : (list : List ℕ) → mark ≤ next_of queue → live (pushed queue list) mark ≡ live queue mark ++ list
  live-pushed list made =
      ap joined (drop-append-le (mark - queue.first) queue.bundles (unmarked list ∷ []) (omega arith))
      ∙ joined-append (drop (mark - queue.first) queue.bundles) (unmarked list ∷ [])
      ∙ ap (λ (rest : List ℕ). live queue mark ++ rest) (append-nil list)

  -- a bundle that is not live may go
  pub live-dropped : (number : ℕ) → number ≤ mark → live (dropped_below queue number) mark ≡ live queue mark
  live-dropped number below =
      ap joined (drop-drop (mark - max queue.first number) (number - queue.first) queue.bundles)
      ∙ ap (λ (n : ℕ). joined (drop n queue.bundles)) (omega arith)

  -- nothing is live from the next number on
  pub live_next : next_of queue ≤ mark → live queue mark ≡ []
  live_next past = ap joined (drop_all (mark - queue.first) queue.bundles (omega arith))

  -- who marked a bundle is no matter
  pub live-released : (actor : ℕ) → live (released queue actor) mark ≡ live queue mark
  live-released actor =
      ap joined (drop-map (without_mark actor) (mark - queue.first) queue.bundles)
      ∙ joined-released actor (drop (mark - queue.first) queue.bundles)

  pub live-marked : (first last : ℕ) (owner : Option ℕ) → first ≤ last → live (marked queue first last owner) mark ≡ live queue mark
  live-marked first last owner ordered = joined_alike (marked queue first last owner).bundles queue.bundles (marked-alike queue first last owner ordered) (mark - queue.first)

pub names-pushed : (queue : Numbered) (list : List ℕ) → names (pushed queue list) ≡ names queue ++ list
names-pushed queue list =
    joined-append queue.bundles (unmarked list ∷ []) ∙ ap (λ (rest : List ℕ). names queue ++ rest) (append-nil list)

pub names-dropped : (queue : Numbered) (number : ℕ) → joined (take (number - queue.first) queue.bundles) ++ names (dropped_below queue number) ≡ names queue
names-dropped queue number =
    sym (joined-append (take (number - queue.first) queue.bundles) (drop (number - queue.first) queue.bundles))
    ∙ ap joined (take-append-drop (number - queue.first) queue.bundles)

pub names-released : (queue : Numbered) (actor : ℕ) → names (released queue actor) ≡ names queue
names-released queue actor = joined-released actor queue.bundles

pub names-marked : (queue : Numbered) (first last : ℕ) (owner : Option ℕ) → first ≤ last → names (marked queue first last owner) ≡ names queue
names-marked queue first last owner ordered = joined_alike (marked queue first last owner).bundles queue.bundles (marked-alike queue first last owner ordered) 0
