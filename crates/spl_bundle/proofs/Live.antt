-- The live lists of a queue, joined one bundle after another.
use Rattle.std.proofs.Common.{◌≡◌, ℕ, ◌+◌, ◌-◌, ◌<◌, ◌≤◌, max, List, [], ◌∷◌, ◌++◌, length, get_or, take, drop, ap, ◌∙◌, arith, length-append, length-drop, get_or-drop, take-append-drop}
use Rattle.std.proofs.lemmas.List.{take_more, take_all, append-nil}
use Rattle.std.proofs.lemmas.Grind.{flat_map-append}
use Rattle.spl_bundle.specs.Numbered.{Numbered, Bundle, unmarked, bundle_at, next_of, joined, live}

pub joined-append : (front back : List Bundle) → joined (front ++ back) ≡ joined front ++ joined back
joined-append front back = flat_map-append (λ (bundle : Bundle). bundle.branches) front back

pub joined_more : (bundles : List Bundle) (k : ℕ) → k < length bundles → joined (take (k + 1) bundles) ≡ joined (take k bundles) ++ (get_or bundles k (unmarked [])).branches
joined_more bundles k within =
    ap joined (take_more bundles k (unmarked []) within)
    ∙ joined-append (take k bundles) (get_or bundles k (unmarked []) ∷ [])
    ∙ ap (λ (list : List ℕ). joined (take k bundles) ++ list) (append-nil (get_or bundles k (unmarked [])).branches)

pub length-joined_front : (bundles : List Bundle) (k : ℕ) → length (joined (take k bundles)) ≤ length (joined bundles)
length-joined_front bundles k =
    let whole = ap (λ bs. length (joined bs)) (take-append-drop k bundles) in
    let parts = ap length (joined-append (take k bundles) (drop k bundles)) ∙ length-append (joined (take k bundles)) (joined (drop k bundles)) in
    omega arith

-- the lists of the bundles from `from` on and below `number`, joined
abbrev pub live_below : Numbered → ℕ → ℕ → List ℕ
live_below queue from number = joined (take (number - from) (drop (from - queue.first) queue.bundles))

module _ (queue : Numbered) (mark from number : ℕ) (start : from ≡ max queue.first mark) (ordered : from ≤ number) where
  pub live_all : next_of queue ≤ number → live_below queue from number ≡ live queue mark
  live_all past =
      let rest = length-drop (from - queue.first) queue.bundles in
      ap joined (take_all (number - from) (drop (from - queue.first) queue.bundles) (omega arith))
      ∙ ap (λ (n : ℕ). joined (drop n queue.bundles)) (omega arith)

  pub live_more : number < next_of queue → live_below queue from (number + 1) ≡ live_below queue from number ++ (bundle_at queue number).branches
  live_more below =
      let rest = drop (from - queue.first) queue.bundles in
      let long = length-drop (from - queue.first) queue.bundles in
      ap (λ (n : ℕ). joined (take n rest)) (omega arith)
      ∙ joined_more rest (number - from) (omega arith)
      ∙ ap (λ (bundle : Bundle). live_below queue from number ++ bundle.branches) (get_or-drop (from - queue.first) queue.bundles (number - from) (unmarked []) ∙ ap (λ (n : ℕ). get_or queue.bundles n (unmarked [])) (omega arith))

  pub length-live_below : length (live_below queue from number) ≤ length (live queue mark)
  length-live_below =
      let rest = drop (from - queue.first) queue.bundles in
      let same = ap (λ (n : ℕ). length (joined (drop n queue.bundles))) (let h : from - queue.first ≡ mark - queue.first = omega arith in h) in
      let front = length-joined_front rest (number - from) in
      omega arith

pub live_none : (queue : Numbered) (from : ℕ) → live_below queue from from ≡ []
live_none queue from = let none : from - from ≡ 0 = omega arith in ap (λ (n : ℕ). joined (take n (drop (from - queue.first) queue.bundles))) none
