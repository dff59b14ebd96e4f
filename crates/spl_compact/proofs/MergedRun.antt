-- The bundles of a queue after a run gave way to its output.
use Rattle.std.proofs.Common.{◌≡◌, ℕ, zero, suc, ◌+◌, ◌-◌, ◌<◌, ◌≤◌, max, List, [], ◌∷◌, ◌++◌, Option, None, length, take, drop, get_or, replicate, refl, sym, ap, ◌∙◌, inl, inr, arith, length-append, length-drop, length-take-le, take-append-drop}
use Rattle.std.specs.Option.{option_to_list}
use Rattle.std.proofs.lemmas.Bool.{cases_lt}
use Rattle.std.proofs.lemmas.List.{drop-drop, length-replicate, get_or_append_left, get_or-append_right, get_or-take, get_or-drop, append-nil}
use Rattle.spl_bundle.specs.Numbered.{Numbered, Bundle, unmarked, bundle_at, next_of, joined, names, merged}
use Rattle.spl_bundle.proofs.Live.{joined-append}
use Rattle.spl_node.specs.Parts.{branches_from}
use Rattle.spl_trunk.specs.Tree.{times}
use Rattle.spl_trunk.proofs.Counts.{times-append}

joined-empties : (n : ℕ) → joined (replicate n (unmarked [])) ≡ []
joined-empties zero = refl
joined-empties (suc n) = joined-empties n

get_or-empties : (n i : ℕ) → get_or (replicate n (unmarked [])) i (unmarked []) ≡ unmarked []
get_or-empties zero i = refl
get_or-empties (suc n) zero = refl
get_or-empties (suc n) (suc i) = get_or-empties n i

module _ (queue : Numbered) (first last : ℕ) (output : Option ℕ) (order : first ≤ last) (stands : queue.first ≤ last) (made : last < next_of queue) where
  abbrev at : ℕ
  at = first - queue.first

  abbrev count : ℕ
  count = last - max first queue.first

  abbrev front : List Bundle
  front = take at queue.bundles

  abbrev empties : List Bundle
  empties = replicate count (unmarked [])

  abbrev out : Bundle
  out = unmarked (option_to_list output)

  abbrev passed : ℕ
  passed = last + 1 - queue.first

  abbrev back : List Bundle
  back = drop passed queue.bundles

  abbrev pub merged_queue : Numbered
  merged_queue = merged queue first last output

  length-front : length front ≡ at
  length-front = length-take-le at queue.bundles (omega arith)

  length-both : length (front ++ empties) ≡ at + count
  length-both = let all = length-append front empties in let a = length-front in let b = length-replicate count (unmarked []) in omega arith

  pub length-merged : length merged_queue.bundles ≡ length queue.bundles
  length-merged =
      let all = length-append (front ++ empties) (out ∷ back) in
      let both = length-both in
      let rest = length-drop passed queue.bundles in
      omega arith

  pub next-merged : next_of merged_queue ≡ next_of queue
  next-merged = ap (λ (n : ℕ). queue.first + n) length-merged

  -- outside the run the bundles are as they were
  pub merged_before : (number : ℕ) → queue.first ≤ number → number < first → bundle_at merged_queue number ≡ bundle_at queue number
  merged_before number from below =
      let i = number - queue.first in
      let none = unmarked [] in
      let both = length-both in
      get_or_append_left (front ++ empties) (out ∷ back) none i (omega arith)
      ∙ get_or_append_left front empties none i (let long = length-front in omega arith)
      ∙ get_or-take at queue.bundles i none (omega arith)

  pub merged_behind : (number : ℕ) → last < number → bundle_at merged_queue number ≡ bundle_at queue number
  merged_behind number above =
      let i = number - queue.first in
      let none = unmarked [] in
      let k = i - (at + count) in
      let more : k ≡ suc (k - 1) = omega arith in
      get_or-append_right (front ++ empties) (out ∷ back) (at + count) i none length-both (omega arith)
      ∙ ap (λ (n : ℕ). get_or (out ∷ back) n none) more
      ∙ get_or-drop passed queue.bundles (k - 1) none
      ∙ ap (λ (n : ℕ). get_or queue.bundles n none) (let e : passed + (k - 1) ≡ i = omega arith in e)

  -- in the run none has a mark
  pub merged_inside : (number : ℕ) → max first queue.first ≤ number → number ≤ last → (bundle_at merged_queue number).owner ≡ None
  merged_inside number from to =
      let i = number - queue.first in
      let none = unmarked [] in
      elim (cases_lt number last) [
        | inl before ↦
            ap (λ (b : Bundle). b.owner) (
            get_or_append_left (front ++ empties) (out ∷ back) none i (let both = length-both in omega arith)
            ∙ get_or-append_right front empties at i none length-front (omega arith)
            ∙ get_or-empties count (i - at))
        | inr past ↦
            ap (λ (b : Bundle). b.owner) (
            get_or-append_right (front ++ empties) (out ∷ back) (at + count) i none length-both (omega arith)
            ∙ ap (λ (n : ℕ). get_or (out ∷ back) n none) (let e : i - (at + count) ≡ 0 = omega arith in e))
      ]

  parts : joined queue.bundles ≡ joined front ++ (branches_from queue first (last + 1) ++ joined back)
  parts =
      let n = last + 1 - max first queue.first in
      let rest = drop at queue.bundles in
      ap joined (sym (take-append-drop at queue.bundles))
      ∙ joined-append front rest
      ∙ ap (λ (list : List ℕ). joined front ++ list) (
      ap joined (sym (take-append-drop n rest))
      ∙ joined-append (take n rest) (drop n rest)
      ∙ ap (λ (list : List ℕ). joined (take n rest) ++ list) (ap joined (drop-drop n at queue.bundles ∙ ap (λ (m : ℕ). drop m queue.bundles) (let e : at + n ≡ passed = omega arith in e)))
      )

  parts_now : joined merged_queue.bundles ≡ joined front ++ (option_to_list output ++ joined back)
  parts_now =
      joined-append (front ++ empties) (out ∷ back)
      ∙ ap (λ (list : List ℕ). list ++ (option_to_list output ++ joined back)) (joined-append front empties ∙ ap (λ (list : List ℕ). joined front ++ list) (joined-empties count) ∙ append-nil (joined front))

  -- the output is named, and the run's branches no more
  pub names-merged : (n : ℕ) → times n (names merged_queue) + times n (branches_from queue first (last + 1)) ≡ times n (names queue) + times n (option_to_list output)
  names-merged n =
      let was = ap (times n) parts in
      let now = ap (times n) parts_now in
      let run = branches_from queue first (last + 1) in
      let a = times-append n (joined front) (run ++ joined back) in
      let b = times-append n run (joined back) in
      let c = times-append n (joined front) (option_to_list output ++ joined back) in
      let d = times-append n (option_to_list output) (joined back) in
      omega arith
