-- The bundles of a run one after another.
use Rattle.std.proofs.Common.{◌≡◌, ℕ, suc, ◌+◌, ◌-◌, ◌<◌, ◌≤◌, max, [], ◌∷◌, ◌++◌, take, drop, ap, ◌∙◌, arith}
use Rattle.std.specs.Option.{option_or}
use Rattle.std.proofs.lemmas.List.{drop_more}
use Rattle.spl_bundle.specs.Numbered.{Numbered, unmarked, bundle_at, next_of, joined}
use Rattle.spl_node.specs.Parts.{branches_from}
use Rattle.spl_compact.specs.Starting.{run_below, first_owner}

module _ (queue : Numbered) (number end : ℕ) (stands : queue.first ≤ number) (below : number < end) (made : end ≤ next_of queue) where
  -- the first bundle, and the rest
  pub run_first : run_below queue number end ≡ bundle_at queue number ∷ run_below queue (number + 1) end
  run_first =
      let i = number - queue.first in
      let n = end - (number + 1) in
      let long : end - number ≡ suc n = omega arith in
      let next : i + 1 ≡ number + 1 - queue.first = omega arith in
      ap (take (end - number)) (drop_more queue.bundles i (unmarked []) (omega arith))
      ∙ ap (λ (k : ℕ). take k (bundle_at queue number ∷ drop (i + 1) queue.bundles)) long
      ∙ ap (λ (k : ℕ). bundle_at queue number ∷ take n (drop k queue.bundles)) next

  pub owner_first : first_owner (run_below queue number end) ≡ option_or (bundle_at queue number).owner (first_owner (run_below queue (number + 1) end))
  owner_first = ap first_owner run_first

  pub branches_first : branches_from queue number end ≡ (bundle_at queue number).branches ++ branches_from queue (number + 1) end
  branches_first =
      let here : max number queue.first ≡ number = omega arith in
      let next : number + 1 ≡ max (number + 1) queue.first = omega arith in
      ap (λ (k : ℕ). joined (take (end - k) (drop (number - queue.first) queue.bundles))) here
      ∙ ap joined run_first
      ∙ ap (λ (k : ℕ). (bundle_at queue number).branches ++ joined (take (end - k) (drop (number + 1 - queue.first) queue.bundles))) next

pub no_run : (queue : Numbered) (number end : ℕ) → end ≤ number → run_below queue number end ≡ []
no_run queue number end past = let none : end - number ≡ 0 = omega arith in ap (λ (k : ℕ). take k (drop (number - queue.first) queue.bundles)) none

pub no_branches : (queue : Numbered) (number end : ℕ) → queue.first ≤ number → end ≤ number → branches_from queue number end ≡ []
no_branches queue number end stands past =
    let none : end - max number queue.first ≡ 0 = omega arith in
    ap (λ (k : ℕ). joined (take k (drop (number - queue.first) queue.bundles))) none
