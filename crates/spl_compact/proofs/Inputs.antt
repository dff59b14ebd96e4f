-- The branches of a run stand, and are few.
use Rattle.std.proofs.Common.{ℕ, zero, suc, ◌-◌, ◌*◌, ◌<◌, ◌≤◌, max, List, [], ◌∷◌, Option, length, take, drop, get_or, flat_map, ap, subst, arith, length-append, take-append-drop}
use Rattle.std.specs.Prelude.{All, IsSome}
use Rattle.std.proofs.lemmas.List.Elements.{All-get_or, All-from_get_or}
use Rattle.spl_bundle.specs.Numbered.{Numbered, Bundle, joined, names, IsWithinLimits}
use Rattle.spl_bundle.proofs.Live.{joined-append, length-joined_front}
use Rattle.spl_node.specs.Parts.{branches_from}
use Rattle.spl_refs.specs.Refs.{Published, branch_at}
use Rattle.spl_trunk.specs.Trunk.{node_at}
use Rattle.spl_trunk.specs.Tree.{times, named}
use Rattle.spl_trunk.proofs.Counts.{times-append, times_itself}
use Rattle.spl_state.specs.Extents.{named_by}
use Rattle.spl_state.specs.Sound.{IsSound}
use Rattle.spl_state.specs.Whole.{BranchData, Whole, branches}
use Rattle.spl_state.proofs.Named.{node_named}
use Rattle.spl_state.proofs.Views.{all_seen, branch_seen}
use Rattle.spl_descent.proofs.Named.{some_inside}

-- the names of some bundles are among those of all
pub times_part : (n k j : ℕ) (bundles : List Bundle) → times n (joined (take k (drop j bundles))) ≤ times n (joined bundles)
times_part n k j bundles =
    let rest = drop j bundles in
    let one = ap (λ (bs : List Bundle). times n (joined bs)) (take-append-drop k rest) in
    let parts = ap (times n) (joined-append (take k rest) (drop k rest)) in
    let sum = times-append n (joined (take k rest)) (joined (drop k rest)) in
    let all = ap (λ (bs : List Bundle). times n (joined bs)) (take-append-drop j bundles) in
    let both = ap (times n) (joined-append (take j bundles) rest) in
    let total = times-append n (joined (take j bundles)) (joined rest) in
    omega arith

pub times_run : (n : ℕ) (queue : Numbered) (from number : ℕ) → times n (branches_from queue from number) ≤ times n (names queue)
times_run n queue from number = times_part n (number - max from queue.first) (from - queue.first) queue.bundles

length_all : (bundles : List Bundle) → All (λ (bundle : Bundle). length bundle.branches ≤ 32) bundles → length (joined bundles) ≤ 32 * length bundles
length_all [] all = omega arith
length_all (bundle ∷ bundles) all =
    let first = all 0 bundle (omega arith) in
    let rest = length_all bundles (λ k d within. all (suc k) d (omega arith)) in
    let both = length-append bundle.branches (joined bundles) in
    omega arith

pub length_run : (queue : Numbered) (from number : ℕ) → IsWithinLimits queue → length (branches_from queue from number) ≤ 768
length_run queue from number within =
    let j = from - queue.first in
    let rest = drop j queue.bundles in
    let front = length-joined_front rest (number - max from queue.first) in
    let all = ap (λ (bs : List Bundle). length (joined bs)) (take-append-drop j queue.bundles) in
    let both = ap (λ (numbers : List ℕ). length numbers) (joined-append (take j queue.bundles) rest) in
    let sum = length-append (joined (take j queue.bundles)) (joined rest) in
    let most = length_all queue.bundles within.branches in
    let few = within.lists in
    omega arith

-- what holds of each number that a list has
pub all_listed : (P : ℕ → Type 0) (numbers : List ℕ) → ((n : ℕ) → 0 < times n numbers → P n) → All P numbers
all_listed P [] each = λ k d within. absurd (omega arith)
all_listed P (number ∷ numbers) each =
    let first : P number = each number (let one = times_itself number in let all = times-append number (number ∷ []) numbers in omega arith) in
    let rest = all_listed P numbers (λ n some. each n (let all = times-append n (number ∷ []) numbers in omega arith)) in
    All-from_get_or P (number ∷ numbers) 0 (by first rest)
  where
    by : P number → All P numbers → (i : ℕ) → i < length (number ∷ numbers) → P (get_or (number ∷ numbers) i 0)
    by first rest zero within = first
    by first rest (suc i) within = All-get_or P numbers i 0 (omega arith) rest

module _ (old : Whole) (sound : IsSound old) where
  -- a branch that the trunk names stands
  pub named_stands : (n : ℕ) → 0 < times n (named old.nodes) → IsSome (branches old n)
  named_stands n some =
      let all = times-append n (named old.nodes) (flat_map named_by old.actors) in
      let count = sound.extents.counts n in
      (sound.extents.stands n).1 (omega arith)

  -- so do the branches of a run
  pub run_stands : (node from number : ℕ) → All (λ n. IsSome (branches old n)) (branches_from (node_at old.nodes node).lists from number)
  run_stands node from number =
      all_listed (λ n. IsSome (branches old n)) (branches_from (node_at old.nodes node).lists from number)
      (λ n some. named_stands n (let most = times_run n (node_at old.nodes node).lists from number in let here = node_named n old.nodes node in omega arith))

module _ {B : Type 0} (data_of : B → BranchData) (refs : Published B) where
  pub all_there : (numbers : List ℕ) → All (λ n. IsSome (branch_at (all_seen data_of refs) n)) numbers → All (λ n. IsSome (branch_at refs n)) numbers
  all_there numbers all =
      All-from_get_or (λ n. IsSome (branch_at refs n)) numbers 0 (λ i within.
      let n = get_or numbers i 0 in
      some_inside data_of (branch_at refs n) (subst (λ (o : Option BranchData). IsSome o) (branch_seen data_of refs n) (All-get_or (λ m. IsSome (branch_at (all_seen data_of refs) m)) numbers i 0 within all)))
