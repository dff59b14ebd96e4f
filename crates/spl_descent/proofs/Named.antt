-- Every branch that a bundle names stands in the state, and is what a descent shares.
use Rattle.std.proofs.Common.{◌≡◌, ℕ, zero, suc, ◌<◌, ◌≤◌, List, [], ◌∷◌, ◌++◌, Option, Some, None, length, map, flat_map, get_or, refl, sym, ap, ap₂, subst, ◌∙◌, arith}
use Rattle.std.specs.Prelude.{All, IsSome}
use Rattle.std.specs.Option.{option_map}
use Rattle.std.proofs.lemmas.List.{map-append}
use Rattle.std.proofs.lemmas.List.Elements.{All-from_get_or, All-get_or}
use Rattle.spl_message.specs.Table.{Table}
use Rattle.spl_bundle.specs.Numbered.{Bundle, names, unmarked}
use Rattle.spl_node.specs.Node.{NodeData, bare}
use Rattle.spl_node.specs.Steps.{fresh}
use Rattle.spl_refs.specs.Refs.{Published, branch_at}
use Rattle.spl_trunk.specs.Trunk.{node_at}
use Rattle.spl_trunk.specs.Tree.{times, named}
use Rattle.spl_trunk.proofs.Counts.{times-append, times_one, times_itself}
use Rattle.spl_state.specs.Extents.{named_by}
use Rattle.spl_state.specs.Sound.{IsSound}
use Rattle.spl_state.specs.Whole.{BranchData, Whole, branches, table_or, table_in}
use Rattle.spl_state.proofs.Views.{all_seen, branch_seen}
use Rattle.spl_descent.specs.Sights.{HasBranches, AreBranches}

-- a number of a list stands there
times_at : (numbers : List ℕ) (i d : ℕ) → i < length numbers → 1 ≤ times (get_or numbers i d) numbers
times_at [] i d within = absurd (omega arith)
times_at (n ∷ numbers) zero d within =
    let all = times-append n (n ∷ []) numbers in
    let one = times_itself n in
    omega arith
times_at (n ∷ numbers) (suc i) d within =
    let m = get_or numbers i d in
    let all = times-append m (n ∷ []) numbers in
    let there = times_at numbers i d (omega arith) in
    omega arith

abbrev pub AllStand : (ℕ → Type 0) → List Bundle → Type 0
AllStand Stands bundles = All (λ (bundle : Bundle). All Stands bundle.branches) bundles

module _ (old : Whole) (sound : IsSound old) where
  -- a number that the trunk names is that of a branch
  stands : (number : ℕ) → 1 ≤ times number (named old.nodes) → IsSome (branches old number)
  stands number there =
      let all = times-append number (named old.nodes) (flat_map named_by old.actors) in
      let count = sound.extents.counts number in
      (sound.extents.stands number).1 (omega arith)

  pub named_stand : (n : ℕ) → n < length old.nodes → AllStand (λ number. IsSome (branches old number)) (node_at old.nodes n).lists.bundles
  named_stand n exists =
      let bundles = (node_at old.nodes n).lists.bundles in
      All-from_get_or (λ (bundle : Bundle). All (λ number. IsSome (branches old number)) bundle.branches) bundles (unmarked []) (λ i within.
      let numbers = (get_or bundles i (unmarked [])).branches in
      All-from_get_or (λ number. IsSome (branches old number)) numbers 0 (λ j inside.
      let number = get_or numbers j 0 in
      let here = times_at numbers j 0 inside in
      let in_list = times_one (λ (bundle : Bundle). bundle.branches) number bundles i (unmarked []) within in
      let in_node = times_one (λ (node : NodeData). names node.lists) number old.nodes n (fresh 0 bare) exists in
      stands number (omega arith)))

pub some_inside : {A C : Type 0} (f : A → C) (o : Option A) → IsSome (option_map f o) → IsSome o
some_inside f None some = some
some_inside f (Some a) some = refl

tables_at : (branch : ℕ → Option BranchData) (numbers : List ℕ) → map table_or (map branch numbers) ≡ map (table_in branch) numbers
tables_at branch [] = refl
tables_at branch (n ∷ ns) = ap (λ (ts : List Table). table_or (branch n) ∷ ts) (tables_at branch ns)

module _ {B : Type 0} where
  -- one branch more
  pub one_more : (number_of : B → ℕ) (at : ℕ → Option B) (numbers : List ℕ) (shared : List B) (number : ℕ) (branch : B) → HasBranches number_of at numbers shared → at number ≡ Some branch → number_of branch ≡ number → HasBranches number_of at (numbers ++ number ∷ []) (shared ++ branch ∷ [])
  one_more number_of at numbers shared number branch has there is = record {
    named = map-append number_of shared (branch ∷ []) ∙ ap₂ ◌++◌ has.named (ap (λ (n : ℕ). n ∷ []) is);
    found = map-append (λ (b : B). Some b) shared (branch ∷ []) ∙ ap₂ ◌++◌ has.found (ap (λ (o : Option B). o ∷ []) (sym there)) ∙ sym (map-append at numbers (number ∷ []));
  }

  pub none_yet : (number_of : B → ℕ) (at : ℕ → Option B) → HasBranches number_of at [] []
  none_yet number_of at = record { named = refl; found = refl }

  map_data : (data_of : B → BranchData) (bs : List B) → map (option_map data_of) (map (λ (b : B). Some b) bs) ≡ map (λ (b : B). Some (data_of b)) bs
  map_data data_of [] = refl
  map_data data_of (b ∷ bs) = ap (λ (os : List (Option BranchData)). Some (data_of b) ∷ os) (map_data data_of bs)

  map_seen : (data_of : B → BranchData) (refs : Published B) (numbers : List ℕ) → map (option_map data_of) (map (branch_at refs) numbers) ≡ map (branch_at (all_seen data_of refs)) numbers
  map_seen data_of refs [] = refl
  map_seen data_of refs (n ∷ ns) = ap₂ (λ (o : Option BranchData) (os : List (Option BranchData)). o ∷ os) (sym (branch_seen data_of refs n)) (map_seen data_of refs ns)

  -- what is shared stands in the state
  pub seen_branches : (number_of : B → ℕ) (data_of : B → BranchData) (refs : Published B) (numbers : List ℕ) (shared : List B) → HasBranches number_of (branch_at refs) numbers shared → AreBranches number_of data_of (branch_at (all_seen data_of refs)) numbers shared
  seen_branches number_of data_of refs numbers shared has = record {
    named = has.named;
    stand = sym (map_data data_of shared) ∙ ap (map (option_map data_of)) has.found ∙ map_seen data_of refs numbers;
  }

  some_stands : (data_of : B → BranchData) (refs : Published B) (number : ℕ) → IsSome (branch_at (all_seen data_of refs) number) → IsSome (branch_at refs number)
  some_stands data_of refs number some =
      some_inside data_of (branch_at refs number) (subst (λ (o : Option BranchData). IsSome o) (branch_seen data_of refs number) some)

  pub all_there : (data_of : B → BranchData) (refs : Published B) (bundles : List Bundle) → AllStand (λ number. IsSome (branch_at (all_seen data_of refs) number)) bundles → AllStand (λ number. IsSome (branch_at refs number)) bundles
  all_there data_of refs bundles all =
      All-from_get_or (λ (bundle : Bundle). All (λ number. IsSome (branch_at refs number)) bundle.branches) bundles (unmarked []) (λ i within.
      let numbers = (get_or bundles i (unmarked [])).branches in
      let each = All-get_or (λ (bundle : Bundle). All (λ number. IsSome (branch_at (all_seen data_of refs) number)) bundle.branches) bundles i (unmarked []) within all in
      All-from_get_or (λ number. IsSome (branch_at refs number)) numbers 0 (λ j inside.
      some_stands data_of refs (get_or numbers j 0) (All-get_or (λ number. IsSome (branch_at (all_seen data_of refs) number)) numbers j 0 inside each)))

  tables_of_data : (table_of : B → Table) (data_of : B → BranchData) → ((b : B) → (data_of b).table ≡ table_of b) → (bs : List B) → map table_or (map (λ (b : B). Some (data_of b)) bs) ≡ map table_of bs
  tables_of_data table_of data_of same [] = refl
  tables_of_data table_of data_of same (b ∷ bs) = ap₂ (λ (t : Table) (ts : List Table). t ∷ ts) (same b) (tables_of_data table_of data_of same bs)

  -- the tables of the shared branches are those of their numbers
  pub shared_tables : (number_of : B → ℕ) (table_of : B → Table) (data_of : B → BranchData) → ((b : B) → (data_of b).table ≡ table_of b) → (branch : ℕ → Option BranchData) (numbers : List ℕ) (shared : List B) → AreBranches number_of data_of branch numbers shared → map table_of shared ≡ map (table_in branch) numbers
  shared_tables number_of table_of data_of same branch numbers shared are =
      sym (tables_of_data table_of data_of same shared) ∙ ap (map table_or) are.stand ∙ tables_at branch numbers
