-- Who has which extent, where branches are seen as plain data.
use Rattle.std.proofs.Common.{◌≡◌, ℕ, ◌<◌, List, Bool, Option, Some, None, refl, sym, ap, subst, ◌∙◌}
use Rattle.std.specs.Prelude.{IsSome, IfSome, ◌↔◌}
use Rattle.std.specs.Option.{option_map}
use Rattle.spl_numbers.specs.Numbers.{ListsEach}
use Rattle.spl_extent.specs.declared.owner.Owner.{Owner}
use Rattle.spl_refs.specs.Refs.{Published, branch_at, count_at}
use Rattle.spl_trunk.specs.Tree.{times}
use Rattle.spl_state.specs.Extents.{held_by, AccountsForExtents}
use Rattle.spl_state.specs.Names.{AreAccounted}
use Rattle.spl_state.specs.Whole.{BranchData}
use Rattle.spl_state.proofs.Views.{all_seen, branch_seen, count_seen}

module _ {B : Type 0} (extents_of : B → List ℕ) (data_of : B → BranchData) (same : (branch : B) → (data_of branch).extents ≡ extents_of branch) where
  some_there : (o : Option B) (count : ℕ) → IsSome (option_map data_of o) ↔ (0 < count) → IsSome o ↔ (0 < count)
  some_there None count stands = stands
  some_there (Some branch) count stands = stands

  some_seen : (o : Option B) (count : ℕ) → IsSome o ↔ (0 < count) → IsSome (option_map data_of o) ↔ (0 < count)
  some_seen None count stands = stands
  some_seen (Some branch) count stands = stands

  held_there : (o : Option B) (members : List Bool) → IfSome (option_map data_of o) (λ (b : BranchData). ListsEach b.extents members) → IfSome o (λ branch. ListsEach (extents_of branch) members)
  held_there None members lists = tt
  held_there (Some branch) members lists = subst (λ (extents : List ℕ). ListsEach extents members) (same branch) lists

  held_seen : (o : Option B) (members : List Bool) → IfSome o (λ branch. ListsEach (extents_of branch) members) → IfSome (option_map data_of o) (λ (b : BranchData). ListsEach b.extents members)
  held_seen None members lists = tt
  held_seen (Some branch) members lists = subst (λ (extents : List ℕ). ListsEach extents members) (sym (same branch)) lists

  none_there : (o : Option B) → option_map data_of o ≡ None → o ≡ None
  none_there None none = refl
  none_there (Some branch) none = cc

  module _ (mentions : List ℕ) (refs : Published B) (owners : List Owner) where
    -- what holds of the branches as they are seen holds of the branches
    pub accounts_there : AccountsForExtents mentions (count_at (all_seen data_of refs)) (branch_at (all_seen data_of refs)) owners → AreAccounted extents_of mentions refs owners
    accounts_there seen = record {
      counts = λ number. sym (count_seen data_of refs number) ∙ seen.counts number;
      stands = λ number. some_there (branch_at refs number) (count_at refs number)
          (subst (λ (count : ℕ). IsSome (option_map data_of (branch_at refs number)) ↔ (0 < count)) (count_seen data_of refs number)
          (subst (λ (o : Option BranchData). IsSome o ↔ (0 < count_at (all_seen data_of refs) number)) (branch_seen data_of refs number) (seen.stands number)));
      held = λ number. held_there (branch_at refs number) (held_by owners number)
          (subst (λ (o : Option BranchData). IfSome o (λ (b : BranchData). ListsEach b.extents (held_by owners number))) (branch_seen data_of refs number) (seen.held number));
      not_held = λ number extent none. seen.not_held number extent (branch_seen data_of refs number ∙ ap (option_map data_of) none);
    }

    -- and the other way round
    pub accounts_seen : AreAccounted extents_of mentions refs owners → AccountsForExtents mentions (count_at (all_seen data_of refs)) (branch_at (all_seen data_of refs)) owners
    accounts_seen there = record {
      counts = λ number. count_seen data_of refs number ∙ there.counts number;
      stands = λ number.
          subst (λ (o : Option BranchData). IsSome o ↔ (0 < count_at (all_seen data_of refs) number)) (sym (branch_seen data_of refs number))
          (subst (λ (count : ℕ). IsSome (option_map data_of (branch_at refs number)) ↔ (0 < count)) (sym (count_seen data_of refs number))
          (some_seen (branch_at refs number) (count_at refs number) (there.stands number)));
      held = λ number.
          subst (λ (o : Option BranchData). IfSome o (λ (b : BranchData). ListsEach b.extents (held_by owners number))) (sym (branch_seen data_of refs number)) (held_seen (branch_at refs number) (held_by owners number) (there.held number));
      not_held = λ number extent none. there.not_held number extent (none_there (branch_at refs number) (sym (branch_seen data_of refs number) ∙ none));
    }

  -- only how often a number is named matters
  pub renamed : (mentions other : List ℕ) (refs : Published B) (owners : List Owner) → ((n : ℕ) → times n mentions ≡ times n other) → AreAccounted extents_of mentions refs owners → AreAccounted extents_of other refs owners
  renamed mentions other refs owners as_often accounted = record {
    counts = λ n. accounted.counts n ∙ as_often n;
    stands = accounted.stands;
    held = accounted.held;
    not_held = accounted.not_held;
  }
