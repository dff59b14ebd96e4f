-- What stands at a number, where branches are seen as plain data.
use Rattle.std.proofs.Common.{◌≡◌, ℕ, [], ◌∷◌, map, Bool, true, false, cond, Option, Some, None, refl, ap, ◌∙◌}
use Rattle.std.specs.Ordering.{nat_cmp}
use Rattle.std.specs.BTreeMap.{is_at}
use Rattle.std.specs.Option.{option_map}
use Rattle.std.specs.Prelude.{unwrap_or}
use Rattle.spl_refs.specs.Refs.{Published, held_at, branch_at, count_at}
use Rattle.spl_state.specs.Whole.{BranchData}

module _ {B : Type 0} (data_of : B → BranchData) where
  abbrev pub seen : ℕ × B → ℕ × BranchData
  seen held = (held.0, data_of held.1)

  abbrev pub all_seen : Published B → Published BranchData
  all_seen refs = map (λ entry. (entry.0, (entry.1.0, data_of entry.1.1))) refs

  pub held_seen : (refs : Published B) (number : ℕ) → held_at (all_seen refs) number ≡ option_map seen (held_at refs number)
  held_seen [] number = refl
  held_seen (entry ∷ refs) number = by (is_at (nat_cmp number) entry.0) (held_seen refs number)
    where
      by : (here : Bool) → held_at (all_seen refs) number ≡ option_map seen (held_at refs number) → cond here (Some (seen entry.1)) (held_at (all_seen refs) number) ≡ option_map seen (cond here (Some entry.1) (held_at refs number))
      by true below = refl
      by false below = below

  option_branch : (held : Option (ℕ × B)) → option_map (λ h. h.1) (option_map seen held) ≡ option_map data_of (option_map (λ h. h.1) held)
  option_branch None = refl
  option_branch (Some held) = refl

  -- the branch that is seen is the one that stands there
  pub branch_seen : (refs : Published B) (number : ℕ) → branch_at (all_seen refs) number ≡ option_map data_of (branch_at refs number)
  branch_seen refs number = ap (λ (held : Option (ℕ × BranchData)). option_map (λ h. h.1) held) (held_seen refs number) ∙ option_branch (held_at refs number)

  pub none_seen : (refs : Published B) (number : ℕ) → held_at refs number ≡ None → held_at (all_seen refs) number ≡ None
  none_seen refs number none = held_seen refs number ∙ ap (λ (held : Option (ℕ × B)). option_map seen held) none

  option_count : (held : Option (ℕ × B)) → unwrap_or (option_map (λ h. h.0) (option_map seen held)) 0 ≡ unwrap_or (option_map (λ h. h.0) held) 0
  option_count None = refl
  option_count (Some held) = refl

  -- and it is named as often
  pub count_seen : (refs : Published B) (number : ℕ) → count_at (all_seen refs) number ≡ count_at refs number
  count_seen refs number = ap (λ (held : Option (ℕ × BranchData)). unwrap_or (option_map (λ h. h.0) held) 0) (held_seen refs number) ∙ option_count (held_at refs number)
