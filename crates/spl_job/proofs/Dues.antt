-- A key at which a node is to be split is one at which it can be split.
use Rattle.std.proofs.Common.{◌≡◌, ℕ, zero, suc, ◌≤◌, ◌/◌, nat_lt, Bool, true, false, cond, List, [], ◌∷◌, Option, Some, None, length, filter, get_or, drop, refl, ap, subst, ◌∙◌, arith, length-drop, get_or-drop}
use Rattle.std.specs.Prelude.{slice_get}
use Rattle.std.specs.List.{list_any}
use Rattle.std.proofs.lemmas.Bool.Decides.{nat_tests}
use Rattle.std.proofs.lemmas.List.Elements.{All-get_or, filter_passes}
use Rattle.std.proofs.lemmas.List.Folds.{list_any_at}
use Rattle.std.proofs.lemmas.Option.{get_or_from_slice_get, slice_get_within}
use Rattle.std.proofs.lemmas.Slice.Eq.{bytes_eq-Decides}
use Rattle.spl_message.specs.declared.span.Span.{Span}
use Rattle.spl_bundle.specs.Numbered.{Bundle}
use Rattle.spl_node.specs.declared.pivot.Pivot.{Pivot}
use Rattle.spl_node.specs.Node.{NodeData, bare, pivot_at}
use Rattle.spl_state.specs.Sight.{cuts_inside, is_inside, leaf_split, middle, only_split, split_key, split_key_at}
use Rattle.spl_state.specs.Whole.{BranchData}
use Rattle.spl_split.specs.Splitting.{is_at, is_split_at, is_split_key}

not_none : {A : Type 0} (x : A) → None ≡ Some x → ⊥
not_none x is = cc

module _ (range : Span) (key : List ℕ) where
  -- one of the cuts that lie inside the range
  cut_inside : (cuts : List (List ℕ)) (i : ℕ) → slice_get (filter (is_inside range) cuts) i ≡ Some key → is_inside range key ≡ true
  cut_inside cuts i is =
      let within = slice_get_within (filter (is_inside range) cuts) i key is in
      let at : get_or (filter (is_inside range) cuts) i key ≡ key = get_or_from_slice_get (filter (is_inside range) cuts) i key key is in
      subst (λ (one : List ℕ). is_inside range one ≡ true) at
      (All-get_or (λ (one : List ℕ). is_inside range one ≡ true) (filter (is_inside range) cuts) i key within (filter_passes (is_inside range) cuts))

  middle_inside : (cuts : List (List ℕ)) → middle (filter (is_inside range) cuts) ≡ Some key → is_inside range key ≡ true
  middle_inside cuts is = by (nat_lt (length (filter (is_inside range) cuts)) 3) is
    where
      by : (few : Bool) → cond few None (slice_get (filter (is_inside range) cuts) (length (filter (is_inside range) cuts) / 2)) ≡ Some key → is_inside range key ≡ true
      by true given = absurd (not_none key given)
      by false given = cut_inside cuts (length (filter (is_inside range) cuts) / 2) given

  branch_inside : (branch : Option BranchData) → middle (cuts_inside range branch) ≡ Some key → is_inside range key ≡ true
  branch_inside None is = absurd (not_none key is)
  branch_inside (Some branch) is = middle_inside branch.cuts is

  only_inside : (branch : ℕ → Option BranchData) (numbers : List ℕ) → only_split range branch numbers ≡ Some key → is_inside range key ≡ true
  only_inside branch [] is = absurd (not_none key is)
  only_inside branch (number ∷ []) is = branch_inside (branch number) is
  only_inside branch (number ∷ other ∷ numbers) is = absurd (not_none key is)

  leaf_inside : (branch : ℕ → Option BranchData) (bundles : List Bundle) → leaf_split range branch bundles ≡ Some key → is_inside range key ≡ true
  leaf_inside branch [] is = absurd (not_none key is)
  leaf_inside branch (bundle ∷ []) is = only_inside branch bundle.branches is
  leaf_inside branch (bundle ∷ other ∷ bundles) is = absurd (not_none key is)

-- the start of a pivot but the first
later_start : (key : List ℕ) (pivots : List Pivot) → cond (nat_lt (length pivots) 16) None (pivot_at pivots 8).start ≡ Some key → list_any (λ (pivot : Pivot). is_at key pivot.start) (drop 1 pivots) ≡ true
later_start key pivots is = by (nat_lt (length pivots) 16) refl is
  where
    by : (few : Bool) → nat_lt (length pivots) 16 ≡ few → cond few None (pivot_at pivots 8).start ≡ Some key → list_any (λ (pivot : Pivot). is_at key pivot.start) (drop 1 pivots) ≡ true
    by true test given = absurd (not_none key given)
    by false test given =
        let many : 16 ≤ length pivots = grind (arith, nat_tests) in
        let long = length-drop 1 pivots in
        let there : (get_or (drop 1 pivots) 7 bare).start ≡ Some key = ap (λ (pivot : Pivot). pivot.start) (get_or-drop 1 pivots 7 bare) ∙ given in
        list_any_at (λ (pivot : Pivot). is_at key pivot.start) (drop 1 pivots) 7 bare (omega arith) (ap (is_at key) there ∙ (bytes_eq-Decides key key).1 refl)

pub can_split : (branch : ℕ → Option BranchData) (node : NodeData) (key : List ℕ) → split_key branch node ≡ Some key → is_split_key node key ≡ true
can_split branch node key is = by node.height is
  where
    by : (height : ℕ) → split_key_at branch node height ≡ Some key → is_split_at height node key ≡ true
    by zero given = leaf_inside node.range key branch node.lists.bundles given
    by (suc height) given = later_start key node.pivots given
