-- A split, where the state is seen through its parts.
use Rattle.std.proofs.Common.{◌≡◌, ℕ, Bool, true, List, [], ◌∷◌, ◌++◌, Option, Some, None, length, refl, sym, ap, subst, ◌∙◌, arith}
use Rattle.std.specs.Prelude.{IsSome, All}
use Rattle.std.specs.Option.{option_map}
use Rattle.std.proofs.lemmas.Option.{same_Some}
use Rattle.spl_message.specs.Rule.{Rule}
use Rattle.spl_bundle.specs.Numbered.{names}
use Rattle.spl_holds.specs.declared.grip.Grip.{Grip}
use Rattle.spl_holds.specs.declared.grip.Grip.TheVariants.{Write}
use Rattle.spl_holds.specs.Latch.{IsLatched, nobody}
use Rattle.spl_holds.specs.Holds.{grip_of}
use Rattle.spl_node.specs.Node.{NodeData}
use Rattle.spl_refs.specs.Refs.{Published, branch_at}
use Rattle.spl_trunk.specs.Moves.{divided}
use Rattle.spl_trunk.specs.Trunk.{node_at, lists_at}
use Rattle.spl_trunk.specs.Tree.{IsShaped}
use Rattle.spl_state.specs.Bounds.{AreBelow}
use Rattle.spl_state.specs.Frame.{IsFramed}
use Rattle.spl_state.specs.Sound.{IsSound, AreDrafts}
use Rattle.spl_state.specs.Whole.{BranchData, Whole}
use Rattle.spl_state.proofs.Views.{all_seen, branch_seen, count_seen}
use Rattle.spl_split.specs.Naming.{AreNamed, NamedMore}
use Rattle.spl_split.specs.Splitting.{pivot_to, CanDivide, HasSplit, ShareBundles}
use Rattle.spl_split.proofs.Division.{child_now, number_now}
use Rattle.spl_split.proofs.Splits.{new, was_named, split_sound, split_framed}

module _ {B : Type 0} (data_of : B → BranchData) where
  -- branches that are named once more are so where they are seen as plain data
  pub named_seen : (old new : Published B) (list : List ℕ) → NamedMore old new list
      → NamedMore (all_seen data_of old) (all_seen data_of new) list
  named_seen old new list more = record {
    counts = λ n.
        let now = count_seen data_of new n in
        let was = count_seen data_of old n in
        let counted = more.counts n in
        omega arith;
    branches = λ n. branch_seen data_of new n ∙ ap (option_map data_of) (more.branches n)
        ∙ sym (branch_seen data_of old n);
  }

  some_there : (o : Option B) → IsSome (option_map data_of o) → IsSome o
  some_there None some = some
  some_there (Some branch) some = refl

  -- what the bundles of a node name stands
  pub stand_there : (whole : Whole) (sound : IsSound whole) (refs : Published B)
      → whole.refs ≡ all_seen data_of refs → (child : ℕ) → AreNamed refs (names (lists_at whole.nodes child))
  stand_there whole sound refs refs_are child n some =
      let count = was_named whole sound child n in
      let stands = (sound.extents.stands n).1 (omega arith) in
      some_there (branch_at refs n) (subst (λ (o : Option BranchData). IsSome o)
      (ap (λ (r : Published BranchData). branch_at r n) refs_are ∙ branch_seen data_of refs n) stands)

module _ (nodes : List NodeData) (shaped : IsShaped nodes) (parent at child : ℕ) (key : List ℕ)
    (can : CanDivide nodes parent at child key) (after : List NodeData)
    (after_is : after ≡ divided nodes parent at child key) where
  -- both parts have the child's bundles
  pub left_lists : lists_at after child ≡ lists_at nodes child
  left_lists = ap (λ (ns : List NodeData). lists_at ns child) after_is
      ∙ ap (λ (node : NodeData). node.lists) (child_now nodes shaped parent at child key can)

  pub right_lists : lists_at after (length nodes) ≡ lists_at nodes child
  right_lists = ap (λ (ns : List NodeData). lists_at ns (length nodes)) after_is
      ∙ ap (λ (node : NodeData). node.lists) (number_now nodes shaped parent at child key can)

module _ (whole : Whole) (sound : IsSound whole) (actor parent at child : ℕ) (key : List ℕ)
    (can : CanDivide whole.nodes parent at child key) (above : grip_of whole.grips actor parent ≡ Write)
    (below : grip_of whole.grips actor child ≡ Write) (nodes : List NodeData) (refs : Published BranchData)
    (grips : List (List Grip)) (nodes_are : nodes ≡ divided whole.nodes parent at child key)
    (more : NamedMore whole.refs refs (names (lists_at whole.nodes child)))
    (grips_are : grips ≡ whole.grips ++ nobody ∷ []) where
  abbrev made : Whole
  made = record whole { nodes = nodes; refs = refs; grips = grips }

  made_is : made ≡ new whole sound actor parent at child key can above below refs more
  made_is =
      ap (λ (n : List NodeData). record whole { nodes = n; refs = refs; grips = grips }) nodes_are
      ∙ ap (λ (h : List (List Grip)). record whole
      { nodes = divided whole.nodes parent at child key; refs = refs; grips = h }) grips_are

  pub made_sound : AreBelow whole.nodes whole.tables whole.counters → All IsLatched grips → IsSound made
  made_sound fresh_numbers latched =
      subst (λ (w : Whole). IsSound w) (sym made_is)
      (split_sound whole sound actor parent at child key can above below refs more fresh_numbers
      (subst (λ (h : List (List Grip)). All IsLatched h) grips_are latched))

  pub made_framed : (old : Whole) → whole ≡ old → (rule : Rule) (tells : Bool)
      → (tells ≡ true → AreDrafts rule old) → IsFramed rule tells old made actor
  made_framed old view_is rule tells drafts =
      let drafts_here : tells ≡ true → AreDrafts rule whole = λ told. subst (λ (w : Whole). AreDrafts rule w)
      (sym view_is) (drafts told) in
      let framed = split_framed whole sound actor parent at child key can above below refs more rule tells
      drafts_here in
      subst (λ (w : Whole). IsFramed rule tells w made actor) view_is
      (subst (λ (w : Whole). IsFramed rule tells whole w actor) (sym made_is) framed)

  pub made_done : (old : Whole) → whole ≡ old → (other : ℕ)
      → pivot_to (node_at old.nodes parent).pivots child ≡ Some other
      → pivot_to (node_at whole.nodes parent).pivots child ≡ Some at
      → HasSplit old made parent other child key
  made_done old view_is other found here =
      let same : at ≡ other = same_Some at other (sym here
      ∙ ap (λ (w : Whole). pivot_to (node_at w.nodes parent).pivots child) view_is ∙ found) in
      let has : HasSplit whole made parent at child key = record
      { counts = more.counts; branches = more.branches; all = made_is } in
      subst (λ (i : ℕ). HasSplit old made parent i child key) same
      (subst (λ (w : Whole). HasSplit w made parent at child key) view_is has)

  pub made_shared : (old : Whole) → whole ≡ old → ShareBundles old made child
  made_shared old view_is =
      let shared : ShareBundles whole made child = record {
        left = left_lists whole.nodes sound.shaped parent at child key can nodes nodes_are;
        right = right_lists whole.nodes sound.shaped parent at child key can nodes nodes_are;
      } in
      subst (λ (w : Whole). ShareBundles w made child) view_is shared
