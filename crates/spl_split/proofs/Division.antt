-- The parts of a split and the parent's new pivot: what they have of a node, and what that leaves of the trunk.
use Rattle.std.proofs.Common.{◌≡◌, ◌≢◌, ℕ, zero, suc, ◌+◌, ◌<◌, ◌≤◌, max, List, [], ◌∷◌, ◌++◌, Some, length, take, drop, ◌⊎◌, refl, sym, ap, subst, ◌∙◌, inl, inr, arith, length-append, get_or, get_or-take}
use Rattle.std.specs.Prelude.{All}
use Rattle.std.specs.List.{insert}
use Rattle.std.proofs.lemmas.Bool.{cases_eq, cases_lt}
use Rattle.std.proofs.lemmas.List.{length-set, get_or-map, get_or_append_left, get_or_at, get_or-set_same, get_or-set_other, get_or_default}
use Rattle.std.proofs.lemmas.List.Elements.{All-set, All-get_or, All-append, All-cons, All-nil, All-take, All-drop, All-map}
use Rattle.spl_bundle.specs.Numbered.{names}
use Rattle.spl_node.specs.declared.pivot.Pivot.{Pivot}
use Rattle.spl_node.specs.Node.{NodeData, bare, pivot_at, StartsIn, AreRising, IsMark, IsNode}
use Rattle.spl_node.specs.Parts.{IsParted}
use Rattle.spl_node.specs.Steps.{fresh, with_pivots, IsSplitKey, starts_below, right_pivots, right_of, left_of}
use Rattle.spl_node.proofs.Splits.{split_cut, split_parts}
use Rattle.spl_trunk.specs.Moves.{right_pivot, widened, divided}
use Rattle.spl_trunk.specs.Trunk.{node_at, with_node, pivots_at, lists_at, with_pivots_at}
use Rattle.spl_trunk.specs.Tree.{IsChild, IsShaped, times, named}
use Rattle.spl_trunk.proofs.Counts.{times-replaced}
use Rattle.spl_trunk.proofs.Divided.{divided_start, divided_rising, divided_mark}
use Rattle.spl_trunk.proofs.Trees.{not_root}
use Rattle.spl_state.specs.Bounds.{HasEnds}
use Rattle.spl_split.specs.Splitting.{CanDivide}
use Rattle.spl_split.proofs.Heirs.{Inherits, inherits_itself}
use Rattle.spl_split.proofs.Raises.{named-grown}

module _ (node : NodeData) (is : IsNode node) (key : List ℕ) (split : IsSplitKey node key) where
  parts : IsParted node (left_of node key) (right_of node key)
  parts = split_parts node is key split

  cut : 0 < starts_below node.pivots key
  cut = (split_cut node is key split).0

  pub left_inherits : Inherits node (left_of node key)
  left_inherits = record {
    lists = refl;
    height = refl;
    within = λ other inside. (parts.in_left other inside).0;
    uncut = λ first last uncut. All-take (λ (pivot : Pivot). (pivot.mark ≤ max first node.lists.first) ⊎
        (last < pivot.mark)) (starts_below node.pivots key) node.pivots uncut;
  }

  marks_right : (P : ℕ → Type 0) (height : ℕ) → All (λ (pivot : Pivot). P pivot.mark) node.pivots
      → All (λ (pivot : Pivot). P pivot.mark) (right_pivots height node.pivots key)
  marks_right P zero all = All-map (λ (pivot : Pivot). P pivot.mark)
      (λ (pivot : Pivot). record pivot { start = Some key }) node.pivots all
  marks_right P (suc height) all = All-drop (λ (pivot : Pivot). P pivot.mark)
      (starts_below node.pivots key) node.pivots all

  pub right_inherits : Inherits node (right_of node key)
  right_inherits = record {
    lists = refl;
    height = refl;
    within = λ other inside. (parts.in_right other inside).0;
    uncut = λ first last uncut. marks_right (λ (mark : ℕ). (mark ≤ max first node.lists.first) ⊎
        (last < mark)) node.height uncut;
  }

  pub left_ends : HasEnds node → HasEnds (left_of node key)
  left_ends ends = record {
    mark = λ low. ap (λ (pivot : Pivot). pivot.mark) (get_or-take
        (starts_below node.pivots key) node.pivots 0 bare cut) ∙ ends.mark low;
    front = ends.front;
  }

  first_mark : (height : ℕ) → height ≡ 0 → (pivot_at (right_pivots height node.pivots key) 0).mark ≡
      (pivot_at node.pivots 0).mark
  first_mark zero low = ap (λ (pivot : Pivot). pivot.mark) (get_or-map
      (λ (pivot : Pivot). record pivot { start = Some key }) node.pivots 0 bare bare is.some)
  first_mark (suc height) low = absurd (omega arith)

  pub right_ends : HasEnds node → HasEnds (right_of node key)
  right_ends ends = record { mark = λ low. first_mark node.height low ∙ ends.mark low; front = ends.front }

-- the parent's new pivot has the mark of another one
pub wide_inherits : (node : NodeData) (at : ℕ) (key : List ℕ) (number : ℕ) → at < length node.pivots
    → Inherits node (widened node at key number)
wide_inherits node at key number within = record {
  lists = refl;
  height = refl;
  within = λ other inside. inside;
  uncut = λ first last uncut.
      let P : Pivot → Type 0 = λ pivot. (pivot.mark ≤ max first node.lists.first) ⊎ (last < pivot.mark) in
      let new = right_pivot node at key number in
      let same : P new = All-get_or P node.pivots at bare within uncut in
      All-append P (take (at + 1) node.pivots) (new ∷ drop (at + 1) node.pivots)
      (All-take P (at + 1) node.pivots uncut) (All-cons P new (drop (at + 1) node.pivots) same
      (All-drop P (at + 1) node.pivots uncut));
}

module _ (nodes : List NodeData) (shaped : IsShaped nodes) (parent at child : ℕ) (key : List ℕ)
    (can : CanDivide nodes parent at child key) where
  abbrev above : NodeData
  above = node_at nodes parent

  abbrev whole : NodeData
  whole = node_at nodes child

  abbrev pub left : NodeData
  left = left_of (node_at nodes child) key

  abbrev pub right : NodeData
  right = right_of (node_at nodes child) key

  abbrev pub wide : NodeData
  wide = widened (node_at nodes parent) at key (length nodes)

  abbrev grown : List NodeData
  grown = nodes ++ right_of (node_at nodes child) key ∷ []

  abbrev halved : List NodeData
  halved = with_node (nodes ++ right_of (node_at nodes child) key ∷ []) child
      (left_of (node_at nodes child) key)

  abbrev after : List NodeData
  after = divided nodes parent at child key

  pub linked : IsChild nodes above at child
  linked = shaped.children parent at child can.exists can.within can.leads

  pub child_node : IsNode whole
  child_node = All-get_or IsNode nodes child (fresh 0 bare) linked.exists shaped.each

  pub parent_node : IsNode above
  parent_node = All-get_or IsNode nodes parent (fresh 0 bare) can.exists shaped.each

  pub apart : child ≢ parent
  apart same =
      let high = linked.height in
      let heights = ap (λ (m : ℕ). (node_at nodes m).height) same in
      omega arith

  pub no_root : child ≢ 0
  no_root = not_root nodes shaped parent at child can.exists can.within can.leads

  long_grown : length grown ≡ length nodes + 1
  long_grown = length-append nodes (right ∷ [])

  long_halved : length halved ≡ length nodes + 1
  long_halved = length-set grown child left ∙ long_grown

  pub long : length after ≡ length nodes + 1
  long = length-set halved parent wide ∙ long_halved

  pub parent_now : node_at after parent ≡ wide
  parent_now = let count = long_halved in let there = can.exists in get_or-set_same halved parent wide
      (fresh 0 bare) (omega arith)

  pub child_now : node_at after child ≡ left
  child_now =
      let there = linked.exists in
      let count = long_grown in
      get_or-set_other halved parent child wide (fresh 0 bare) apart
      ∙ get_or-set_same grown child left (fresh 0 bare) (omega arith)

  pub number_now : node_at after (length nodes) ≡ right
  number_now =
      let there = linked.exists in
      let here = can.exists in
      get_or-set_other halved parent (length nodes) wide (fresh 0 bare) (λ same. omega arith)
      ∙ get_or-set_other grown child (length nodes) left (fresh 0 bare) (λ same. omega arith)
      ∙ get_or_at nodes right [] (fresh 0 bare) (length nodes) refl

  pub rest_now : (n : ℕ) → n < length nodes → n ≢ parent → n ≢ child → node_at after n ≡ node_at nodes n
  rest_now n below not_parent not_child =
      get_or-set_other halved parent n wide (fresh 0 bare) not_parent
      ∙ get_or-set_other grown child n left (fresh 0 bare) not_child
      ∙ get_or_append_left nodes (right ∷ []) (fresh 0 bare) n below

  grown_child : node_at grown child ≡ whole
  grown_child = get_or_append_left nodes (right ∷ []) (fresh 0 bare) child linked.exists

  pub halved_parent : node_at halved parent ≡ above
  halved_parent =
      get_or-set_other grown child parent left (fresh 0 bare) (λ same. apart (sym same))
      ∙ get_or_append_left nodes (right ∷ []) (fresh 0 bare) parent can.exists

  -- each node has the bundles of one that was
  pub heirs : (n : ℕ) → n < length after → (m : ℕ) × (m < length nodes) × Inherits (node_at nodes m)
      (node_at after n)
  heirs n below = elim (cases_eq n parent) [
    | inl is ↦ (
      parent,
      can.exists,
      subst (λ (node : NodeData). Inherits above node)
          (sym (ap (node_at after) is ∙ parent_now)) (wide_inherits above at key (length nodes) can.within),
    )
    | inr not_parent ↦ elim (cases_eq n child) [
      | inl is ↦ (
        child,
        linked.exists,
        subst (λ (node : NodeData). Inherits whole node)
            (sym (ap (node_at after) is ∙ child_now)) (left_inherits whole child_node key can.split),
      )
      | inr not_child ↦ elim (cases_lt n (length nodes)) [
        | inl within ↦ (
          n,
          within,
          subst (λ (node : NodeData). Inherits (node_at nodes n) node)
              (sym (rest_now n within not_parent not_child)) (inherits_itself (node_at nodes n)),
        )
        | inr past ↦
            let is : n ≡ length nodes = let count = long in omega arith in (
              child,
              linked.exists,
              subst (λ (node : NodeData). Inherits whole node)
                  (sym (ap (node_at after) is ∙ number_now)) (right_inherits whole child_node key can.split),
            )
      ]
    ]
  ]

  -- what holds of the nodes that were, of both parts and of the parent, holds of each
  pub all_nodes : (P : NodeData → Type 0) → All P nodes → P left → P right → P wide → All P after
  all_nodes P all of_left of_right of_wide =
      All-set P halved parent wide of_wide (All-set P grown child left of_left
      (All-append P nodes (right ∷ []) all (All-cons P right [] of_right (All-nil P))))

  -- what the child's bundles name is named once more
  pub named_now : (n : ℕ) → times n (named after) ≡ times n (named nodes) + times n (names whole.lists)
  named_now n =
      let f : NodeData → List ℕ = λ node. names node.lists in
      let exists = can.exists in
      let there = linked.exists in
      let count = long_grown in
      let counted = long_halved in
      let more = named-grown n nodes right in
      let second = times-replaced f n grown child left (fresh 0 bare) (omega arith) in
      let whole_is = ap (λ (node : NodeData). times n (f node)) grown_child in
      let third = times-replaced f n halved parent wide (fresh 0 bare) (omega arith) in
      let above_is = ap (λ (node : NodeData). times n (f node)) halved_parent in
      omega arith

  -- the root keeps its height and its bundles
  pub root_now : ((node_at after 0).height ≡ (node_at nodes 0).height) ×
      ((node_at after 0).lists ≡ (node_at nodes 0).lists)
  root_now = elim (cases_eq 0 parent) [
    | inl is ↦
        let here = ap (node_at after) is ∙ parent_now in
        let was = ap (node_at nodes) is in (
          ap (λ (node : NodeData). node.height) here
              ∙ sym (ap (λ (node : NodeData). node.height) was),
          ap (λ (node : NodeData). node.lists) here
              ∙ sym (ap (λ (node : NodeData). node.lists) was),
        )
    | inr other ↦
        let same = rest_now 0 shaped.some other (λ is. no_root (sym is)) in
        (ap (λ (node : NodeData). node.height) same, ap (λ (node : NodeData). node.lists) same)
  ]

  -- the calls that make the division, one after another
  module _ (part : NodeData) (part_is : part ≡ right) (more cut_nodes : List NodeData)
      (more_is : more ≡ nodes ++ part ∷ [])
      (cut_is : cut_nodes ≡ with_node more child (left_of (node_at more child) key)) where
    cut_made : cut_nodes ≡ halved
    cut_made =
        let grown_is : more ≡ grown = more_is ∙ ap (λ (node : NodeData). nodes ++ node ∷ []) part_is in
        cut_is
        ∙ ap (λ (ns : List NodeData). with_node ns child (left_of (node_at ns child) key)) grown_is
        ∙ ap (λ (node : NodeData). with_node grown child (left_of node key)) grown_child

    still_above : node_at cut_nodes parent ≡ above
    still_above = ap (λ (ns : List NodeData). node_at ns parent) cut_made ∙ halved_parent

    pub above_exists : parent < length cut_nodes
    above_exists = let count = ap length cut_made ∙ long_halved in let there = can.exists in omega arith

    pub start_made : StartsIn (node_at cut_nodes parent).range (Some key)
    start_made =
        subst (λ (node : NodeData). StartsIn node.range (Some key)) (sym still_above)
        (divided_start nodes shaped can.room parent at child can.exists can.within can.leads key can.split
        can.pivots)

    pub few_made : length (pivots_at cut_nodes parent) < 16
    few_made =
        let same = ap (λ (node : NodeData). length node.pivots) still_above in
        let few = can.pivots in
        omega arith

    module _ (pivot : Pivot) (pivot_is : pivot ≡ right_pivot above at key (length nodes)) where
      pub rising_made : AreRising (insert (pivots_at cut_nodes parent) (at + 1) pivot)
      rising_made =
          let rising = divided_rising nodes shaped can.room parent at child can.exists can.within can.leads
          key can.split can.pivots in
          let here : AreRising (insert above.pivots (at + 1) pivot) = subst
          (λ (p : Pivot). AreRising (insert above.pivots (at + 1) p)) (sym pivot_is) rising in
          subst (λ (node : NodeData). AreRising (insert node.pivots (at + 1) pivot)) (sym still_above) here

      pub mark_made : IsMark (lists_at cut_nodes parent) pivot.mark
      mark_made =
          let mark = divided_mark nodes shaped can.room parent at child can.exists can.within can.leads key
          can.split can.pivots in
          let here : IsMark above.lists pivot.mark = subst (λ (p : Pivot). IsMark above.lists p.mark)
          (sym pivot_is) mark in
          subst (λ (node : NodeData). IsMark node.lists pivot.mark) (sym still_above) here

      pub divided_made : (made : List NodeData) → made ≡ with_pivots_at cut_nodes parent
          (insert (pivots_at cut_nodes parent) (at + 1) pivot) → made ≡ after
      divided_made made made_is =
          made_is
          ∙ ap (λ (p : Pivot). with_pivots_at cut_nodes parent
          (insert (pivots_at cut_nodes parent) (at + 1) p)) pivot_is
          ∙ ap (λ (ns : List NodeData). with_pivots_at ns parent
          (insert (pivots_at ns parent) (at + 1) (right_pivot above at key (length nodes)))) cut_made
          ∙ ap (λ (node : NodeData). with_node halved parent
          (with_pivots node (insert node.pivots (at + 1)
          (right_pivot above at key (length nodes))))) halved_parent

  -- the pivot that the split inserts has the mark of the child's
  pub pivot_made : (pivots : List Pivot) (mark : ℕ) (d : Pivot) (number : ℕ)
      → pivots ≡ (node_at nodes parent).pivots → mark ≡ (get_or pivots at d).mark → number ≡ length nodes
      → record { start = Some key; child = Some number; mark = mark } ≡ right_pivot above at key
      (length nodes)
  pivot_made pivots mark d number pivots_are mark_is number_is =
      let within : at < length pivots = let same = ap length pivots_are in let there = can.within in omega
      arith in
      let is : mark ≡ (pivot_at above.pivots at).mark = mark_is
      ∙ ap (λ (p : Pivot). p.mark) (get_or_default pivots at d bare within)
      ∙ ap (λ (ps : List Pivot). (pivot_at ps at).mark) pivots_are in
      ap (λ (n : ℕ). let p : Pivot = record { start = Some key; child = Some n; mark = mark } in p) number_is
      ∙ ap (λ (m : ℕ). let p : Pivot = record {
        start = Some key;
        child = Some
            (length nodes);
        mark = m;
      } in p) is
