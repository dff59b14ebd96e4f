-- What leaves the meaning of a node alone.
use Rattle.std.proofs.Common.{◌≡◌, ◌≢◌, ℕ, zero, suc, ◌<◌, ◌≤◌, Bool, true, false, nat_lt, if◌then◌else◌, List, [], ◌∷◌, Option, Some, None, flat_map, length, refl, sym, ap, subst, ◌∙◌, inl, inr, arith}
use Rattle.std.specs.Prelude.{IsSome, option_to_list, ◌↔◌}
use Rattle.std.proofs.lemmas.Bool.{cases_eq, cases_lt, false≢true}
use Rattle.std.proofs.lemmas.List.Elements.{All-get_or, All-cons, All-nil}
use Rattle.std.proofs.lemmas.Bool.Decides.{nat_tests}
use Rattle.spl_message.specs.declared.span.Span.{Span}
use Rattle.spl_message.specs.Cell.{Cell}
use Rattle.spl_message.specs.Message.{act_all}
use Rattle.spl_message.specs.Rule.{Rule}
use Rattle.spl_message.specs.Span.{InSpan}
use Rattle.spl_message.specs.Table.{Table, chain}
use Rattle.spl_node.specs.declared.pivot.Pivot.{Pivot}
use Rattle.spl_node.specs.Node.{NodeData, bare, pivot_at, pivot_for, StartsIn, IsMark, IsNode}
use Rattle.spl_node.specs.Steps.{fresh, all_keys}
use Rattle.spl_node.proofs.Places.{pivot_for_within, pivot_holds}
use Rattle.spl_trunk.specs.Trunk.{node_at}
use Rattle.spl_trunk.specs.Tree.{pivot_of, number_of, child_for, live_tables, sub, times, children, IsShaped}
use Rattle.spl_trunk.proofs.Counts.{times-append, times_one, times_two, times_itself}

some_is : (o : Option ℕ) → IsSome o → o ≡ Some (number_of o)
some_is None some = absurd (false≢true some)
some_is (Some n) some = refl

module _ (nodes : List NodeData) (shaped : IsShaped nodes) where
  node_is : (n : ℕ) → n < length nodes → IsNode (node_at nodes n)
  node_is n below = All-get_or IsNode nodes n (fresh 0 bare) below shaped.each

  -- the child of a key's pivot is a node, one lower, and has the key
  pub child_is : (n : ℕ) (key : List ℕ) (height : ℕ) → n < length nodes → (node_at nodes n).height ≡ suc height → InSpan (node_at nodes n).range key → (child_for (node_at nodes n) key < length nodes) × ((node_at nodes (child_for (node_at nodes n) key)).height ≡ height) × InSpan (node_at nodes (child_for (node_at nodes n) key)).range key × ((pivot_of (node_at nodes n) key).child ≡ Some (child_for (node_at nodes n) key))
  child_is n key height below high inside =
      let node = node_at nodes n in
      let is = node_is n below in
      let i = pivot_for node.pivots key in
      let within = pivot_for_within node.pivots key is.some in
      let some = (All-get_or (λ (p : Pivot). IsSome p.child ↔ (0 < node.height)) node.pivots i bare within is.children).1 (omega arith) in
      let there = some_is (pivot_of node key).child some in
      let child = shaped.children n i (child_for node key) below within there in
      let P : Span → Type 0 = λ span. InSpan span key in
      let lower = child.height in
      (child.exists, omega arith, subst P (sym child.range) (pivot_holds node key is inside), there)

  -- a node that a pivot leads to is counted among the children
  counted : (n i child : ℕ) → i < length (node_at nodes n).pivots → (pivot_at (node_at nodes n).pivots i).child ≡ Some child → 1 ≤ times child (children (node_at nodes n))
  counted n i child within leads_to =
      let one = times_one (λ (p : Pivot). option_to_list p.child) child (node_at nodes n).pivots i bare within in
      let here = ap (λ (o : Option ℕ). times child (option_to_list o)) leads_to ∙ times_itself child in
      omega arith

  at_most_one : (b : Bool) → (if b then 1 else 0) ≤ 1
  at_most_one true = omega arith
  at_most_one false = omega arith

  -- no two nodes have a pivot to the same child
  pub one_parent : (m n i j child : ℕ) → m < n → n < length nodes → i < length (node_at nodes m).pivots → j < length (node_at nodes n).pivots → (pivot_at (node_at nodes m).pivots i).child ≡ Some child → (pivot_at (node_at nodes n).pivots j).child ≡ Some child → ⊥
  one_parent m n i j child order below within_m within_n from_m from_n =
      let a = counted m i child within_m from_m in
      let b = counted n j child within_n from_n in
      let two = times_two children child nodes m n (fresh 0 bare) order below in
      let all = times-append child (0 ∷ []) (flat_map children nodes) in
      let once = shaped.parents child in
      let most = at_most_one (nat_lt child (length nodes)) in
      omega arith

  -- the root is no node's child
  pub not_root : (n i child : ℕ) → n < length nodes → i < length (node_at nodes n).pivots → (pivot_at (node_at nodes n).pivots i).child ≡ Some child → child ≢ 0
  not_root n i child below within leads_to is =
      let one = counted n i 0 within (leads_to ∙ ap (λ (m : ℕ). Some m) is) in
      let all = times_one children 0 nodes n (fresh 0 bare) below in
      let parts = times-append 0 (0 ∷ []) (flat_map children nodes) in
      let itself = times_itself 0 in
      let once = shaped.parents 0 in
      let most = at_most_one (nat_lt 0 (length nodes)) in
      omega arith

  -- A node and a child of it are replaced. Where the node means what it meant, so does every other node but the child.
  module _ (rule : Rule) (table_of : ℕ → Table) (after : ℕ → NodeData) (parent i child : ℕ) (exists : parent < length nodes) (within : i < length (node_at nodes parent).pivots) (leads_to : (pivot_at (node_at nodes parent).pivots i).child ≡ Some child) (others : (n : ℕ) → n < length nodes → n ≢ parent → n ≢ child → after n ≡ node_at nodes n) (same : (key : List ℕ) → InSpan (node_at nodes parent).range key → sub rule table_of after (node_at nodes parent).height parent key ≡ sub rule table_of (node_at nodes) (node_at nodes parent).height parent key) where
    not_child : (n : ℕ) (key : List ℕ) (height : ℕ) → n < length nodes → n ≢ parent → (node_at nodes n).height ≡ suc height → InSpan (node_at nodes n).range key → child_for (node_at nodes n) key ≢ child
    not_child n key height below other high inside is =
        let node = node_at nodes n in
        let j = pivot_for node.pivots key in
        let in_node = pivot_for_within node.pivots key (node_is n below).some in
        let to : (pivot_of node key).child ≡ Some child = (child_is n key height below high inside).3 ∙ ap (λ (m : ℕ). Some m) is in
        elim (cases_lt n parent) [
          | inl lower ↦ one_parent n parent j i child lower exists in_node within to leads_to
          | inr upper ↦ one_parent parent n i j child (omega arith) below within in_node leads_to to
        ]

    at_parent : (height n : ℕ) (key : List ℕ) → n ≡ parent → (node_at nodes n).height ≡ height → InSpan (node_at nodes n).range key → sub rule table_of after height n key ≡ sub rule table_of (node_at nodes) height n key
    at_parent height n key here high inside =
        let P : ℕ → Type 0 = λ m. InSpan (node_at nodes m).range key in
        let is : (node_at nodes parent).height ≡ height = ap (λ (m : ℕ). (node_at nodes m).height) (sym here) ∙ high in
        let Q : ℕ → Type 0 = λ h. sub rule table_of after h parent key ≡ sub rule table_of (node_at nodes) h parent key in
        let R : ℕ → Type 0 = λ m. sub rule table_of after height m key ≡ sub rule table_of (node_at nodes) height m key in
        subst R (sym here) (subst Q is (same key (subst P here inside)))

    pub sub_elsewhere : (height n : ℕ) (key : List ℕ) → n < length nodes → n ≢ child → (node_at nodes n).height ≡ height → InSpan (node_at nodes n).range key → sub rule table_of after height n key ≡ sub rule table_of (node_at nodes) height n key
    sub_elsewhere zero n key below other low inside = elim (cases_eq n parent) [
      | inl here ↦ at_parent zero n key here low inside
      | inr there ↦ ap (λ (node : NodeData). act_all rule key None (chain (live_tables table_of node key) key)) (others n below there other)
    ]
    sub_elsewhere (suc height) n key below other high inside = elim (cases_eq n parent) [
      | inl here ↦ at_parent (suc height) n key here high inside
      | inr there ↦
          let down = child_is n key height below high inside in
          let lower = sub_elsewhere height (child_for (node_at nodes n) key) key down.0 (not_child n key height below there high inside) down.1 down.2 in
          ap (λ (node : NodeData). act_all rule key (sub rule table_of after height (child_for node key) key) (chain (live_tables table_of node key) key)) (others n below there other)
          ∙ ap (λ (cell : Cell). act_all rule key cell (chain (live_tables table_of (node_at nodes n) key) key)) lower
    ]

-- one leaf is a trunk
leaf_node : IsNode (fresh 0 bare)
leaf_node = record {
  some = omega arith;
  few = omega arith;
  begin = refl;
  rising = λ i within. absurd (omega arith);
  within = All-cons (λ (p : Pivot). StartsIn all_keys p.start) bare [] refl (All-nil (λ (p : Pivot). StartsIn all_keys p.start));
  marks = All-cons (λ (p : Pivot). IsMark (record { first = 0; bundles = [] }) p.mark) bare [] (omega arith, omega arith) (All-nil (λ (p : Pivot). IsMark (record { first = 0; bundles = [] }) p.mark));
  leaf = λ low. refl;
  children = All-cons (λ (p : Pivot). IsSome p.child ↔ (0 < 0)) bare [] ((λ some. absurd (false≢true some)), (λ positive. absurd (omega arith))) (All-nil (λ (p : Pivot). IsSome p.child ↔ (0 < 0)));
}

no_child : (i child : ℕ) → (pivot_at (bare ∷ []) i).child ≡ Some child → ⊥
no_child zero child is = cc
no_child (suc i) child is = cc

only_leaf : (n i child : ℕ) → n < 1 → (pivot_at (node_at (fresh 0 bare ∷ []) n).pivots i).child ≡ Some child → ⊥
only_leaf zero i child below is = no_child i child is
only_leaf (suc n) i child below is = absurd (omega arith)

root_once : (n : ℕ) → times n (0 ∷ []) ≡ (if nat_lt n 1 then 1 else 0)
root_once zero = refl
root_once (suc n) = grind (arith, nat_tests)

pub leaf_shaped : IsShaped (fresh 0 bare ∷ [])
leaf_shaped = record {
  some = omega arith;
  few = omega arith;
  each = All-cons IsNode (fresh 0 bare) [] leaf_node (All-nil IsNode);
  root = refl;
  children = λ n i child below within is. absurd (only_leaf n i child below is);
  parents = root_once;
}
