-- What keeps the shape of a trunk.
use Rattle.std.proofs.Common.{◌≡◌, ◌≢◌, ℕ, zero, suc, ◌+◌, ◌-◌, ◌<◌, ◌≤◌, max, Bool, true, false, nat_lt, cond, if◌then◌else◌, List, [], ◌∷◌, ◌++◌, Option, Some, None, flat_map, map, length, get_or, set, take, drop, replicate, refl, sym, ap, ap₂, subst, ◌∙◌, inl, inr, arith, length-append, length-take-le, length-drop, length-set, get_or-set_same, get_or-set_other}
use Rattle.std.specs.Prelude.{IsSome, option_to_list, ◌↔◌}
use Rattle.std.proofs.lemmas.Bool.{cases_eq, cases_lt, lt-ltb, le-ltb, ltb-true, ne_eqb}
use Rattle.std.proofs.lemmas.Grind.{flat_map-append}
use Rattle.std.proofs.lemmas.List.{append-nil, length-map, length-replicate, get_or-map, get_or_at, get_or_append_left, get_or_default}
use Rattle.std.proofs.lemmas.List.Elements.{All-get_or, All-cons, All-nil, All-append, All-set}
use Rattle.spl_message.specs.declared.span.Span.{Span}
use Rattle.spl_bundle.specs.Numbered.{Numbered, Bundle, unmarked, next_of, pushed, merged, marked, released, owned_by, without_mark}
use Rattle.spl_node.specs.declared.pivot.Pivot.{Pivot}
use Rattle.spl_node.specs.Node.{NodeData, bare, pivot_at, span_of, StartsIn, IsMark, IsNode}
use Rattle.spl_node.specs.Steps.{fresh, with_lists, with_mark, at_mark, kept_from, trimmed, lowered, lifted}
use Rattle.spl_node.proofs.Lives.{mark_at, kept_from-le, kept_from-ge}
use Rattle.spl_node.proofs.Nodes.{remarked_node, marked_node, trimmed_node}
use Rattle.spl_trunk.specs.Trunk.{node_at, with_node}
use Rattle.spl_trunk.specs.Tree.{number_of, times, children, leads, IsChild, IsShaped}
use Rattle.spl_trunk.specs.Moves.{KeepsFrame, raised}
use Rattle.spl_trunk.proofs.Counts.{times-append, times-replaced, times_itself}
use Rattle.spl_trunk.proofs.Trees.{not_root}

pick : (b : Bool) (s t s₁ t₁ : Option (List ℕ)) → (b ≡ true → s ≡ s₁) → (b ≡ false → t ≡ t₁) → (if b then s else t) ≡ (if b then s₁ else t₁)
pick true s t s₁ t₁ on_true on_false = on_true refl
pick false s t s₁ t₁ on_true on_false = on_false refl

flat_map_alike : {X : Type 0} (f : X → List ℕ) (d : X) (xs ys : List X) → length xs ≡ length ys → ((k : ℕ) → k < length ys → f (get_or xs k d) ≡ f (get_or ys k d)) → flat_map f xs ≡ flat_map f ys
flat_map_alike f d [] [] long alike = refl
flat_map_alike f d [] (y ∷ ys) long alike = absurd (omega arith)
flat_map_alike f d (x ∷ xs) [] long alike = absurd (omega arith)
flat_map_alike f d (x ∷ xs) (y ∷ ys) long alike =
    ap₂ ◌++◌ (alike 0 (omega arith)) (flat_map_alike f d xs ys (omega arith) (λ k within. alike (suc k) (omega arith)))

module _ (node other : NodeData) (keeps : KeepsFrame node other) where
  span_kept : (i : ℕ) → i < length node.pivots → span_of other i ≡ span_of node i
  span_kept i within =
      ap₂ (λ (from to : Option (List ℕ)). let s : Span = record { from = from; to = to } in s) (keeps.starts i within) (
      ap (λ (n : ℕ). if nat_lt (i + 1) n then (pivot_at other.pivots (i + 1)).start else other.range.to) keeps.count
      ∙ pick (nat_lt (i + 1) (length node.pivots)) (pivot_at other.pivots (i + 1)).start other.range.to (pivot_at node.pivots (i + 1)).start node.range.to
      (λ more. keeps.starts (i + 1) (ltb-true (i + 1) (length node.pivots) more))
      (λ last. ap (λ (s : Span). s.to) keeps.range)
      )

  children_kept : children other ≡ children node
  children_kept = flat_map_alike (λ (p : Pivot). option_to_list p.child) bare other.pivots node.pivots keeps.count (λ k within. ap option_to_list (keeps.children k within))

pub frame_itself : (node : NodeData) → KeepsFrame node node
frame_itself node = record { height = refl; range = refl; count = refl; starts = λ i within. refl; children = λ i within. refl }

-- A node is replaced by one with the same height, range, starts and children.
module _ (nodes : List NodeData) (shaped : IsShaped nodes) (n : ℕ) (exists : n < length nodes) (node : NodeData) (is : IsNode node) (keeps : KeepsFrame (node_at nodes n) node) where
  frame_at : (m : ℕ) → KeepsFrame (node_at nodes m) (node_at (with_node nodes n node) m)
  frame_at m = elim (cases_eq m n) [
    | inl here ↦
        let P : ℕ → Type 0 = λ k. KeepsFrame (node_at nodes k) (node_at (with_node nodes n node) k) in
        let Q : NodeData → Type 0 = λ other. KeepsFrame (node_at nodes n) other in
        subst P (sym here) (subst Q (sym (get_or-set_same nodes n node (fresh 0 bare) exists)) keeps)
    | inr there ↦
        let Q : NodeData → Type 0 = λ other. KeepsFrame (node_at nodes m) other in
        subst Q (sym (get_or-set_other nodes n m node (fresh 0 bare) there)) (frame_itself (node_at nodes m))
  ]

  pub shaped_replaced : IsShaped (with_node nodes n node)
  shaped_replaced =
      let after = with_node nodes n node in
      let long : length after ≡ length nodes = length-set nodes n node in
      let some = shaped.some in
      let few = shaped.few in
      record {
        some = omega arith;
        few = omega arith;
        each = All-set IsNode nodes n node is shaped.each;
        root = (frame_at 0).range ∙ shaped.root;
        children = λ m i child below within leads_to.
            let frame = frame_at m in
            let exists_m : m < length nodes = omega arith in
            let count = frame.count in
            let inside : i < length (node_at nodes m).pivots = omega arith in
            let old = shaped.children m i child exists_m inside (sym (frame.children i inside) ∙ leads_to) in
            let frame_child = frame_at child in
            record {
              exists = let there = old.exists in omega arith;
              height = ap (λ (h : ℕ). h + 1) frame_child.height ∙ old.height ∙ sym frame.height;
              range = frame_child.range ∙ old.range ∙ sym (span_kept (node_at nodes m) (node_at after m) frame i inside);
            };
        parents = λ k.
            let replaced = times-replaced children k nodes n node (fresh 0 bare) exists in
            let same = ap (times k) (children_kept (node_at nodes n) node keeps) in
            let before = times-append k (0 ∷ []) (flat_map children nodes) in
            let behind = times-append k (0 ∷ []) (flat_map children after) in
            let total : times k (leads after) ≡ times k (leads nodes) = omega arith in
            total ∙ shaped.parents k ∙ ap (λ (m : ℕ). if nat_lt k m then 1 else 0) (sym long);
      }

-- Other bundles, with all marks still between the first number and the next.
module _ (node : NodeData) (is : IsNode node) where
  relisted_node : (lists : Numbered) → lists.first ≡ node.lists.first → length node.lists.bundles ≤ length lists.bundles → IsNode (with_lists node lists)
  relisted_node lists first long =
      remarked_node node is node.pivots lists refl (λ k below. refl) (λ k below. refl) (λ k below. let was = mark_at node is k below in (omega arith, omega arith))

  pub pushed_node : (list : List ℕ) → IsNode (with_lists node (pushed node.lists list))
  pushed_node list = relisted_node (pushed node.lists list) refl (let long = length-append node.lists.bundles (unmarked list ∷ []) in omega arith)

  pub released_node : (actor : ℕ) → IsNode (with_lists node (released node.lists actor))
  released_node actor = relisted_node (released node.lists actor) refl (let long = length-map node.lists.bundles (without_mark actor) in omega arith)

  module _ (first last : ℕ) (ordered : first ≤ last) (stands : node.lists.first ≤ last) (made : last < next_of node.lists) where
    pub merged_node : (output : Option ℕ) → IsNode (with_lists node (merged node.lists first last output))
    merged_node output =
        let bundles = node.lists.bundles in
        let f = first - node.lists.first in
        let count = last - max first node.lists.first in
        let front = take f bundles in
        let empties = let none : List Bundle = replicate count (unmarked []) in none in
        let back = drop (last + 1 - node.lists.first) bundles in
        let out = unmarked (option_to_list output) in
        let a = length-take-le f bundles (omega arith) in
        let b = length-replicate count (unmarked []) in
        let c = length-drop (last + 1 - node.lists.first) bundles in
        let d = length-append front empties in
        let e = length-append (front ++ empties) (out ∷ back) in
        relisted_node (merged node.lists first last output) refl (omega arith)

    pub ticketed_node : (owner : Option ℕ) → IsNode (with_lists node (marked node.lists first last owner))
    ticketed_node owner =
        let bundles = node.lists.bundles in
        let f = first - node.lists.first in
        let count = last + 1 - max first node.lists.first in
        let front = take f bundles in
        let run = take count (drop f bundles) in
        let back = drop (last + 1 - node.lists.first) bundles in
        let a = length-take-le f bundles (omega arith) in
        let b = length-drop f bundles in
        let c = length-take-le count (drop f bundles) (omega arith) in
        let d = length-map run (owned_by owner) in
        let e = length-drop (last + 1 - node.lists.first) bundles in
        let g = length-append front (map (owned_by owner) run) in
        let h = length-append (front ++ map (owned_by owner) run) back in
        relisted_node (marked node.lists first last owner) refl (omega arith)

-- Each call that changes one node but for its range and its pivots' starts and children keeps the shape.
module _ (nodes : List NodeData) (shaped : IsShaped nodes) (n : ℕ) (exists : n < length nodes) where
  node_is : IsNode (node_at nodes n)
  node_is = All-get_or IsNode nodes n (fresh 0 bare) exists shaped.each

  relisted_frame : (lists : Numbered) → KeepsFrame (node_at nodes n) (with_lists (node_at nodes n) lists)
  relisted_frame lists = record { height = refl; range = refl; count = refl; starts = λ i within. refl; children = λ i within. refl }

  pub shaped_itself : IsShaped (with_node nodes n (node_at nodes n))
  shaped_itself = shaped_replaced nodes shaped n exists (node_at nodes n) node_is (frame_itself (node_at nodes n))

  pub shaped_pushed : (list : List ℕ) → IsShaped (with_node nodes n (with_lists (node_at nodes n) (pushed (node_at nodes n).lists list)))
  shaped_pushed list = shaped_replaced nodes shaped n exists _ (pushed_node (node_at nodes n) node_is list) (relisted_frame _)

  pub shaped_released : (actor : ℕ) → IsShaped (with_node nodes n (with_lists (node_at nodes n) (released (node_at nodes n).lists actor)))
  shaped_released actor = shaped_replaced nodes shaped n exists _ (released_node (node_at nodes n) node_is actor) (relisted_frame _)

  pub shaped_merged : (first last : ℕ) (output : Option ℕ) → first ≤ last → (node_at nodes n).lists.first ≤ last → last < next_of (node_at nodes n).lists → IsShaped (with_node nodes n (with_lists (node_at nodes n) (merged (node_at nodes n).lists first last output)))
  shaped_merged first last output ordered stands made =
      shaped_replaced nodes shaped n exists _ (merged_node (node_at nodes n) node_is first last ordered stands made output) (relisted_frame _)

  pub shaped_ticketed : (first last : ℕ) (owner : Option ℕ) → first ≤ last → (node_at nodes n).lists.first ≤ last → last < next_of (node_at nodes n).lists → IsShaped (with_node nodes n (with_lists (node_at nodes n) (marked (node_at nodes n).lists first last owner)))
  shaped_ticketed first last owner ordered stands made =
      shaped_replaced nodes shaped n exists _ (ticketed_node (node_at nodes n) node_is first last ordered stands made owner) (relisted_frame _)

  pub shaped_marked : (i mark : ℕ) → i < length (node_at nodes n).pivots → (pivot_at (node_at nodes n).pivots i).mark ≤ mark → mark ≤ next_of (node_at nodes n).lists → IsShaped (with_node nodes n (with_mark (node_at nodes n) i mark))
  shaped_marked i mark within above made =
      let node = node_at nodes n in
      let new = at_mark (pivot_at node.pivots i) mark in
      let at : (k : ℕ) → ((pivot_at (set node.pivots i new) k).start ≡ (pivot_at node.pivots k).start) × ((pivot_at (set node.pivots i new) k).child ≡ (pivot_at node.pivots k).child) = λ k.
      elim (cases_eq k i) [
        | inl here ↦
            let P : ℕ → Type 0 = λ m. ((pivot_at (set node.pivots i new) m).start ≡ (pivot_at node.pivots m).start) × ((pivot_at (set node.pivots i new) m).child ≡ (pivot_at node.pivots m).child) in
            let set_here = get_or-set_same node.pivots i new bare within in
            subst P (sym here) (ap (λ (p : Pivot). p.start) set_here, ap (λ (p : Pivot). p.child) set_here)
        | inr there ↦
            let kept = get_or-set_other node.pivots i k new bare there in
            (ap (λ (p : Pivot). p.start) kept, ap (λ (p : Pivot). p.child) kept)
      ] in
      shaped_replaced nodes shaped n exists (with_mark node i mark) (marked_node node node_is i mark within above made) (record {
        height = refl;
        range = refl;
        count = length-set node.pivots i new;
        starts = λ k below. (at k).0;
        children = λ k below. (at k).1;
      })

  pub shaped_trimmed : IsShaped (with_node nodes n (trimmed (node_at nodes n)))
  shaped_trimmed =
      let node = node_at nodes n in
      let raise : Pivot → Pivot = λ pivot. at_mark pivot (max pivot.mark (kept_from node)) in
      let at : (k : ℕ) → k < length node.pivots → pivot_at (map raise node.pivots) k ≡ raise (pivot_at node.pivots k) = λ k below. get_or-map raise node.pivots k bare bare below in
      shaped_replaced nodes shaped n exists (trimmed node) (trimmed_node node node_is (kept_from-ge node) (kept_from-le node)) (record {
        height = refl;
        range = refl;
        count = length-map node.pivots raise;
        starts = λ k below. ap (λ (p : Pivot). p.start) (at k below);
        children = λ k below. ap (λ (p : Pivot). p.child) (at k below);
      })

-- the trunk's nodes after a call on one of them
pub shaped_at : (items nodes : List NodeData) (n : ℕ) (f : NodeData → NodeData) (was now : NodeData) → items ≡ nodes → was ≡ get_or items n was → n < length nodes → now ≡ f was → IsShaped (with_node nodes n (f (node_at nodes n))) → IsShaped (set items n now)
shaped_at items nodes n f was now same own exists made shaped =
    let long = ap length same in
    let is : was ≡ node_at nodes n = own ∙ get_or_default items n was (fresh 0 bare) (omega arith) ∙ ap (λ list. node_at list n) same in
    subst IsShaped (sym (ap₂ (λ list node. set list n node) same (made ∙ ap f is))) shaped

abbrev pub flag : Bool → ℕ
flag b = if b then 1 else 0

times_other : (k n : ℕ) → (k ≡ n → ⊥) → times k (n ∷ []) ≡ 0
times_other k n other = ap (λ (b : Bool). 0 + cond b 1 0) (ne_eqb n k (λ same. other (sym same)))

-- one node more is named once
pub counted_more : (k n : ℕ) → flag (nat_lt k n) + times k (n ∷ []) ≡ flag (nat_lt k (n + 1))
counted_more k n = elim (cases_lt k n) [
  | inl lower ↦
      ap₂ ◌+◌ (ap flag (lt-ltb k n lower)) (times_other k n (λ same. omega arith)) ∙ sym (ap flag (lt-ltb k (n + 1) (omega arith)))
  | inr upper ↦ elim (cases_eq k n) [
    | inl same ↦
        ap₂ ◌+◌ (ap flag (le-ltb k n upper)) (ap (λ (m : ℕ). times k (m ∷ [])) (sym same) ∙ times_itself k) ∙ sym (ap flag (lt-ltb k (n + 1) (omega arith)))
    | inr other ↦
        ap₂ ◌+◌ (ap flag (le-ltb k n upper)) (times_other k n other) ∙ sym (ap flag (le-ltb k (n + 1) (omega arith)))
  ]
]

-- the root and every node's children, counted
pub times_leads : (k : ℕ) (nodes : List NodeData) → times k (leads nodes) ≡ times k (0 ∷ []) + times k (flat_map children nodes)
times_leads k nodes = times-append k (0 ∷ []) (flat_map children nodes)

pub times-grown : (k : ℕ) (nodes : List NodeData) (node : NodeData) → times k (flat_map children (nodes ++ node ∷ [])) ≡ times k (flat_map children nodes) + times k (children node)
times-grown k nodes node =
    ap (times k) (flat_map-append children nodes (node ∷ []))
    ∙ times-append k (flat_map children nodes) (children node ++ [])
    ∙ ap (λ (list : List ℕ). times k (flat_map children nodes) + times k list) (append-nil (children node))

pub some_number : (a b : ℕ) → Some a ≡ Some b → a ≡ b
some_number a b same = ap number_of same

-- The root is raised over a new node that is what the root was.
module _ (nodes : List NodeData) (shaped : IsShaped nodes) (room : length nodes < 4096) where
  long_raised : length (raised nodes) ≡ length nodes + 1
  long_raised =
      length-set (nodes ++ lowered (node_at nodes 0) ∷ []) 0 (lifted (node_at nodes 0) (length nodes))
      ∙ length-append nodes (lowered (node_at nodes 0) ∷ [])

  long_grown : length (nodes ++ lowered (node_at nodes 0) ∷ []) ≡ length nodes + 1
  long_grown = length-append nodes (lowered (node_at nodes 0) ∷ [])

  root_is : IsNode (node_at nodes 0)
  root_is = All-get_or IsNode nodes 0 (fresh 0 bare) shaped.some shaped.each

  at_root : node_at (raised nodes) 0 ≡ lifted (node_at nodes 0) (length nodes)
  at_root = let long = long_grown in get_or-set_same (nodes ++ lowered (node_at nodes 0) ∷ []) 0 (lifted (node_at nodes 0) (length nodes)) (fresh 0 bare) (omega arith)

  at_lower : node_at (raised nodes) (length nodes) ≡ lowered (node_at nodes 0)
  at_lower =
      let some = shaped.some in
      get_or-set_other (nodes ++ lowered (node_at nodes 0) ∷ []) 0 (length nodes) (lifted (node_at nodes 0) (length nodes)) (fresh 0 bare) (λ same. omega arith)
      ∙ get_or_at nodes (lowered (node_at nodes 0)) [] (fresh 0 bare) (length nodes) refl

  at_rest : (m : ℕ) → m < length nodes → m ≢ 0 → node_at (raised nodes) m ≡ node_at nodes m
  at_rest m below other =
      get_or-set_other (nodes ++ lowered (node_at nodes 0) ∷ []) 0 m (lifted (node_at nodes 0) (length nodes)) (fresh 0 bare) other
      ∙ get_or_append_left nodes (lowered (node_at nodes 0) ∷ []) (fresh 0 bare) m below

  lowered_node : IsNode (lowered (node_at nodes 0))
  lowered_node =
      let is = root_is in
      record { some = is.some; few = is.few; begin = is.begin; rising = is.rising; within = is.within; marks = is.marks; leaf = is.leaf; children = is.children }

  lifted_node : IsNode (lifted (node_at nodes 0) (length nodes))
  lifted_node =
      let root = node_at nodes 0 in
      let pivot : Pivot = record { start = root.range.from; child = Some (length nodes); mark = 0 } in
      let open_start : root.range.from ≡ None = ap (λ (s : Span). s.from) shaped.root in
      let S : Option (List ℕ) → Type 0 = λ s. StartsIn root.range s in
      record {
        some = omega arith;
        few = omega arith;
        begin = refl;
        rising = λ i within. absurd (omega arith);
        within = All-cons (λ (p : Pivot). StartsIn root.range p.start) pivot [] (subst S (sym open_start) refl) (All-nil (λ (p : Pivot). StartsIn root.range p.start));
        marks = All-cons (λ (p : Pivot). IsMark (record { first = 0; bundles = [] }) p.mark) pivot [] (omega arith, omega arith) (All-nil (λ (p : Pivot). IsMark (record { first = 0; bundles = [] }) p.mark));
        leaf = λ low. absurd (omega arith);
        children = All-cons (λ (p : Pivot). IsSome p.child ↔ (0 < root.height + 1)) pivot [] ((λ some. omega arith), (λ positive. refl)) (All-nil (λ (p : Pivot). IsSome p.child ↔ (0 < root.height + 1)));
      }

  kept_child : (node : NodeData) (i child : ℕ) → child ≢ 0 → IsChild nodes node i child → IsChild (raised nodes) node i child
  kept_child node i child other old =
      let long = long_raised in
      let here = at_rest child old.exists other in
      record {
        exists = let there = old.exists in omega arith;
        height = ap (λ (m : NodeData). m.height + 1) here ∙ old.height;
        range = ap (λ (m : NodeData). m.range) here ∙ old.range;
      }

  of_rest : (m : ℕ) → m < length nodes → (i child : ℕ) → i < length (node_at nodes m).pivots → (pivot_at (node_at nodes m).pivots i).child ≡ Some child → IsChild (raised nodes) (node_at nodes m) i child
  of_rest m below i child within leads_to =
      kept_child (node_at nodes m) i child (not_root nodes shaped m i child below within leads_to) (shaped.children m i child below within leads_to)

  of_lower : (i child : ℕ) → i < length (node_at nodes 0).pivots → (pivot_at (node_at nodes 0).pivots i).child ≡ Some child → IsChild (raised nodes) (lowered (node_at nodes 0)) i child
  of_lower i child within leads_to =
      let old = of_rest 0 shaped.some i child within leads_to in
      record { exists = old.exists; height = old.height; range = old.range }

  of_root : (i child : ℕ) → i < 1 → (pivot_at (lifted (node_at nodes 0) (length nodes)).pivots i).child ≡ Some child → IsChild (raised nodes) (lifted (node_at nodes 0) (length nodes)) i child
  of_root zero child within leads_to =
      let is : length nodes ≡ child = some_number (length nodes) child leads_to in
      let long = long_raised in
      let here : node_at (raised nodes) child ≡ lowered (node_at nodes 0) = ap (node_at (raised nodes)) (sym is) ∙ at_lower in
      record {
        exists = omega arith;
        height = ap (λ (m : NodeData). m.height + 1) here;
        range = ap (λ (m : NodeData). m.range) here;
      }
  of_root (suc i) child within leads_to = absurd (omega arith)

  pub shaped_raised : IsShaped (raised nodes)
  shaped_raised =
      let root = node_at nodes 0 in
      let after = raised nodes in
      let grown = nodes ++ lowered root ∷ [] in
      let long = long_raised in
      let long_before = long_grown in
      let P : NodeData → Type 0 = λ node. (i child : ℕ) → i < length node.pivots → (pivot_at node.pivots i).child ≡ Some child → IsChild after node i child in
      record {
        some = omega arith;
        few = omega arith;
        each = All-set IsNode grown 0 (lifted root (length nodes)) lifted_node (All-append IsNode nodes (lowered root ∷ []) shaped.each (All-cons IsNode (lowered root) [] lowered_node (All-nil IsNode)));
        root = ap (λ (node : NodeData). node.range) at_root ∙ shaped.root;
        children = λ n i child below. elim (cases_eq n 0) as (λ _. P (node_at after n)) [
          | inl here ↦ subst P (sym (ap (node_at after) here ∙ at_root)) of_root
          | inr other ↦ elim (cases_lt n (length nodes)) as (λ _. P (node_at after n)) [
            | inl lower ↦ subst P (sym (at_rest n lower other)) (of_rest n lower)
            | inr upper ↦ let is : n ≡ length nodes = omega arith in subst P (sym (ap (node_at after) is ∙ at_lower)) of_lower
          ]
        ] i child;
        parents = λ k.
            let replaced = times-replaced children k grown 0 (lifted root (length nodes)) (fresh 0 bare) (omega arith) in
            let was = ap (λ (node : NodeData). times k (children node)) (get_or_append_left nodes (lowered root ∷ []) (fresh 0 bare) 0 shaped.some) in
            let more = times-grown k nodes (lowered root) in
            let before = times_leads k nodes in
            let behind = times_leads k after in
            let total : times k (leads after) ≡ times k (leads nodes) + times k (length nodes ∷ []) = omega arith in
            total
            ∙ ap (λ (m : ℕ). m + times k (length nodes ∷ [])) (shaped.parents k)
            ∙ counted_more k (length nodes)
            ∙ ap (λ (m : ℕ). flag (nat_lt k m)) (sym long);
      }

  -- the calls `grow` and `lift` make these nodes
  pub raised_made : with_node (nodes ++ lowered (node_at nodes 0) ∷ []) 0 (lifted (node_at (nodes ++ lowered (node_at nodes 0) ∷ []) 0) (length nodes)) ≡ raised nodes
  raised_made =
      ap (λ (root : NodeData). with_node (nodes ++ lowered (node_at nodes 0) ∷ []) 0 (lifted root (length nodes))) (get_or_append_left nodes (lowered (node_at nodes 0) ∷ []) (fresh 0 bare) 0 shaped.some)
