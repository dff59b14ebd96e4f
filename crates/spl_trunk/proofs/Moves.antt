-- What the steps of the core leave of what each node makes of a key.
use Rattle.std.proofs.Common.{◌≡◌, ◌≢◌, ℕ, zero, suc, ◌+◌, ◌<◌, ◌≤◌, max, Bool, true, not, List, [], ◌++◌, ◌⊎◌, Option, Some, None, option_to_list, map, length, take, drop, ◌-◌, refl, sym, ap, subst, ◌∙◌, inl, inr, arith}
use Rattle.std.specs.List.{insert}
use Rattle.std.proofs.lemmas.Bool.{cases_eq}
use Rattle.std.proofs.lemmas.List.{map-append}
use Rattle.std.proofs.lemmas.List.Elements.{All-get_or}
use Rattle.std.proofs.lemmas.List.Sums.{fold-append}
use Rattle.std.proofs.lemmas.Grind.{flat_map-append}
use Rattle.spl_message.specs.declared.message.Message.{Message}
use Rattle.spl_message.specs.declared.span.Span.{Span}
use Rattle.spl_message.specs.Cell.{Cell}
use Rattle.spl_message.specs.Message.{act, act_all}
use Rattle.spl_message.specs.Rule.{Rule}
use Rattle.spl_message.specs.Span.{InSpan}
use Rattle.spl_message.specs.Table.{Table, chain, message_at}
use Rattle.spl_bundle.specs.Numbered.{next_of, joined, live, pushed, merged}
use Rattle.spl_node.specs.declared.pivot.Pivot.{Pivot}
use Rattle.spl_node.specs.Node.{NodeData, bare, pivot_at, pivot_for, live_at, AreRising, IsNode}
use Rattle.spl_node.specs.Steps.{fresh, with_lists, IsSplitKey, left_of, right_of, lowered, lifted}
use Rattle.spl_node.proofs.Places.{pivot_for_within, pivot_only}
use Rattle.spl_trunk.specs.Trunk.{node_at}
use Rattle.spl_trunk.specs.Tree.{pivot_of, number_of, child_for, live_tables, sub, IsChild, IsShaped}
use Rattle.spl_trunk.proofs.Trees.{child_is, not_root, sub_elsewhere}
use Rattle.spl_node.specs.Parts.{child_of, live_for, IsAlike, IsParted, branches_from, IsUncut}
use Rattle.spl_trunk.specs.Moves.{below, right_pivot, widened}
use Rattle.spl_node.proofs.Lives.{live-merged, live_with_run, live-merged_above, live_at-pushed}
use Rattle.spl_node.proofs.Splits.{split_parts, is_left, is_right, inserted_here, inserted_below, inserted_elsewhere}

module _ (rule : Rule) (key : List ℕ) where
  pub act_all-append : (cell : Cell) (xs ys : List Message) → act_all rule key cell (xs ++ ys) ≡ act_all rule key (act_all rule key cell xs) ys
  act_all-append cell xs ys = fold-append (act rule key) cell xs ys

  -- the tables of joined lists act one list after the other
  pub act_all-joined : (table_of : ℕ → Table) (cell : Cell) (xs ys : List ℕ) → act_all rule key cell (chain (map table_of (xs ++ ys)) key) ≡ act_all rule key (act_all rule key cell (chain (map table_of xs) key)) (chain (map table_of ys) key)
  act_all-joined table_of cell xs ys =
      ap (λ tables. act_all rule key cell (chain tables key)) (map-append table_of xs ys)
      ∙ ap (act_all rule key cell) (flat_map-append (λ (table : Table). option_to_list (message_at table key)) (map table_of xs) (map table_of ys))
      ∙ act_all-append cell (chain (map table_of xs) key) (chain (map table_of ys) key)

-- a node's branches act on what lies below them
pub sub_acts : (rule : Rule) (table_of : ℕ → Table) (nodes : ℕ → NodeData) (height n : ℕ) (key : List ℕ) → sub rule table_of nodes height n key ≡ act_all rule key (below rule table_of nodes height n key) (chain (map table_of (live_for (nodes n) key)) key)
sub_acts rule table_of nodes zero n key = refl
sub_acts rule table_of nodes (suc height) n key = refl

module _ (nodes : List NodeData) (shaped : IsShaped nodes) where
  node_is : (n : ℕ) → n < length nodes → IsNode (node_at nodes n)
  node_is n exists = All-get_or IsNode nodes n (fresh 0 bare) exists shaped.each

  module _ (rule : Rule) (table_of : ℕ → Table) (after : ℕ → NodeData) where
    -- All nodes that are lower than some height are as before.
    module _ (top : ℕ) (same : (n : ℕ) → n < length nodes → (node_at nodes n).height < top → after n ≡ node_at nodes n) where
      -- then so is what they mean
      pub sub_lower : (height n : ℕ) (key : List ℕ) → height < top → n < length nodes → (node_at nodes n).height ≡ height → InSpan (node_at nodes n).range key → sub rule table_of after height n key ≡ sub rule table_of (node_at nodes) height n key
      sub_lower zero n key lower exists low inside =
          ap (λ (node : NodeData). act_all rule key None (chain (live_tables table_of node key) key)) (same n exists (omega arith))
      sub_lower (suc height) n key lower exists high inside =
          let down = child_is nodes shaped n key height exists high inside in
          let rest = sub_lower height (child_for (node_at nodes n) key) key (omega arith) down.0 down.1 down.2 in
          ap (λ (node : NodeData). act_all rule key (sub rule table_of after height (child_for node key) key) (chain (live_tables table_of node key) key)) (same n exists (omega arith))
          ∙ ap (λ (cell : Cell). act_all rule key cell (chain (live_tables table_of (node_at nodes n) key) key)) rest

      -- what lies below a node of that height is as before, also where another number stands for it
      below_kept : (height n m : ℕ) (key : List ℕ) → height ≤ top → n < length nodes → (node_at nodes n).height ≡ height → InSpan (node_at nodes n).range key → child_of (after m) key ≡ child_of (node_at nodes n) key → below rule table_of after height m key ≡ below rule table_of (node_at nodes) height n key
      below_kept zero n m key upto exists low inside child = refl
      below_kept (suc height) n m key upto exists high inside child =
          let down = child_is nodes shaped n key height exists high inside in
          ap (λ (c : Option ℕ). sub rule table_of after height (number_of c) key) child
          ∙ sub_lower height (child_for (node_at nodes n) key) key (omega arith) down.0 down.1 down.2

      -- a node in which a key finds what it found means for it what that one meant
      pub sub_alike : (height n m : ℕ) (key : List ℕ) → height ≤ top → n < length nodes → (node_at nodes n).height ≡ height → InSpan (node_at nodes n).range key → IsAlike (node_at nodes n) (after m) key → sub rule table_of after height m key ≡ sub rule table_of (node_at nodes) height n key
      sub_alike height n m key upto exists is_height inside alike =
          sub_acts rule table_of after height m key
          ∙ ap (λ (cell : Cell). act_all rule key cell (chain (map table_of (live_for (after m) key)) key)) (below_kept height n m key upto exists is_height inside alike.child)
          ∙ ap (λ (list : List ℕ). act_all rule key (below rule table_of (node_at nodes) height n key) (chain (map table_of list) key)) alike.live
          ∙ sym (sub_acts rule table_of (node_at nodes) height n key)

      -- a list that becomes live for a key acts on what the node meant
      pub sub_pushed : (height n : ℕ) (key list : List ℕ) → height ≤ top → n < length nodes → (node_at nodes n).height ≡ height → InSpan (node_at nodes n).range key → child_of (after n) key ≡ child_of (node_at nodes n) key → live_for (after n) key ≡ live_for (node_at nodes n) key ++ list → sub rule table_of after height n key ≡ act_all rule key (sub rule table_of (node_at nodes) height n key) (chain (map table_of list) key)
      sub_pushed height n key list upto exists is_height inside child more =
          let cell = below rule table_of (node_at nodes) height n key in
          sub_acts rule table_of after height n key
          ∙ ap (λ (cell : Cell). act_all rule key cell (chain (map table_of (live_for (after n) key)) key)) (below_kept height n n key upto exists is_height inside child)
          ∙ ap (λ (list : List ℕ). act_all rule key cell (chain (map table_of list) key)) more
          ∙ act_all-joined rule key table_of cell (live_for (node_at nodes n) key) list
          ∙ ap (λ (cell : Cell). act_all rule key cell (chain (map table_of list) key)) (sym (sub_acts rule table_of (node_at nodes) height n key))

    -- One node is replaced, and means what it meant. Then so does every node.
    module _ (changed : ℕ) (exists : changed < length nodes) (others : (n : ℕ) → n < length nodes → n ≢ changed → after n ≡ node_at nodes n) where
      module _ (same : (key : List ℕ) → InSpan (node_at nodes changed).range key → sub rule table_of after (node_at nodes changed).height changed key ≡ sub rule table_of (node_at nodes) (node_at nodes changed).height changed key) where
        at_changed : (height n : ℕ) (key : List ℕ) → n ≡ changed → (node_at nodes n).height ≡ height → InSpan (node_at nodes n).range key → sub rule table_of after height n key ≡ sub rule table_of (node_at nodes) height n key
        at_changed height n key here high inside =
            let P : ℕ → Type 0 = λ m. InSpan (node_at nodes m).range key in
            let is : (node_at nodes changed).height ≡ height = ap (λ (m : ℕ). (node_at nodes m).height) (sym here) ∙ high in
            let Q : ℕ → Type 0 = λ h. sub rule table_of after h changed key ≡ sub rule table_of (node_at nodes) h changed key in
            let R : ℕ → Type 0 = λ m. sub rule table_of after height m key ≡ sub rule table_of (node_at nodes) height m key in
            subst R (sym here) (subst Q is (same key (subst P here inside)))

        pub sub_kept : (height n : ℕ) (key : List ℕ) → n < length nodes → (node_at nodes n).height ≡ height → InSpan (node_at nodes n).range key → sub rule table_of after height n key ≡ sub rule table_of (node_at nodes) height n key
        sub_kept zero n key below low inside = elim (cases_eq n changed) [
          | inl here ↦ at_changed zero n key here low inside
          | inr there ↦ ap (λ (node : NodeData). act_all rule key None (chain (live_tables table_of node key) key)) (others n below there)
        ]
        sub_kept (suc height) n key below high inside = elim (cases_eq n changed) [
          | inl here ↦ at_changed (suc height) n key here high inside
          | inr there ↦
              let down = child_is nodes shaped n key height below high inside in
              let lower = sub_kept height (child_for (node_at nodes n) key) key down.0 down.1 down.2 in
              ap (λ (node : NodeData). act_all rule key (sub rule table_of after height (child_for node key) key) (chain (live_tables table_of node key) key)) (others n below there)
              ∙ ap (λ (cell : Cell). act_all rule key cell (chain (live_tables table_of (node_at nodes n) key) key)) lower
        ]

      lower_same : (n : ℕ) → n < length nodes → (node_at nodes n).height < (node_at nodes changed).height → after n ≡ node_at nodes n
      lower_same n below lower = elim (cases_eq n changed) [
        | inl here ↦ absurd (let same = ap (λ (m : ℕ). (node_at nodes m).height) here in omega arith)
        | inr there ↦ others n below there
      ]

      -- A run of bundles of that node is merged to one branch or to none, which acts as the run did: at the bottom on nothing
      -- alone, and then nothing lies below the run. Every node means what it meant.
      module _ (first last : ℕ) (output : Option ℕ) (bottom : Bool) (ordered : first ≤ last) (stands : (node_at nodes changed).lists.first ≤ last) (made : last < next_of (node_at nodes changed).lists) (uncut : IsUncut (node_at nodes changed) first last) (lowest : bottom ≡ true → ((node_at nodes changed).height ≡ 0) × (first ≤ (node_at nodes changed).lists.first)) (acts : (key : List ℕ) → InSpan (node_at nodes changed).range key → (cell : Cell) → (bottom ≡ true → cell ≡ None) → act_all rule key cell (chain (map table_of (option_to_list output)) key) ≡ act_all rule key cell (chain (map table_of (branches_from (node_at nodes changed).lists first (last + 1))) key)) (alike : (key : List ℕ) → InSpan (node_at nodes changed).range key → IsAlike (with_lists (node_at nodes changed) (merged (node_at nodes changed).lists first last output)) (after changed) key) where
        module _ (key : List ℕ) (inside : InSpan (node_at nodes changed).range key) where
          no_front : (mark : ℕ) → first ≤ (node_at nodes changed).lists.first → branches_from (node_at nodes changed).lists mark first ≡ []
          no_front mark low = ap (λ (n : ℕ). joined (take n (drop (mark - (node_at nodes changed).lists.first) (node_at nodes changed).lists.bundles))) (let none : first - max mark (node_at nodes changed).lists.first ≡ 0 = omega arith in none)

          run_acts : (cell : Cell) (mark : ℕ) → mark ≤ max first (node_at nodes changed).lists.first ⊎ (last < mark) → (bottom ≡ true → cell ≡ None) → act_all rule key cell (chain (map table_of (live (merged (node_at nodes changed).lists first last output) mark)) key) ≡ act_all rule key cell (chain (map table_of (live (node_at nodes changed).lists mark)) key)
          run_acts cell mark (inr above) nothing =
              ap (λ (list : List ℕ). act_all rule key cell (chain (map table_of list) key)) (live-merged_above (node_at nodes changed).lists first last output ordered stands made mark above)
          run_acts cell mark (inl all) nothing =
              let lists = (node_at nodes changed).lists in
              let front = branches_from lists mark first in
              let run = branches_from lists first (last + 1) in
              let out = option_to_list output in
              let back = live lists (last + 1) in
              let acted : Cell = act_all rule key cell (chain (map table_of front) key) in
              let bare_front : bottom ≡ true → acted ≡ None = λ at.
              let low = (lowest at).1 in
              ap (λ (list : List ℕ). act_all rule key cell (chain (map table_of list) key)) (no_front mark low) ∙ nothing at in
              ap (λ (list : List ℕ). act_all rule key cell (chain (map table_of list) key)) (live-merged lists first last output ordered stands made mark all)
              ∙ act_all-joined rule key table_of cell (front ++ out) back
              ∙ ap (λ (c : Cell). act_all rule key c (chain (map table_of back) key)) (act_all-joined rule key table_of cell front out ∙ acts key inside acted bare_front ∙ sym (act_all-joined rule key table_of cell front run))
              ∙ sym (act_all-joined rule key table_of cell (front ++ run) back)
              ∙ ap (λ (list : List ℕ). act_all rule key cell (chain (map table_of list) key)) (sym (live_with_run lists first last output ordered stands made mark all))

          merged_at : sub rule table_of after (node_at nodes changed).height changed key ≡ sub rule table_of (node_at nodes) (node_at nodes changed).height changed key
          merged_at =
              let node = node_at nodes changed in
              let high = node.height in
              let under = below rule table_of (node_at nodes) high changed key in
              let i = pivot_for node.pivots key in
              let within = pivot_for_within node.pivots key (node_is changed exists).some in
              let P : ℕ → Type 0 = λ h. below rule table_of (node_at nodes) h changed key ≡ None in
              let nothing : bottom ≡ true → under ≡ None = λ at. subst P (sym (lowest at).0) refl in
              sub_acts rule table_of after high changed key
              ∙ ap (λ (cell : Cell). act_all rule key cell (chain (map table_of (live_for (after changed) key)) key)) (below_kept high lower_same high changed changed key (omega arith) exists refl inside (alike key inside).child)
              ∙ ap (λ (list : List ℕ). act_all rule key under (chain (map table_of list) key)) (alike key inside).live
              ∙ run_acts under (pivot_at node.pivots i).mark (All-get_or (λ (p : Pivot). (p.mark ≤ max first node.lists.first) ⊎ (last < p.mark)) node.pivots i bare within uncut) nothing
              ∙ sym (sub_acts rule table_of (node_at nodes) high changed key)

        pub sub_merged : (height n : ℕ) (key : List ℕ) → n < length nodes → (node_at nodes n).height ≡ height → InSpan (node_at nodes n).range key → sub rule table_of after height n key ≡ sub rule table_of (node_at nodes) height n key
        sub_merged = sub_kept merged_at

    -- A node and a child of it are replaced.
    module _ (parent i child : ℕ) (exists : parent < length nodes) (within : i < length (node_at nodes parent).pivots) (leads_to : (pivot_at (node_at nodes parent).pivots i).child ≡ Some child) (others : (n : ℕ) → n < length nodes → n ≢ parent → n ≢ child → after n ≡ node_at nodes n) where
      linked : IsChild nodes (node_at nodes parent) i child
      linked = shaped.children parent i child exists within leads_to

      parent_high : (node_at nodes parent).height ≡ suc (node_at nodes child).height
      parent_high = let high = linked.height in omega arith

      lower_pair : (n : ℕ) → n < length nodes → (node_at nodes n).height < (node_at nodes child).height → after n ≡ node_at nodes n
      lower_pair n below lower =
          others n below
          (λ here. let same = ap (λ (m : ℕ). (node_at nodes m).height) here in let high = parent_high in omega arith)
          (λ here. let same = ap (λ (m : ℕ). (node_at nodes m).height) here in omega arith)

      module _ (key : List ℕ) (inside : InSpan (node_at nodes parent).range key) where
        down : (child_for (node_at nodes parent) key < length nodes) × ((node_at nodes (child_for (node_at nodes parent) key)).height ≡ (node_at nodes child).height) × InSpan (node_at nodes (child_for (node_at nodes parent) key)).range key × ((pivot_of (node_at nodes parent) key).child ≡ Some (child_for (node_at nodes parent) key))
        down = child_is nodes shaped parent key (node_at nodes child).height exists parent_high inside

        to_child : pivot_for (node_at nodes parent).pivots key ≡ i → child_for (node_at nodes parent) key ≡ child
        to_child here = ap (λ (n : ℕ). number_of (pivot_at (node_at nodes parent).pivots n).child) here ∙ ap number_of leads_to

        in_child : pivot_for (node_at nodes parent).pivots key ≡ i → InSpan (node_at nodes child).range key
        in_child here = let P : ℕ → Type 0 = λ n. InSpan (node_at nodes n).range key in subst P (to_child here) down.2

        not_to_child : pivot_for (node_at nodes parent).pivots key ≢ i → child_for (node_at nodes parent) key ≢ child
        not_to_child other is =
            let P : ℕ → Type 0 = λ n. InSpan (node_at nodes n).range key in
            let Q : Span → Type 0 = λ span. InSpan span key in
            other (pivot_only (node_at nodes parent) key i (node_is parent exists) within (subst Q linked.range (subst P is down.2)))

        -- a key of another pivot is not concerned
        beside : pivot_for (node_at nodes parent).pivots key ≢ i → IsAlike (node_at nodes parent) (after parent) key → sub rule table_of after (suc (node_at nodes child).height) parent key ≡ sub rule table_of (node_at nodes) (suc (node_at nodes child).height) parent key
        beside other alike =
            let high = (node_at nodes child).height in
            let c = child_for (node_at nodes parent) key in
            let at = down in
            let kept : after c ≡ node_at nodes c = others c at.0
            (λ here. let same = ap (λ (m : ℕ). (node_at nodes m).height) here in let tall = parent_high in omega (arith, at.1))
            (not_to_child other) in
            let same : IsAlike (node_at nodes c) (after c) key = record {
              child = ap (λ (node : NodeData). child_of node key) kept;
              live = ap (λ (node : NodeData). live_for node key) kept;
            } in
            ap (λ (o : Option ℕ). act_all rule key (sub rule table_of after high (number_of o) key) (chain (map table_of (live_for (after parent) key)) key)) alike.child
            ∙ ap (λ (list : List ℕ). act_all rule key (sub rule table_of after high c key) (chain (map table_of list) key)) alike.live
            ∙ ap (λ (cell : Cell). act_all rule key cell (chain (map table_of (live_for (node_at nodes parent) key)) key)) (sub_alike high lower_pair high c c key (omega arith) at.0 at.1 at.2 same)

      -- Where the parent means what it meant, so does every other node but the child.
      module _ (same : (key : List ℕ) → InSpan (node_at nodes parent).range key → sub rule table_of after (suc (node_at nodes child).height) parent key ≡ sub rule table_of (node_at nodes) (suc (node_at nodes child).height) parent key) where
        pub sub_but_child : (height n : ℕ) (key : List ℕ) → n < length nodes → n ≢ child → (node_at nodes n).height ≡ height → InSpan (node_at nodes n).range key → sub rule table_of after height n key ≡ sub rule table_of (node_at nodes) height n key
        sub_but_child =
            sub_elsewhere nodes shaped rule table_of after parent i child exists within leads_to others (λ key inside.
            let P : ℕ → Type 0 = λ h. sub rule table_of after h parent key ≡ sub rule table_of (node_at nodes) h parent key in
            subst P (sym parent_high) (same key inside))

      -- The branches that are live for the pivot go to the child as one list.
      module _ (gone : (key : List ℕ) → InSpan (node_at nodes parent).range key → pivot_for (node_at nodes parent).pivots key ≡ i → (child_of (after parent) key ≡ child_of (node_at nodes parent) key) × (live_for (after parent) key ≡ [])) (rest : (key : List ℕ) → InSpan (node_at nodes parent).range key → pivot_for (node_at nodes parent).pivots key ≢ i → IsAlike (node_at nodes parent) (after parent) key) (gets : (key : List ℕ) → InSpan (node_at nodes child).range key → (child_of (after child) key ≡ child_of (node_at nodes child) key) × (live_for (after child) key ≡ live_for (node_at nodes child) key ++ live_at (node_at nodes parent) i)) where
        flushed_at : (key : List ℕ) → InSpan (node_at nodes parent).range key → sub rule table_of after (suc (node_at nodes child).height) parent key ≡ sub rule table_of (node_at nodes) (suc (node_at nodes child).height) parent key
        flushed_at key inside =
            let high = (node_at nodes child).height in
            let from = node_at nodes parent in
            let c = child_for from key in
            elim (cases_eq (pivot_for from.pivots key) i) [
              | inr other ↦ beside key inside other (rest key inside other)
              | inl here ↦
                  let is = to_child key inside here in
                  let left = gone key inside here in
                  let got = gets key (in_child key inside here) in
                  ap (λ (o : Option ℕ). act_all rule key (sub rule table_of after high (number_of o) key) (chain (map table_of (live_for (after parent) key)) key)) left.0
                  ∙ ap (λ (list : List ℕ). act_all rule key (sub rule table_of after high c key) (chain (map table_of list) key)) left.1
                  ∙ ap (λ (n : ℕ). sub rule table_of after high n key) is
                  ∙ sub_pushed high lower_pair high child key (live_at from i) (omega arith) linked.exists refl (in_child key inside here) got.0 got.1
                  ∙ ap (λ (n : ℕ). act_all rule key (sub rule table_of (node_at nodes) high n key) (chain (map table_of (live_at from i)) key)) (sym is)
                  ∙ ap (λ (n : ℕ). act_all rule key (sub rule table_of (node_at nodes) high c key) (chain (map table_of (live_at from n)) key)) (sym here)
            ]

        pub sub_flushed : (height n : ℕ) (key : List ℕ) → n < length nodes → n ≢ child → (node_at nodes n).height ≡ height → InSpan (node_at nodes n).range key → sub rule table_of after height n key ≡ sub rule table_of (node_at nodes) height n key
        sub_flushed = sub_but_child flushed_at

      -- The child is split, and the parent gets a pivot to the right part.
      module _ (number : ℕ) (at : List ℕ) (split : IsSplitKey (node_at nodes child) at) (rising : AreRising (insert (node_at nodes parent).pivots (i + 1) (right_pivot (node_at nodes parent) i at number))) (is_parent : after parent ≡ widened (node_at nodes parent) i at number) (is_child : after child ≡ left_of (node_at nodes child) at) (is_number : after number ≡ right_of (node_at nodes child) at) where
        parts : IsParted (node_at nodes child) (left_of (node_at nodes child) at) (right_of (node_at nodes child) at)
        parts = split_parts (node_at nodes child) (node_is child linked.exists) at split

        pub sub_left : (key : List ℕ) → InSpan (left_of (node_at nodes child) at).range key → sub rule table_of after (node_at nodes child).height child key ≡ sub rule table_of (node_at nodes) (node_at nodes child).height child key
        sub_left key inside =
            let high = (node_at nodes child).height in
            let part = parts.in_left key inside in
            let P : NodeData → Type 0 = λ node. IsAlike (node_at nodes child) node key in
            sub_alike high lower_pair high child child key (omega arith) linked.exists refl part.0 (subst P (sym is_child) part.1)

        pub sub_right : (key : List ℕ) → InSpan (right_of (node_at nodes child) at).range key → sub rule table_of after (node_at nodes child).height number key ≡ sub rule table_of (node_at nodes) (node_at nodes child).height child key
        sub_right key inside =
            let high = (node_at nodes child).height in
            let part = parts.in_right key inside in
            let P : NodeData → Type 0 = λ node. IsAlike (node_at nodes child) node key in
            sub_alike high lower_pair high child number key (omega arith) linked.exists refl part.0 (subst P (sym is_number) part.1)

        -- what the parent means by the pivot that it has for the key now
        by_pivot : (key : List ℕ) (pivot : Pivot) (c : ℕ) → pivot_at (widened (node_at nodes parent) i at number).pivots (pivot_for (widened (node_at nodes parent) i at number).pivots key) ≡ pivot → pivot.child ≡ Some c → sub rule table_of after (suc (node_at nodes child).height) parent key ≡ act_all rule key (sub rule table_of after (node_at nodes child).height c key) (chain (map table_of (live (node_at nodes parent).lists pivot.mark)) key)
        by_pivot key pivot c found leads =
            let high = (node_at nodes child).height in
            ap (λ (node : NodeData). act_all rule key (sub rule table_of after high (child_for node key) key) (chain (map table_of (live_for node key)) key)) is_parent
            ∙ ap (λ (p : Pivot). act_all rule key (sub rule table_of after high (number_of p.child) key) (chain (map table_of (live (node_at nodes parent).lists p.mark)) key)) found
            ∙ ap (λ (o : Option ℕ). act_all rule key (sub rule table_of after high (number_of o) key) (chain (map table_of (live (node_at nodes parent).lists pivot.mark)) key)) leads

        split_at : (key : List ℕ) → InSpan (node_at nodes parent).range key → sub rule table_of after (suc (node_at nodes child).height) parent key ≡ sub rule table_of (node_at nodes) (suc (node_at nodes child).height) parent key
        split_at key inside =
            let high = (node_at nodes child).height in
            let from = node_at nodes parent in
            let new = right_pivot from i at number in
            let is = node_is parent exists in
            elim (cases_eq (pivot_for from.pivots key) i) [
              | inr other ↦
                  let found = inserted_elsewhere from is i new at refl within rising key inside other in
                  let P : NodeData → Type 0 = λ node. IsAlike from node key in
                  let alike : P (widened from i at number) = record {
                    child = ap (λ (p : Pivot). p.child) found;
                    live = ap (λ (p : Pivot). live from.lists p.mark) found;
                  } in
                  beside key inside other (subst P (sym is_parent) alike)
              | inl here ↦
                  let to = to_child key inside here in
                  let back : act_all rule key (sub rule table_of (node_at nodes) high child key) (chain (map table_of (live_at from i)) key) ≡ sub rule table_of (node_at nodes) (suc high) parent key =
                  ap (λ (n : ℕ). act_all rule key (sub rule table_of (node_at nodes) high n key) (chain (map table_of (live_at from i)) key)) (sym to)
                  ∙ ap (λ (n : ℕ). act_all rule key (sub rule table_of (node_at nodes) high (child_for from key) key) (chain (map table_of (live_at from n)) key)) (sym here) in
                  elim (parts.some key (in_child key inside here)) [
                    | inl on_left ↦
                        let below_at = is_left (node_at nodes child) (node_is child linked.exists) at split key on_left in
                        let found = inserted_below from is i new at refl within rising key inside here (ap not below_at) in
                        by_pivot key (pivot_at from.pivots (pivot_for from.pivots key)) child found (ap (λ (n : ℕ). (pivot_at from.pivots n).child) here ∙ leads_to)
                        ∙ ap (λ (cell : Cell). act_all rule key cell (chain (map table_of (live_at from (pivot_for from.pivots key))) key)) (sub_left key on_left)
                        ∙ ap (λ (n : ℕ). act_all rule key (sub rule table_of (node_at nodes) high child key) (chain (map table_of (live_at from n)) key)) here
                        ∙ back
                    | inr on_right ↦
                        let above_at = is_right (node_at nodes child) (node_is child linked.exists) at split key on_right in
                        let found = inserted_here from is i new at refl within rising key inside here (ap not above_at) in
                        by_pivot key new number found refl
                        ∙ ap (λ (cell : Cell). act_all rule key cell (chain (map table_of (live_at from i)) key)) (sub_right key on_right)
                        ∙ back
                  ]
            ]

        pub sub_split : (height n : ℕ) (key : List ℕ) → n < length nodes → n ≢ child → (node_at nodes n).height ≡ height → InSpan (node_at nodes n).range key → sub rule table_of after height n key ≡ sub rule table_of (node_at nodes) height n key
        sub_split = sub_but_child split_at

    -- The root alone is replaced.
    module _ (others : (n : ℕ) → n < length nodes → n ≢ 0 → after n ≡ node_at nodes n) where
      -- every other node means what it meant
      pub sub_but_root : (height n : ℕ) (key : List ℕ) → n < length nodes → n ≢ 0 → (node_at nodes n).height ≡ height → InSpan (node_at nodes n).range key → sub rule table_of after height n key ≡ sub rule table_of (node_at nodes) height n key
      sub_but_root zero n key exists other low inside =
          ap (λ (node : NodeData). act_all rule key None (chain (live_tables table_of node key) key)) (others n exists other)
      sub_but_root (suc height) n key exists other high inside =
          let under = child_is nodes shaped n key height exists high inside in
          let within = pivot_for_within (node_at nodes n).pivots key (node_is n exists).some in
          let lower = sub_but_root height (child_for (node_at nodes n) key) key under.0 (not_root nodes shaped n (pivot_for (node_at nodes n).pivots key) (child_for (node_at nodes n) key) exists within under.3) under.1 under.2 in
          ap (λ (node : NodeData). act_all rule key (sub rule table_of after height (child_for node key) key) (chain (live_tables table_of node key) key)) (others n exists other)
          ∙ ap (λ (cell : Cell). act_all rule key cell (chain (live_tables table_of (node_at nodes n) key) key)) lower

      under_root : (n : ℕ) → n < length nodes → (node_at nodes n).height < (node_at nodes 0).height → after n ≡ node_at nodes n
      under_root n exists lower = others n exists (λ here. let same = ap (λ (m : ℕ). (node_at nodes m).height) here in omega arith)

      all_inside : (key : List ℕ) → InSpan (node_at nodes 0).range key
      all_inside key = let P : Span → Type 0 = λ span. InSpan span key in subst P (sym shaped.root) refl

      -- a list becomes live for every key
      pub sub_grown : (list : List ℕ) → after 0 ≡ with_lists (node_at nodes 0) (pushed (node_at nodes 0).lists list) → (key : List ℕ) → sub rule table_of after (node_at nodes 0).height 0 key ≡ act_all rule key (sub rule table_of (node_at nodes) (node_at nodes 0).height 0 key) (chain (map table_of list) key)
      sub_grown list is key =
          let root = node_at nodes 0 in
          let within = pivot_for_within root.pivots key (node_is 0 shaped.some).some in
          sub_pushed root.height under_root root.height 0 key list (omega arith) shaped.some refl (all_inside key)
          (ap (λ (node : NodeData). child_of node key) is)
          (ap (λ (node : NodeData). live_for node key) is ∙ live_at-pushed root (node_is 0 shaped.some) (pivot_for root.pivots key) within list)

      -- the root is raised over a node that is what the root was
      module _ (number : ℕ) (is_number : after number ≡ lowered (node_at nodes 0)) where
        pub sub_lowered : (key : List ℕ) → sub rule table_of after (node_at nodes 0).height number key ≡ sub rule table_of (node_at nodes) (node_at nodes 0).height 0 key
        sub_lowered key =
            let root = node_at nodes 0 in
            sub_alike root.height under_root root.height 0 number key (omega arith) shaped.some refl (all_inside key) (record {
              child = ap (λ (node : NodeData). child_of node key) is_number;
              live = ap (λ (node : NodeData). live_for node key) is_number;
            })

        pub sub_raised : after 0 ≡ lifted (node_at nodes 0) number → (key : List ℕ) → sub rule table_of after (suc (node_at nodes 0).height) 0 key ≡ sub rule table_of (node_at nodes) (node_at nodes 0).height 0 key
        sub_raised is_root key =
            let high = (node_at nodes 0).height in
            ap (λ (node : NodeData). act_all rule key (sub rule table_of after high (child_for node key) key) (chain (map table_of (live_for node key)) key)) is_root
            ∙ sub_lowered key
