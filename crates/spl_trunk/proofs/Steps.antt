-- What each node makes of a key where the calls of a flush and of a compaction were made.
use Rattle.std.proofs.Common.{◌≡◌, ◌≢◌, ℕ, ◌+◌, ◌<◌, ◌≤◌, Bool, true, false, List, [], ◌∷◌, ◌++◌, Option, Some, None, option_to_list, map, length, set, refl, sym, ap, subst, ◌∙◌, inl, inr, arith, length-set, get_or-set_same, get_or-set_other}
use Rattle.std.proofs.lemmas.Bool.{cases_eq}
use Rattle.std.proofs.lemmas.List.{append-nil}
use Rattle.std.proofs.lemmas.List.Elements.{All-get_or}
use Rattle.spl_message.specs.declared.span.Span.{Span}
use Rattle.spl_message.specs.Cell.{Cell}
use Rattle.spl_message.specs.Message.{act_all}
use Rattle.spl_message.specs.Rule.{Rule}
use Rattle.spl_message.specs.Span.{InSpan}
use Rattle.spl_message.specs.Table.{Table, IsMerged, chain, message_at}
use Rattle.spl_message.proofs.Messages.{act_all-merged, act_all-merged_bottom}
use Rattle.spl_bundle.specs.Numbered.{next_of, live, merged}
use Rattle.spl_bundle.proofs.Changes.{live_next}
use Rattle.spl_node.specs.declared.pivot.Pivot.{Pivot}
use Rattle.spl_node.specs.Node.{NodeData, bare, pivot_at, pivot_for, live_at, IsNode}
use Rattle.spl_node.specs.Steps.{fresh, with_lists, with_mark, at_mark}
use Rattle.spl_node.specs.Parts.{child_of, live_for, IsAlike, branches_from, IsUncut}
use Rattle.spl_node.proofs.Lives.{mark_at, live_at-pushed, pivot_for_starts, trimmed_alike}
use Rattle.spl_node.proofs.Nodes.{marked_node}
use Rattle.spl_node.proofs.Places.{pivot_for_within}
use Rattle.spl_trunk.specs.Trunk.{node_at}
use Rattle.spl_trunk.specs.Tree.{sub, IsShaped}
use Rattle.spl_trunk.specs.Moves.{passed, received, compacted, output_table}
use Rattle.spl_trunk.proofs.Moves.{sub_flushed, sub_merged}
use Rattle.spl_trunk.proofs.Shapes.{merged_node}

-- A node with the mark of a pivot at its next number, trimmed.
module _ (node : NodeData) (is : IsNode node) (i : ℕ) (within : i < length node.pivots) (key : List ℕ) where
  raised_is : IsNode (with_mark node i (next_of node.lists))
  raised_is = let bounds = mark_at node is i within in marked_node node is i (next_of node.lists) within bounds.1 (omega arith)

  found : pivot_for (with_mark node i (next_of node.lists)).pivots key ≡ pivot_for node.pivots key
  found =
      let new = at_mark (pivot_at node.pivots i) (next_of node.lists) in
      pivot_for_starts (set node.pivots i new) node.pivots key (length-set node.pivots i new) (λ k below. elim (cases_eq k i) [
        | inl here ↦
            ap (λ (n : ℕ). (pivot_at (set node.pivots i new) n).start) here
            ∙ ap (λ (p : Pivot). p.start) (get_or-set_same node.pivots i new bare within)
            ∙ ap (λ (n : ℕ). (pivot_at node.pivots n).start) (sym here)
        | inr there ↦ ap (λ (p : Pivot). p.start) (get_or-set_other node.pivots i k new bare there)
      ])

  kept_child : child_of (with_mark node i (next_of node.lists)) key ≡ child_of node key
  kept_child =
      let new = at_mark (pivot_at node.pivots i) (next_of node.lists) in
      let j = pivot_for node.pivots key in
      ap (λ (n : ℕ). (pivot_at (set node.pivots i new) n).child) found ∙ elim (cases_eq j i) [
        | inl here ↦
            ap (λ (n : ℕ). (pivot_at (set node.pivots i new) n).child) here
            ∙ ap (λ (p : Pivot). p.child) (get_or-set_same node.pivots i new bare within)
            ∙ ap (λ (n : ℕ). (pivot_at node.pivots n).child) (sym here)
        | inr there ↦ ap (λ (p : Pivot). p.child) (get_or-set_other node.pivots i j new bare there)
      ]

  -- the key is under the same child
  pub passed_child : child_of (passed node i) key ≡ child_of node key
  passed_child = (trimmed_alike (with_mark node i (next_of node.lists)) key raised_is).child ∙ kept_child

  -- nothing is live any more for a key of the pivot
  pub passed_nothing : pivot_for node.pivots key ≡ i → live_for (passed node i) key ≡ []
  passed_nothing here =
      let new = at_mark (pivot_at node.pivots i) (next_of node.lists) in
      (trimmed_alike (with_mark node i (next_of node.lists)) key raised_is).live
      ∙ ap (λ (n : ℕ). live node.lists (pivot_at (set node.pivots i new) n).mark) (found ∙ here)
      ∙ ap (λ (p : Pivot). live node.lists p.mark) (get_or-set_same node.pivots i new bare within)
      ∙ live_next node.lists (next_of node.lists) (omega arith)

  -- for every other key what was live is live
  pub passed_others : pivot_for node.pivots key ≢ i → IsAlike node (passed node i) key
  passed_others other =
      let new = at_mark (pivot_at node.pivots i) (next_of node.lists) in
      record {
        child = passed_child;
        live = (trimmed_alike (with_mark node i (next_of node.lists)) key raised_is).live
            ∙ ap (λ (n : ℕ). live node.lists (pivot_at (set node.pivots i new) n).mark) found
            ∙ ap (λ (p : Pivot). live node.lists p.mark) (get_or-set_other node.pivots i (pivot_for node.pivots key) new bare other);
      }

-- a list that is received is live for every key
pub received_child : (node : NodeData) (list key : List ℕ) → child_of (received node list) key ≡ child_of node key
received_child node [] key = refl
received_child node (branch ∷ list) key = refl

pub received_live : (node : NodeData) (list key : List ℕ) → IsNode node → live_for (received node list) key ≡ live_for node key ++ list
received_live node [] key is = sym (append-nil (live_for node key))
received_live node (branch ∷ list) key is = live_at-pushed node is (pivot_for node.pivots key) (pivot_for_within node.pivots key is.some) (branch ∷ list)

-- a merged table acts as the tables did
pub merged_acts : (rule : Rule) (table_of : ℕ → Table) (inputs : List ℕ) (span : Span) (bottom : Bool) (output : Option ℕ) (key : List ℕ) (cell : Cell) → IsMerged rule (map table_of inputs) span bottom (output_table table_of output) → InSpan span key → (bottom ≡ true → cell ≡ None) → act_all rule key cell (chain (map table_of (option_to_list output)) key) ≡ act_all rule key cell (chain (map table_of inputs) key)
merged_acts rule table_of inputs span bottom output key cell is inside nothing = one output ∙ by bottom is nothing
  where
    one : (output : Option ℕ) → act_all rule key cell (chain (map table_of (option_to_list output)) key) ≡ act_all rule key cell (option_to_list (message_at (output_table table_of output) key))
    one None = refl
    one (Some branch) = ap (act_all rule key cell) (append-nil (option_to_list (message_at (table_of branch) key)))

    by : (bottom : Bool) → IsMerged rule (map table_of inputs) span bottom (output_table table_of output) → (bottom ≡ true → cell ≡ None) → act_all rule key cell (option_to_list (message_at (output_table table_of output) key)) ≡ act_all rule key cell (chain (map table_of inputs) key)
    by false is nothing = act_all-merged rule key (map table_of inputs) span (output_table table_of output) cell is inside
    by true is nothing =
        ap (λ (c : Cell). act_all rule key c (option_to_list (message_at (output_table table_of output) key))) (nothing refl)
        ∙ act_all-merged_bottom rule key (map table_of inputs) span (output_table table_of output) is inside
        ∙ ap (λ (c : Cell). act_all rule key c (chain (map table_of inputs) key)) (sym (nothing refl))

module _ (nodes : List NodeData) (shaped : IsShaped nodes) (rule : Rule) (table_of : ℕ → Table) (after : ℕ → NodeData) where
  node_is : (n : ℕ) → n < length nodes → IsNode (node_at nodes n)
  node_is n exists = All-get_or IsNode nodes n (fresh 0 bare) exists shaped.each

  -- a flush: every node but the child means what it meant
  pub flush_kept : (parent i child : ℕ) → parent < length nodes → i < length (node_at nodes parent).pivots → (pivot_at (node_at nodes parent).pivots i).child ≡ Some child → ((n : ℕ) → n < length nodes → n ≢ parent → n ≢ child → after n ≡ node_at nodes n) → after parent ≡ passed (node_at nodes parent) i → after child ≡ received (node_at nodes child) (live_at (node_at nodes parent) i) → (height n : ℕ) (key : List ℕ) → n < length nodes → n ≢ child → (node_at nodes n).height ≡ height → InSpan (node_at nodes n).range key → sub rule table_of after height n key ≡ sub rule table_of (node_at nodes) height n key
  flush_kept parent i child exists within leads_to others is_parent is_child =
      let from = node_at nodes parent in
      let to = node_at nodes child in
      let linked = shaped.children parent i child exists within leads_to in
      let is = node_is parent exists in
      sub_flushed nodes shaped rule table_of after parent i child exists within leads_to others
      (λ key inside here. (ap (λ (node : NodeData). child_of node key) is_parent ∙ passed_child from is i within key, ap (λ (node : NodeData). live_for node key) is_parent ∙ passed_nothing from is i within key here))
      (λ key inside other. let P : NodeData → Type 0 = λ node. IsAlike from node key in subst P (sym is_parent) (passed_others from is i within key other))
      (λ key inside. (ap (λ (node : NodeData). child_of node key) is_child ∙ received_child to (live_at from i) key, ap (λ (node : NodeData). live_for node key) is_child ∙ received_live to (live_at from i) key (node_is child linked.exists)))

  -- a compaction: every node means what it meant, where the output is the merged tables of the run
  pub compact_kept : (n : ℕ) → n < length nodes → ((m : ℕ) → m < length nodes → m ≢ n → after m ≡ node_at nodes m) → (first last : ℕ) (output : Option ℕ) (span : Span) (bottom : Bool) → first ≤ last → (node_at nodes n).lists.first ≤ last → last < next_of (node_at nodes n).lists → IsUncut (node_at nodes n) first last → (bottom ≡ true → ((node_at nodes n).height ≡ 0) × (first ≤ (node_at nodes n).lists.first)) → ((key : List ℕ) → InSpan (node_at nodes n).range key → InSpan span key) → IsMerged rule (map table_of (branches_from (node_at nodes n).lists first (last + 1))) span bottom (output_table table_of output) → after n ≡ compacted (node_at nodes n) first last output → (height m : ℕ) (key : List ℕ) → m < length nodes → (node_at nodes m).height ≡ height → InSpan (node_at nodes m).range key → sub rule table_of after height m key ≡ sub rule table_of (node_at nodes) height m key
  compact_kept n exists others first last output span bottom ordered stands made uncut lowest inside is_merged is_node =
      let node = node_at nodes n in
      let is = node_is n exists in
      let lists = with_lists node (merged node.lists first last output) in
      sub_merged nodes shaped rule table_of after n exists others first last output bottom ordered stands made uncut lowest
      (λ key here cell nothing. merged_acts rule table_of (branches_from node.lists first (last + 1)) span bottom output key cell is_merged (inside key here) nothing)
      (λ key here. let P : NodeData → Type 0 = λ other. IsAlike lists other key in subst P (sym is_node) (trimmed_alike lists key (merged_node node is first last ordered stands made output)))
