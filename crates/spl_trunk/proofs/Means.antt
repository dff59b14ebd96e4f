-- What the steps of the core leave of what the store has for a key.
use Rattle.std.proofs.Common.{◌≡◌, ◌≢◌, ℕ, suc, ◌<◌, List, [], ◌∷◌, Some, option_to_list, length, refl, sym, ap, subst, ◌∙◌, inl, inr, arith}
use Rattle.std.proofs.lemmas.Bool.{cases_eq}
use Rattle.std.proofs.lemmas.List.{append-nil}
use Rattle.spl_message.specs.declared.message.Message.{Message}
use Rattle.spl_message.specs.declared.span.Span.{Span}
use Rattle.spl_message.specs.Cell.{Cell}
use Rattle.spl_message.specs.Message.{act_all}
use Rattle.spl_message.specs.Rule.{Rule}
use Rattle.spl_message.specs.Span.{InSpan}
use Rattle.spl_message.specs.Table.{Table, chain, message_at}
use Rattle.spl_bundle.specs.Numbered.{pushed}
use Rattle.spl_node.specs.Node.{NodeData, pivot_at}
use Rattle.spl_node.specs.Steps.{with_lists, lowered, lifted}
use Rattle.spl_trunk.specs.Trunk.{node_at}
use Rattle.spl_trunk.specs.Tree.{sub, means, IsShaped}
use Rattle.spl_trunk.proofs.Moves.{act_all-append, sub_grown, sub_raised}
use Rattle.spl_trunk.proofs.Trees.{not_root}

module _ (nodes : List NodeData) (shaped : IsShaped nodes) (rule : Rule) (table_of : ℕ → Table) (after : ℕ → NodeData) where
  root_inside : (key : List ℕ) → InSpan (node_at nodes 0).range key
  root_inside key = let P : Span → Type 0 = λ span. InSpan span key in subst P (sym shaped.root) refl

  -- where the root means what it meant, so does the store
  pub means_same : (height : ℕ) → (after 0).height ≡ height → (memtables : List Table) (key : List ℕ) → sub rule table_of after height 0 key ≡ sub rule table_of (node_at nodes) (node_at nodes 0).height 0 key → means rule table_of after memtables key ≡ means rule table_of (node_at nodes) memtables key
  means_same height high memtables key same =
      ap (λ (h : ℕ). act_all rule key (sub rule table_of after h 0 key) (chain memtables key)) high
      ∙ ap (λ (cell : Cell). act_all rule key cell (chain memtables key)) same

  -- a node is replaced, or a node and a child of it, and every node but the child means what it meant
  pub means_kept : (after 0).height ≡ (node_at nodes 0).height → ((height n : ℕ) (key : List ℕ) → n < length nodes → (node_at nodes n).height ≡ height → InSpan (node_at nodes n).range key → sub rule table_of after height n key ≡ sub rule table_of (node_at nodes) height n key) → (memtables : List Table) (key : List ℕ) → means rule table_of after memtables key ≡ means rule table_of (node_at nodes) memtables key
  means_kept high kept memtables key =
      means_same (node_at nodes 0).height high memtables key (kept (node_at nodes 0).height 0 key shaped.some refl (root_inside key))

  pub means_but_child : (parent i child : ℕ) → parent < length nodes → i < length (node_at nodes parent).pivots → (pivot_at (node_at nodes parent).pivots i).child ≡ Some child → ((n : ℕ) → n < length nodes → n ≢ parent → n ≢ child → after n ≡ node_at nodes n) → (after parent).height ≡ (node_at nodes parent).height → ((height n : ℕ) (key : List ℕ) → n < length nodes → n ≢ child → (node_at nodes n).height ≡ height → InSpan (node_at nodes n).range key → sub rule table_of after height n key ≡ sub rule table_of (node_at nodes) height n key) → (memtables : List Table) (key : List ℕ) → means rule table_of after memtables key ≡ means rule table_of (node_at nodes) memtables key
  means_but_child parent i child exists within leads_to others tall kept memtables key =
      let no_child : 0 ≢ child = λ same. not_root nodes shaped parent i child exists within leads_to (sym same) in
      let high : (after 0).height ≡ (node_at nodes 0).height = elim (cases_eq 0 parent) [
        | inl is ↦ ap (λ (n : ℕ). (after n).height) is ∙ tall ∙ ap (λ (n : ℕ). (node_at nodes n).height) (sym is)
        | inr other ↦ ap (λ (node : NodeData). node.height) (others 0 shaped.some other no_child)
      ] in
      means_same (node_at nodes 0).height high memtables key (kept (node_at nodes 0).height 0 key shaped.some no_child refl (root_inside key))

  module _ (others : (n : ℕ) → n < length nodes → n ≢ 0 → after n ≡ node_at nodes n) where
    -- the oldest memtable becomes a branch of the root's newest bundle
    pub means_incorporated : (branch : ℕ) → after 0 ≡ with_lists (node_at nodes 0) (pushed (node_at nodes 0).lists (branch ∷ [])) → (memtables : List Table) (key : List ℕ) → means rule table_of after memtables key ≡ means rule table_of (node_at nodes) (table_of branch ∷ memtables) key
    means_incorporated branch is memtables key =
        let high = (node_at nodes 0).height in
        let cell = sub rule table_of (node_at nodes) high 0 key in
        let messages = option_to_list (message_at (table_of branch) key) in
        ap (λ (node : NodeData). act_all rule key (sub rule table_of after node.height 0 key) (chain memtables key)) is
        ∙ ap (λ (c : Cell). act_all rule key c (chain memtables key)) (sub_grown nodes shaped rule table_of after others (branch ∷ []) is key)
        ∙ ap (λ (list : List Message). act_all rule key (act_all rule key cell list) (chain memtables key)) (append-nil messages)
        ∙ sym (act_all-append rule key cell messages (chain memtables key))

    -- the root is raised
    pub means_raised : (number : ℕ) → after number ≡ lowered (node_at nodes 0) → after 0 ≡ lifted (node_at nodes 0) number → (memtables : List Table) (key : List ℕ) → means rule table_of after memtables key ≡ means rule table_of (node_at nodes) memtables key
    means_raised number is_number is_root memtables key =
        means_same (suc (node_at nodes 0).height) (ap (λ (node : NodeData). node.height) is_root ∙ omega arith) memtables key (sub_raised nodes shaped rule table_of after others number is_number is_root key)
