-- What the sights of a descent say of its keys.
use Rattle.std.proofs.Common.{◌≡◌, ℕ, zero, suc, ◌<◌, List, map, None, length, refl, sym, ap, ap₂, ◌∙◌}
use Rattle.std.proofs.lemmas.Simd.{map-map}
use Rattle.spl_message.specs.Cell.{Cell}
use Rattle.spl_message.specs.Message.{act_all}
use Rattle.spl_message.specs.Rule.{Rule}
use Rattle.spl_message.specs.Span.{InSpan}
use Rattle.spl_message.specs.Table.{Table, chain, part_of}
use Rattle.spl_bundle.specs.Numbered.{live}
use Rattle.spl_node.specs.Node.{NodeData, pivot_at}
use Rattle.spl_trunk.specs.Trunk.{node_at}
use Rattle.spl_trunk.specs.Tree.{sub, live_tables, child_for, number_of}
use Rattle.spl_trunk.proofs.Trees.{child_is}
use Rattle.spl_tables.proofs.Chains.{chain-parts}
use Rattle.spl_state.specs.declared.descent.Descent.{Descent}
use Rattle.spl_state.specs.Actors.{LiesUnder}
use Rattle.spl_state.specs.Sight.{tables_under}
use Rattle.spl_state.specs.Sound.{IsSound}
use Rattle.spl_state.specs.Whole.{Whole, branches, table_in}
use Rattle.spl_descent.specs.Descents.{child_of, live_under}
use Rattle.spl_descent.specs.Sights.{rest, below, IsRight}

module _ (rule : Rule) (old : Whole) (sound : IsSound old) where
  module _ (descent : Descent) (exists : descent.node < length old.nodes) (lies : LiesUnder (node_at old.nodes descent.node) descent.span) where
    abbrev node : NodeData
    node = node_at old.nodes descent.node

    under : (key : List ℕ) → InSpan descent.span key → live_tables (table_in (branches old)) node key ≡ map (table_in (branches old)) (live_under node descent.span)
    under key inside = ap (λ (i : ℕ). map (table_in (branches old)) (live node.lists (pivot_at node.pivots i).mark)) (lies.pivot key inside)

    to_child : (key : List ℕ) → InSpan descent.span key → child_for node key ≡ child_of old descent
    to_child key inside = ap (λ (i : ℕ). number_of (pivot_at node.pivots i).child) (lies.pivot key inside)

    at_height : (height : ℕ) → node.height ≡ height → (key : List ℕ) → InSpan descent.span key → sub rule (table_in (branches old)) (node_at old.nodes) height descent.node key ≡ act_all rule key (below rule old (child_of old descent) height key) (chain (map (table_in (branches old)) (live_under node descent.span)) key)
    at_height zero low key inside = ap (λ (ts : List Table). act_all rule key None (chain ts key)) (under key inside)
    at_height (suc height) high key inside =
        let down = child_is old.nodes sound.shaped descent.node key height exists high (lies.within key inside) in
        let child : child_for node key ≡ child_of old descent = to_child key inside in
        let lower : (node_at old.nodes (child_of old descent)).height ≡ height = ap (λ (n : ℕ). (node_at old.nodes n).height) (sym child) ∙ down.1 in
        let has : sub rule (table_in (branches old)) (node_at old.nodes) height (child_for node key) key ≡ rest rule old (child_of old descent) key =
        ap₂ (λ (h n : ℕ). sub rule (table_in (branches old)) (node_at old.nodes) h n key) (sym lower) child in
        ap₂ (λ (cell : Cell) (ts : List Table). act_all rule key cell (chain ts key)) has (under key inside)

    -- the node has what its live tables make of what lies below
    pub right_at : (tables : List Table) → tables ≡ map (table_in (branches old)) (live_under node descent.span) → IsRight rule old descent tables
    right_at tables are key inside =
        at_height node.height refl key inside
        ∙ ap (λ (ts : List Table). act_all rule key (below rule old (child_of old descent) node.height key) (chain ts key)) (sym are)

    -- and above a leaf what they make of what the child has
    pub leads_at : (height : ℕ) → node.height ≡ suc height → (key : List ℕ) → InSpan descent.span key → rest rule old descent.node key ≡ act_all rule key (rest rule old (child_of old descent) key) (chain (tables_under (branches old) node descent.span) key)
    leads_at height high key inside =
        let whole = at_height node.height refl key inside in
        let here : below rule old (child_of old descent) node.height key ≡ rest rule old (child_of old descent) key = ap (λ (h : ℕ). below rule old (child_of old descent) h key) high in
        let parts = chain-parts descent.span key inside (map (table_in (branches old)) (live_under node descent.span)) in
        whole ∙ ap₂ (λ (cell : Cell) (ms : _). act_all rule key cell ms) here (sym parts ∙ ap (λ (ts : List Table). chain ts key) (map-map (part_of descent.span) (table_in (branches old)) (live_under node descent.span)))
