-- What the calls of the step make of a state, from the branches themselves to the whole.
use Rattle.std.proofs.Common.{◌≡◌, ℕ, ◌+◌, ◌<◌, ◌≤◌, ◌^◌, ◌++◌, Bool, true, List, Option, Some, None, flat_map, length, set, refl, sym, ap, subst, ◌∙◌, arith}
use Rattle.std.specs.Prelude.{IsSome}
use Rattle.std.specs.Option.{option_map}
use Rattle.std.proofs.lemmas.List.Elements.{All-get_or}
use Rattle.spl_bundle.specs.Numbered.{next_of}
use Rattle.spl_message.specs.Rule.{Rule}
use Rattle.spl_extent.specs.declared.owner.Owner.{Owner}
use Rattle.spl_extent.specs.Pool.{granted_to}
use Rattle.spl_node.specs.Node.{NodeData, bare, pivot_at, live_at, IsNode}
use Rattle.spl_node.specs.Steps.{fresh}
use Rattle.spl_node.proofs.Lives.{mark_at}
use Rattle.spl_refs.specs.Refs.{Published, held_at, branch_at, count_at}
use Rattle.spl_trunk.specs.Moves.{passed, received}
use Rattle.spl_trunk.specs.Trunk.{node_at}
use Rattle.spl_trunk.specs.Tree.{times, named, IsShaped}
use Rattle.spl_trunk.proofs.Counts.{times-append}
use Rattle.spl_state.specs.Bounds.{AreBelow}
use Rattle.spl_state.specs.Extents.{AccountsForExtents, mentioned, named_by}
use Rattle.spl_state.specs.Frame.{IsFramed}
use Rattle.spl_state.specs.Names.{AreAccounted}
use Rattle.spl_state.specs.Sound.{IsSound, AreDrafts}
use Rattle.spl_state.specs.Whole.{BranchData, Whole, counts}
use Rattle.spl_state.proofs.Accounts.{accounts_seen, accounts_there, renamed}
use Rattle.spl_state.proofs.Named.{live_named, node_named}
use Rattle.spl_state.proofs.Views.{all_seen, branch_seen, count_seen}
use Rattle.spl_flush.specs.Flushing.{dead_names, IsFlushed, AreFew}
use Rattle.spl_flush.proofs.Flushes.{left, as_often, handed_sound, handed_framed, is_flushed}
use Rattle.spl_flush.proofs.Holds.{times_few, accounted_more}
use Rattle.spl_flush.proofs.Leads.{IsLed, IsReady}
use Rattle.spl_flush.proofs.Nodes.{parent_stays, flushed_made}

-- what the step promises of the state that it leaves
pub record Leaves (old new : Whole) (actor parent pivot child : ℕ) : Type 0 where
  pub sound : IsSound new
  pub done : IsFlushed old new parent pivot child
  pub named : (number : ℕ) → counts new number ≤ counts old number + 32
  pub framed : (rule : Rule) (tells : Bool) → (tells ≡ true → AreDrafts rule old)
      → IsFramed rule tells old new actor

stands_held : {B : Type 0} (held : Option (ℕ × B)) → IsSome (option_map (λ (h : ℕ × B). h.1) held)
    → IsSome held
stands_held None some = some
stands_held (Some h) some = refl

-- the mark of the pivot is at most the next number, also once the child has its bundle
pub mark_made : (nodes : List NodeData) (shaped : IsShaped nodes) (parent pivot child : ℕ)
    (led : IsLed nodes parent pivot child) (middle : List NodeData)
    → middle ≡ set nodes child (received (node_at nodes child) (live_at (node_at nodes parent) pivot))
    → (pivot_at (node_at middle parent).pivots pivot).mark ≤ next_of (node_at middle parent).lists
mark_made nodes shaped parent pivot child led middle made =
    let is = All-get_or IsNode nodes parent (fresh 0 bare) led.exists shaped.each in
    subst (λ (node : NodeData). (pivot_at node.pivots pivot).mark ≤ next_of node.lists)
    (sym (parent_stays nodes shaped parent pivot child led middle made))
    (mark_at (node_at nodes parent) is pivot led.within).1

module _ {B : Type 0} (extents_of : B → List ℕ) (data_of : B → BranchData)
    (same : (branch : B) → (data_of branch).extents ≡ extents_of branch) (old : Whole) (sound : IsSound old)
    (actor parent pivot child : ℕ) (ready : IsReady old actor parent pivot child) (refs : Published B)
    (is_refs : old.refs ≡ all_seen data_of refs) where
  abbrev live : List ℕ
  live = live_at (node_at old.nodes parent) pivot

  abbrev dead : List ℕ
  dead = dead_names (node_at old.nodes parent) pivot

  abbrev rest : List ℕ
  rest = left old sound actor parent pivot child ready

  there : AreAccounted extents_of (mentioned old.nodes old.actors) refs old.owners
  there =
      accounts_there extents_of data_of same (mentioned old.nodes old.actors) refs old.owners
      (subst (λ (r : Published BranchData). AccountsForExtents (mentioned old.nodes old.actors) (count_at r)
      (branch_at r) old.owners) is_refs sound.extents)

  -- what is live is named
  live_mentioned : (n : ℕ) → 0 < times n live → 0 < times n (mentioned old.nodes old.actors)
  live_mentioned n some =
      let inside = live_named n (node_at old.nodes parent).lists
      (pivot_at (node_at old.nodes parent).pivots pivot).mark in
      let node = node_named n old.nodes parent in
      let parts = times-append n (named old.nodes) (flat_map named_by old.actors) in
      omega arith

  pub live_stands : (n : ℕ) → 0 < times n live → IsSome (held_at refs n)
  live_stands n some =
      let named = live_mentioned n some in
      stands_held (held_at refs n) ((there.stands n).1
      (subst (λ (count : ℕ). 0 < count) (sym (there.counts n)) named))

  pub few_there : AreFew old → (n : ℕ) → count_at refs n < 2 ^ 62
  few_there few n = subst (λ (count : ℕ). count < 2 ^ 62)
      (ap (λ (r : Published BranchData). count_at r n) is_refs ∙ count_seen data_of refs n) (few n)

  -- once what is live is counted once more
  module _ (held : Published B) (more : (n : ℕ) → count_at held n ≡ count_at refs n + times n live)
      (branches : (n : ℕ) → branch_at held n ≡ branch_at refs n) (middle : List NodeData)
      (made : middle ≡ set old.nodes child (received (node_at old.nodes child) live)) where
    -- what the parent is to name no more is accounted for, and then the rest
    pub dead_first : AreAccounted extents_of
        (dead_names (node_at middle parent) pivot ++ rest) held old.owners
    dead_first =
        subst (λ (node : NodeData). AreAccounted extents_of (dead_names node pivot ++ rest) held old.owners)
        (sym (parent_stays old.nodes sound.shaped parent pivot child ready.led middle made))
        (renamed extents_of data_of same (live ++ mentioned old.nodes old.actors)
        (dead ++ rest) held old.owners
        (as_often old sound actor parent pivot child ready)
        (accounted_more extents_of (mentioned old.nodes old.actors) live refs held old.owners more branches
        live_mentioned there))

    stays_seen : (new : Published B) → ((n : ℕ) → 0 < count_at new n → branch_at new n ≡ branch_at held n)
        → (n : ℕ) → 0 < count_at (all_seen data_of new) n
        → branch_at (all_seen data_of new) n ≡ branch_at old.refs n
    stays_seen new stays n some =
        branch_seen data_of new n
        ∙ ap (λ (o : Option B). option_map data_of o)
        (stays n (subst (λ (count : ℕ). 0 < count) (count_seen data_of new n) some) ∙ branches n)
        ∙ sym (branch_seen data_of refs n)
        ∙ sym (ap (λ (r : Published BranchData). branch_at r n) is_refs)

    few_more : (new : Published B) → ((n : ℕ) → count_at new n ≤ count_at held n) → length live ≤ 32 → (n : ℕ)
        → count_at (all_seen data_of new) n ≤ count_at old.refs n + 32
    few_more new fewer short n =
        let seen = count_seen data_of new n in
        let before = ap (λ (r : Published BranchData). count_at r n) is_refs ∙ count_seen data_of refs n in
        let less = fewer n in
        let is = more n in
        let most = times_few n live in
        omega arith

    pub leaves : (new : Published B) (owners : List Owner) (nodes : List NodeData)
        → AreAccounted extents_of rest new owners
        → ((n : ℕ) → 0 < count_at new n → branch_at new n ≡ branch_at held n)
        → ((n : ℕ) → count_at new n ≤ count_at held n)
        → ((other : ℕ) → granted_to owners other ≡ granted_to old.owners other)
        → length live ≤ 32 → nodes ≡ set middle parent (passed (node_at middle parent) pivot)
        → IsShaped nodes → AreBelow old.nodes old.tables old.counters
        → Leaves old (record old { nodes = nodes; refs = all_seen data_of new; owners = owners })
        actor parent pivot child
    leaves new owners nodes accounted stays fewer granted short is shaped fresh =
        let is_nodes = flushed_made old.nodes sound.shaped parent pivot child ready.led middle made nodes
        is in
        let accounts = accounts_seen extents_of data_of same rest new owners accounted in
        let still = stays_seen new stays in
        let shaped_now = subst (λ (ns : List NodeData). IsShaped ns) is_nodes shaped in
        let end : Whole = record old { refs = all_seen data_of new; owners = owners } in
        let P : List NodeData → Type 0 = λ ns.
        Leaves old (record end { nodes = ns }) actor parent pivot child in
        subst P (sym is_nodes) (record {
          sound = handed_sound old sound actor parent pivot child ready
              (all_seen data_of new) owners accounts still granted fresh shaped_now;
          done = is_flushed old sound actor parent pivot child ready
              (all_seen data_of new) owners accounts still granted;
          named = few_more new fewer short;
          framed = handed_framed old sound actor parent pivot child ready
              (all_seen data_of new) owners accounts still granted;
        })
