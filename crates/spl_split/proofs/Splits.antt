-- A split keeps the invariant, and what everybody relies on.
use Rattle.std.proofs.Common.{◌≡◌, ◌≢◌, ℕ, ◌+◌, ◌<◌, ◌≤◌, Bool, true, List, [], ◌∷◌, ◌++◌, Option, length, flat_map, refl, sym, ap, subst, ◌∙◌, inl, arith, length-append}
use Rattle.std.specs.Prelude.{IsSome, All, ◌↔◌}
use Rattle.std.proofs.lemmas.List.Elements.{All-get_or}
use Rattle.spl_message.specs.Rule.{Rule}
use Rattle.spl_message.specs.Span.{InSpan}
use Rattle.spl_bundle.specs.Numbered.{Bundle, Numbered, next_of, names}
use Rattle.spl_holds.specs.declared.grip.Grip.TheVariants.{Write}
use Rattle.spl_holds.specs.Latch.{IsLatched, nobody}
use Rattle.spl_holds.specs.Holds.{grip_of}
use Rattle.spl_node.specs.Node.{NodeData, bare}
use Rattle.spl_node.specs.Steps.{fresh}
use Rattle.spl_refs.specs.Refs.{Published, branch_at, count_at}
use Rattle.spl_trunk.specs.Moves.{divided}
use Rattle.spl_trunk.specs.Trunk.{node_at, lists_at}
use Rattle.spl_trunk.specs.Tree.{times, named, sub}
use Rattle.spl_trunk.proofs.Counts.{times-append}
use Rattle.spl_trunk.proofs.Divided.{shaped_divided, divided_rising}
use Rattle.spl_trunk.proofs.Means.{means_but_child}
use Rattle.spl_trunk.proofs.Moves.{sub_split}
use Rattle.spl_tables.specs.Memtables.{tables_of}
use Rattle.spl_state.specs.Bounds.{AreBelow, AreBounded, HasEnds, HasAllEnds}
use Rattle.spl_state.specs.Extents.{mentioned, named_by, AccountsForExtents}
use Rattle.spl_state.specs.Frame.{IsFramed}
use Rattle.spl_state.specs.Sound.{IsSound, AreDrafts}
use Rattle.spl_state.specs.Whole.{BranchData, Whole, branches, counts, table_in}
use Rattle.spl_state.proofs.Named.{node_named}
use Rattle.spl_split.specs.Naming.{NamedMore}
use Rattle.spl_split.specs.Splitting.{CanDivide}
use Rattle.spl_split.proofs.Division.{wide, linked, child_node, long, parent_now, child_now, number_now, rest_now, heirs, all_nodes, named_now, root_now, left_ends, right_ends}
use Rattle.spl_split.proofs.Grows.{AreActors, all_actors, all_apart, all_picked, all_runs, grows_framed}

-- what a node's bundles name is counted
pub was_named : (old : Whole) → IsSound old → (child n : ℕ)
    → times n (names (lists_at old.nodes child)) ≤ counts old n
was_named old sound child n =
    let here = node_named n old.nodes child in
    let before = times-append n (named old.nodes) (flat_map named_by old.actors) in
    let is = sound.extents.counts n in
    omega arith

module _ (old : Whole) (sound : IsSound old) (actor parent at child : ℕ) (key : List ℕ)
    (can : CanDivide old.nodes parent at child key) (above : grip_of old.grips actor parent ≡ Write)
    (below : grip_of old.grips actor child ≡ Write) (refs : Published BranchData)
    (more : NamedMore old.refs refs (names (lists_at old.nodes child))) where
  abbrev pub new : Whole
  new = record old {
    nodes = divided old.nodes parent at child key;
    refs = refs;
    grips = old.grips ++ nobody ∷
        [];
  }

  count : length new.nodes ≡ length old.nodes + 1
  count = long old.nodes sound.shaped parent at child key can

  not_parent : (n : ℕ) → grip_of old.grips actor n ≢ Write → n ≢ parent
  not_parent n free same = free (ap (grip_of old.grips actor) same ∙ above)

  not_child : (n : ℕ) → grip_of old.grips actor n ≢ Write → n ≢ child
  not_child n free same = free (ap (grip_of old.grips actor) same ∙ below)

  rest : (n : ℕ) → n < length old.nodes → n ≢ parent → n ≢ child → node_at new.nodes n ≡ node_at old.nodes n
  rest = rest_now old.nodes sound.shaped parent at child key can

  kept : (n : ℕ) → n < length old.nodes → grip_of old.grips actor n ≢ Write
      → node_at new.nodes n ≡ node_at old.nodes n
  kept n exists free = rest n exists (not_parent n free) (not_child n free)

  same_branch : branch_at refs ≡ branches old
  same_branch = λ i n. more.branches n i

  are : AreActors old.actors old.actors actor (length new.nodes)
  are = record {
    count = refl;
    others = λ other apart. refl;
    descent = λ n. refl;
    job = λ n. refl;
    published = λ n. refl;
    told = λ n. omega arith;
    most = λ who known. let before = (sound.actors who known).told in let longer = count in omega arith;
  }

  -- what is named, and how often
  mentions_now : (n : ℕ) → times n (mentioned new.nodes new.actors) ≡ times n
      (mentioned old.nodes old.actors) + times n (names (lists_at old.nodes child))
  mentions_now n =
      let nodes = named_now old.nodes sound.shaped parent at child key can n in
      let now = times-append n (named new.nodes) (flat_map named_by old.actors) in
      let before = times-append n (named old.nodes) (flat_map named_by old.actors) in
      omega arith

  still_stands : (n : ℕ) → IsSome (branches old n) ↔ (0 < count_at refs n)
  still_stands n =
      let stands = sound.extents.stands n in
      let now = more.counts n in
      let was = was_named old sound child n in
      ((λ some. let before = stands.0 some in omega arith), (λ some. stands.1 (omega arith)))

  accounts : AccountsForExtents (mentioned new.nodes new.actors) (counts new) (branches new) new.owners
  accounts =
      let before : AccountsForExtents (mentioned new.nodes new.actors) (counts new)
      (branches old) new.owners = record {
        counts = λ n.
            let now = more.counts n in
            let was = sound.extents.counts n in
            let all = mentions_now n in
            omega arith;
        stands = still_stands;
        held = sound.extents.held;
        not_held = sound.extents.not_held;
      } in
      subst (λ (b : ℕ → Option BranchData). AccountsForExtents (mentioned new.nodes new.actors)
      (counts new) b new.owners) (sym same_branch) before

  ends : HasAllEnds new.nodes
  ends =
      let link = linked old.nodes sound.shaped parent at child key can in
      let child_is = child_node old.nodes sound.shaped parent at child key can in
      let here = All-get_or HasEnds old.nodes child (fresh 0 bare) link.exists sound.ends.each in
      let there = All-get_or HasEnds old.nodes parent (fresh 0 bare) can.exists sound.ends.each in
      let top : HasEnds (wide old.nodes sound.shaped parent at child key can) = record {
        mark = λ low. absurd
            (let high = link.height in omega arith);
        front = there.front;
      } in
      record {
        each = all_nodes old.nodes sound.shaped parent at child key can HasEnds sound.ends.each
            (left_ends (node_at old.nodes child) child_is key can.split here)
            (right_ends (node_at old.nodes child) child_is key can.split here) top;
        root = subst (λ (q : Numbered). All (λ (bundle : Bundle). length bundle.branches ≤ 1) q.bundles)
            (sym (root_now old.nodes sound.shaped parent at child key can).1) sound.ends.root;
      }

  bounded : AreBelow old.nodes old.tables old.counters
      → AreBounded new.nodes (branches new) new.tables new.counters
  bounded fresh_numbers =
      let steps = old.counters.steps in
      let lists : NodeData → Type 0 = λ node. next_of node.lists ≤ steps in
      let generations : NodeData → Type 0 = λ node. node.generation ≤ steps in
      let there = (linked old.nodes sound.shaped parent at child key can).exists in
      let child_lists = All-get_or lists old.nodes child (fresh 0 bare) there sound.bounds.lists in
      let parent_lists = All-get_or lists old.nodes parent (fresh 0 bare) can.exists sound.bounds.lists in
      let generation = All-get_or (λ (node : NodeData). node.generation < steps) old.nodes child
      (fresh 0 bare) there fresh_numbers.generations in
      let parent_generation = All-get_or generations old.nodes parent
      (fresh 0 bare) can.exists sound.bounds.generations in
      record {
        steps = sound.bounds.steps;
        places = sound.bounds.places;
        branches = sound.bounds.branches;
        memtables = sound.bounds.memtables;
        lists = all_nodes old.nodes sound.shaped parent at child key can lists sound.bounds.lists child_lists
            child_lists parent_lists;
        generations = all_nodes old.nodes sound.shaped parent at child key can generations
            sound.bounds.generations (omega arith) (omega arith) parent_generation;
        height =
            let longer = count in
            let was = sound.bounds.height in
            let now = (root_now old.nodes sound.shaped parent at child key can).0 in
            omega arith;
        numbers = subst (λ (b : ℕ → Option BranchData). (n : ℕ) → IsSome (b n) → n < old.counters.branches)
            (sym same_branch) sound.bounds.numbers;
      }

  pub split_sound : AreBelow old.nodes old.tables old.counters → All IsLatched new.grips → IsSound new
  split_sound fresh_numbers latched = record {
    shaped = shaped_divided old.nodes sound.shaped can.room parent at child can.exists can.within can.leads
        key can.split can.pivots;
    latches =
        let grips = length-append old.grips (nobody ∷ []) in
        let longer = count in
        let were = sound.latches in
        omega arith;
    latched = latched;
    extents = accounts;
    memtables = sound.memtables;
    count = sound.count;
    actors = all_actors old sound actor new.nodes refs old.actors count kept same_branch are;
    apart = all_apart old sound actor new.nodes refs old.actors count kept same_branch are;
    picked = all_picked old sound actor new.nodes refs old.actors count kept same_branch are;
    runs = all_runs old sound actor new.nodes refs old.actors count kept same_branch are
        (λ n exists. inl (heirs old.nodes sound.shaped parent at child key can n exists));
    ends = ends;
    bounds = bounded fresh_numbers;
  }

  -- every node but the child means what it meant
  subs : (rule : Rule) (height n : ℕ) (other : List ℕ) → n < length old.nodes → n ≢ child
      → (node_at old.nodes n).height ≡ height → InSpan (node_at old.nodes n).range other
      → sub rule (table_in (branches old)) (node_at new.nodes) height n other ≡ sub rule
      (table_in (branches old)) (node_at old.nodes) height n other
  subs rule =
      sub_split old.nodes sound.shaped rule (table_in (branches old))
      (node_at new.nodes) parent at child can.exists can.within can.leads rest
      (length old.nodes) key can.split
      (divided_rising old.nodes sound.shaped can.room parent at child can.exists can.within can.leads key
      can.split can.pivots)
      (parent_now old.nodes sound.shaped parent at child key can)
      (child_now old.nodes sound.shaped parent at child key can)
      (number_now old.nodes sound.shaped parent at child key can)

  pub split_framed : (rule : Rule) (tells : Bool) → (tells ≡ true → AreDrafts rule old)
      → IsFramed rule tells old new actor
  split_framed rule tells drafts =
      grows_framed old sound actor new.nodes refs old.actors count kept same_branch are rule tells
      (λ told n other exists free inside. subs rule (node_at old.nodes n).height n other exists
      (not_child n free) refl inside)
      drafts
      (λ told other. means_but_child old.nodes sound.shaped rule (table_in (branches old))
      (node_at new.nodes) parent at child can.exists can.within can.leads rest
      (ap (λ (node : NodeData). node.height) (parent_now old.nodes sound.shaped parent at child key can))
      (subs rule) (tables_of old.tables) other)
