-- A raise keeps the invariant, and what everybody relies on.
use Rattle.std.proofs.Common.{◌≡◌, ◌≢◌, ℕ, ◌+◌, ◌<◌, ◌≤◌, max, Bool, true, List, [], ◌∷◌, ◌++◌, flat_map, length, set, refl, sym, ap, subst, ◌∙◌, inl, inr, arith, length-append}
use Rattle.std.specs.Prelude.{All, ◌⊎◌}
use Rattle.std.proofs.lemmas.Bool.{cases_eq, cases_lt}
use Rattle.std.proofs.lemmas.List.{length-set, append-nil, get_or_append_left, get_or_at, get_or-set_same, get_or-set_other}
use Rattle.std.proofs.lemmas.List.Elements.{All-set, All-get_or, All-append, All-cons, All-nil}
use Rattle.std.proofs.lemmas.Grind.{flat_map-append}
use Rattle.spl_base.specs.declared.TheConstants.{ACTORS}
use Rattle.spl_message.specs.Rule.{Rule}
use Rattle.spl_bundle.specs.Numbered.{Bundle, next_of, names}
use Rattle.spl_holds.specs.declared.grip.Grip.{Grip}
use Rattle.spl_holds.specs.declared.grip.Grip.TheVariants.{Write}
use Rattle.spl_holds.specs.Latch.{IsLatched, nobody}
use Rattle.spl_holds.specs.Holds.{grip_of}
use Rattle.spl_node.specs.Node.{NodeData, bare}
use Rattle.spl_node.specs.Steps.{fresh, lowered, lifted}
use Rattle.spl_trunk.specs.Moves.{raised}
use Rattle.spl_trunk.specs.Trunk.{node_at, lists_at}
use Rattle.spl_trunk.specs.Tree.{times, named}
use Rattle.spl_trunk.proofs.Counts.{times-append, times-replaced}
use Rattle.spl_trunk.proofs.Means.{means_raised}
use Rattle.spl_trunk.proofs.Moves.{sub_but_root}
use Rattle.spl_trunk.proofs.Shapes.{shaped_raised}
use Rattle.spl_tables.specs.Memtables.{tables_of}
use Rattle.spl_state.specs.declared.actor.Actor.{Actor}
use Rattle.spl_state.specs.Actor.{actor_in, told_of}
use Rattle.spl_state.specs.Bounds.{AreBelow, AreBounded, HasEnds, HasAllEnds}
use Rattle.spl_state.specs.Extents.{mentioned, named_by, AccountsForExtents}
use Rattle.spl_state.specs.Frame.{IsFramed}
use Rattle.spl_state.specs.Runs.{Stands}
use Rattle.spl_state.specs.Sound.{IsSound, AreDrafts}
use Rattle.spl_state.specs.Whole.{Whole, branches, counts}
use Rattle.spl_state.proofs.Frames.{unchanged_framed}
use Rattle.spl_state.proofs.Replaced.{other_actor, each_actor, times-actor}
use Rattle.spl_split.specs.Raising.{root_raised}
use Rattle.spl_split.proofs.Heirs.{Inherits, inherits_itself}
use Rattle.spl_split.proofs.Grows.{AreActors, all_actors, all_apart, all_picked, all_runs, grows_framed}

-- one element more is named as often as it names
pub named-grown : (n : ℕ) (nodes : List NodeData) (node : NodeData)
    → times n (named (nodes ++ node ∷ [])) ≡ times n (named nodes) + times n (names node.lists)
named-grown n nodes node =
    let f : NodeData → List ℕ = λ m. names m.lists in
    ap (times n) (flat_map-append f nodes (node ∷ []))
    ∙ times-append n (named nodes) (names node.lists ++ [])
    ∙ ap (λ (list : List ℕ). times n (named nodes) + times n list) (append-nil (names node.lists))

module _ (old : Whole) (sound : IsSound old) (actor : ℕ) (known : actor < ACTORS)
    (room : length old.nodes < 4096) (writes : grip_of old.grips actor 0 ≡ Write) where
  abbrev new : Whole
  new = root_raised old actor

  abbrev worker : Actor
  worker = told_of (actor_in old.actors actor) (length old.nodes)

  abbrev lower : NodeData
  lower = lowered (node_at old.nodes 0)

  abbrev top : NodeData
  top = lifted (node_at old.nodes 0) (length old.nodes)

  long_grown : length (old.nodes ++ lower ∷ []) ≡ length old.nodes + 1
  long_grown = length-append old.nodes (lower ∷ [])

  long : length new.nodes ≡ length old.nodes + 1
  long = length-set (old.nodes ++ lower ∷ []) 0 top ∙ long_grown

  root_now : node_at new.nodes 0 ≡ top
  root_now = let count = long_grown in get_or-set_same (old.nodes ++ lower ∷ []) 0 top (fresh 0 bare)
      (omega arith)

  lower_now : node_at new.nodes (length old.nodes) ≡ lower
  lower_now =
      let some = sound.shaped.some in
      get_or-set_other (old.nodes ++ lower ∷ []) 0 (length old.nodes) top (fresh 0 bare) (λ same. omega arith)
      ∙ get_or_at old.nodes lower [] (fresh 0 bare) (length old.nodes) refl

  rest_now : (n : ℕ) → n < length old.nodes → n ≢ 0 → node_at new.nodes n ≡ node_at old.nodes n
  rest_now n below other =
      get_or-set_other (old.nodes ++ lower ∷ []) 0 n top (fresh 0 bare) other
      ∙ get_or_append_left old.nodes (lower ∷ []) (fresh 0 bare) n below

  kept : (n : ℕ) → n < length old.nodes → grip_of old.grips actor n ≢ Write
      → node_at new.nodes n ≡ node_at old.nodes n
  kept n below free = rest_now n below (λ same. free (ap (grip_of old.grips actor) same ∙ writes))

  same : (P : Actor → Actor → Type 0) → P (actor_in old.actors actor) worker → ((a : Actor) → P a a)
      → (who : ℕ) → P (actor_in old.actors who) (actor_in new.actors who)
  same P here there = each_actor old.actors sound.count actor known worker
      (λ (n : ℕ) (a : Actor). P (actor_in old.actors n) a) here
      (λ other apart. there (actor_in old.actors other))

  are : AreActors old.actors new.actors actor (length new.nodes)
  are = record {
    count = length-set old.actors actor worker;
    others = λ other apart. other_actor old.actors sound.count actor known worker other apart;
    descent = same (λ was now. now.descent ≡ was.descent) refl (λ a. refl);
    job = same (λ was now. now.job ≡ was.job) refl (λ a. refl);
    published = same (λ was now. now.published ≡ was.published) refl (λ a. refl);
    told = same (λ was now. was.told ≤ now.told) (omega arith) (λ a. omega arith);
    most = λ who below.
        let before = (sound.actors who below).told in
        let next = length old.nodes + 1 in
        let more : (actor_in new.actors who).told ≤ max (actor_in old.actors who).told next =
        same (λ was now. now.told ≤ max was.told next) (omega arith) (λ a. omega arith) who in
        let all = long in
        omega arith;
  }

  -- what is named is named as often: the new node has the bundles of the root
  named_now : (n : ℕ) → times n (named new.nodes) ≡ times n (named old.nodes)
  named_now n =
      let grown = old.nodes ++ lower ∷ [] in
      let more = named-grown n old.nodes lower in
      let some : 0 < length grown = let count = long in let set = length-set grown 0 top in omega arith in
      let change = times-replaced (λ (node : NodeData). names node.lists) n grown 0 top (fresh 0 bare) some in
      let was = ap (λ (node : NodeData). times n (names node.lists))
      (get_or_append_left old.nodes (lower ∷ []) (fresh 0 bare) 0 sound.shaped.some) in
      let none : times n (names top.lists) ≡ 0 = refl in
      omega arith

  same_named : (n : ℕ) → times n (mentioned new.nodes new.actors) ≡ times n (mentioned old.nodes old.actors)
  same_named n =
      let change = times-actor old.actors sound.count actor known worker old.nodes n in
      let nodes = named_now n in
      let now = times-append n (named new.nodes) (flat_map named_by new.actors) in
      let before = times-append n (named old.nodes) (flat_map named_by new.actors) in
      omega arith

  accounts : AccountsForExtents (mentioned new.nodes new.actors) (counts new) (branches new) new.owners
  accounts = record {
    counts = λ n. sound.extents.counts n ∙ sym (same_named n);
    stands = sound.extents.stands;
    held = sound.extents.held;
    not_held = sound.extents.not_held;
  }

  -- the new node has the root's runs, and the root has no bundle
  heirs : (n : ℕ) → n < length new.nodes
      → ((m : ℕ) × (m < length old.nodes) × Inherits (node_at old.nodes m) (node_at new.nodes n))
      ⊎ ((number : ℕ) → Stands (node_at new.nodes n).lists number → ⊥)
  heirs n below = elim (cases_eq n 0) [
    | inl root ↦ inr (λ number stands.
        let none : Stands top.lists number = subst (λ (node : NodeData). Stands node.lists number)
        (ap (node_at new.nodes) root ∙ root_now) stands in
        omega (arith, none.0, none.1))
    | inr other ↦ elim (cases_lt n (length old.nodes)) [
      | inl within ↦ inl (
        n,
        within,
        subst (λ (node : NodeData). Inherits (node_at old.nodes n) node)
            (sym (rest_now n within other)) (inherits_itself (node_at old.nodes n)),
      )
      | inr past ↦
          let is : n ≡ length old.nodes = let count = long in omega arith in
          let was = node_at old.nodes 0 in
          let like : Inherits was lower = record {
            lists = refl;
            height = refl;
            within = λ key inside. inside;
            uncut = λ first last uncut. uncut;
          } in
          inl (
            0,
            sound.shaped.some,
            subst (λ (node : NodeData). Inherits (node_at old.nodes 0) node)
                (sym (ap (node_at new.nodes) is ∙ lower_now)) like,
          )
    ]
  ]

  -- what holds of the nodes that were, of the new one and of the root, holds of each
  all_nodes : (P : NodeData → Type 0) → All P old.nodes → P lower → P top → All P new.nodes
  all_nodes P all of_lower of_top =
      All-set P (old.nodes ++ lower ∷ []) 0 top of_top (All-append P old.nodes (lower ∷ []) all
      (All-cons P lower [] of_lower (All-nil P)))

  ends : HasAllEnds new.nodes
  ends =
      let top = All-get_or HasEnds old.nodes 0 (fresh 0 bare) sound.shaped.some sound.ends.each in
      let single : Bundle → Type 0 = λ bundle. length bundle.branches ≤ 1 in
      record {
        each = all_nodes HasEnds sound.ends.each (record { mark = top.mark; front = top.front })
            (record { mark = λ low. absurd (omega arith); front = tt });
        root = subst (λ (node : NodeData). All single node.lists.bundles) (sym root_now) (All-nil single);
      }

  bounded : AreBelow old.nodes old.tables old.counters
      → AreBounded new.nodes (branches new) new.tables new.counters
  bounded fresh_numbers =
      let steps = old.counters.steps in
      let lists : NodeData → Type 0 = λ node. next_of node.lists ≤ steps in
      let generations : NodeData → Type 0 = λ node. node.generation ≤ steps in
      let list = All-get_or (λ (node : NodeData). next_of node.lists < steps) old.nodes 0
      (fresh 0 bare) sound.shaped.some fresh_numbers.lists in
      let generation = All-get_or (λ (node : NodeData). node.generation < steps) old.nodes 0
      (fresh 0 bare) sound.shaped.some fresh_numbers.generations in
      record {
        steps = sound.bounds.steps;
        places = sound.bounds.places;
        branches = sound.bounds.branches;
        memtables = sound.bounds.memtables;
        lists = all_nodes lists sound.bounds.lists (omega arith) (omega arith);
        generations = all_nodes generations sound.bounds.generations (omega arith) (omega arith);
        height =
            let count = long in
            let was = sound.bounds.height in
            let now = ap (λ (node : NodeData). node.height) root_now in
            omega arith;
        numbers = sound.bounds.numbers;
      }

  pub raised_sound : AreBelow old.nodes old.tables old.counters → All IsLatched new.grips → IsSound new
  raised_sound fresh_numbers latched = record {
    shaped = shaped_raised old.nodes sound.shaped room;
    latches =
        let grips = length-append old.grips (nobody ∷ []) in
        let count = long in
        let were = sound.latches in
        omega arith;
    latched = latched;
    extents = accounts;
    memtables = sound.memtables;
    count = length-set old.actors actor worker ∙ sound.count;
    actors = all_actors old sound actor new.nodes old.refs new.actors long kept refl are;
    apart = all_apart old sound actor new.nodes old.refs new.actors long kept refl are;
    picked = all_picked old sound actor new.nodes old.refs new.actors long kept refl are;
    runs = all_runs old sound actor new.nodes old.refs new.actors long kept refl are heirs;
    ends = ends;
    bounds = bounded fresh_numbers;
  }

  pub raised_framed : (rule : Rule) (tells : Bool) → (tells ≡ true → AreDrafts rule old)
      → IsFramed rule tells old new actor
  raised_framed rule tells drafts =
      grows_framed old sound actor new.nodes old.refs new.actors long kept refl are rule tells
      (λ told n key below free inside. sub_but_root old.nodes sound.shaped rule _ (node_at new.nodes) rest_now
      (node_at old.nodes n).height n key below (λ same. free
      (ap (grip_of old.grips actor) same ∙ writes)) refl inside)
      drafts
      (λ told key. means_raised old.nodes sound.shaped rule _ (node_at new.nodes) rest_now
      (length old.nodes) lower_now root_now (tables_of old.tables) key)

-- the same, where the state is seen through its parts
module _ (whole : Whole) (sound : IsSound whole) (actor : ℕ) (known : actor < ACTORS)
    (room : length whole.nodes < 4096) (writes : grip_of whole.grips actor 0 ≡ Write) (number : ℕ)
    (number_is : number ≡ length whole.grips) (nodes : List NodeData) (grips : List (List Grip))
    (actors : List Actor) (nodes_are : nodes ≡ raised whole.nodes)
    (grips_are : grips ≡ whole.grips ++ nobody ∷ [])
    (actors_are : actors ≡ set whole.actors actor (told_of (actor_in whole.actors actor) number)) where
  abbrev made : Whole
  made = record whole { nodes = nodes; grips = grips; actors = actors }

  pub raise_made : made ≡ root_raised whole actor
  raise_made =
      let told = actors_are ∙ ap (λ (n : ℕ). set whole.actors actor (told_of (actor_in whole.actors actor) n))
      (number_is ∙ sound.latches) in
      ap (λ (n : List NodeData). record whole { nodes = n; grips = grips; actors = actors }) nodes_are
      ∙ ap (λ (h : List (List Grip)). record whole { nodes = raised whole.nodes; grips = h; actors = actors })
      grips_are
      ∙ ap (λ (a : List Actor). record whole {
        nodes = raised whole.nodes;
        grips = whole.grips ++ nobody ∷ [];
        actors = a;
      }) told

  pub raise_sound : AreBelow whole.nodes whole.tables whole.counters → All IsLatched grips → IsSound made
  raise_sound fresh_numbers latched =
      subst (λ (w : Whole). IsSound w) (sym raise_made)
      (raised_sound whole sound actor known room writes fresh_numbers
      (subst (λ (h : List (List Grip)). All IsLatched h) grips_are latched))

  pub raise_framed : (old : Whole) → whole ≡ old → (rule : Rule) (tells : Bool)
      → (tells ≡ true → AreDrafts rule old) → IsFramed rule tells old made actor
  raise_framed old view_is rule tells drafts =
      let drafts_here : tells ≡ true → AreDrafts rule whole = λ told. subst (λ (w : Whole). AreDrafts rule w)
      (sym view_is) (drafts told) in
      let framed = raised_framed whole sound actor known room writes rule tells drafts_here in
      subst (λ (w : Whole). IsFramed rule tells w made actor) view_is
      (subst (λ (w : Whole). IsFramed rule tells whole w actor) (sym raise_made) framed)

  -- the new node has the bundles of the root, with their marks
  pub raise_marks : (old : Whole) → whole ≡ old → lists_at nodes (length old.nodes) ≡ lists_at old.nodes 0
  raise_marks old view_is =
      let here = ap (λ (n : List NodeData). lists_at n (length whole.nodes)) nodes_are
      ∙ ap (λ (node : NodeData). node.lists) (lower_now whole sound actor known room writes) in
      subst (λ (w : Whole). lists_at nodes (length w.nodes) ≡ lists_at w.nodes 0) view_is here

pub not_raised_framed : (whole old : Whole) (view_is : whole ≡ old) (nodes : List NodeData) (actor : ℕ)
    (rule : Rule) (tells : Bool) → (tells ≡ true → AreDrafts rule old) → nodes ≡ whole.nodes
    → IsFramed rule tells old (record whole { nodes = nodes }) actor
not_raised_framed whole old view_is nodes actor rule tells drafts is =
    let framed = unchanged_framed rule tells old drafts actor in
    let here : IsFramed rule tells old whole actor = subst (λ (w : Whole). IsFramed rule tells old w actor)
    (sym view_is) framed in
    subst (λ (n : List NodeData). IsFramed rule tells old (record whole { nodes = n }) actor) (sym is) here
