-- The state of a store in which no call was made is sound.
use Rattle.std.proofs.Common.{◌≡◌, ◌≢◌, ℕ, zero, suc, ◌+◌, ◌<◌, ◌≤◌, Bool, true, false, List, [], ◌∷◌, Option, Some, None, length, map, flat_map, refl, sym, ap, subst, ◌∙◌, arith, rules}
use Rattle.std.specs.Prelude.{IsSome, IfSome, ◌↔◌, All, AllPairs, replicate, slice_index_or, slice_get}
use Rattle.std.specs.List.Sorted.{IsStrictlySortedBy}
use Rattle.std.specs.Option.{option_map}
use Rattle.std.proofs.lemmas.List.{length-replicate}
use Rattle.std.specs.Prelude.{unwrap_or}
use Rattle.std.proofs.lemmas.Bool.{false≢true}
use Rattle.std.proofs.lemmas.List.Elements.{All-cons, All-nil}
use Rattle.spl_base.specs.declared.TheConstants.{ACTORS}
use Rattle.spl_message.specs.Rule.{Rule}
use Rattle.spl_message.specs.Table.{as_table, IsTable}
use Rattle.spl_numbers.specs.Numbers.{has}
use Rattle.spl_extent.specs.declared.owner.Owner.{Owner}
use Rattle.spl_extent.specs.declared.owner.Owner.TheVariants.{Free}
use Rattle.spl_holds.specs.declared.grip.Grip.{Grip}
use Rattle.spl_holds.specs.declared.grip.Grip.TheVariants as grip
use Rattle.spl_holds.specs.Latch.{IsLatched, nobody}
use Rattle.spl_holds.specs.Holds.{grip_of}
use Rattle.spl_holds.proofs.HoldsLemmas.{grip_in-nobody}
use Rattle.spl_bundle.specs.Numbered.{next_of}
use Rattle.spl_node.specs.Node.{NodeData, bare}
use Rattle.spl_node.specs.Steps.{fresh}
use Rattle.spl_trunk.specs.Tree.{IsShaped, times}
use Rattle.spl_refs.specs.Refs.{Published, held_at, branch_at, count_at}
use Rattle.spl_tables.specs.Memtables.{MemtableData, AreMemtables}
use Rattle.spl_state.specs.declared.actor.Actor.{Actor}
use Rattle.spl_state.specs.declared.counters.Counters.{Counters}
use Rattle.spl_state.specs.Actor.{idle, actor_in}
use Rattle.spl_state.specs.Whole.{BranchData, Whole}
use Rattle.spl_state.specs.Extents.{named_by, mentioned, held_by, is_held_by, AccountsForExtents}
use Rattle.spl_state.specs.Actors.{IsActor, IsOnWay, JobsDiffer, ArePicked}
use Rattle.spl_state.specs.Runs.{AreInRuns}
use Rattle.spl_state.specs.Bounds.{AreBounded, HasAllEnds, HasEnds}
use Rattle.spl_state.specs.Sound.{IsSound, IsEmpty}

-- every element of equal ones is that one, also where there is none
copy_at : {A : Type 0} (count at : ℕ) (x : A) → slice_index_or (replicate count x) at x ≡ x
copy_at zero at x = refl
copy_at (suc count) zero x = refl
copy_at (suc count) (suc at) x = copy_at count at x

no_entries : IsTable (as_table [])
unfolding IsStrictlySortedBy
no_entries = tt

-- idle actors name nothing
idle_name_nothing : (count : ℕ) → flat_map named_by (replicate count idle) ≡ []
idle_name_nothing zero = refl
idle_name_nothing (suc count) = idle_name_nothing count

free_is_not_held : (count number extent : ℕ) → has (held_by (replicate count Free) number) extent ≡ false
free_is_not_held zero number extent = refl
free_is_not_held (suc count) number zero = refl
free_is_not_held (suc count) number (suc extent) = free_is_not_held count number extent

-- nobody has a grip on the only node, nor on one that is not there
no_grip : (actor node : ℕ) → grip_of (nobody ∷ []) actor node ≡ grip.Free
no_grip actor zero = grip_in-nobody actor
no_grip actor (suc node) = refl

free_is_no_read : (g : Grip) → g ≡ grip.Free → g ≢ grip.Read
free_is_no_read g free read = cc

none_is_some : {A : Type 0} (x : A) → None ≡ Some x → ⊥
none_is_some x is = cc

no_branch : {A : Type 0} (o : Option A) (n : ℕ) → o ≡ None → n ≡ 0 → IsSome o ↔ (0 < n)
no_branch o n none zero_is = rw (none, zero_is) ((λ absurdly. absurd (false≢true absurdly)), λ below. absurd (omega arith))

module _ (refs : Published BranchData) (none_held : (number : ℕ) → held_at refs number ≡ None) where
  none : (number : ℕ) → branch_at refs number ≡ None
  none number = ap (λ (held : Option (ℕ × BranchData)). option_map (λ h. h.1) held) (none_held number)

  no_count : (number : ℕ) → count_at refs number ≡ 0
  no_count number = ap (λ (held : Option (ℕ × BranchData)). unwrap_or (option_map (λ h. h.0) held) 0) (none_held number)

  abbrev leaf : List NodeData
  leaf = fresh 0 bare ∷ []

  abbrev none_frozen : MemtableData
  none_frozen = record { active = as_table []; frozen = []; next = 0 }

  nothing_named : mentioned leaf (replicate ACTORS idle) ≡ []
  nothing_named = idle_name_nothing ACTORS

  accounts : (extents : ℕ) → AccountsForExtents (mentioned leaf (replicate ACTORS idle)) (count_at refs) (branch_at refs) (replicate extents Free)
  accounts extents = record {
    counts = λ number. no_count number ∙ sym (ap (times number) nothing_named);
    stands = λ number. no_branch (branch_at refs number) (count_at refs number) (none number) (no_count number);
    held = λ number. rw (none number) tt;
    not_held = λ number extent is. free_is_not_held extents number extent;
  }

  idle_is_sound : (extents number : ℕ) → IsActor leaf (branch_at refs) (replicate extents Free) (nobody ∷ []) [] 0 0 number idle
  idle_is_sound extents number = record {
    told = omega arith;
    knows_root = omega arith;
    descent = λ n. free_is_no_read (grip_of (nobody ∷ []) number n) (no_grip number n);
    job = refl;
  }

  idle_job : (number : ℕ) → (actor_in (replicate ACTORS idle) number).job ≡ None
  idle_job number = ap (λ (actor : Actor). actor.job) (copy_at ACTORS number idle)

  empty_tables : AreMemtables none_frozen
  empty_tables = record {
    few = omega arith;
    rising = λ i j d before within. absurd (omega arith);
    below_next = All-nil _;
    full = All-nil _;
    in_order = All-nil _;
    active_limit = omega arith;
    active_in_order = no_entries;
  }

  no_runs : AreInRuns leaf (replicate ACTORS idle)
  no_runs zero number actor below stands owned = absurd (omega (arith, stands))
  no_runs (suc n) number actor below stands owned = absurd (omega arith)

  no_same_jobs : JobsDiffer (replicate ACTORS idle)
  no_same_jobs a b job other apart is other_is same = absurd (none_is_some job (sym (idle_job a) ∙ is))

  nobody_picked : ArePicked [] (replicate ACTORS idle)
  nobody_picked i actor f is picked = absurd (none_is_some f is)

  leaf_ends : HasAllEnds leaf
  leaf_ends =
      let ends : HasEnds (fresh 0 bare) = record { mark = λ height. refl; front = tt } in
      record { each = All-cons HasEnds (fresh 0 bare) [] ends (All-nil HasEnds); root = All-nil _ }

  leaf_bounds : (callers : ℕ) → AreBounded leaf (branch_at refs) none_frozen (record { steps = 0; places = 0; branches = 0; running = callers })
  leaf_bounds callers = record {
    steps = omega arith;
    places = omega arith;
    branches = omega arith;
    memtables = omega arith;
    lists = All-cons (λ (node : NodeData). next_of node.lists ≤ 0) (fresh 0 bare) [] (omega arith) (All-nil _);
    generations = All-cons (λ (node : NodeData). node.generation ≤ 0) (fresh 0 bare) [] (omega arith) (All-nil _);
    height = omega arith;
    numbers = λ number some. absurd (false≢true (subst (λ (o : Option BranchData). IsSome o) (none number) some));
  }

  leaf_sound : (extents callers : ℕ) → IsShaped leaf → All IsLatched (nobody ∷ []) → IsSound (record { nodes = leaf; refs = refs; owners = replicate extents Free; grips = nobody ∷ []; tables = none_frozen; actors = replicate ACTORS idle; counters = record { steps = 0; places = 0; branches = 0; running = callers } })
  leaf_sound extents callers shaped latched = record {
    shaped = shaped;
    latches = refl;
    latched = latched;
    extents = accounts extents;
    memtables = empty_tables;
    count = length-replicate ACTORS idle;
    actors = λ number below. subst (λ (actor : Actor). IsActor leaf (branch_at refs) (replicate extents Free) (nobody ∷ []) [] 0 0 number actor) (sym (copy_at ACTORS number idle)) (idle_is_sound extents number);
    apart = no_same_jobs;
    picked = nobody_picked;
    runs = no_runs;
    ends = leaf_ends;
    bounds = leaf_bounds callers;
  }

pub empty_is_sound : (extents callers : ℕ) (whole : Whole) → IsEmpty extents callers whole → IsShaped (fresh 0 bare ∷ []) → All IsLatched (nobody ∷ []) → IsSound whole
empty_is_sound extents callers whole empty shaped latched =
    let P : Whole → Type 0 = λ w. IsSound w in
    let leaf = leaf_sound whole.refs empty.refs extents callers shaped latched in
    let with_nodes = subst (λ (n : List NodeData). P (record { nodes = n; refs = whole.refs; owners = replicate extents Free; grips = nobody ∷ []; tables = record { active = as_table []; frozen = []; next = 0 }; actors = replicate ACTORS idle; counters = record { steps = 0; places = 0; branches = 0; running = callers } })) (sym empty.nodes) leaf in
    let with_owners = subst (λ (o : List Owner). P (record { nodes = whole.nodes; refs = whole.refs; owners = o; grips = nobody ∷ []; tables = record { active = as_table []; frozen = []; next = 0 }; actors = replicate ACTORS idle; counters = record { steps = 0; places = 0; branches = 0; running = callers } })) (sym empty.owners) with_nodes in
    let with_grips = subst (λ (g : List (List Grip)). P (record { nodes = whole.nodes; refs = whole.refs; owners = whole.owners; grips = g; tables = record { active = as_table []; frozen = []; next = 0 }; actors = replicate ACTORS idle; counters = record { steps = 0; places = 0; branches = 0; running = callers } })) (sym empty.grips) with_owners in
    let with_tables = subst (λ (t : MemtableData). P (record { nodes = whole.nodes; refs = whole.refs; owners = whole.owners; grips = whole.grips; tables = t; actors = replicate ACTORS idle; counters = record { steps = 0; places = 0; branches = 0; running = callers } })) (sym empty.tables) with_grips in
    let with_actors = subst (λ (a : List Actor). P (record { nodes = whole.nodes; refs = whole.refs; owners = whole.owners; grips = whole.grips; tables = whole.tables; actors = a; counters = record { steps = 0; places = 0; branches = 0; running = callers } })) (sym empty.actors) with_tables in
    subst (λ (c : Counters). P (record { nodes = whole.nodes; refs = whole.refs; owners = whole.owners; grips = whole.grips; tables = whole.tables; actors = whole.actors; counters = c })) (sym empty.counters) with_actors
