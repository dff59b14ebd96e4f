-- What the calls of the end of a merge make of a state, from the branches themselves to the whole.
use Rattle.std.proofs.Common.{◌≡◌, ℕ, ◌+◌, ◌<◌, ◌≤◌, Bool, true, false, cond, List, [], ◌∷◌, ◌++◌, Option, Some, None, option_to_list, map, flat_map, length, set, refl, sym, ap, subst, ◌∙◌, inl, inr, arith}
use Rattle.std.specs.Prelude.{All, IsSome, position}
use Rattle.std.specs.Option.{option_map}
use Rattle.std.proofs.lemmas.Bool.{cases_lt}
use Rattle.std.proofs.lemmas.List.{get_or_past}
use Rattle.std.proofs.lemmas.List.Elements.{All-cons, All-nil}
use Rattle.spl_message.specs.Rule.{Rule}
use Rattle.spl_message.specs.Table.{IsMerged}
use Rattle.spl_bundle.specs.Numbered.{merged, next_of}
use Rattle.spl_extent.specs.declared.owner.Owner.{Owner}
use Rattle.spl_holds.specs.declared.grip.Grip.{Grip}
use Rattle.spl_holds.specs.declared.grip.Grip.TheVariants.{Free, Read, Claim, Write}
use Rattle.spl_holds.specs.Grip.{is_write}
use Rattle.spl_holds.specs.Holds.{grip_of}
use Rattle.spl_holds.specs.Latch.{grip_in}
use Rattle.spl_node.specs.Node.{NodeData, bare}
use Rattle.spl_node.specs.Parts.{branches_from}
use Rattle.spl_node.specs.Steps.{fresh, with_lists, trimmed}
use Rattle.spl_refs.specs.Refs.{Published, branch_at, count_at}
use Rattle.spl_trunk.specs.Moves.{compacted, output_table}
use Rattle.spl_trunk.specs.Trunk.{node_at, with_node, with_lists_at}
use Rattle.spl_trunk.specs.Tree.{times, named, IsShaped}
use Rattle.spl_trunk.proofs.Counts.{times-append}
use Rattle.spl_state.specs.declared.actor.Actor.{Actor}
use Rattle.spl_state.specs.declared.job.Job.{Job}
use Rattle.spl_state.specs.declared.job.Job.TheVariants.{Pack, Merge}
use Rattle.spl_state.specs.declared.job.Run.{Run}
use Rattle.spl_state.specs.declared.reply.Reply.{Reply}
use Rattle.spl_state.specs.declared.reply.Reply.TheVariants.{Elsewhere}
use Rattle.spl_state.specs.Actor.{actor_in}
use Rattle.spl_state.specs.Extents.{inputs_of, draft_of, named_by, mentioned}
use Rattle.spl_state.specs.Frame.{IsFramed}
use Rattle.spl_state.specs.Names.{AreAccounted}
use Rattle.spl_state.specs.Runs.{HoldsRun, IsInRun, AreInRuns}
use Rattle.spl_state.specs.Sound.{IsSound, AreDrafts}
use Rattle.spl_state.specs.Whole.{BranchData, Whole, branches, counts, table_in}
use Rattle.spl_state.proofs.Accounts.{accounts_seen}
use Rattle.spl_state.proofs.Replaced.{times-actor, working}
use Rattle.spl_state.proofs.Views.{all_seen, branch_seen, count_seen}
use Rattle.spl_compact.specs.declared.merging.Outcome.{Outcome}
use Rattle.spl_compact.specs.Installing.{Installs, MergesToNothing, carries, first_heir, goes_on, install_answer, is_heir, merged_by, next_answer, ready_in, served, where_ready}
use Rattle.spl_compact.specs.Names.{LetsGo}
use Rattle.spl_compact.proofs.Accounting.{recounted}
use Rattle.spl_compact.proofs.Begins.{twice}
use Rattle.spl_compact.proofs.Compacted.{heir_is}
use Rattle.spl_compact.proofs.Held.{times_most}
use Rattle.spl_compact.proofs.OneNode.{this_node}
use Rattle.spl_compact.proofs.Positions.{position_alike, none_passes}
use Rattle.spl_compact.proofs.Serves.{holds, order, runs_now, cleared, known, same_extents, served_sound, served_framed}

abbrev pub output_of : Bool → ℕ → Option ℕ
output_of true number = Some number
output_of false number = None

-- the actor writes the node and merged this run, and made an output exactly where it says so
pub record IsReady (whole : Whole) (actor node : ℕ) (output : Bool) (outcome : Outcome) : Type 0 where
  pub number : ℕ
  pub run : Run
  pub writes : grip_of whole.grips actor node ≡ Write
  pub job : (actor_in whole.actors actor).job ≡ Some (Merge number run)
  pub published : (actor_in whole.actors actor).published ≡ output
  pub is : outcome ≡ record { first = run.first; last = run.last; output = output_of output number }

no_outcome : (outcome : Outcome) → None ≡ Some outcome → ⊥
no_outcome outcome is = cc

pub ready_of : (whole : Whole) (actor node : ℕ) (output : Bool) (outcome : Outcome) → ready_in whole actor node output ≡ Some outcome → IsReady whole actor node output outcome
ready_of whole actor node output outcome ready = by (grip_of whole.grips actor node) (actor_in whole.actors actor).job (actor_in whole.actors actor).published output refl refl refl refl ready
  where
    some_is : (a b : Outcome) → Some a ≡ Some b → b ≡ a
    some_is a b is = cc

    by : (g : Grip) (j : Option Job) (p o : Bool) → grip_of whole.grips actor node ≡ g → (actor_in whole.actors actor).job ≡ j → (actor_in whole.actors actor).published ≡ p → output ≡ o → cond (is_write g) (merged_by j p o) None ≡ Some outcome → IsReady whole actor node output outcome
    by Free j p o is_g is_j is_p is_o e = absurd (no_outcome outcome e)
    by Read j p o is_g is_j is_p is_o e = absurd (no_outcome outcome e)
    by Claim j p o is_g is_j is_p is_o e = absurd (no_outcome outcome e)
    by Write None p o is_g is_j is_p is_o e = absurd (no_outcome outcome e)
    by Write (Some (Pack n t)) p o is_g is_j is_p is_o e = absurd (no_outcome outcome e)
    by Write (Some (Merge n r)) true false is_g is_j is_p is_o e = absurd (no_outcome outcome e)
    by Write (Some (Merge n r)) false true is_g is_j is_p is_o e = absurd (no_outcome outcome e)
    by Write (Some (Merge n r)) true true is_g is_j is_p is_o e = record {
      number = n;
      run = r;
      writes = is_g;
      job = is_j;
      published = is_p ∙ sym is_o;
      is = some_is (record { first = r.first; last = r.last; output = Some n }) outcome e ∙ ap (λ (b : Bool). let x : Outcome = record { first = r.first; last = r.last; output = output_of b n } in x) (sym is_o);
    }
    by Write (Some (Merge n r)) false false is_g is_j is_p is_o e = record {
      number = n;
      run = r;
      writes = is_g;
      job = is_j;
      published = is_p ∙ sym is_o;
      is = some_is (record { first = r.first; last = r.last; output = None }) outcome e ∙ ap (λ (b : Bool). let x : Outcome = record { first = r.first; last = r.last; output = output_of b n } in x) (sym is_o);
    }

-- a node that is written exists
pub written_exists : (grips : List (List Grip)) (actor node : ℕ) → grip_of grips actor node ≡ Write → node < length grips
written_exists grips actor node writes = elim (cases_lt node (length grips)) [
  | inl within ↦ within
  | inr past ↦ absurd (free (sym (ap (λ (gs : List Grip). grip_in gs actor) (get_or_past grips node [] past)) ∙ writes))
]
  where
    free : Free ≡ Write → ⊥
    free is = cc

-- in each node one look at the run's last bundle is enough
module _ (nodes : List NodeData) (actors : List Actor) (runs : AreInRuns nodes actors) (actor number : ℕ) (run : Run) (job : (actor_in actors actor).job ≡ Some (Merge number run)) where
  pub heir_at : (k : ℕ) → k < length nodes → is_heir run.last actor (node_at nodes k) ≡ carries actor (node_at nodes k)
  heir_at k within =
      heir_is (node_at nodes k) actor run.last (λ n stands owned.
      let is = subst (λ (j : Option Job). IsInRun (node_at nodes k) n actor j) job (runs k n actor within stands owned).1 in
      let there = is.2.stands in
      (there, is.2.marks run.last (omega (arith, is.0, is.1)) (omega arith) there.0))

  pub heirs_agree : position (is_heir run.last actor) nodes ≡ first_heir nodes actor
  heirs_agree = position_alike (is_heir run.last actor) (carries actor) (fresh 0 bare) nodes heir_at

-- what the step promises of the state that it leaves
pub record Leaves (old new : Whole) (actor node : ℕ) (output : Bool) (outcome : Outcome) : Type 0 where
  pub sound : IsSound new
  pub done : Installs old new actor node outcome
  pub few : (n : ℕ) → counts new n ≤ counts old n + 1
  pub framed : (rule : Rule) (tells : Bool) → (tells ≡ true → AreDrafts rule old) → (tells ≡ true → output ≡ false → MergesToNothing rule old actor) → IsFramed rule tells old new actor

one_at_most : (n : ℕ) (o : Option ℕ) → times n (option_to_list o) ≤ 1
one_at_most n None = omega arith
one_at_most n (Some x) = times_most n (x ∷ [])

module _ (old : Whole) (sound : IsSound old) (actor node : ℕ) (output : Bool) (outcome : Outcome) (ready : IsReady old actor node output outcome) where
  pub exists : node < length old.nodes
  exists = subst (λ (c : ℕ). node < c) sound.latches (written_exists old.grips actor node ready.writes)

  abbrev pub out : Option ℕ
  out = output_of output ready.number

  abbrev pub nodes_left : List NodeData
  nodes_left = set old.nodes node (compacted (node_at old.nodes node) ready.run.first ready.run.last out)

  pub is_served : served old.nodes node outcome ≡ nodes_left
  is_served = ap (served old.nodes node) ready.is

  -- the table of the output is what the inputs merge to
  known_table : (rule : Rule) → AreDrafts rule old → (output ≡ false → MergesToNothing rule old actor) → IsMerged rule (map (table_in (branches old)) ready.run.inputs) ready.run.span ready.run.bottom (output_table (table_in (branches old)) out)
  known_table rule drafts nothing = by output refl
    where
      by : (b : Bool) → output ≡ b → IsMerged rule (map (table_in (branches old)) ready.run.inputs) ready.run.span ready.run.bottom (output_table (table_in (branches old)) (output_of b ready.number))
      by true is = drafts actor (Merge ready.number ready.run) ready.job (ready.published ∙ is)
      by false is = nothing is ready.number ready.run ready.job

  -- what the job names: its inputs, and its output
  pub names_are : named_by (actor_in old.actors actor) ≡ ready.run.inputs ++ option_to_list out
  names_are = by (actor_in old.actors actor).job (actor_in old.actors actor).published output ready.job ready.published refl
    where
      by : (j : Option Job) (p o : Bool) → j ≡ Some (Merge ready.number ready.run) → p ≡ output → output ≡ o → inputs_of j ++ draft_of j p ≡ ready.run.inputs ++ option_to_list (output_of output ready.number)
      by j p true is_j is_p is_o = rw (is_j, is_p, is_o) refl
      by j p false is_j is_p is_o = rw (is_j, is_p, is_o) refl

  -- an output stands
  pub output_stands : All (λ n. IsSome (branches old n)) (option_to_list outcome.output)
  output_stands = subst (λ (o : Outcome). All (λ n. IsSome (branches old n)) (option_to_list o.output)) (sym ready.is) (by output refl)
    where
      by : (b : Bool) → output ≡ b → All (λ n. IsSome (branches old n)) (option_to_list (output_of b ready.number))
      by true is = All-cons (λ n. IsSome (branches old n)) ready.number [] ((working old sound actor (Merge ready.number ready.run) ready.job).draft (ready.published ∙ is)) (All-nil _)
      by false is = All-nil _

  module _ (carried : carries actor (node_at old.nodes node) ≡ true) where
    -- where the run is merged, and then trimmed
    pub trunk_is : (mid last : List NodeData) → mid ≡ with_lists_at old.nodes node (merged (node_at old.nodes node).lists outcome.first outcome.last outcome.output) → last ≡ with_node mid node (trimmed (node_at mid node)) → last ≡ nodes_left
    trunk_is mid last is_mid is_last =
        let here = with_lists (node_at old.nodes node) (merged (node_at old.nodes node).lists outcome.first outcome.last outcome.output) in
        is_last
        ∙ ap (λ (t : List NodeData). with_node t node (trimmed (node_at t node))) is_mid
        ∙ ap (λ (a : NodeData). set (set old.nodes node here) node (trimmed a)) (this_node old.nodes node exists here)
        ∙ twice old.nodes node here (trimmed here)
        ∙ is_served

    abbrev pub heir : Option ℕ
    heir = first_heir nodes_left actor

    abbrev pub actors_left : List Actor
    actors_left = set old.actors actor (goes_on (actor_in old.actors actor) heir)

    pub runs_left : AreInRuns nodes_left old.actors
    runs_left = runs_now old sound actor node ready.number ready.run ready.job ready.writes exists carried out

    -- what is named while the job goes on, and once it has ended
    named_on : (n next : ℕ) → heir ≡ Some next → times n (mentioned nodes_left old.actors) ≡ times n (mentioned nodes_left actors_left)
    named_on n next is =
        let change = times-actor old.actors sound.count actor (known old sound actor node ready.number ready.run ready.job ready.writes exists carried out) (goes_on (actor_in old.actors actor) heir) nodes_left n in
        let same = ap (λ (h : Option ℕ). times n (named_by (goes_on (actor_in old.actors actor) h))) is in
        omega arith

    named_ended : (n : ℕ) → heir ≡ None → times n (mentioned nodes_left old.actors) ≡ times n (ready.run.inputs ++ (option_to_list out ++ mentioned nodes_left actors_left))
    named_ended n is =
        let change = times-actor old.actors sound.count actor (known old sound actor node ready.number ready.run ready.job ready.writes exists carried out) (goes_on (actor_in old.actors actor) heir) nodes_left n in
        let same : times n (named_by (goes_on (actor_in old.actors actor) heir)) ≡ 0 = ap (λ (h : Option ℕ). times n (named_by (goes_on (actor_in old.actors actor) h))) is in
        let was = ap (times n) names_are in
        let a = times-append n ready.run.inputs (option_to_list out) in
        let b = times-append n ready.run.inputs (option_to_list out ++ mentioned nodes_left actors_left) in
        let c = times-append n (option_to_list out) (mentioned nodes_left actors_left) in
        omega arith

    module _ {B : Type 0} (extents_of : B → List ℕ) (data_of : B → BranchData) (same : (branch : B) → (data_of branch).extents ≡ extents_of branch) (refs : Published B) (is_refs : old.refs ≡ all_seen data_of refs) where
      pub accounted_on : (now : Published B) (pool : List Owner) (next : ℕ) → heir ≡ Some next → AreAccounted extents_of (named nodes_left ++ flat_map named_by old.actors) now pool → AreAccounted extents_of (mentioned nodes_left actors_left) now pool
      accounted_on now pool next is = recounted extents_of (mentioned nodes_left old.actors) (mentioned nodes_left actors_left) now pool (λ n. named_on n next is)

      pub accounted_ended : (now : Published B) (pool : List Owner) → heir ≡ None → AreAccounted extents_of (named nodes_left ++ flat_map named_by old.actors) now pool → AreAccounted extents_of (ready.run.inputs ++ (option_to_list out ++ mentioned nodes_left actors_left)) now pool
      accounted_ended now pool is = recounted extents_of (mentioned nodes_left old.actors) (ready.run.inputs ++ (option_to_list out ++ mentioned nodes_left actors_left)) now pool (λ n. named_ended n is)

      stays_seen : (now : Published B) → ((n : ℕ) → 0 < count_at now n → branch_at now n ≡ branch_at refs n) → (n : ℕ) → 0 < count_at (all_seen data_of now) n → branch_at (all_seen data_of now) n ≡ branches old n
      stays_seen now stays n some =
          branch_seen data_of now n
          ∙ ap (λ (o : Option B). option_map data_of o) (stays n (subst (λ (count : ℕ). 0 < count) (count_seen data_of now n) some))
          ∙ sym (branch_seen data_of refs n)
          ∙ sym (ap (λ (r : Published BranchData). branch_at r n) is_refs)

      pub leaves : (now : Published B) (pool : List Owner) (nodes : List NodeData) (actors : List Actor) → AreAccounted extents_of (mentioned nodes_left actors_left) now pool → LetsGo refs now old.owners pool (option_to_list outcome.output) → nodes ≡ nodes_left → IsShaped nodes → actors ≡ actors_left
          → Leaves old (record old { nodes = nodes; refs = all_seen data_of now; owners = pool; actors = actors }) actor node output outcome
      leaves now pool nodes actors accounted names is_nodes shaped is_actors =
          let accounts = accounts_seen extents_of data_of same (mentioned nodes_left actors_left) now pool accounted in
          let still = stays_seen now names.branches in
          let seen = all_seen data_of now in
          let end : Whole = record old { nodes = nodes_left; refs = seen; owners = pool; actors = actors_left } in
          let here : Leaves old end actor node output outcome = record {
            sound = served_sound old sound actor node ready.number ready.run ready.job ready.writes exists carried out seen pool accounts still names.granted (subst IsShaped is_nodes shaped);
            done = record {
              nodes = sym is_served;
              cleared = cleared old sound actor node ready.number ready.run ready.job ready.writes exists carried out;
              actors = refl;
              as_often = accounts.counts;
              still = still;
              extents = same_extents old sound actor node ready.number ready.run ready.job ready.writes exists carried out seen pool accounts still names.granted;
              granted = names.granted;
              grips = refl;
              tables = refl;
              counters = refl;
            };
            few = λ n.
                let before = sym (count_seen data_of refs n) ∙ sym (ap (λ (r : Published BranchData). count_at r n) is_refs) in
                let after = count_seen data_of now n in
                let most = one_at_most n outcome.output in
                let fewer = names.fewer n in
                omega arith;
            framed = λ rule tells drafts nothing.
                served_framed old sound actor node ready.number ready.run ready.job ready.writes exists carried out seen pool accounts still names.granted rule tells drafts (λ told. known_table rule (drafts told) (nothing told));
          } in
          let with_nodes = subst (λ (n : List NodeData). Leaves old (record end { nodes = n }) actor node output outcome) (sym is_nodes) here in
          subst (λ (a : List Actor). Leaves old (record end { nodes = nodes; actors = a }) actor node output outcome) (sym is_actors) with_nodes

-- an outcome says which run it is of
module _ (old : Whole) (sound : IsSound old) (actor node : ℕ) (output : Bool) (outcome : Outcome) (ready : IsReady old actor node output outcome) where
  last_is : outcome.last ≡ ready.run.last
  last_is = ap (λ (o : Outcome). o.last) ready.is

  -- one look at a node tells whether it holds the run
  pub heir_here : is_heir outcome.last actor (node_at old.nodes node) ≡ carries actor (node_at old.nodes node)
  heir_here =
      ap (λ (k : ℕ). is_heir k actor (node_at old.nodes node)) last_is
      ∙ heir_at old.nodes old.actors sound.runs actor ready.number ready.run ready.job node (exists old sound actor node output outcome ready)

  pub first_here : position (is_heir outcome.last actor) old.nodes ≡ first_heir old.nodes actor
  first_here = ap (λ (k : ℕ). position (is_heir k actor) old.nodes) last_is ∙ heirs_agree old.nodes old.actors sound.runs actor ready.number ready.run ready.job

  pub inputs_here : (inputs : List ℕ) → inputs ≡ inputs_of (actor_in old.actors actor).job → inputs ≡ ready.run.inputs
  inputs_here inputs are = are ∙ ap inputs_of ready.job

  module _ (carried : carries actor (node_at old.nodes node) ≡ true) where
    pub first_left : (nodes : List NodeData) → nodes ≡ nodes_left old sound actor node output outcome ready → position (is_heir outcome.last actor) nodes ≡ first_heir (nodes_left old sound actor node output outcome ready) actor
    first_left nodes are =
        ap (position (is_heir outcome.last actor)) are
        ∙ ap (λ (k : ℕ). position (is_heir k actor) (nodes_left old sound actor node output outcome ready)) last_is
        ∙ heirs_agree (nodes_left old sound actor node output outcome ready) old.actors (runs_left old sound actor node output outcome ready carried) actor ready.number ready.run ready.job

    pub holds_here : HoldsRun (node_at old.nodes node) actor ready.run
    holds_here = holds old sound actor node ready.number ready.run ready.job ready.writes (exists old sound actor node output outcome ready) carried (output_of output ready.number)

    pub inputs_stand : (inputs : List ℕ) → inputs ≡ inputs_of (actor_in old.actors actor).job → inputs ≡ branches_from (node_at old.nodes node).lists outcome.first (outcome.last + 1)
    inputs_stand inputs are =
        inputs_here inputs are ∙ sym holds_here.inputs ∙ sym (ap (λ (o : Outcome). branches_from (node_at old.nodes node).lists o.first (o.last + 1)) ready.is)

    -- the run that is merged stands
    pub run_stands : (outcome.first ≤ outcome.last) × ((node_at old.nodes node).lists.first ≤ outcome.last) × (outcome.last < next_of (node_at old.nodes node).lists)
    run_stands =
        let first_is = ap (λ (o : Outcome). o.first) ready.is in
        let end_is = last_is in
        let there = holds_here.stands in
        let ordered = order old sound actor node ready.number ready.run ready.job ready.writes (exists old sound actor node output outcome ready) carried (output_of output ready.number) in
        (omega arith, omega (arith, there.0), omega (arith, there.1))

-- what is answered
module _ {B : Type 0} (whole : Whole) (actor node : ℕ) (output : Bool) (outcome : Outcome) (ready : ready_in whole actor node output ≡ Some outcome) where
  abbrev answered_if : Bool → Reply B
  answered_if b = cond b (next_answer (first_heir (served whole.nodes node outcome) actor)) (Elsewhere (first_heir whole.nodes actor))

  pub elsewhere_answer : carries actor (node_at whole.nodes node) ≡ false → install_answer {B = B} whole actor node output ≡ Elsewhere (first_heir whole.nodes actor)
  elsewhere_answer none = ap (where_ready {B = B} whole actor node) ready ∙ ap answered_if none

  pub served_answer : carries actor (node_at whole.nodes node) ≡ true → install_answer {B = B} whole actor node output ≡ next_answer (first_heir (served whole.nodes node outcome) actor)
  served_answer some = ap (where_ready {B = B} whole actor node) ready ∙ ap answered_if some

-- where no node holds the run, none has a mark
pub ended_all : (nodes : List NodeData) (actor : ℕ) → first_heir nodes actor ≡ None → (n : ℕ) → carries actor (node_at nodes n) ≡ false
ended_all nodes actor none n = elim (cases_lt n (length nodes)) [
  | inl within ↦ none_passes (carries actor) (fresh 0 bare) nodes none n within
  | inr past ↦ ap (carries actor) (get_or_past nodes n (fresh 0 bare) past)
]

-- the same, where the state is seen through its parts
pub ready_whole : (whole now : Whole) → whole ≡ now → (actor node : ℕ) (output : Bool) (result : Option Outcome) (outcome : Outcome) → result ≡ ready_in now actor node output → result ≡ Some outcome → IsReady whole actor node output outcome
ready_whole whole now view actor node output result outcome told is =
    ready_of whole actor node output outcome (subst (λ (w : Whole). ready_in w actor node output ≡ Some outcome) (sym view) (sym told ∙ is))

pub carries_is : (whole : Whole) (sound : IsSound whole) (actor node : ℕ) (output : Bool) (outcome : Outcome) → IsReady whole actor node output outcome → (test b : Bool) → test ≡ is_heir outcome.last actor (node_at whole.nodes node) → test ≡ b → carries actor (node_at whole.nodes node) ≡ b
carries_is whole sound actor node output outcome ready test b told is =
    sym (heir_here whole sound actor node output outcome ready) ∙ sym told ∙ is
