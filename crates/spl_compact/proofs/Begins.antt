-- What the calls of the begin of a merge make of a state, from the branches themselves to the whole.
use Rattle.std.proofs.Common.{◌≡◌, ℕ, zero, suc, ◌+◌, ◌<◌, ◌≤◌, Bool, true, false, cond, nat_lt, List, [], ◌∷◌, Option, Some, None, length, set, refl, sym, ap, subst, ◌∙◌, arith}
use Rattle.std.specs.Prelude.{find, not, ◌&&◌}
use Rattle.std.specs.Option.{option_map}
use Rattle.std.proofs.lemmas.Bool.{ltb-true, ltb-false, false≢true}
use Rattle.spl_base.specs.declared.TheConstants.{ACTORS}
use Rattle.spl_message.specs.Rule.{Rule}
use Rattle.spl_bundle.specs.Numbered.{Numbered, next_of, marked}
use Rattle.spl_node.specs.declared.pivot.Pivot.{Pivot}
use Rattle.spl_node.specs.Node.{NodeData}
use Rattle.spl_refs.specs.Refs.{Published, branch_at, count_at}
use Rattle.spl_trunk.specs.Trunk.{node_at, with_lists_at}
use Rattle.spl_trunk.specs.Tree.{times, IsShaped}
use Rattle.spl_state.specs.declared.actor.Actor.{Actor}
use Rattle.spl_state.specs.declared.job.Job.TheVariants.{Merge}
use Rattle.spl_state.specs.declared.job.Run.{Run}
use Rattle.spl_state.specs.declared.reply.Reply.{Reply}
use Rattle.spl_state.specs.declared.reply.Reply.TheVariants.{Gone}
use Rattle.spl_state.specs.Actor.{actor_in, with_job, told_of}
use Rattle.spl_state.specs.Bounds.{AreBelow}
use Rattle.spl_state.specs.Frame.{IsFramed}
use Rattle.spl_state.specs.Sound.{IsSound, AreDrafts}
use Rattle.spl_state.specs.Whole.{BranchData, Whole, branches, counts}
use Rattle.spl_state.proofs.Replaced.{this_actor}
use Rattle.spl_state.proofs.Views.{all_seen, branch_seen, count_seen}
use Rattle.spl_compact.specs.Starting.{Starts, is_busy, all_stand, crosses, first_owner, run_below, run_at, started_with, refusal_at, unless_crossed, unless_marked}
use Rattle.spl_compact.proofs.Held.{times_most}
use Rattle.spl_compact.proofs.Starts.{started_sound, started_framed, started_is}

-- the bundles stand, no pivot parts them, and none is marked
pub record Takes (node : NodeData) (first last : ℕ) : Type 0 where
  pub stands : node.lists.first ≤ first
  pub order : first ≤ last
  pub made : last < next_of node.lists
  pub uncrossed : find (crosses first last) node.pivots ≡ None
  pub unmarked : first_owner (run_below node.lists first (last + 1)) ≡ None

all_stand_is : (queue : Numbered) (first last : ℕ) → all_stand queue first last ≡ true → (queue.first ≤ first) × (first ≤ last) × (last < next_of queue)
all_stand_is queue first last all = by (nat_lt last first) (nat_lt first queue.first) (nat_lt last (next_of queue)) refl refl refl all
  where
    by : (a b c : Bool) → nat_lt last first ≡ a → nat_lt first queue.first ≡ b → nat_lt last (next_of queue) ≡ c → (not a && (not b && c)) ≡ true → (queue.first ≤ first) × (first ≤ last) × (last < next_of queue)
    by true b c is_a is_b is_c e = absurd (false≢true e)
    by false true c is_a is_b is_c e = absurd (false≢true e)
    by false false false is_a is_b is_c e = absurd (false≢true e)
    by false false true is_a is_b is_c e = (ltb-false first queue.first is_b, ltb-false last first is_a, ltb-true last (next_of queue) is_c)

module _ {B : Type 0} where
  crossed_none : (pivot : Option Pivot) (refusal : Option (Reply B)) → unless_crossed {B = B} pivot refusal ≡ None → (pivot ≡ None) × (refusal ≡ None)
  crossed_none None refusal none = (refl, none)
  crossed_none (Some pivot) refusal none = cc

  marked_none : (owner : Option ℕ) → unless_marked {B = B} owner ≡ None → owner ≡ None
  marked_none None none = refl
  marked_none (Some by) none = cc

  only_then : (all : Bool) (refusal : Option (Reply B)) (refused : Reply B) → cond all refusal (Some refused) ≡ None → (all ≡ true) × (refusal ≡ None)
  only_then true refusal refused none = (refl, none)
  only_then false refusal refused none = cc

  pub takes_of : (node : NodeData) (first last : ℕ) → refusal_at {B = B} node first last ≡ None → Takes node first last
  takes_of node first last none =
      let all = only_then (all_stand node.lists first last) (unless_crossed (find (crosses first last) node.pivots) (unless_marked (first_owner (run_below node.lists first (last + 1))))) (Gone last node.lists.first) none in
      let stand = all_stand_is node.lists first last all.0 in
      let parts = crossed_none (find (crosses first last) node.pivots) (unless_marked (first_owner (run_below node.lists first (last + 1)))) all.1 in
      record {
        stands = stand.0;
        order = stand.1;
        made = stand.2;
        uncrossed = parts.0;
        unmarked = marked_none (first_owner (run_below node.lists first (last + 1))) parts.1;
      }

pub twice : {A : Type 0} (xs : List A) (i : ℕ) (a b : A) → set (set xs i a) i b ≡ set xs i b
twice [] i a b = refl
twice (x ∷ xs) zero a b = refl
twice (x ∷ xs) (suc i) a b = ap (λ (rest : List _). x ∷ rest) (twice xs i a b)

-- the actor gets its job, and is told of the node
pub worker_is : (actors given told : List Actor) (count : length actors ≡ ACTORS) (actor node : ℕ) (known : actor < ACTORS) (number : ℕ) (run mine : Run) → mine ≡ run → given ≡ set actors actor (with_job (actor_in actors actor) (Some (Merge number mine))) → told ≡ set given actor (told_of (actor_in given actor) node)
    → told ≡ set actors actor (told_of (with_job (actor_in actors actor) (Some (Merge number run))) node)
worker_is actors given told count actor node known number run mine same is_given is_told =
    let worker = with_job (actor_in actors actor) (Some (Merge number mine)) in
    is_told
    ∙ ap (λ (g : List Actor). set g actor (told_of (actor_in g actor) node)) is_given
    ∙ ap (λ (a : Actor). set (set actors actor worker) actor (told_of a node)) (this_actor actors count actor known worker)
    ∙ twice actors actor worker (told_of worker node)
    ∙ ap (λ (r : Run). set actors actor (told_of (with_job (actor_in actors actor) (Some (Merge number r))) node)) same

-- what the step promises of the state that it leaves
pub record Leaves (old new : Whole) (actor node first last : ℕ) : Type 0 where
  pub sound : IsSound new
  pub done : Starts old new actor node first last
  pub few : (n : ℕ) → counts new n ≤ counts old n + 768
  pub framed : (rule : Rule) (tells : Bool) → (tells ≡ true → AreDrafts rule old) → IsFramed rule tells old new actor

module _ {B : Type 0} (data_of : B → BranchData) (old : Whole) (sound : IsSound old) (actor node first last : ℕ) (known : actor < ACTORS) (is_idle : is_busy (actor_in old.actors actor) ≡ false) (exists : node < length old.nodes) (takes : Takes (node_at old.nodes node) first last) (refs now : Published B) (is_refs : old.refs ≡ all_seen data_of refs) (held : (n : ℕ) → count_at now n ≡ count_at refs n + times n (run_at old node first last).inputs) (same : (n : ℕ) → branch_at now n ≡ branch_at refs n) where
  counted : (n : ℕ) → count_at (all_seen data_of now) n ≡ counts old n + times n (run_at old node first last).inputs
  counted n =
      let before = sym (count_seen data_of refs n) ∙ sym (ap (λ (r : Published BranchData). count_at r n) is_refs) in
      count_seen data_of now n ∙ held n ∙ ap (λ (count : ℕ). count + times n (run_at old node first last).inputs) before

  same_seen : (n : ℕ) → branch_at (all_seen data_of now) n ≡ branches old n
  same_seen n =
      branch_seen data_of now n
      ∙ ap (λ (o : Option B). option_map data_of o) (same n)
      ∙ sym (branch_seen data_of refs n)
      ∙ sym (ap (λ (r : Published BranchData). branch_at r n) is_refs)

  pub leaves : (nodes : List NodeData) (actors : List Actor) → length (run_at old node first last).inputs ≤ 768 → AreBelow old.nodes old.tables old.counters → nodes ≡ with_lists_at old.nodes node (marked (node_at old.nodes node).lists first last (Some actor)) → IsShaped nodes
      → actors ≡ set old.actors actor (told_of (with_job (actor_in old.actors actor) (Some (Merge old.counters.branches (run_at old node first last)))) node)
      → Leaves old (record old { nodes = nodes; refs = all_seen data_of now; actors = actors; counters = record old.counters { branches = old.counters.branches + 1 } }) actor node first last
  leaves nodes actors few room is_nodes shaped is_actors =
      let end = started_with old (all_seen data_of now) actor node first last in
      let here : Leaves old end actor node first last = record {
        sound = started_sound old sound actor node first last known is_idle exists takes.stands takes.order takes.made takes.uncrossed takes.unmarked (all_seen data_of now) counted same_seen room (subst IsShaped is_nodes shaped);
        done = started_is old sound actor node first last known is_idle exists takes.stands takes.order takes.made takes.uncrossed takes.unmarked (all_seen data_of now) counted same_seen;
        few = λ n. let is = counted n in let most = times_most n (run_at old node first last).inputs in omega arith;
        framed = started_framed old sound actor node first last known is_idle exists takes.stands takes.order takes.made takes.uncrossed takes.unmarked (all_seen data_of now) counted same_seen;
      } in
      let with_nodes = subst (λ (n : List NodeData). Leaves old (record end { nodes = n }) actor node first last) (sym is_nodes) here in
      subst (λ (a : List Actor). Leaves old (record end { nodes = nodes; actors = a }) actor node first last) (sym is_actors) with_nodes
