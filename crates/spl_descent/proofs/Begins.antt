-- What a descent that begins makes of the state, and what its sight says.
use Rattle.std.proofs.Common.{◌≡◌, ℕ, ◌+◌, ◌<◌, Bool, false, List, Some, length, map, set, sym, ap, ap₂, subst, ◌∙◌}
use Rattle.spl_base.specs.declared.TheConstants.{ACTORS}
use Rattle.spl_message.specs.declared.message.Message.{Message}
use Rattle.spl_message.specs.declared.span.Span.{Span}
use Rattle.spl_message.specs.Message.{act_all}
use Rattle.spl_message.specs.Rule.{Rule}
use Rattle.spl_message.specs.Span.{InSpan}
use Rattle.spl_message.specs.Table.{Table, chain, part_of}
use Rattle.spl_holds.specs.declared.grip.Grip.{Grip}
use Rattle.spl_holds.specs.declared.grip.Grip.TheVariants.{Read}
use Rattle.spl_holds.specs.Holds.{with_grip}
use Rattle.spl_tables.specs.Memtables.{tables_of}
use Rattle.spl_tables.proofs.Chains.{chain-parts}
use Rattle.spl_state.specs.declared.descent.Descent.{Descent}
use Rattle.spl_state.specs.declared.actor.Actor.{Actor}
use Rattle.spl_state.specs.declared.reply.ActorState.{ActorState}
use Rattle.spl_state.specs.Actor.{actor_in, with_descent, told_of}
use Rattle.spl_state.specs.Reply.{state_of}
use Rattle.spl_state.specs.Sound.{IsSound}
use Rattle.spl_state.specs.Whole.{BranchData, Whole, branches}
use Rattle.spl_descent.specs.Descents.{arrived, begun, first_descent, is_busy, live_under}
use Rattle.spl_descent.specs.Sights.{AreBranches, IsRight, MeansRight, rest}
use Rattle.spl_trunk.specs.Trunk.{node_at}
use Rattle.spl_descent.proofs.Arrivals.{IsAtRest, at_rest, arrived_in, root_lies}
use Rattle.spl_descent.proofs.Named.{shared_tables}
use Rattle.spl_descent.proofs.Rights.{right_at}

-- the test of the actor's state
pub rest_where : (old before : Whole) (actor : ℕ) (state : ActorState) (busy : Bool) → busy ≡ is_busy state → state ≡ state_of before actor → before ≡ old → busy ≡ false → IsAtRest old actor
rest_where old before actor state busy is_test is_state is_old at_ease =
    at_rest old actor (ap (λ (w : Whole). is_busy (state_of w actor)) (sym is_old) ∙ ap is_busy (sym is_state) ∙ sym is_test ∙ at_ease)

-- the descent is given first, and then its node is told
pub arrived_where : (actors given told : List Actor) (actor node : ℕ) (mine descent : Descent) → actor < length actors → mine ≡ descent → node ≡ descent.node → given ≡ set actors actor (with_descent (actor_in actors actor) (Some mine)) → told ≡ set given actor (told_of (actor_in given actor) node) → told ≡ set actors actor (arrived (actor_in actors actor) descent)
arrived_where actors given told actor node mine descent within is_mine is_node are_given are_told =
    let given_is : given ≡ set actors actor (with_descent (actor_in actors actor) (Some descent)) = are_given ∙ ap (λ (d : Descent). set actors actor (with_descent (actor_in actors actor) (Some d))) is_mine in
    are_told
    ∙ ap₂ (λ (g : List Actor) (n : ℕ). set g actor (told_of (actor_in g actor) n)) given_is is_node
    ∙ arrived_in actors actor descent within

module _ (old : Whole) (actor : ℕ) (span : Span) where
  pub begun_where : (grips : List (List Grip)) (actors : List Actor) → grips ≡ with_grip old.grips actor 0 Read → actors ≡ set old.actors actor (arrived (actor_in old.actors actor) (first_descent old span)) → record old { grips = grips; actors = actors; counters = record old.counters { places = old.counters.places + 1 } } ≡ begun old actor span
  begun_where grips actors are_read are_set =
      ap₂ (λ (g : List (List Grip)) (a : List Actor). record old { grips = g; actors = a; counters = record old.counters { places = old.counters.places + 1 } }) are_read are_set

  -- the memtables of the sight tell what the store has
  pub means_at : (rule : Rule) (under : Span) (tables : List Table) → under ≡ (first_descent old span).span → tables ≡ map (part_of under) (tables_of old.tables) → MeansRight rule old (first_descent old span) tables
  means_at rule under tables is_under are_parts key inside =
      let here : InSpan under key = subst (λ (s : Span). InSpan s key) (sym is_under) inside in
      let parts : chain tables key ≡ chain (tables_of old.tables) key = ap (λ (ts : List Table). chain ts key) are_parts ∙ chain-parts under key here (tables_of old.tables) in
      ap (λ (ms : List Message). act_all rule key (rest rule old 0 key) ms) (sym parts)

module _ {B : Type 0} (number_of : B → ℕ) (table_of : B → Table) (data_of : B → BranchData) (same : (b : B) → (data_of b).table ≡ table_of b) (old : Whole) (sound : IsSound old) where
  -- the branches of a sight of the root tell what the root has
  pub right_first : (actor : ℕ) (span : Span) (shared : List B) (rule : Rule) → actor < ACTORS → AreBranches number_of data_of (branches old) (live_under (node_at old.nodes 0) (first_descent old span).span) shared → IsRight rule old (first_descent old span) (map table_of shared)
  right_first actor span shared rule known are =
      right_at rule old sound (first_descent old span) sound.shaped.some (root_lies old actor span sound known) (map table_of shared)
      (shared_tables number_of table_of data_of same (branches old) (live_under (node_at old.nodes 0) (first_descent old span).span) shared are)
