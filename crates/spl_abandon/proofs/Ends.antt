-- What the calls of the step make of a state, from the branches themselves to the whole.
use Rattle.std.proofs.Common.{◌≡◌, ℕ, ◌<◌, ◌++◌, Bool, true, List, Option, sym, ap, subst, ◌∙◌}
use Rattle.std.specs.Prelude.{All, slice_set}
use Rattle.std.specs.Option.{option_map}
use Rattle.spl_base.specs.declared.TheConstants.{ACTORS}
use Rattle.spl_message.specs.Rule.{Rule}
use Rattle.spl_extent.specs.declared.owner.Owner.{Owner}
use Rattle.spl_extent.specs.Pool.{granted_to, without_grants}
use Rattle.spl_holds.specs.declared.grip.Grip.{Grip}
use Rattle.spl_holds.specs.Holds.{without_actor}
use Rattle.spl_holds.specs.Latch.{IsLatched}
use Rattle.spl_node.specs.Node.{NodeData}
use Rattle.spl_refs.specs.Refs.{Published, branch_at, count_at}
use Rattle.spl_tables.specs.Memtables.{MemtableData, without_picks}
use Rattle.spl_trunk.specs.Trunk.{all_released}
use Rattle.spl_state.specs.declared.actor.Actor.{Actor}
use Rattle.spl_state.specs.Actor.{actor_in, cleared}
use Rattle.spl_state.specs.Extents.{AccountsForExtents, mentioned, named_by}
use Rattle.spl_state.specs.Frame.{IsFramed}
use Rattle.spl_state.specs.Names.{AreAccounted}
use Rattle.spl_state.specs.Sound.{IsSound, AreDrafts}
use Rattle.spl_state.specs.Whole.{BranchData, Whole}
use Rattle.spl_state.proofs.Accounts.{accounts_seen, accounts_there, renamed}
use Rattle.spl_state.proofs.Views.{all_seen, branch_seen, count_seen}
use Rattle.spl_abandon.specs.Abandoning.{HasAbandoned}
use Rattle.spl_abandon.proofs.Abandons.{abandoned, abandoned_framed, abandoned_sound, as_often, has_abandoned, left}

-- what the step promises of the state that it leaves
pub record Leaves (old new : Whole) (actor : ℕ) : Type 0 where
  pub sound : IsSound new
  pub done : HasAbandoned old new actor
  pub framed : (rule : Rule) (tells : Bool) → (tells ≡ true → AreDrafts rule old) → IsFramed rule tells old new actor

-- the state that the calls leave, part by part
made : (P : Whole → Type 0) (old : Whole) (actor : ℕ) (refs : Published BranchData) (after : List Owner) (nodes : List NodeData) (owners : List Owner) (grips : List (List Grip)) (tables : MemtableData) (actors : List Actor) → nodes ≡ all_released old.nodes actor → owners ≡ without_grants after actor → grips ≡ without_actor old.grips actor → tables ≡ without_picks old.tables actor → actors ≡ slice_set old.actors actor (cleared (actor_in old.actors actor))
    → P (abandoned old actor refs after) → P (record { nodes = nodes; refs = refs; owners = owners; grips = grips; tables = tables; actors = actors; counters = old.counters })
made P old actor refs after nodes owners grips tables actors is_nodes is_owners is_grips is_tables is_actors holds =
    let end = abandoned old actor refs after in
    let with_nodes = subst (λ (n : List NodeData). P (record end { nodes = n })) (sym is_nodes) holds in
    let with_owners = subst (λ (o : List Owner). P (record end { nodes = nodes; owners = o })) (sym is_owners) with_nodes in
    let with_grips = subst (λ (g : List (List Grip)). P (record end { nodes = nodes; owners = owners; grips = g })) (sym is_grips) with_owners in
    let with_tables = subst (λ (t : MemtableData). P (record end { nodes = nodes; owners = owners; grips = grips; tables = t })) (sym is_tables) with_grips in
    subst (λ (a : List Actor). P (record end { nodes = nodes; owners = owners; grips = grips; tables = tables; actors = a })) (sym is_actors) with_tables

module _ {B : Type 0} (extents_of : B → List ℕ) (data_of : B → BranchData) (same : (branch : B) → (data_of branch).extents ≡ extents_of branch) (old : Whole) (sound : IsSound old) (actor : ℕ) (known : actor < ACTORS) (refs : Published B) (is_refs : old.refs ≡ all_seen data_of refs) where
  there : AccountsForExtents (mentioned old.nodes old.actors) (count_at (all_seen data_of refs)) (branch_at (all_seen data_of refs)) old.owners
  there = subst (λ (r : Published BranchData). AccountsForExtents (mentioned old.nodes old.actors) (count_at r) (branch_at r) old.owners) is_refs sound.extents

  -- what the actor's job names, and then the rest
  pub named_first : (a : Actor) → a ≡ actor_in old.actors actor → AreAccounted extents_of (named_by a ++ left old sound actor known) refs old.owners
  named_first a is =
      subst (λ (b : Actor). AreAccounted extents_of (named_by b ++ left old sound actor known) refs old.owners) (sym is)
      (renamed extents_of data_of same (mentioned old.nodes old.actors) (named_by (actor_in old.actors actor) ++ left old sound actor known) refs old.owners (as_often old sound actor known)
      (accounts_there extents_of data_of same (mentioned old.nodes old.actors) refs old.owners there))

  stays_seen : (new : Published B) → ((n : ℕ) → 0 < count_at new n → branch_at new n ≡ branch_at refs n) → (n : ℕ) → 0 < count_at (all_seen data_of new) n → branch_at (all_seen data_of new) n ≡ branch_at old.refs n
  stays_seen new stays n some =
      branch_seen data_of new n
      ∙ ap (λ (o : Option B). option_map data_of o) (stays n (subst (λ (count : ℕ). 0 < count) (count_seen data_of new n) some))
      ∙ sym (branch_seen data_of refs n)
      ∙ sym (ap (λ (r : Published BranchData). branch_at r n) is_refs)

  pub leaves : (new : Published B) (after : List Owner) (nodes : List NodeData) (owners : List Owner) (grips : List (List Grip)) (tables : MemtableData) (actors : List Actor) → AreAccounted extents_of (left old sound actor known) new after → ((n : ℕ) → 0 < count_at new n → branch_at new n ≡ branch_at refs n) → ((other : ℕ) → granted_to after other ≡ granted_to old.owners other)
      → nodes ≡ all_released old.nodes actor → owners ≡ without_grants after actor → grips ≡ without_actor old.grips actor → All IsLatched grips → tables ≡ without_picks old.tables actor → actors ≡ slice_set old.actors actor (cleared (actor_in old.actors actor))
      → Leaves old (record { nodes = nodes; refs = all_seen data_of new; owners = owners; grips = grips; tables = tables; actors = actors; counters = old.counters }) actor
  leaves new after nodes owners grips tables actors accounted stays granted is_nodes is_owners is_grips latched is_tables is_actors =
      let accounts = accounts_seen extents_of data_of same (left old sound actor known) new after accounted in
      let still = stays_seen new stays in
      let all = subst (λ (g : List (List Grip)). All IsLatched g) is_grips latched in
      made (λ (w : Whole). Leaves old w actor) old actor (all_seen data_of new) after nodes owners grips tables actors is_nodes is_owners is_grips is_tables is_actors (record {
        sound = abandoned_sound old sound actor known (all_seen data_of new) after accounts still granted all;
        done = has_abandoned old sound actor known (all_seen data_of new) after accounts still granted;
        framed = abandoned_framed old sound actor known (all_seen data_of new) after accounts still granted;
      })
