-- What splitting a node makes of what an actor has.
use Rattle.std.proofs.Common.{◌≡◌, ◌≢◌, ℕ, Bool, true, false, cond, List, [], ◌∷◌, ◌++◌, Option, Some, None, length, refl, sym, ap, subst, ◌∙◌}
use Rattle.std.specs.Prelude.{◌==◌, ◌&&◌, not}
use Rattle.std.proofs.lemmas.Bool.{false≢true}
use Rattle.spl_message.specs.History.{History}
use Rattle.spl_holds.specs.declared.grip.Grip.TheVariants.{Write}
use Rattle.spl_holds.specs.Grip.{is_write}
use Rattle.spl_holds.specs.Holds.{grip_of}
use Rattle.spl_holds.specs.Latch.{nobody}
use Rattle.spl_holds.proofs.HoldsLemmas.{grip_of-added}
use Rattle.spl_node.specs.declared.node.TheConstants.{MAX_PIVOTS}
use Rattle.spl_trunk.specs.declared.trunk.TheConstants.{MAX_NODES}
use Rattle.spl_trunk.specs.Moves.{divided}
use Rattle.spl_trunk.specs.Trunk.{node_at, pivots_at}
use Rattle.spl_state.specs.declared.job.Job.{Job}
use Rattle.spl_state.specs.declared.job.Job.TheVariants.{Merge, Pack}
use Rattle.spl_state.specs.declared.reply.Reply.{Reply}
use Rattle.spl_state.specs.declared.reply.Reply.TheVariants as reply
use Rattle.spl_state.specs.Frame.{refused}
use Rattle.spl_state.specs.Reply.{state_of}
use Rattle.spl_state.specs.Sight.{SeesSource}
use Rattle.spl_state.specs.Whole.{Whole, branches}
use Rattle.spl_split.specs.Splitting.{HasSplit, answer_at, is_split_key, pivot_to, writes_both}
use Rattle.spl_core.specs.declared.step.Step.TheVariants.{Split}
use Rattle.spl_core.specs.Steps.{IsSplit}
use Rattle.spl_desk.specs.Holder.{BranchKind, Holder, IsSameHolder}
use Rattle.spl_desk.specs.Turn.{MadeTurn}
use Rattle.spl_desk.proofs.Walks.{step_made}
use Rattle.spl_job.specs.Holding.{HasHolding, Holding, Holds, IsHolding}
use Rattle.spl_job.specs.Merging.{split_in}
use Rattle.spl_job.proofs.Dues.{can_split}
use Rattle.spl_job.proofs.Holds.{before_has, kept_sources, now_holding, stays_has}

-- an actor that writes the parent and the child
abbrev MaySplit : Holder → ℕ → ℕ → Type 0
MaySplit holder parent child = (p : Holding) × Holds holder p × (p.grips parent ≡ Write) × (p.grips child ≡ Write)

module _ {B : Type 0} where
  not_done : (r : Reply B) → r ≡ reply.Done → r ≡ reply.NoMemory → ⊥
  not_done r a b = cc

  not_moved : (r : Reply B) (child : ℕ) → r ≡ reply.Moved child → r ≡ reply.NoMemory → ⊥
  not_moved r child a b = cc

  not_outside : (r : Reply B) → r ≡ reply.Outside → r ≡ reply.NoMemory → ⊥
  not_outside r a b = cc

  outside_moved : (r : Reply B) (child : ℕ) → r ≡ reply.Outside → r ≡ reply.Moved child → ⊥
  outside_moved r child a b = cc

  -- what the tests behind the pivot's leave
  abbrev tested : Bool → Bool → Bool → Reply B
  tested inside wide full = cond (not inside) reply.Outside (cond wide (reply.Pivots MAX_PIVOTS) (cond full (reply.Nodes MAX_NODES) reply.Done))

  tested_outside : (inside wide full : Bool) (r : Reply B) → inside ≡ true → r ≡ reply.Outside → r ≡ tested inside wide full → ⊥
  tested_outside false wide full r is a b = false≢true is
  tested_outside true true full r is a b = cc
  tested_outside true false true r is a b = cc
  tested_outside true false false r is a b = cc

  tested_moved : (inside wide full : Bool) (r : Reply B) (child : ℕ) → r ≡ reply.Moved child → r ≡ tested inside wide full → ⊥
  tested_moved false wide full r child a b = cc
  tested_moved true true full r child a b = cc
  tested_moved true false true r child a b = cc
  tested_moved true false false r child a b = cc

module _ {B : Type 0} (kind : BranchKind B) (old new : Holder) (history : History) (answer : Reply B) (Saw : History → Type 0) (same : IsSameHolder old new 1) (parent child : ℕ) (key : List ℕ) (turn : MadeTurn kind old new history (Split parent child key) answer Saw) (may : MaySplit old parent child) where
  abbrev was : Whole
  was = refused turn.turn.before

  abbrev way : Option ℕ
  way = pivot_to (pivots_at was.nodes parent) child

  split_step : IsSplit was old.actor parent child key answer new.at
  split_step = step_made kind old new history (Split parent child key) answer Saw turn

  -- nobody else changes where the child is to be split while the actor writes it
  pub split_due : split_in turn.turn.before child ≡ split_in old.at child
  split_due = (turn.legal.kept.written child (may.1.grips child ∙ may.3)).split

  both : writes_both was old.actor parent child ≡ true
  both =
      let has = before_has kind old new history (Split parent child key) answer Saw turn may.0 may.1 in
      ap (λ (b : Bool). b && is_write (grip_of was.grips old.actor child)) (ap is_write (has.grips parent ∙ may.2))
      ∙ ap is_write (has.grips child ∙ may.3)

  split_is : answer ≢ reply.NoMemory → answer ≡ answer_at was parent child key way
  split_is memory =
      split_step.answer memory ∙ ap (λ (b : Bool). cond (not b) (reply.Unfit (state_of was old.actor)) (answer_at was parent child key way)) both

  pub split_answers : answer ≢ reply.Done → ((other : ℕ) → answer ≢ reply.Moved other) → answer ≢ reply.Outside → ((pivots : ℕ) → answer ≢ reply.Pivots pivots) → ((nodes : ℕ) → answer ≢ reply.Nodes nodes) → answer ≢ reply.NoMemory → ⊥
  split_answers done moved outside pivots nodes memory = by way (split_is memory)
    where
      by_tests : (inside wide full : Bool) → answer ≡ tested inside wide full → ⊥
      by_tests false wide full is = outside is
      by_tests true true full is = pivots MAX_PIVOTS is
      by_tests true false true is = nodes MAX_NODES is
      by_tests true false false is = done is

      by : (at : Option ℕ) → answer ≡ answer_at was parent child key at → ⊥
      by None is = moved child is
      by (Some at) is =
          by_tests (is_split_key (node_at was.nodes child) key) (length (pivots_at was.nodes parent) == MAX_PIVOTS) (length was.nodes == MAX_NODES) is

  -- at the key at which it is to be split the child can be split
  pub split_inside : split_in old.at child ≡ Some key → answer ≡ reply.Outside → ⊥
  split_inside due given = by way (split_is (not_outside answer given))
    where
      inside : is_split_key (node_at was.nodes child) key ≡ true
      inside = can_split (branches was) (node_at was.nodes child) key (split_due ∙ due)

      by : (at : Option ℕ) → answer ≡ answer_at was parent child key at → ⊥
      by None is = outside_moved answer child given is
      by (Some at) is =
          tested_outside (is_split_key (node_at was.nodes child) key) (length (pivots_at was.nodes parent) == MAX_PIVOTS) (length was.nodes == MAX_NODES) answer inside given is

  -- where no pivot leads to a child it is this one
  pub split_moved : (other : ℕ) → answer ≡ reply.Moved other → answer ≡ reply.Moved child
  split_moved other given = by way (split_is (not_moved answer other given))
    where
      by : (at : Option ℕ) → answer ≡ answer_at was parent child key at → answer ≡ reply.Moved child
      by None is = is
      by (Some at) is =
          absurd (tested_moved (is_split_key (node_at was.nodes child) key) (length (pivots_at was.nodes parent) == MAX_PIVOTS) (length was.nodes == MAX_NODES) answer other given is)

  module _ (done : answer ≡ reply.Done) where
    led : (at : ℕ) × (way ≡ Some at)
    led = by way refl (split_is (not_done answer done))
      where
        moved_done : (r : Reply B) → r ≡ reply.Done → r ≡ reply.Moved child → ⊥
        moved_done r a b = cc

        by : (at : Option ℕ) → way ≡ at → answer ≡ answer_at was parent child key at → (one : ℕ) × (way ≡ Some one)
        by None found is = absurd (moved_done answer done is)
        by (Some at) found is = (at, found)

    divides : HasSplit was new.at parent led.0 child key
    divides = split_step.done led.0 led.1 done

    abbrev after : Whole
    after = record was { nodes = divided was.nodes parent led.0 child key; refs = new.at.refs; grips = was.grips ++ nobody ∷ [] }

    sees : (job : Job) → SeesSource was after job
    sees (Pack number table) = λ i source at is. (i, at)
    sees (Merge number run) = λ n among. divides.branches n

    split_has : (p : Holding) → Holds old p → HasHolding after old.actor p
    split_has p holds =
        let has = before_has kind old new history (Split parent child key) answer Saw turn p holds in
        record {
          descent = has.descent;
          job = has.job;
          published = has.published;
          told = has.told;
          grips = λ node. grip_of-added was.grips old.actor node ∙ has.grips node;
          extents = has.extents;
          sources = kept_sources was after p.tables p.job (λ job is. sees job) has.sources;
        }

    pub split_done : (p : Holding) → Holds old p → IsHolding new p
    split_done p holds =
        now_holding kind old new history (Split parent child key) answer Saw turn p same.actor
        (subst (λ (w : Whole). HasHolding w old.actor p) (sym divides.all) (split_has p holds))

  -- every other answer changes nothing
  split_kept : answer ≢ reply.Done → (p : Holding) → Holds old p → IsHolding new p
  split_kept not_so p holds = stays_has kind old new history (Split parent child key) answer Saw turn p same.actor (split_step.refused not_so) holds

  pub split_away : (other : ℕ) → answer ≡ reply.Moved other → (p : Holding) → Holds old p → IsHolding new p
  split_away other is = split_kept (λ done. apart answer is done)
    where
      apart : (r : Reply B) → r ≡ reply.Moved other → r ≡ reply.Done → ⊥
      apart r a b = cc

  pub split_outside : answer ≡ reply.Outside → (p : Holding) → Holds old p → IsHolding new p
  split_outside is = split_kept (λ done. apart answer is done)
    where
      apart : (r : Reply B) → r ≡ reply.Outside → r ≡ reply.Done → ⊥
      apart r a b = cc

  pub split_pivots : (pivots : ℕ) → answer ≡ reply.Pivots pivots → (p : Holding) → Holds old p → IsHolding new p
  split_pivots pivots is = split_kept (λ done. apart answer is done)
    where
      apart : (r : Reply B) → r ≡ reply.Pivots pivots → r ≡ reply.Done → ⊥
      apart r a b = cc

  pub split_nodes : (nodes : ℕ) → answer ≡ reply.Nodes nodes → (p : Holding) → Holds old p → IsHolding new p
  split_nodes nodes is = split_kept (λ done. apart answer is done)
    where
      apart : (r : Reply B) → r ≡ reply.Nodes nodes → r ≡ reply.Done → ⊥
      apart r a b = cc

  pub split_memory : answer ≡ reply.NoMemory → (p : Holding) → Holds old p → IsHolding new p
  split_memory is = split_kept (λ done. apart answer is done)
    where
      apart : (r : Reply B) → r ≡ reply.NoMemory → r ≡ reply.Done → ⊥
      apart r a b = cc
