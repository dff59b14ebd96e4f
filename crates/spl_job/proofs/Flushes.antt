-- What passing bundles on to a child makes of what an actor has.
use Rattle.std.proofs.Common.{◌≡◌, ◌≢◌, ℕ, ◌<◌, Bool, true, false, cond, nat_lt, List, Option, Some, None, length, refl, sym, ap, subst, ◌∙◌, arith}
use Rattle.std.specs.Prelude.{◌&&◌}
use Rattle.spl_base.specs.declared.TheConstants.{ACTORS}
use Rattle.spl_message.specs.History.{History}
use Rattle.spl_message.specs.Table.{Table}
use Rattle.spl_numbers.specs.Numbers.{ListsEach}
use Rattle.spl_bundle.specs.declared.bundles.TheConstants.{MAX_LISTS, MAX_BRANCHES}
use Rattle.spl_node.specs.Node.{live_at}
use Rattle.spl_trunk.specs.Trunk.{node_at}
use Rattle.spl_trunk.specs.Tree.{times}
use Rattle.spl_holds.specs.declared.grip.Grip.{Grip}
use Rattle.spl_holds.specs.declared.grip.Grip.TheVariants.{Write}
use Rattle.spl_holds.specs.Grip.{is_write}
use Rattle.spl_holds.specs.Holds.{grip_of}
use Rattle.spl_tables.specs.Memtables.{MemtableData}
use Rattle.spl_state.specs.declared.actor.Actor.{Actor}
use Rattle.spl_state.specs.declared.job.Job.{Job}
use Rattle.spl_state.specs.declared.job.Job.TheVariants.{Merge, Pack}
use Rattle.spl_state.specs.declared.reply.Reply.{Reply}
use Rattle.spl_state.specs.declared.reply.Reply.TheVariants as reply
use Rattle.spl_state.specs.Actor.{actor_in}
use Rattle.spl_state.specs.Extents.{mentioned}
use Rattle.spl_state.specs.Frame.{refused}
use Rattle.spl_state.specs.Reply.{state_of}
use Rattle.spl_state.specs.Sound.{IsSound}
use Rattle.spl_state.specs.Whole.{BranchData, Whole, branches, counts, table_in, table_or}
use Rattle.spl_state.proofs.Named.{same_map}
use Rattle.spl_flush.specs.Flushing.{IsFlushed, pivot_to, where_led, writes}
use Rattle.spl_core.specs.declared.step.Step.TheVariants.{Flush}
use Rattle.spl_core.specs.Steps.{IsFlush}
use Rattle.spl_desk.specs.Holder.{BranchKind, Holder, IsSameHolder}
use Rattle.spl_desk.specs.Turn.{MadeTurn}
use Rattle.spl_desk.proofs.Walks.{step_made}
use Rattle.spl_job.specs.Holding.{AreSources, HasHolding, Holding, IsHolding}
use Rattle.spl_job.proofs.Holds.{before_holding, now_holding, stays_holding}
use Rattle.spl_job.proofs.Installs.{reads_named}

-- the tables that go into a job's branch stay
flushed_sources : (was now : Whole) (parent pivot child actor : ℕ) → IsFlushed was now parent pivot child → IsSound now → actor < ACTORS → (tables : List Table) (job : Option Job) → (actor_in now.actors actor).job ≡ job → AreSources was.tables.frozen (branches was) tables job → AreSources now.tables.frozen (branches now) tables job
flushed_sources was now parent pivot child actor flushed sound known tables None mine sources = sources
flushed_sources was now parent pivot child actor flushed sound known tables (Some (Pack number memtable)) mine sources =
    subst (λ (m : MemtableData). AreSources m.frozen (branches now) tables (Some (Pack number memtable))) (sym flushed.tables) sources
flushed_sources was now parent pivot child actor flushed sound known tables (Some (Merge number run)) mine sources =
    let within : actor < length now.actors = let count = sound.count in omega (arith, count, known) in
    sources
    ∙ same_map (table_in (branches was)) (table_in (branches now)) run.inputs (λ n some.
    let count : counts now n ≡ times n (mentioned now.nodes now.actors) = sound.extents.counts n in
    let named : 0 < times n (mentioned now.nodes now.actors) = reads_named now.nodes now.actors actor number run within mine n some in
    sym (ap (λ (d : Option BranchData). table_or d) (flushed.still n (omega (arith, count, named)))))

-- and so does all that an actor has
flushed_holding : (was now : Whole) (parent pivot child actor : ℕ) → IsFlushed was now parent pivot child → IsSound now → actor < ACTORS → (p : Holding) → HasHolding was actor p → HasHolding now actor p
flushed_holding was now parent pivot child actor flushed sound known p has =
    let mine : actor_in now.actors actor ≡ actor_in was.actors actor = ap (λ (all : List Actor). actor_in all actor) flushed.actors in
    let job : (actor_in now.actors actor).job ≡ p.job = ap (λ (a : Actor). a.job) mine ∙ has.job in
    record {
      descent = ap (λ (a : Actor). a.descent) mine ∙ has.descent;
      job = job;
      published = ap (λ (a : Actor). a.published) mine ∙ has.published;
      told = ap (λ (a : Actor). a.told) mine ∙ has.told;
      grips = λ n. ap (λ (grips : List (List Grip)). grip_of grips actor n) flushed.grips ∙ has.grips n;
      extents = subst (λ (members : List Bool). ListsEach p.extents members) (sym (flushed.granted actor)) has.extents;
      sources = flushed_sources was now parent pivot child actor flushed sound known p.tables p.job job has.sources;
    }

module _ {B : Type 0} where
  -- no answer is two of them
  pub moved_not_done : (r : Reply B) (n : ℕ) → r ≡ reply.Moved n → r ≡ reply.Done → ⊥
  moved_not_done r n a b = cc

  pub room_not_done : (r : Reply B) → r ≡ reply.NeedsRoom → r ≡ reply.Done → ⊥
  room_not_done r a b = cc

  pub compact_not_done : (r : Reply B) (n : ℕ) → r ≡ reply.NeedsCompact n → r ≡ reply.Done → ⊥
  compact_not_done r n a b = cc

  moved_not_room : (r : Reply B) (n : ℕ) → r ≡ reply.Moved n → r ≡ reply.NeedsRoom → ⊥
  moved_not_room r n a b = cc

  moved_not_compact : (r : Reply B) (n m : ℕ) → r ≡ reply.Moved n → r ≡ reply.NeedsCompact m → ⊥
  moved_not_compact r n m a b = cc

  -- one of the answers of a child that the parent leads to
  by_room : (answer : Reply B) (room many : Bool) (branches : ℕ) → answer ≡ cond room (cond many (reply.NeedsCompact branches) reply.Done) reply.NeedsRoom → answer ≢ reply.Done → answer ≢ reply.NeedsRoom → ((n : ℕ) → answer ≢ reply.NeedsCompact n) → ⊥
  by_room answer true true branches is done room compact = compact branches is
  by_room answer true false branches is done room compact = done is
  by_room answer false many branches is done room compact = room is

  -- only an actor that does not write both is unfit
  led : (answer : Reply B) (one two : Bool) (rest other : Reply B) → one ≡ true → two ≡ true → answer ≡ cond (one && two) rest other → answer ≡ rest
  led answer true true rest other first second is = is
  led answer false two rest other first second is = cc
  led answer true false rest other first second is = cc

module _ {B : Type 0} (kind : BranchKind B) (old new : Holder) (history : History) (answer : Reply B) (Saw : History → Type 0) (same : IsSameHolder old new 1) (parent child : ℕ) (turn : MadeTurn kind old new history (Flush parent child) answer Saw) where
  abbrev was : Whole
  was = refused turn.turn.before

  abbrev pivot : Option ℕ
  pivot = pivot_to (node_at was.nodes parent).pivots child

  flush_step : IsFlush was old.actor parent child answer new.at
  flush_step = step_made kind old new history (Flush parent child) answer Saw turn

  module _ (held : (p : Holding) × IsHolding old p × (p.grips parent ≡ Write) × (p.grips child ≡ Write)) where
    flush_is : answer ≡ where_led was parent child pivot
    flush_is =
        let has = before_holding kind old new history (Flush parent child) answer Saw turn held.0 held.1 in
        led answer (writes was old.actor parent) (writes was old.actor child) (where_led was parent child pivot) (reply.Unfit (state_of was old.actor))
        (ap is_write (has.grips parent ∙ held.2)) (ap is_write (has.grips child ∙ held.3)) flush_step.answer

    by_led : (found : Option ℕ) → answer ≡ where_led was parent child found → answer ≢ reply.Done → ((n : ℕ) → answer ≢ reply.Moved n) → answer ≢ reply.NeedsRoom → ((n : ℕ) → answer ≢ reply.NeedsCompact n) → ⊥
    by_led None is done moved room compact = moved child is
    by_led (Some at) is done moved room compact =
        let branches = length (live_at (node_at was.nodes parent) at) in
        by_room answer (nat_lt (length (node_at was.nodes child).lists.bundles) MAX_LISTS) (nat_lt MAX_BRANCHES branches) branches is done room compact

    pub flush_answers : answer ≢ reply.Done → ((n : ℕ) → answer ≢ reply.Moved n) → answer ≢ reply.NeedsRoom → ((n : ℕ) → answer ≢ reply.NeedsCompact n) → ⊥
    flush_answers = by_led pivot flush_is

    -- it is the child to which the parent does not lead
    pub flush_moved : (n : ℕ) → answer ≡ reply.Moved n → answer ≡ reply.Moved child
    flush_moved n moved = by pivot flush_is
      where
        by : (found : Option ℕ) → answer ≡ where_led was parent child found → answer ≡ reply.Moved child
        by None is = is
        by (Some at) is =
            let branches = length (live_at (node_at was.nodes parent) at) in
            absurd (by_room answer (nat_lt (length (node_at was.nodes child).lists.bundles) MAX_LISTS) (nat_lt MAX_BRANCHES branches) branches is
            (λ other. moved_not_done answer n moved other) (λ other. moved_not_room answer n moved other) (λ m other. moved_not_compact answer n m moved other))

    pub flush_done : old.actor < ACTORS → answer ≡ reply.Done → (p : Holding) → IsHolding old p → IsHolding new p
    flush_done known done p holds = by pivot refl flush_is
      where
        by : (found : Option ℕ) → pivot ≡ found → answer ≡ where_led was parent child found → IsHolding new p
        by None is given = absurd (moved_not_done answer child given done)
        by (Some at) is given =
            now_holding kind old new history (Flush parent child) answer Saw turn p same.actor
            (flushed_holding was new.at parent at child old.actor (flush_step.done at is done) (subst IsSound turn.after turn.legal.after) known p
            (before_holding kind old new history (Flush parent child) answer Saw turn p holds))

  -- where the answer is another one, all stays
  pub flush_kept : answer ≢ reply.Done → (p : Holding) → IsHolding old p → IsHolding new p
  flush_kept other p holds = stays_holding kind old new history (Flush parent child) answer Saw turn p same.actor (flush_step.refused other) holds
