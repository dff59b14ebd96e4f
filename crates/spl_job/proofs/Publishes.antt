-- What the step that publishes a branch tells.
use Rattle.std.proofs.Common.{◌≡◌, ◌≢◌, ℕ, suc, zero, ◌<◌, Bool, true, List, [], ◌∷◌, Option, Some, None, set, slice_get, flat_map, refl, sym, ap, subst, ◌∙◌, arith}
use Rattle.std.specs.Prelude.{Contains, IsSome, ◌↔◌}
use Rattle.std.specs.Option.{option_map}
use Rattle.std.proofs.lemmas.Bool.{false≢true}
use Rattle.std.proofs.lemmas.List.{get_or-set_same}
use Rattle.std.proofs.lemmas.Option.{same_Some}
use Rattle.spl_base.specs.declared.TheConstants.{ACTORS}
use Rattle.spl_message.specs.History.{History}
use Rattle.spl_message.specs.Rule.{Rule}
use Rattle.spl_message.specs.Table.{IsMerged, Table}
use Rattle.spl_trunk.specs.Tree.{times, named}
use Rattle.spl_trunk.proofs.Counts.{times-append, times_one}
use Rattle.spl_tables.specs.Memtables.{FrozenData}
use Rattle.spl_state.specs.declared.actor.Actor.{Actor}
use Rattle.spl_state.specs.declared.job.Job.{Job}
use Rattle.spl_state.specs.declared.job.Job.TheVariants.{Merge, Pack}
use Rattle.spl_state.specs.declared.job.Run.{Run}
use Rattle.spl_state.specs.declared.reply.Reply.{Reply}
use Rattle.spl_state.specs.declared.reply.Reply.TheVariants as reply
use Rattle.spl_state.specs.Actor.{actor_in, idle, with_draft}
use Rattle.spl_state.specs.Extents.{draft_of, inputs_of, named_by}
use Rattle.spl_state.specs.Frame.{refused}
use Rattle.spl_state.specs.Sight.{SeesSource}
use Rattle.spl_state.specs.Sound.{IsSound}
use Rattle.spl_state.specs.Whole.{BranchData, Whole, branches, counts}
use Rattle.spl_state.proofs.Named.{stands_in}
use Rattle.spl_state.proofs.Replaced.{known_of, one_number}
use Rattle.spl_pack.specs.Publishing.{AsksFor, IsAskedFor, MayPublish, held_all, job_number}
use Rattle.spl_pack.proofs.Owners.{none_granted}
use Rattle.spl_pack.proofs.Publishes.{is_new}
use Rattle.spl_core.specs.declared.step.Step.TheVariants.{Publish}
use Rattle.spl_core.specs.Steps.{IsPublication}
use Rattle.spl_desk.specs.Holder.{BranchKind, Holder, IsSameHolder}
use Rattle.spl_desk.specs.Turn.{MadeTurn}
use Rattle.spl_desk.proofs.Walks.{step_made}
use Rattle.spl_job.specs.Holding.{AreSources, HasHolding, Holding, IsBranchOf, IsHolding, IsWanted, with_branch}
use Rattle.spl_job.proofs.Holds.{before_holding, kept_sources, now_holding, stays_holding, within_actors}

same_first : (a b : Table) (all : List Table) → all ≡ a ∷ [] → all ≡ b ∷ [] → a ≡ b
same_first a b all one two = cc

-- a table that goes into the job's branch is the one that the core asks for
wanted_asked : (rule : Rule) (whole : Whole) → IsSound whole → (p : Holding) (table : Table) (job : Job) → AreSources whole.tables.frozen (branches whole) p.tables (Some job) → IsWanted rule p table job → IsAskedFor rule (branches whole) whole.tables.frozen table job
wanted_asked rule whole sound p table (Pack number memtable) sources wanted = λ i f at named.
    let source = sources.1 in
    let place : source.place ≡ i = one_number whole.tables sound.memtables source.place i source.source f source.at at (source.number ∙ sym named) in
    let one : source.source ≡ f = same_Some source.source f (sym source.at ∙ ap (slice_get whole.tables.frozen) place ∙ at) in
    same_first table sources.0 p.tables wanted sources.2 ∙ sym source.table_is ∙ ap (λ (g : FrozenData). g.table) one
wanted_asked rule whole sound p table (Merge number run) sources wanted = subst (λ (tables : List Table). IsMerged rule tables run.span run.bottom table) sources wanted

-- the branch that the job asks for has the table that the core asks for
pub asks_for : (rule : Rule) (holder : Holder) (p : Holding) (number : ℕ) (extents : List ℕ) (table : Table) → IsHolding holder p → IsBranchOf rule p true number extents table → AsksFor rule holder.at holder.actor table
asks_for rule holder p number extents table is asked = λ job has.
    let same : asked.job ≡ job = same_Some asked.job job (sym asked.has_job ∙ sym is.has.job ∙ has) in
    subst (λ (j : Job). IsAskedFor rule (branches holder.at) holder.at.tables.frozen table j) same
    (wanted_asked rule holder.at is.sound p table asked.job
    (subst (λ (o : Option Job). AreSources holder.at.tables.frozen (branches holder.at) p.tables o) asked.has_job is.has.sources)
    (asked.table_is refl))

none_counted : (o : Option BranchData) (count : ℕ) → o ≡ None → IsSome o ↔ (0 < count) → count ≡ 0
none_counted None zero none is = refl
none_counted None (suc count) none is = absurd (false≢true (is.1 (omega arith)))
none_counted (Some x) count none is = cc

-- a branch that a job reads stands
input_stands : (whole : Whole) → IsSound whole → (actor number : ℕ) (run : Run) → (actor_in whole.actors actor).job ≡ Some (Merge number run) → (n : ℕ) → Contains run.inputs n → branches whole n ≡ None → ⊥
input_stands whole sound actor number run is n among none =
    let below : actor < ACTORS = known_of whole sound actor (Merge number run) is in
    let a = actor_in whole.actors actor in
    let some : 0 < times n run.inputs = stands_in n run.inputs among.0 among.1 among.2 in
    let one = times_one named_by n whole.actors actor idle (let count = sound.count in omega (arith, count, below)) in
    let parts = times-append n (inputs_of a.job) (draft_of a.job a.published) in
    let all = times-append n (named whole.nodes) (flat_map named_by whole.actors) in
    let same : times n (inputs_of a.job) ≡ times n run.inputs = ap (λ (o : Option Job). times n (inputs_of o)) is in
    let zero_times : counts whole n ≡ 0 = none_counted (branches whole n) (counts whole n) none (sound.extents.stands n) in
    let counted = sound.extents.counts n in
    omega (arith, some, one, parts, all, same, zero_times, counted)

-- a new branch leaves what a job reads
sees_still : (old new : Whole) → IsSound old → (actor number : ℕ) → branches old number ≡ None → ((n : ℕ) → n ≢ number → branches new n ≡ branches old n) → new.tables.frozen ≡ old.tables.frozen → (job : Job) → (actor_in old.actors actor).job ≡ Some job → SeesSource (refused old) new job
sees_still old new sound actor number none others frozen (Pack n memtable) is = λ i f at named. (i, subst (λ (fs : List FrozenData). slice_get fs i ≡ Some f) (sym frozen) at)
sees_still old new sound actor number none others frozen (Merge n run) is = λ m among. others m (λ same. input_stands old sound actor n run is m among (ap (λ (k : ℕ). branches old k) same ∙ none))

module _ {B : Type 0} (kind : BranchKind B) (old new : Holder) (history : History) (answer : Reply B) (Saw : History → Type 0) (same : IsSameHolder old new 1) (branch : _) (turn : MadeTurn kind old new history (Publish branch) answer Saw) where
  abbrev drafted : Whole
  drafted = refused turn.turn.before

  abbrev number : ℕ
  number = kind.number_of branch.value

  publish_step : IsPublication (kind.data_of branch.value) drafted old.actor number answer new.at
  publish_step = step_made kind old new history (Publish branch) answer Saw turn

  abbrev Fits : Rule → Bool → Table → Type 0
  Fits rule tells table = (p : Holding) × IsHolding old p × IsBranchOf rule p tells number (kind.data_of branch.value).extents table

  may_publish : (rule : Rule) (tells : Bool) (table : Table) → Fits rule tells table → MayPublish drafted old.actor number (kind.data_of branch.value).extents
  may_publish rule tells table fits =
      let p = fits.0 in
      let is = fits.2 in
      let has = before_holding kind old new history (Publish branch) answer Saw turn p fits.1 in
      record {
        numbered = ap job_number (has.job ∙ is.has_job) ∙ ap (λ (n : ℕ). Some n) (sym is.number_is);
        unpublished = has.published ∙ is.unpublished;
        granted = rw is.extents_are has.extents;
      }

  pub publish_answers : (rule : Rule) (tells : Bool) (table : Table) → Fits rule tells table → answer ≢ reply.Done → answer ≢ reply.NoMemory → ⊥
  publish_answers rule tells table fits done memory = done (publish_step.answer (may_publish rule tells table fits) memory)

  pub publish_memory : answer ≡ reply.NoMemory → (p : Holding) → IsHolding old p → IsHolding new p
  publish_memory is p holds = stays_holding kind old new history (Publish branch) answer Saw turn p same.actor (publish_step.refused (λ done. apart answer is done)) holds
    where
      apart : (r : Reply B) → r ≡ reply.NoMemory → r ≡ reply.Done → ⊥
      apart r a b = cc

  -- the core with the branch
  abbrev after : Whole
  after = record drafted { refs = new.at.refs; owners = held_all drafted.owners old.actor number; actors = set drafted.actors old.actor (with_draft (actor_in drafted.actors old.actor)) }

  no_such : (rule : Rule) (tells : Bool) (table : Table) → Fits rule tells table → branches drafted number ≡ None
  no_such rule tells table fits =
      let may = may_publish rule tells table fits in
      is_new turn.turn.before turn.legal.sound old.actor number (kind.data_of branch.value).extents (record { numbered = may.numbered; unpublished = may.unpublished; granted = may.granted })

  published_has : (rule : Rule) (tells : Bool) (table : Table) → Fits rule tells table → old.actor < ACTORS → answer ≡ reply.Done → (p : Holding) → HasHolding drafted old.actor p → HasHolding after old.actor (with_branch p)
  published_has rule tells table fits known is p has =
      let publishes = publish_step.done is in
      let within = within_actors kind old new history (Publish branch) answer Saw turn known in
      let mine : actor_in after.actors old.actor ≡ with_draft (actor_in drafted.actors old.actor) = get_or-set_same drafted.actors old.actor (with_draft (actor_in drafted.actors old.actor)) idle within in
      let others : (n : ℕ) → n ≢ number → branches after n ≡ branches drafted n =
      λ n apart. ap (λ (held : Option (ℕ × BranchData)). option_map (λ h. h.1) held) (publishes.stands.other_numbers n apart) in
      record {
        descent = ap (λ (a : Actor). a.descent) mine ∙ has.descent;
        job = ap (λ (a : Actor). a.job) mine ∙ has.job;
        published = ap (λ (a : Actor). a.published) mine;
        told = ap (λ (a : Actor). a.told) mine ∙ has.told;
        grips = has.grips;
        extents = λ extent. rw (none_granted old.actor number drafted.owners extent) refl;
        sources = kept_sources drafted after p.tables p.job
            (λ j among. sees_still turn.turn.before after turn.legal.sound old.actor number (no_such rule tells table fits) others refl j (has.job ∙ among))
            has.sources;
      }

  pub publish_done : (rule : Rule) (tells : Bool) (table : Table) → Fits rule tells table → old.actor < ACTORS → answer ≡ reply.Done → (p : Holding) → IsHolding old p → IsHolding new (with_branch p)
  publish_done rule tells table fits known is p holds =
      now_holding kind old new history (Publish branch) answer Saw turn (with_branch p) same.actor
      (subst (λ (w : Whole). HasHolding w old.actor (with_branch p)) (sym (publish_step.done is).all)
      (published_has rule tells table fits known is p (before_holding kind old new history (Publish branch) answer Saw turn p holds)))
