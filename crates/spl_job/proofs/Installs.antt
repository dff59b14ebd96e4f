-- What the end of a merge in a node makes of what an actor has.
use Rattle.std.proofs.Common.{◌≡◌, ◌≢◌, ℕ, ◌+◌, ◌<◌, ◌≤◌, max, Bool, true, false, cond, List, [], Option, Some, None, map, flat_map, length, refl, sym, ap, subst, ◌∙◌, arith}
use Rattle.std.proofs.lemmas.List.{get_or-set_same}
use Rattle.spl_base.specs.declared.TheConstants.{ACTORS}
use Rattle.spl_message.specs.History.{History}
use Rattle.spl_message.specs.Table.{IsMerged, Table, as_table}
use Rattle.spl_numbers.specs.Numbers.{ListsEach}
use Rattle.spl_extent.specs.Pool.{granted_to}
use Rattle.spl_node.specs.Node.{NodeData}
use Rattle.spl_trunk.specs.Trunk.{node_at}
use Rattle.spl_trunk.specs.Tree.{named, times}
use Rattle.spl_trunk.proofs.Counts.{times-append, times_one}
use Rattle.spl_holds.specs.declared.grip.Grip.{Grip}
use Rattle.spl_holds.specs.declared.grip.Grip.TheVariants.{Write}
use Rattle.spl_holds.specs.Grip.{is_write}
use Rattle.spl_holds.specs.Holds.{grip_of}
use Rattle.spl_state.specs.declared.actor.Actor.{Actor}
use Rattle.spl_state.specs.declared.job.Job.{Job}
use Rattle.spl_state.specs.declared.job.Job.TheVariants.{Merge}
use Rattle.spl_state.specs.declared.job.Run.{Run}
use Rattle.spl_state.specs.declared.reply.Reply.{Reply}
use Rattle.spl_state.specs.declared.reply.Reply.TheVariants as reply
use Rattle.spl_state.specs.Actor.{actor_in, idle, told_of}
use Rattle.spl_state.specs.Actor as actors
use Rattle.spl_state.specs.Extents.{draft_of, inputs_of, mentioned, named_by}
use Rattle.spl_state.specs.Frame.{refused}
use Rattle.spl_state.specs.Sound.{IsSound}
use Rattle.spl_state.specs.Whole.{BranchData, Whole, branches, counts, table_in, table_or}
use Rattle.spl_state.proofs.Named.{same_map}
use Rattle.spl_compact.specs.Installing.{Installs, MergesToNothing, carries, first_heir, goes_on, merged_by, next_answer, ready_in, served, where_ready}
use Rattle.spl_core.specs.declared.step.Step.TheVariants.{Install}
use Rattle.spl_core.specs.Steps.{IsInstall}
use Rattle.spl_desk.specs.Holder.{BranchKind, Holder, IsSameHolder}
use Rattle.spl_desk.specs.Turn.{MadeTurn}
use Rattle.spl_desk.proofs.Walks.{step_made}
use Rattle.spl_job.specs.Holding.{AreSources, HasHolding, Holding, IsHolding, without_job}
use Rattle.spl_job.specs.declared.merging.Installed.TheVariants as installed
use Rattle.spl_job.specs.Merging.{AfterInstall, IsToldOf, with_told}
use Rattle.spl_job.proofs.Holds.{before_holding, now_holding, stays_holding, within_actors}
use Rattle.spl_job.proofs.Merges.{above, at_least, told_now}

-- the job's run is this one
same_job : (number other : ℕ) (run more : Run) → Some (Merge number run) ≡ Some (Merge other more) → run ≡ more
same_job number other run more is = cc

-- where nothing is left of the tables that go into the branch, nothing is left of what the job merges
merges_to_nothing : (holder : Holder) (p : Holding) (number : ℕ) (run : Run) → IsHolding holder p → p.job ≡ Some (Merge number run) → IsMerged holder.rule p.tables run.span run.bottom (as_table []) → MergesToNothing holder.rule holder.at holder.actor
merges_to_nothing holder p number run is job merged = λ other more has.
    let same : run ≡ more = same_job number other run more (sym job ∙ sym is.has.job ∙ has) in
    let sources : p.tables ≡ map (table_in (branches holder.at)) run.inputs = subst (λ (j : Option Job). AreSources holder.at.tables.frozen (branches holder.at) p.tables j) job is.has.sources in
    subst (λ (r : Run). IsMerged holder.rule (map (table_in (branches holder.at)) r.inputs) r.span r.bottom (as_table [])) same
    (subst (λ (ts : List Table). IsMerged holder.rule ts run.span run.bottom (as_table [])) sources merged)

-- what an actor has that may end its merge in the node
abbrev MayInstall : Bool → Holder → ℕ → Bool → Type 0
MayInstall tells holder node output =
    (p : Holding) × (number : ℕ) × (run : Run) × IsHolding holder p × (p.job ≡ Some (Merge number run)) × (p.published ≡ output) × (p.grips node ≡ Write)
    × (tells ≡ true → output ≡ false → IsMerged holder.rule p.tables run.span run.bottom (as_table []))

pub may_end : (holder : Holder) (node : ℕ) (output tells : Bool) → MayInstall tells holder node output → tells ≡ true → output ≡ false → MergesToNothing holder.rule holder.at holder.actor
may_end holder node output tells may is none = merges_to_nothing holder may.0 may.1 may.2 may.3 may.4 (may.7 is none)

-- what a job reads is named
pub reads_named : (nodes : List NodeData) (all : List Actor) (actor number : ℕ) (run : Run) → actor < length all → (actor_in all actor).job ≡ Some (Merge number run) → (n : ℕ) → 0 < times n run.inputs → 0 < times n (mentioned nodes all)
reads_named nodes all actor number run within job n some =
    let one : Actor = actor_in all actor in
    let mine : times n (named_by one) ≤ times n (flat_map named_by all) = times_one named_by n all actor idle within in
    let parts : times n (named_by one) ≡ times n (inputs_of one.job) + times n (draft_of one.job one.published) = times-append n (inputs_of one.job) (draft_of one.job one.published) in
    let inputs : times n (inputs_of one.job) ≡ times n run.inputs = ap (λ (j : Option Job). times n (inputs_of j)) job in
    let both : times n (mentioned nodes all) ≡ times n (named nodes) + times n (flat_map named_by all) = times-append n (named nodes) (flat_map named_by all) in
    omega (arith, mine, parts, inputs, both, some)

ready_run : (number : ℕ) (run : Run) (output : Bool) → (outcome : _) × (merged_by (Some (Merge number run)) output output ≡ Some outcome)
ready_run number run true = (_, refl)
ready_run number run false = (_, refl)

module _ {B : Type 0} where
  not_next : (r : Reply B) (node : ℕ) → r ≡ reply.Done → r ≡ reply.Next node → ⊥
  not_next r node a b = cc

  next_is : (heir : Option ℕ) (node : ℕ) → next_answer {B = B} heir ≡ reply.Next node → heir ≡ Some node
  next_is None node is = absurd (not_next reply.Done node refl is)
  next_is (Some next) node is = cc

  done_is : (heir : Option ℕ) → next_answer {B = B} heir ≡ reply.Done → heir ≡ None
  done_is None is = refl
  done_is (Some next) is = absurd (not_next reply.Done next refl (sym is))

module _ {B : Type 0} (kind : BranchKind B) (old new : Holder) (history : History) (answer : Reply B) (Saw : History → Type 0) (same : IsSameHolder old new 1) (node : ℕ) (output : Bool) (turn : MadeTurn kind old new history (Install node output) answer Saw) where
  abbrev was : Whole
  was = refused turn.turn.before

  abbrev here : Bool
  here = carries old.actor (node_at was.nodes node)

  install_step : IsInstall was old.actor node output answer new.at
  install_step = step_made kind old new history (Install node output) answer Saw turn

  -- the actor may end its merge there
  module _ (p : Holding) (number : ℕ) (run : Run) (holds : IsHolding old p) (job : p.job ≡ Some (Merge number run)) (published : p.published ≡ output) (writes : p.grips node ≡ Write) where
    has : HasHolding was old.actor p
    has = before_holding kind old new history (Install node output) answer Saw turn p holds

    ready : (outcome : _) × (ready_in was old.actor node output ≡ Some outcome)
    ready =
        let mine : Actor = actor_in was.actors old.actor in
        let write : is_write (grip_of was.grips old.actor node) ≡ true = ap is_write (has.grips node ∙ writes) in
        let one = ready_run number run output in (
          one.0,
          ap (λ (b : Bool). cond b (merged_by mine.job mine.published output) None) write
              ∙ ap (λ (j : Option Job). merged_by j mine.published output) (has.job ∙ job)
              ∙ ap (λ (b : Bool). merged_by (Some (Merge number run)) b output) (has.published ∙ published)
              ∙ one.1,
        )

    install_is : answer ≡ cond here (next_answer (first_heir (served was.nodes node ready.0) old.actor)) (reply.Elsewhere (first_heir was.nodes old.actor))
    install_is = install_step.answer ∙ ap (where_ready was old.actor node) ready.1

    answers : answer ≢ reply.Done → ((next : ℕ) → answer ≢ reply.Next next) → ((next : Option ℕ) → answer ≢ reply.Elsewhere next) → ⊥
    answers done next elsewhere = by here install_is
      where
        by_heir : (heir : Option ℕ) → answer ≡ next_answer heir → ⊥
        by_heir None is = done is
        by_heir (Some n) is = next n is

        by : (b : Bool) → answer ≡ cond b (next_answer (first_heir (served was.nodes node ready.0) old.actor)) (reply.Elsewhere (first_heir was.nodes old.actor)) → ⊥
        by true is = by_heir _ is
        by false is = elsewhere _ is

    -- where the answer is no other node, the run was served here
    module _ (here_it_is : (next : Option ℕ) → answer ≢ reply.Elsewhere next) where
      is_served : Installs was new.at old.actor node ready.0 × (answer ≡ next_answer (first_heir new.at.nodes old.actor))
      is_served = by here refl install_is
        where
          by : (b : Bool) → here ≡ b → answer ≡ cond b (next_answer (first_heir (served was.nodes node ready.0) old.actor)) (reply.Elsewhere (first_heir was.nodes old.actor)) → Installs was new.at old.actor node ready.0 × (answer ≡ next_answer (first_heir new.at.nodes old.actor))
          by true is given =
              let installs = install_step.served ready.0 ready.1 is in
              (installs, given ∙ ap (λ (nodes : List NodeData). next_answer (first_heir nodes old.actor)) (sym installs.nodes))
          by false is given = absurd (here_it_is _ given)

      abbrev installs : Installs was new.at old.actor node ready.0
      installs = is_served.0

      worker_is : (worker : Actor) → old.actor < ACTORS → goes_on (actor_in was.actors old.actor) (first_heir new.at.nodes old.actor) ≡ worker → actor_in new.at.actors old.actor ≡ worker
      worker_is worker known is =
          let within = within_actors kind old new history (Install node output) answer Saw turn known in
          let on : Actor = goes_on (actor_in was.actors old.actor) (first_heir new.at.nodes old.actor) in
          ap (λ (all : List Actor). actor_in all old.actor) installs.actors ∙ get_or-set_same was.actors old.actor on idle within ∙ is

      same_grips : (n : ℕ) → grip_of new.at.grips old.actor n ≡ p.grips n
      same_grips n = ap (λ (grips : List (List Grip)). grip_of grips old.actor n) installs.grips ∙ has.grips n

      same_extents : ListsEach p.extents (granted_to new.at.owners old.actor)
      same_extents = subst (λ (members : List Bool). ListsEach p.extents members) (sym (installs.granted old.actor)) has.extents

      same_sources : old.actor < ACTORS → (actor_in new.at.actors old.actor).job ≡ Some (Merge number run) → AreSources new.at.tables.frozen (branches new.at) p.tables p.job
      same_sources known mine =
          let within : old.actor < length new.at.actors = let count = (subst IsSound turn.after turn.legal.after).count in omega (arith, count, known) in
          let were : p.tables ≡ map (table_in (branches was)) run.inputs = subst (λ (j : Option Job). AreSources was.tables.frozen (branches was) p.tables j) job has.sources in
          let are : p.tables ≡ map (table_in (branches new.at)) run.inputs =
          were ∙ same_map (table_in (branches was)) (table_in (branches new.at)) run.inputs (λ n some.
          let count : counts new.at n ≡ times n (mentioned new.at.nodes new.at.actors) = installs.as_often n in
          let named : 0 < times n (mentioned new.at.nodes new.at.actors) = reads_named new.at.nodes new.at.actors old.actor number run within mine n some in
          sym (ap (λ (d : Option BranchData). table_or d) (installs.still n (omega (arith, count, named))))) in
          subst (λ (j : Option Job). AreSources new.at.tables.frozen (branches new.at) p.tables j) (sym job) are

      next_there : (next : ℕ) → old.actor < ACTORS → first_heir new.at.nodes old.actor ≡ Some next → IsToldOf new p next
      next_there next known heir =
          let told = max p.told (next + 1) in
          let mine = worker_is (told_of (actor_in was.actors old.actor) next) known (ap (goes_on (actor_in was.actors old.actor)) heir) in
          let its_job : (actor_in new.at.actors old.actor).job ≡ p.job = ap (λ (a : Actor). a.job) mine ∙ has.job in (
            told,
            at_least p.told (next + 1),
            above p.told next,
            now_holding kind old new history (Install node output) answer Saw turn (with_told p told) same.actor (record {
              descent = ap (λ (a : Actor). a.descent) mine ∙ has.descent;
              job = its_job;
              published = ap (λ (a : Actor). a.published) mine ∙ has.published;
              told = ap (λ (a : Actor). a.told) mine ∙ ap (λ (n : ℕ). max n (next + 1)) has.told;
              grips = same_grips;
              extents = same_extents;
              sources = same_sources known (its_job ∙ job);
            }),
          )

      all_done : old.actor < ACTORS → first_heir new.at.nodes old.actor ≡ None → IsHolding new (without_job p)
      all_done known heir =
          let mine = worker_is (actors.with_job (actor_in was.actors old.actor) None) known (ap (goes_on (actor_in was.actors old.actor)) heir) in
          now_holding kind old new history (Install node output) answer Saw turn (without_job p) same.actor (record {
            descent = ap (λ (a : Actor). a.descent) mine ∙ has.descent;
            job = ap (λ (a : Actor). a.job) mine;
            published = ap (λ (a : Actor). a.published) mine;
            told = ap (λ (a : Actor). a.told) mine ∙ has.told;
            grips = same_grips;
            extents = same_extents;
            sources = refl;
          })

    pub install_next : (next : ℕ) → old.actor < ACTORS → answer ≡ reply.Next next → IsToldOf new p next
    install_next next known is =
        let here_it_is : (other : Option ℕ) → answer ≢ reply.Elsewhere other = λ other there. apart answer other is there in
        next_there here_it_is next known (next_is (first_heir new.at.nodes old.actor) next (sym (is_served here_it_is).1 ∙ is))
      where
        apart : (r : Reply B) (other : Option ℕ) → r ≡ reply.Next next → r ≡ reply.Elsewhere other → ⊥
        apart r other a b = cc

    pub install_done : old.actor < ACTORS → answer ≡ reply.Done → IsHolding new (without_job p)
    install_done known is =
        let here_it_is : (other : Option ℕ) → answer ≢ reply.Elsewhere other = λ other there. apart answer other is there in
        all_done here_it_is known (done_is (first_heir new.at.nodes old.actor) (sym (is_served here_it_is).1 ∙ is))
      where
        apart : (r : Reply B) (other : Option ℕ) → r ≡ reply.Done → r ≡ reply.Elsewhere other → ⊥
        apart r other a b = cc

  pub install_answers : {tells : Bool} → MayInstall tells old node output → answer ≢ reply.Done → ((next : ℕ) → answer ≢ reply.Next next) → ((next : Option ℕ) → answer ≢ reply.Elsewhere next) → ⊥
  install_answers holds = answers holds.0 holds.1 holds.2 holds.3 holds.4 holds.5 holds.6

  pub install_elsewhere : (next : Option ℕ) → old.actor < ACTORS → answer ≡ reply.Elsewhere next → (p : Holding) → IsHolding old p → AfterInstall new p (installed.Elsewhere next)
  install_elsewhere None known is p holds = stays_holding kind old new history (Install node output) answer Saw turn p same.actor (install_step.elsewhere None is) holds
  install_elsewhere (Some next) known is p holds = told_now kind old new history (Install node output) answer Saw turn next same.actor known (install_step.elsewhere (Some next) is) p holds.has
