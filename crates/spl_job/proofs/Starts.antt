-- What the begin of a merge makes of what an actor has.
use Rattle.std.proofs.Common.{◌≡◌, ◌≢◌, ℕ, ◌+◌, ◌<◌, max, Bool, true, false, cond, nat_lt, Option, Some, None, map, length, set, refl, sym, ap, subst, ◌∙◌, arith}
use Rattle.std.specs.Prelude.{find}
use Rattle.std.proofs.lemmas.Bool.Decides.{nat_tests}
use Rattle.std.proofs.lemmas.List.{get_or-set_same}
use Rattle.spl_base.specs.declared.TheConstants.{ACTORS}
use Rattle.spl_message.specs.History.{History}
use Rattle.spl_message.specs.Table.{Table}
use Rattle.spl_node.specs.declared.pivot.Pivot.{Pivot}
use Rattle.spl_trunk.specs.Trunk.{node_at}
use Rattle.spl_state.specs.declared.actor.Actor.{Actor}
use Rattle.spl_state.specs.declared.job.Job.TheVariants.{Merge}
use Rattle.spl_state.specs.declared.job.Run.{Run}
use Rattle.spl_state.specs.declared.reply.Reply.{Reply}
use Rattle.spl_state.specs.declared.reply.Reply.TheVariants as reply
use Rattle.spl_state.specs.declared.sight.Ticket.{Ticket}
use Rattle.spl_state.specs.Actor.{actor_in, idle, told_of}
use Rattle.spl_state.specs.Actor as actors
use Rattle.spl_state.specs.Frame.{refused}
use Rattle.spl_state.specs.Reply.{state_of}
use Rattle.spl_state.specs.Whole.{BranchData, Whole, branches, table_in, table_or}
use Rattle.spl_state.proofs.Named.{same_map}
use Rattle.spl_descent.proofs.Named.{shared_tables}
use Rattle.spl_compact.specs.Starting.{AnswersTicket, IfTicket, IsTicketOf, OnTicket, Starts, all_stand, crosses, first_owner, is_busy, refusal_at, run_at, run_below, started_with, unless_crossed, unless_marked}
use Rattle.spl_core.specs.declared.step.Step.TheVariants.{Start}
use Rattle.spl_core.specs.Steps.{IsStart}
use Rattle.spl_desk.specs.Holder.{BranchKind, Holder, IsSameHolder}
use Rattle.spl_desk.specs.Turn.{MadeTurn}
use Rattle.spl_desk.proofs.Walks.{step_made}
use Rattle.spl_job.specs.Holding.{HasHolding, Holding, Holds, IsHolding, IsKnown}
use Rattle.spl_job.specs.Merging.{IsToldOf, run_of, with_ticket, with_told}
use Rattle.spl_job.proofs.Holds.{before_has, now_holding, stays_has, within_actors}
use Rattle.spl_job.proofs.Merges.{above, at_least, exists_there}

module _ {B : Type 0} where
  other_ticket : (answer : Reply B) (P : Ticket B → Type 0) (Q : Type 0) → ((ticket : Ticket B) → answer ≢ reply.Ticket ticket) → OnTicket answer P Q → Q
  other_ticket (reply.Ticket ticket) P Q none on = absurd (none ticket refl)
  other_ticket answer P Q none on = on

  -- the run of the ticket is the run
  same_run : (number_of : B → ℕ) (data_of : B → BranchData) (whole : Whole) (run : Run) (ticket : Ticket B) → IsTicketOf number_of data_of whole run ticket → run_of number_of ticket ≡ run
  same_run number_of data_of whole run ticket sees = rw (sees.node, sees.first, sees.last, sees.generation, sees.span, sees.bottom, sees.inputs.named) refl

  -- why no ticket is given
  module _ (answer : Reply B) (memory : answer ≢ reply.NoMemory) (none : (ticket : Ticket B) → answer ≢ reply.Ticket ticket) (busy : (by : ℕ) → answer ≢ reply.Busy by) where
    by_mark : (owner : Option ℕ) → AnswersTicket (unless_marked owner) answer → ⊥
    by_mark None is = memory (other_ticket answer (λ ticket. Unit {0}) (answer ≡ reply.NoMemory) none is)
    by_mark (Some by) is = busy by is

    by_pivot : ((child : Option ℕ) (mark : ℕ) → answer ≢ reply.Crossed child mark) → (pivot : Option Pivot) (owner : Option ℕ) → AnswersTicket (unless_crossed pivot (unless_marked owner)) answer → ⊥
    by_pivot crossed None owner is = by_mark owner is
    by_pivot crossed (Some pivot) owner is = crossed pivot.child pivot.mark is

    by_stand : ((last oldest : ℕ) → answer ≢ reply.Gone last oldest) → ((child : Option ℕ) (mark : ℕ) → answer ≢ reply.Crossed child mark) → (stand : Bool) (last oldest : ℕ) (pivot : Option Pivot) (owner : Option ℕ) → AnswersTicket (cond stand (unless_crossed pivot (unless_marked owner)) (Some (reply.Gone last oldest))) answer → ⊥
    by_stand gone crossed true last oldest pivot owner is = by_pivot crossed pivot owner is
    by_stand gone crossed false last oldest pivot owner is = gone last oldest is

module _ {B : Type 0} (kind : BranchKind B) (old new : Holder) (history : History) (answer : Reply B) (Saw : History → Type 0) (same : IsSameHolder old new 1) (node first last : ℕ) (turn : MadeTurn kind old new history (Start node first last) answer Saw) where
  abbrev was : Whole
  was = refused turn.turn.before

  abbrev table_of : B → Table
  table_of branch = (kind.data_of branch).table

  start_step : IsStart kind.number_of kind.data_of was old.actor node first last answer new.at
  start_step = step_made kind old new history (Start node first last) answer Saw turn

  free : (p : Holding) → Holds old p → p.job ≡ None → is_busy (actor_in was.actors old.actor) ≡ false
  free p holds none = let has = before_has kind old new history (Start node first last) answer Saw turn p holds in rw (has.descent, has.job, none) refl

  refusal_is : old.actor < ACTORS → (p : Holding) → Holds old p → p.job ≡ None → IsKnown p node → AnswersTicket (refusal_at (node_at was.nodes node) first last) answer
  refusal_is known p holds none below =
      let exists : node < length was.nodes = exists_there kind old new history (Start node first last) answer Saw turn node known p holds below in
      let there : nat_lt node (length was.nodes) ≡ true = grind (arith, nat_tests) in
      let here : Option (Reply B) = refusal_at (node_at was.nodes node) first last in
      let nowhere : Option (Reply B) = Some (reply.NoNode (length was.nodes)) in
      subst (λ (b : Bool). AnswersTicket (cond b here nowhere) answer) there
      (subst (λ (b : Bool). AnswersTicket (cond b (Some (reply.Unfit (state_of was old.actor))) (cond (nat_lt node (length was.nodes)) here nowhere)) answer) (free p holds none) start_step.answer)

  pub start_answers : old.actor < ACTORS → ((p : Holding) × Holds old p × (p.job ≡ None) × IsKnown p node) → ((ticket : Ticket B) → answer ≢ reply.Ticket ticket) → ((by : ℕ) → answer ≢ reply.Busy by) → ((last oldest : ℕ) → answer ≢ reply.Gone last oldest) → ((child : Option ℕ) (mark : ℕ) → answer ≢ reply.Crossed child mark) → answer ≢ reply.NoMemory → ⊥
  start_answers known holds none busy gone crossed memory =
      let found = node_at was.nodes node in
      by_stand answer memory none busy gone crossed (all_stand found.lists first last) last found.lists.first (find (crosses first last) found.pivots) (first_owner (run_below found.lists first (last + 1))) (refusal_is known holds.0 holds.1 holds.2 holds.3)

  start_kept : ((ticket : Ticket B) → answer ≢ reply.Ticket ticket) → (p : Holding) → Holds old p → IsHolding new p
  start_kept none p holds =
      stays_has kind old new history (Start node first last) answer Saw turn p same.actor (other_ticket answer (λ ticket. Starts was new.at old.actor node first last) (new.at ≡ was) none start_step.done) holds

  pub start_busy : (by : ℕ) → answer ≡ reply.Busy by → (p : Holding) → Holds old p → IsHolding new p
  start_busy by is = start_kept (λ ticket given. apart answer ticket is given)
    where
      apart : (r : Reply B) (ticket : Ticket B) → r ≡ reply.Busy by → r ≡ reply.Ticket ticket → ⊥
      apart r ticket a b = cc

  pub start_gone : (most oldest : ℕ) → answer ≡ reply.Gone most oldest → (p : Holding) → Holds old p → IsHolding new p
  start_gone most oldest is = start_kept (λ ticket given. apart answer ticket is given)
    where
      apart : (r : Reply B) (ticket : Ticket B) → r ≡ reply.Gone most oldest → r ≡ reply.Ticket ticket → ⊥
      apart r ticket a b = cc

  pub start_crossed : (child : Option ℕ) (mark : ℕ) → answer ≡ reply.Crossed child mark → (p : Holding) → Holds old p → IsHolding new p
  start_crossed child mark is = start_kept (λ ticket given. apart answer ticket is given)
    where
      apart : (r : Reply B) (ticket : Ticket B) → r ≡ reply.Crossed child mark → r ≡ reply.Ticket ticket → ⊥
      apart r ticket a b = cc

  pub start_memory : answer ≡ reply.NoMemory → (p : Holding) → Holds old p → IsHolding new p
  start_memory is = start_kept (λ ticket given. apart answer ticket is given)
    where
      apart : (r : Reply B) (ticket : Ticket B) → r ≡ reply.NoMemory → r ≡ reply.Ticket ticket → ⊥
      apart r ticket a b = cc

  module _ (ticket : Ticket B) (is : answer ≡ reply.Ticket ticket) where
    starts : Starts was new.at old.actor node first last
    starts = subst (λ (r : Reply B). OnTicket r (λ t. Starts was new.at old.actor node first last) (new.at ≡ was)) is start_step.done

    sees : IsTicketOf kind.number_of kind.data_of was (run_at was node first last) ticket
    sees = subst (λ (r : Reply B). IfTicket r (IsTicketOf kind.number_of kind.data_of was (run_at was node first last))) is start_step.ticket

    pub start_asked : (ticket.node ≡ node) × (ticket.first ≡ first) × (ticket.last ≡ last)
    start_asked = (sees.node, sees.first, sees.last)

    abbrev after : Whole
    after = started_with was new.at.refs old.actor node first last

    run_is : run_of kind.number_of ticket ≡ run_at was node first last
    run_is = same_run kind.number_of kind.data_of was (run_at was node first last) ticket sees

    tables_are : map table_of ticket.inputs ≡ map (table_in (branches after)) (run_of kind.number_of ticket).inputs
    tables_are =
        let run = run_at was node first last in
        shared_tables kind.number_of table_of kind.data_of (λ b. refl) (branches was) run.inputs ticket.inputs sees.inputs
        ∙ same_map (table_in (branches was)) (table_in (branches after)) run.inputs (λ n some. sym (ap (λ (d : Option BranchData). table_or d) (starts.same n)))
        ∙ ap (map (table_in (branches after))) (sym sees.inputs.named)

    has_ticket : old.actor < ACTORS → (p : Holding) → Holds old p → HasHolding after old.actor (with_told (with_ticket kind.number_of table_of p ticket) (max p.told (node + 1)))
    has_ticket known p holds =
        let has = before_has kind old new history (Start node first last) answer Saw turn p holds in
        let within = within_actors kind old new history (Start node first last) answer Saw turn known in
        let worker : Actor = told_of (actors.with_job (actor_in was.actors old.actor) (Some (Merge was.counters.branches (run_at was node first last)))) node in
        let mine : actor_in (set was.actors old.actor worker) old.actor ≡ worker = get_or-set_same was.actors old.actor worker idle within in
        record {
          descent = ap (λ (a : Actor). a.descent) mine ∙ has.descent;
          job =
              ap (λ (a : Actor). a.job) mine
              ∙ ap (λ (n : ℕ). Some (Merge n (run_at was node first last))) (sym sees.number)
              ∙ ap (λ (r : Run). Some (Merge ticket.number r)) (sym run_is);
          published = ap (λ (a : Actor). a.published) mine;
          told = ap (λ (a : Actor). a.told) mine ∙ ap (λ (n : ℕ). max n (node + 1)) has.told;
          grips = has.grips;
          extents = has.extents;
          sources = tables_are;
        }

    pub start_ticket : old.actor < ACTORS → (p : Holding) → Holds old p → IsToldOf new (with_ticket kind.number_of table_of p ticket) ticket.node
    start_ticket known p holds =
        let told = max p.told (node + 1) in
        let more = with_told (with_ticket kind.number_of table_of p ticket) told in
        (told, at_least p.told (node + 1), subst (λ (n : ℕ). n < told) (sym sees.node) (above p.told node), now_holding kind old new history (Start node first last) answer Saw turn more same.actor (subst (λ (w : Whole). HasHolding w old.actor more) (sym starts.all) (has_ticket known p holds)))
