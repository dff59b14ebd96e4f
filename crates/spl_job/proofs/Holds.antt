-- What an actor that works keeps over a turn.
use Rattle.std.proofs.Common.{◌≡◌, ℕ, suc, ◌<◌, Bool, List, [], ◌∷◌, Option, Some, None, map, length, refl, sym, ap, subst, ◌∙◌, arith}
use Rattle.std.specs.Prelude.{Contains}
use Rattle.spl_base.specs.declared.TheConstants.{ACTORS}
use Rattle.spl_message.specs.History.{History}
use Rattle.spl_message.specs.Rule.{Rule}
use Rattle.spl_message.specs.Table.{Table}
use Rattle.spl_numbers.specs.Numbers.{ListsEach}
use Rattle.spl_state.specs.declared.actor.Actor.{Actor}
use Rattle.spl_state.specs.declared.job.Job.{Job}
use Rattle.spl_state.specs.declared.job.Job.TheVariants.{Merge, Pack}
use Rattle.spl_state.specs.declared.reply.Reply.{Reply}
use Rattle.spl_state.specs.Frame.{refused}
use Rattle.spl_state.specs.Sight.{KeepsSight, SeesSource}
use Rattle.spl_state.specs.Sound.{IsSound}
use Rattle.spl_state.specs.Whole.{BranchData, Whole, branches, table_in, table_or}
use Rattle.spl_core.specs.declared.step.Step.{Step}
use Rattle.spl_desk.specs.Holder.{BranchKind, Holder}
use Rattle.spl_desk.specs.Turn.{MadeTurn}
use Rattle.spl_job.specs.Holding.{AreSources, HasHolding, Holding, Holds, IsHolding}

-- the tables of branches that stay are those that they were
same_tables : (old new : ℕ → Option BranchData) (inputs : List ℕ) → ((n : ℕ) → Contains inputs n → new n ≡ old n) → map (table_in new) inputs ≡ map (table_in old) inputs
same_tables old new [] same = refl
same_tables old new (n ∷ ns) same =
    let first : table_in new n ≡ table_in old n = ap (λ (d : Option BranchData). table_or d) (same n (0, omega arith, refl)) in
    let others : map (table_in new) ns ≡ map (table_in old) ns = same_tables old new ns (λ m is. same m (suc is.0, (let below = is.1 in omega (arith, below)), is.2)) in
    ap (λ (t : Table). t ∷ map (table_in new) ns) first ∙ ap (λ (ts : List Table). table_in old n ∷ ts) others

-- what others do leaves the sources of a job
pub kept_sources : (old new : Whole) (tables : List Table) (job : Option Job) → ((j : Job) → job ≡ Some j → SeesSource old new j) → AreSources old.tables.frozen (branches old) tables job → AreSources new.tables.frozen (branches new) tables job
kept_sources old new tables None sees sources = sources
kept_sources old new tables (Some (Pack number memtable)) sees sources =
    let source = sources.1 in
    let there = sees (Pack number memtable) refl source.place source.source source.at source.number in
    (sources.0, record { place = there.0; source = source.source; at = there.1; number = source.number; table_is = source.table_is }, sources.2)
kept_sources old new tables (Some (Merge number run)) sees sources = sources ∙ sym (same_tables (branches old) (branches new) run.inputs (sees (Merge number run) refl))

-- and all that the actor has
pub kept_holding : (rule : Rule) (tells : Bool) (old new : Whole) (actor : ℕ) (p : Holding) → KeepsSight rule tells old new actor → HasHolding old actor p → HasHolding new actor p
kept_holding rule tells old new actor p keeps has = record {
  descent = ap (λ (a : Actor). a.descent) keeps.actor ∙ has.descent;
  job = ap (λ (a : Actor). a.job) keeps.actor ∙ has.job;
  published = ap (λ (a : Actor). a.published) keeps.actor ∙ has.published;
  told = ap (λ (a : Actor). a.told) keeps.actor ∙ has.told;
  grips = λ node. keeps.grips node ∙ has.grips node;
  extents = subst (λ (members : List Bool). ListsEach p.extents members) (sym keeps.extents) has.extents;
  sources = kept_sources old new p.tables p.job (λ j is. keeps.job j (has.job ∙ is)) has.sources;
}

-- one more step is counted
pub counted_holding : (whole : Whole) (actor : ℕ) (p : Holding) → HasHolding whole actor p → HasHolding (refused whole) actor p
counted_holding whole actor p has = record {
  descent = has.descent;
  job = has.job;
  published = has.published;
  told = has.told;
  grips = has.grips;
  extents = has.extents;
  sources = has.sources;
}

module _ {B : Type 0} (kind : BranchKind B) (old new : Holder) (history : History) (made : Step B) (answer : Reply B) (Saw : History → Type 0) (turn : MadeTurn kind old new history made answer Saw) where
  pub before_has : (p : Holding) → Holds old p → HasHolding (refused turn.turn.before) old.actor p
  before_has p has = counted_holding turn.turn.before old.actor p (kept_holding old.rule kind.tells old.at turn.turn.before old.actor p turn.legal.kept has)

  pub before_holding : (p : Holding) → IsHolding old p → HasHolding (refused turn.turn.before) old.actor p
  before_holding p is = before_has p is.has

  pub now_holding : (p : Holding) → new.actor ≡ old.actor → HasHolding new.at old.actor p → IsHolding new p
  now_holding p same has = record {
    sound = subst IsSound turn.after turn.legal.after;
    has = subst (λ (n : ℕ). HasHolding new.at n p) (sym same) has;
  }

  pub stays_has : (p : Holding) → new.actor ≡ old.actor → new.at ≡ refused turn.turn.before → Holds old p → IsHolding new p
  stays_has p same at has = now_holding p same (subst (λ (w : Whole). HasHolding w old.actor p) (sym at) (before_has p has))

  pub stays_holding : (p : Holding) → new.actor ≡ old.actor → new.at ≡ refused turn.turn.before → IsHolding old p → IsHolding new p
  stays_holding p same at is = stays_has p same at is.has

  pub within_actors : old.actor < ACTORS → old.actor < length (refused turn.turn.before).actors
  within_actors known = let count = turn.legal.sound.count in omega (arith, count, known)
