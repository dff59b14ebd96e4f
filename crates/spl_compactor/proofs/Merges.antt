-- The branches of a run become one.
use Rattle.std.proofs.Common.{◌≡◌, ℕ, ◌+◌, Bool, true, false, List, [], ◌∷◌, ◌++◌, Option, Some, None, length, map, refl, sym, ap, subst, ◌∙◌, length-append, arith}
use Rattle.std.specs.Prelude.{IfOk, IfSome, IsNone, Result, Ok, Err, ◌↔◌}
use Rattle.std.proofs.lemmas.Bool.{true≢false}
use Rattle.spl_message.specs.declared.message.Message.{Message}
use Rattle.spl_message.specs.Entries.{Entries}
use Rattle.spl_message.specs.Key.{is_below}
use Rattle.spl_message.specs.Rule.{Rule}
use Rattle.spl_message.specs.Table.{IsMerged, Table, as_table, part_of}
use Rattle.spl_branch.specs.Branch.{Branch, table_of}
use Rattle.spl_build.specs.Builder.{Building, added}
use Rattle.spl_build.specs.declared.stage.Stage.TheVariants.{Adding}
use Rattle.spl_merge.specs.Merger.{IsAbove}
use Rattle.spl_streams.specs.Building.{HasGiven, Merge as MergeOf}
use Rattle.spl_streams.specs.Merging.{Gives, IsNext, Keeps, Merging}
use Rattle.spl_streams.proofs.Building.{given_all, given_more, given_none}
use Rattle.spl_state.specs.declared.job.Job.TheVariants.{Merge}
use Rattle.spl_state.specs.declared.job.Run.{Run}
use Rattle.spl_state.specs.declared.sight.Ticket.{Ticket}
use Rattle.spl_desk.specs.Holder.{Holder}
use Rattle.spl_desk.specs.declared.fault.CallFault.{CallFault}
use Rattle.spl_job.specs.Holding.{Builds as IsBuilder, Holding, IsHolding, after_grant, with_branch}
use Rattle.spl_output.specs.Building.{AddsAt, BuildsAt, after_grants, with_granted}
use Rattle.spl_compactor.specs.Compacting.{IsMergedOut, IsMerger, IsStarted, IsToPlace, IsUnderWay, IsWritten, no_grip, run_at}
use Rattle.spl_compactor.specs.Stopping.{AllTold}

-- ---- fewer nodes
pub merger_least : (holder : Holder) (least number : ℕ) (run : Run) (holding : Holding) → IsMerger holder least number run holding → IsMerger holder 0 number run holding
merger_least holder least number run holding is = record {
  holds = is.holds;
  job = is.job;
  unpublished = is.unpublished;
  free = is.free;
  told = omega arith;
}

pub started_least : (holder : Holder) (least : ℕ) (ticket : Ticket Branch) → IsStarted holder least ticket → IsStarted holder 0 ticket
started_least holder least ticket is = record {
  holding = is.holding;
  merger = merger_least holder least ticket.number (run_at ticket) is.holding is.merger;
  tables = is.tables;
  extents = is.extents;
}

pub merged_out_least : (tells : Bool) (holder : Holder) (least : ℕ) (builder : Building) → IsMergedOut tells holder least builder → IsMergedOut tells holder 0 builder
merged_out_least tells holder least builder is = record {
  number = is.number;
  run = is.run;
  holding = is.holding;
  given = is.given;
  merger = merger_least holder least is.number is.run is.holding is.merger;
  has_added = is.has_added;
  merged = is.merged;
}

pub written_least : (tells : Bool) (holder : Holder) (least : ℕ) (output : Option Branch) → IsWritten tells holder least output → IsWritten tells holder 0 output
written_least tells holder least output is = record {
  number = is.number;
  run = is.run;
  holding = is.holding;
  merger = merger_least holder least is.number is.run is.holding is.merger;
  some = is.some;
  none = is.none;
}

-- ---- an actor that merges builds a branch
pub merger_builds : (holder : Holder) (least number : ℕ) (run : Run) (holding : Holding) → IsMerger holder least number run holding → (one : Holding) × IsHolding holder one × IsBuilder one
merger_builds holder least number run holding is = (holding, is.holds, (is.unpublished, Merge number run, is.job))

granted_number : (before : Building) (granted : Option ℕ) → (with_granted before granted).number ≡ before.number
granted_number before None = refl
granted_number before (Some extent) = refl

granted_entries : (before : Building) (granted : Option ℕ) → (with_granted before granted).entries ≡ before.entries
granted_entries before None = refl
granted_entries before (Some extent) = refl

granted_stage : (before : Building) (granted : Option ℕ) → (with_granted before granted).stage ≡ before.stage
granted_stage before None = refl
granted_stage before (Some extent) = refl

granted_added : (before : Building) (granted : Option ℕ) → added (with_granted before granted) ≡ added before
granted_added before None = refl
granted_added before (Some extent) = refl

granted_extents : (before : Building) (holding : Holding) (granted : Option ℕ) → before.extents ≡ holding.extents → (with_granted before granted).extents ≡ (after_grant holding granted).extents
granted_extents before holding None same = same
granted_extents before holding (Some extent) same = ap (λ (es : List ℕ). es ++ extent ∷ []) same

granted_tables : (holding : Holding) (granted : Option ℕ) → (after_grant holding granted).tables ≡ holding.tables
granted_tables holding None = refl
granted_tables holding (Some extent) = refl

granted_merger : (old new : Holder) (least number : ℕ) (run : Run) (holding : Holding) (granted : Option ℕ) → IsMerger old least number run holding → IsHolding new (after_grant holding granted) → IsMerger new least number run (after_grant holding granted)
granted_merger old new least number run holding None is holds = record {
  holds = holds;
  job = is.job;
  unpublished = is.unpublished;
  free = is.free;
  told = is.told;
}
granted_merger old new least number run holding (Some extent) is holds = record {
  holds = holds;
  job = is.job;
  unpublished = is.unpublished;
  free = is.free;
  told = is.told;
}

pub above_last : (last : Option (List ℕ)) (key : List ℕ) → IsAbove last key → IfSome last (λ one. is_below one key ≡ true)
above_last None key above = tt
above_last (Some last) key above = above

module _ (tells : Bool) (old : Holder) (least : ℕ) (before : Building) (merging : Merging) (way : IsUnderWay tells old least before merging) where
  -- the next key is above the last one of the branch
  pub next_rises : (next : Merging) (key : List ℕ) → IsNext merging key next → IfSome before.last (λ one. is_below one key ≡ true)
  next_rises next key is = above_last before.last key (way.rises key is.above)

  pub way_builds : (one : Holding) × IsHolding old one × IsBuilder one
  way_builds = merger_builds old least way.number way.run way.holding way.merger

  pub way_known : tells ≡ true → AllTold merging.branches
  way_known told = subst AllTold (sym way.has_given.branches) (way.known told)

  -- one entry more
  pub way_more : (new : Holder) (after : Building) (next : Merging) (key : List ℕ) (message : Message) → new.rule ≡ old.rule → Keeps merging next → next.failed ≡ false → IsNext merging key next → (tells ≡ true → Gives old.rule merging (Some (key, message)) next) → AddsAt tells old new before after key message → IsUnderWay tells new least after next
  way_more new after next key message same keeps sound is gives adds =
      let entry : List ℕ × Message = (key, message) in
      let merge : MergeOf = record { branches = way.branches; span = way.run.span; bottom = way.run.bottom } in
      let holding = after_grant way.holding adds.granted in
      let was = way.has_added in
      let count : length (way.given ++ entry ∷ []) ≡ length way.given + 1 = length-append way.given (entry ∷ []) in
      let counted = was.count in
      let kept = granted_entries before adds.granted in
      let more = adds.adds.entries in
      record {
        number = way.number;
        run = way.run;
        holding = holding;
        branches = way.branches;
        given = way.given ++ entry ∷ [];
        merger = granted_merger old new least way.number way.run way.holding adds.granted way.merger (adds.holds way.holding way.merger.holds);
        tables = granted_tables way.holding adds.granted ∙ way.tables;
        known = way.known;
        has_given = subst (λ (rule : Rule). HasGiven tells rule merge (way.given ++ entry ∷ []) next) (sym same)
            (given_more tells old.rule merge way.given entry merging next way.has_given keeps is gives);
        has_added = record {
          number_is = adds.adds.number ∙ granted_number before adds.granted ∙ was.number_is;
          extents_are = adds.adds.extents ∙ granted_extents before way.holding adds.granted was.extents_are;
          first = λ none. absurd (omega (arith, none, more));
          count = omega (arith, count, counted, kept, more);
          stage = adds.adds.stage ∙ granted_stage before adds.granted ∙ was.stage;
          stopped = adds.adds.stopped;
          told = λ told. adds.adds.table told ∙ ap (λ (es : Entries). es ++ entry ∷ []) (granted_added before adds.granted ∙ was.told told);
        };
        rises = λ other above.
            subst (λ (last : Option (List ℕ)). IsAbove last other) (sym adds.adds.last)
            (subst (λ (last : Option (List ℕ)). IsAbove last other) is.last above);
        sound = sound;
      }

  -- no entry more
  pub way_over : (next : Merging) → (tells ≡ true → Gives old.rule merging None next) → IsMergedOut tells old least before
  way_over next gives =
      let merge : MergeOf = record { branches = way.branches; span = way.run.span; bottom = way.run.bottom } in
      record {
        number = way.number;
        run = way.run;
        holding = way.holding;
        given = way.given;
        merger = way.merger;
        has_added = way.has_added;
        merged = λ told. subst (λ (tables : List Table). IsMerged old.rule tables way.run.span way.run.bottom (as_table way.given)) (sym way.tables)
            (given_all tells old.rule merge way.given merging next way.has_given told (gives told));
      }

-- what the next entry is, by the rule of the holder
pub given_by : (old new : Merging) (rule other : Rule) (given is : Option (List ℕ × Message)) → rule ≡ other → given ≡ is → Gives rule old given new → Gives other old is new
given_by old new rule other given is same named gives =
    subst (λ (one : Rule). Gives one old is new) same (subst (λ (one : Option (List ℕ × Message)). Gives rule old one new) named gives)

pub next_by : (old new : Merging) (given : Option (List ℕ × Message)) (entry : List ℕ × Message) → given ≡ Some entry → IfSome given (λ one. IsNext old one.0 new) → IsNext old entry.0 new
next_by old new given entry named next = subst (λ (one : Option (List ℕ × Message)). IfSome one (λ it. IsNext old it.0 new)) named next

pub way_least : (tells : Bool) (holder : Holder) (least : ℕ) (builder : Building) (merging : Merging) → IsUnderWay tells holder least builder merging → IsUnderWay tells holder 0 builder merging
way_least tells holder least builder merging way = record {
  number = way.number;
  run = way.run;
  holding = way.holding;
  branches = way.branches;
  given = way.given;
  merger = merger_least holder least way.number way.run way.holding way.merger;
  tables = way.tables;
  known = way.known;
  has_given = way.has_given;
  has_added = way.has_added;
  rises = way.rises;
  sound = way.sound;
}

-- ---- before the first entry
-- what `Merged::new` leaves
abbrev pub fresh_merging : Ticket Branch → List Branch → ℕ → Merging
fresh_merging ticket branches unread = record {
  branches = branches;
  span = ticket.span;
  bottom = ticket.bottom;
  left = map (λ branch. part_of ticket.span (table_of branch)) branches;
  unread = unread;
  last = None;
  failed = false;
}

-- what `Builder::new` leaves
abbrev pub fresh_builder : ℕ → Building
fresh_builder number = record {
  number = number;
  extents = [];
  parts = [];
  begun = [];
  entries = 0;
  hashes = [];
  cuts = [];
  last = None;
  roots = 0;
  stage = Adding;
  stopped = None;
}

pub way_first : (tells : Bool) (holder : Holder) (least : ℕ) (ticket : Ticket Branch) (builder : Building) (branches : List Branch) (unread : ℕ) → IsStarted holder least ticket → branches ≡ ticket.inputs → (tells ≡ true → AllTold branches) → builder ≡ fresh_builder ticket.number → IsUnderWay tells holder least builder (fresh_merging ticket branches unread)
way_first tells holder least ticket builder branches unread started same known is = record {
  number = ticket.number;
  run = run_at ticket;
  holding = started.holding;
  branches = branches;
  given = [];
  merger = started.merger;
  tables = started.tables ∙ ap (map table_of) (sym same);
  known = known;
  has_given = given_none tells holder.rule (record { branches = branches; span = ticket.span; bottom = ticket.bottom }) unread;
  has_added = record {
    number_is = ap (λ (b : Building). b.number) is;
    extents_are = ap (λ (b : Building). b.extents) is ∙ sym started.extents;
    first = λ none. started.extents;
    count = ap (λ (b : Building). b.entries) is;
    stage = ap (λ (b : Building). b.stage) is;
    stopped = ap (λ (b : Building). b.stopped) is;
    told = λ told. ap added is;
  };
  rises = λ key above. subst (λ (last : Option (List ℕ)). IsAbove last key) (sym (ap (λ (b : Building). b.last) is)) above;
  sound = refl;
}

-- ---- the branch
module _ (tells : Bool) (old new : Holder) (least : ℕ) (builder : Building) (out : IsMergedOut tells old least builder) (same : new.rule ≡ old.rule) where
  merged_now : tells ≡ true → IsMerged new.rule out.holding.tables out.run.span out.run.bottom (as_table out.given)
  merged_now told = subst (λ (rule : Rule). IsMerged rule out.holding.tables out.run.span out.run.bottom (as_table out.given)) (sym same) (out.merged told)

  pub written_some : (branch : Branch) → BuildsAt tells old new builder branch → IsWritten tells new least (Some branch)
  written_some branch built =
      let was = out.has_added in
      record {
        number = out.number;
        run = out.run;
        holding = after_grants out.holding built.granted;
        merger = record {
          holds = built.holds out.holding out.merger.holds;
          job = out.merger.job;
          unpublished = out.merger.unpublished;
          free = out.merger.free;
          told = out.merger.told;
        };
        some = record {
          job = Merge out.number out.run;
          has_job = out.merger.job;
          unpublished = out.merger.unpublished;
          number_is = built.builds.number ∙ was.number_is;
          extents_are = built.builds.extents ∙ ap (λ (es : List ℕ). es ++ built.granted) was.extents_are;
          table_is = λ told.
              subst (λ (table : Table). IsMerged new.rule out.holding.tables out.run.span out.run.bottom table)
              (sym (built.builds.table told ∙ ap as_table (was.told told))) (merged_now told);
        };
        none = λ is. absurd (true≢false is);
      }

  -- nothing was added
  no_entry : (given : Entries) → length given ≡ 0 → given ≡ []
  no_entry [] none = refl
  no_entry (entry ∷ given) none = absurd (omega (arith, none))

  pub written_none : builder.entries ≡ 0 → ((holding : Holding) → IsHolding old holding → IsHolding new holding) → IsWritten tells new least None
  written_none none holds =
      let was = out.has_added in
      record {
        number = out.number;
        run = out.run;
        holding = out.holding;
        merger = record {
          holds = holds out.holding out.merger.holds;
          job = out.merger.job;
          unpublished = out.merger.unpublished;
          free = out.merger.free;
          told = out.merger.told;
        };
        some = tt;
        none = λ is. (
          was.first none,
          λ told.
              subst (λ (given : Entries). IsMerged new.rule out.holding.tables out.run.span out.run.bottom (as_table given))
              (no_entry out.given (sym was.count ∙ none)) (merged_now told),
        );
      }

  pub written : (result : Result (Option Branch) CallFault) → IfOk result (λ answer. IfSome answer (λ branch. BuildsAt tells old new builder branch)) → IfOk result (λ answer. IsNone answer ↔ (builder.entries ≡ 0)) → (result ≡ Ok None → (holding : Holding) → IsHolding old holding → IsHolding new holding) → IfOk result (IsWritten tells new least)
  written (Ok (Some branch)) built none holds = written_some branch built
  written (Ok None) built none holds = written_none (none.0 refl) (holds refl)
  written (Err _) built none holds = tt

-- ---- the published branch, or nothing, waits for its place
pub published_some : (tells : Bool) (old new : Holder) (least : ℕ) (branch : Branch) (written : IsWritten tells old least (Some branch)) → IsHolding new (with_branch written.holding) → IsToPlace tells new least true no_grip
published_some tells old new least branch written is = record {
  number = written.number;
  run = written.run;
  holding = with_branch written.holding;
  holds = is;
  job = written.merger.job;
  published = refl;
  extents = refl;
  grips_are = written.merger.free;
  told = written.merger.told;
  merged = λ told none. absurd (true≢false none);
}

pub published_none : (tells : Bool) (holder : Holder) (least : ℕ) → IsWritten tells holder least None → IsToPlace tells holder least false no_grip
published_none tells holder least written = record {
  number = written.number;
  run = written.run;
  holding = written.holding;
  holds = written.merger.holds;
  job = written.merger.job;
  published = written.merger.unpublished;
  extents = (written.none refl).0;
  grips_are = written.merger.free;
  told = written.merger.told;
  merged = λ told none. (written.none refl).1 told;
}
