-- What a put and a rotation keep.
use Rattle.std.proofs.Common.{◌≡◌, ◌≢◌, ℕ, zero, suc, ◌+◌, ◌<◌, ◌≤◌, Bool, true, false, cond, List, [], ◌∷◌, ◌++◌, Option, Some, None, map, flat_map, length, length-append, refl, sym, ap, subst, ◌∙◌, inl, inr, arith}
use Rattle.std.specs.Prelude.{IsSome, All, slice_get, option_to_list, is_some, ◌⊎◌, unwrap_or}
use Rattle.std.proofs.lemmas.Bool.{cases_eq, cases_lt, true≢false, false≢true}
use Rattle.std.specs.Bool.{Decides}
use Rattle.std.proofs.lemmas.Grind.{flat_map-append}
use Rattle.std.proofs.lemmas.List.{append-nil}
use Rattle.std.proofs.lemmas.List.Sums.{fold-append}
use Rattle.std.proofs.lemmas.List.{get_or_past, map-append}
use Rattle.std.proofs.lemmas.Option.{slice_get_within, unwrap_or-slice_get}
use Rattle.std.proofs.lemmas.List.Elements.{All-get_or}
use Rattle.std.proofs.lemmas.Slice.Eq.{bytes_eq-Decides}
use Rattle.spl_message.specs.declared.message.Message.{Message}
use Rattle.spl_message.specs.Cell.{Cell}
use Rattle.spl_message.specs.Key.{same_key}
use Rattle.spl_message.specs.Message.{act, act_all, combine_all}
use Rattle.spl_message.specs.Rule.{Rule}
use Rattle.spl_message.specs.Table.{Table, as_table, chain, message_at}
use Rattle.spl_message.proofs.Messages.{act_all-combine_all}
use Rattle.spl_message.specs.Table.{IsTable, key_count}
use Rattle.spl_memtable.specs.Memtable.{IsFull, Puts}
use Rattle.spl_base.specs.declared.TheConstants.{ACTORS}
use Rattle.spl_extent.specs.declared.owner.Owner.{Owner}
use Rattle.spl_holds.specs.declared.grip.Grip.{Grip}
use Rattle.spl_node.specs.Node.{NodeData}
use Rattle.spl_tables.specs.Memtables.{FrozenData, MemtableData, AreMemtables, tables_of, rotated}
use Rattle.spl_tables.proofs.Kept.{AreMemtables-rotated}
use Rattle.spl_state.specs.declared.actor.Actor.{Actor}
use Rattle.spl_state.specs.declared.counters.Counters.{Counters}
use Rattle.spl_state.specs.declared.descent.Descent.{Descent}
use Rattle.spl_state.specs.declared.job.Job.{Job}
use Rattle.spl_state.specs.declared.job.Job.TheVariants.{Pack, Merge}
use Rattle.spl_state.specs.Actor.{idle, actor_in}
use Rattle.spl_state.specs.Actors.{IsActor, IsOnWay, IsAtWork, IsWorking, IsOf, IsPicked, ArePicked, HasTable}
use Rattle.spl_state.specs.Bounds.{AreBelow, AreBounded}
use Rattle.spl_state.specs.Frame.{IsFramed}
use Rattle.spl_state.specs.Sight.{SeesSource}
use Rattle.spl_state.specs.Sound.{IsSound, AreDrafts, meaning}
use Rattle.spl_trunk.specs.Trunk.{node_at}
use Rattle.spl_trunk.specs.Tree.{sub}
use Rattle.spl_state.specs.Whole.{BranchData, Whole, branches, table_in}
use Rattle.spl_state.proofs.Frames.{still_with, unchanged_framed}
use Rattle.spl_steps.specs.Memory.{HasPut, placed, has_rotated}

module _ (rule : Rule) where
  -- the tables and one newer than them act as the tables, and then that one
  pub newest_acts : (key : List ℕ) (cell : Cell) (tables : List Table) (last : Table) → act_all rule key cell (chain (tables ++ last ∷ []) key) ≡ act_all rule key (act_all rule key cell (chain tables key)) (option_to_list (message_at last key))
  newest_acts key cell tables last =
      let parts : Table → List Message = λ table. option_to_list (message_at table key) in
      let split : chain (tables ++ last ∷ []) key ≡ chain tables key ++ option_to_list (message_at last key) =
      flat_map-append parts tables (last ∷ []) ∙ ap (λ (l : List Message). chain tables key ++ l) (append-nil (parts last)) in
      ap (act_all rule key cell) split ∙ fold-append (act rule key) cell (chain tables key) (option_to_list (message_at last key))

  -- an empty one does nothing
  pub empty_acts : (key : List ℕ) (cell : Cell) (tables : List Table) → act_all rule key cell (chain (tables ++ as_table [] ∷ []) key) ≡ act_all rule key cell (chain tables key)
  empty_acts key cell tables = newest_acts key cell tables (as_table [])

  -- after a put the key has what the message makes of what it had, and every other key what it had
  module _ (tables : List Table) (old new : Table) (key : List ℕ) (message : Message) (puts : Puts rule old new key message) where
    at_key : (cell : Cell) → act_all rule key cell (chain (tables ++ new ∷ []) key) ≡ act rule key (act_all rule key cell (chain (tables ++ old ∷ []) key)) message
    at_key cell =
        let below = act_all rule key cell (chain tables key) in
        let had = option_to_list (message_at old key) in
        newest_acts key cell tables new
        ∙ ap (λ (m : Option Message). act_all rule key below (option_to_list m)) puts.this_key
        ∙ act_all-combine_all rule key below (had ++ message ∷ [])
        ∙ fold-append (act rule key) below had (message ∷ [])
        ∙ ap (λ (c : Cell). act rule key c message) (sym (newest_acts key cell tables old))

    elsewhere : (other : List ℕ) (cell : Cell) → other ≢ key → act_all rule other cell (chain (tables ++ new ∷ []) other) ≡ act_all rule other cell (chain (tables ++ old ∷ []) other)
    elsewhere other cell apart =
        newest_acts other cell tables new
        ∙ ap (λ (m : Option Message). act_all rule other (act_all rule other cell (chain tables other)) (option_to_list m)) (puts.other_keys other apart)
        ∙ sym (newest_acts other cell tables old)

    pub put_acts : (other : List ℕ) (cell : Cell) → act_all rule other cell (chain (tables ++ new ∷ []) other) ≡ cond (same_key other key) (act rule other (act_all rule other cell (chain (tables ++ old ∷ []) other)) message) (act_all rule other cell (chain (tables ++ old ∷ []) other))
    put_acts other cell = by (same_key other key) (bytes_eq-Decides other key)
      where
        by : (same : Bool) → Decides same (other ≡ key) → act_all rule other cell (chain (tables ++ new ∷ []) other) ≡ cond same (act rule other (act_all rule other cell (chain (tables ++ old ∷ []) other)) message) (act_all rule other cell (chain (tables ++ old ∷ []) other))
        by true tells = subst (λ (k : List ℕ). act_all rule k cell (chain (tables ++ new ∷ []) k) ≡ act rule k (act_all rule k cell (chain (tables ++ old ∷ []) k)) message) (sym (tells.0 refl)) (at_key cell)
        by false tells = elsewhere other cell (λ same. true≢false (sym (tells.1 same)))

none_is_some : {A : Type 0} (x : A) → None ≡ Some x → ⊥
none_is_some x is = cc

some_same : {A : Type 0} (x y : A) → Some x ≡ Some y → x ≡ y
some_same x y is = cc

-- the same of the whole state, which is seen through its parts
pub put_means : (rule : Rule) (whole old : Whole) (view_is : whole ≡ old) (tables : MemtableData) (counters : Counters) (key : List ℕ) (message : Message) → tables.frozen ≡ whole.tables.frozen → Puts rule whole.tables.active tables.active key message → (other : List ℕ) → meaning rule (record whole { tables = tables; counters = counters }) other ≡ cond (same_key other key) (act rule other (meaning rule old other) message) (meaning rule old other)
put_means rule whole old view_is tables counters key message frozen puts other =
    let base = sub rule (table_in (branches whole)) (node_at whole.nodes) (node_at whole.nodes 0).height 0 other in
    let older = map (λ (f : FrozenData). f.table) whole.tables.frozen in
    let moved : meaning rule (record whole { tables = tables; counters = counters }) other ≡ act_all rule other base (chain (older ++ tables.active ∷ []) other) =
    ap (λ (f : List FrozenData). act_all rule other base (chain (map (λ (g : FrozenData). g.table) f ++ tables.active ∷ []) other)) frozen in
    let acts = put_acts rule older whole.tables.active tables.active key message puts other base in
    moved ∙ acts ∙ ap (λ (w : Whole). cond (same_key other key) (act rule other (meaning rule w other) message) (meaning rule w other)) view_is

-- the memtables after a put
key_room : (o : Option Message) (old new limit : ℕ) → o ≡ None ⊎ IsSome o → (o ≡ None → old ≢ limit) → old ≤ limit → new ≡ old + cond (is_some o) 0 1 → new ≤ limit
key_room None old new limit either free below is = omega (arith, free refl)
key_room (Some m) old new limit either free below is = omega arith

put_memtables : (rule : Rule) (old new : MemtableData) (key : List ℕ) (message : Message) → AreMemtables old → new.frozen ≡ old.frozen → new.next ≡ old.next → Puts rule old.active new.active key message → (IsFull old.active key → ⊥) → AreMemtables new
put_memtables rule old new key message are frozen next puts free =
    let kept : AreMemtables (record { active = new.active; frozen = old.frozen; next = old.next }) = record {
      few = are.few;
      rising = are.rising;
      below_next = are.below_next;
      full = are.full;
      in_order = are.in_order;
      active_limit = key_room (message_at old.active key) (key_count old.active) (key_count new.active) 1024 (either (message_at old.active key)) (λ missing at_limit. free (record { missing = missing; keys = at_limit })) are.active_limit puts.keys;
      active_in_order = puts.order;
    } in
    let with_next = subst (λ (n : ℕ). AreMemtables (record { active = new.active; frozen = old.frozen; next = n })) (sym next) kept in
    subst (λ (f : List FrozenData). AreMemtables (record { active = new.active; frozen = f; next = new.next })) (sym frozen) with_next
  where
    either : (o : Option Message) → o ≡ None ⊎ IsSome o
    either None = inl refl
    either (Some m) = inr refl

-- one place more leaves each actor as it is
later_way : (nodes : List NodeData) (grips : List (List Grip)) (places number : ℕ) (actor : Actor) (descent : Option Descent) → IsOnWay nodes grips places number actor descent → IsOnWay nodes grips (places + 1) number actor descent
later_way nodes grips places number actor None way = way
later_way nodes grips places number actor (Some descent) way = record {
  exists = way.exists;
  told = way.told;
  reads = way.reads;
  alone = way.alone;
  no_job = way.no_job;
  place = omega (arith, way.place);
  lies = way.lies;
}

pub put_sound : (rule : Rule) (old : Whole) (tables : MemtableData) (key : List ℕ) (message : Message) → IsSound old → AreBelow old.nodes old.tables old.counters → tables.frozen ≡ old.tables.frozen → tables.next ≡ old.tables.next → Puts rule old.tables.active tables.active key message → (IsFull old.tables.active key → ⊥) → IsSound (record old { tables = tables; counters = placed old.counters })
put_sound rule old tables key message sound below frozen next puts free = record {
  shaped = sound.shaped;
  latches = sound.latches;
  latched = sound.latched;
  extents = sound.extents;
  memtables = put_memtables rule old.tables tables key message sound.memtables frozen next puts free;
  count = sound.count;
  actors = λ number known.
      let is = sound.actors number known in
      let actor = actor_in old.actors number in
      let later : IsActor old.nodes (branches old) old.owners old.grips old.tables.frozen (old.counters.places + 1) old.counters.branches number actor = record {
        told = is.told;
        knows_root = is.knows_root;
        descent = later_way old.nodes old.grips old.counters.places number actor actor.descent is.descent;
        job = is.job;
      } in
      subst (λ (f : List FrozenData). IsActor old.nodes (branches old) old.owners old.grips f (old.counters.places + 1) old.counters.branches number actor) (sym frozen) later;
  apart = sound.apart;
  picked = subst (λ (f : List FrozenData). ArePicked f old.actors) (sym frozen) sound.picked;
  runs = sound.runs;
  ends = sound.ends;
  bounds = record {
    steps = sound.bounds.steps;
    places = omega (arith, below.places);
    branches = sound.bounds.branches;
    memtables = omega (arith, next, sound.bounds.memtables);
    lists = sound.bounds.lists;
    generations = sound.bounds.generations;
    height = sound.bounds.height;
    numbers = sound.bounds.numbers;
  };
}

-- what stands in a list stands there still where one more is added, and what stands there then stood there before or is that one
got_before : {A : Type 0} (xs : List A) (y x : A) (i : ℕ) → slice_get xs i ≡ Some x → slice_get (xs ++ y ∷ []) i ≡ Some x
got_before [] y x i at = absurd (none_is_some x at)
got_before (z ∷ zs) y x zero at = at
got_before (z ∷ zs) y x (suc i) at = got_before zs y x i at

got_either : {A : Type 0} (xs : List A) (y x : A) (i : ℕ) → slice_get (xs ++ y ∷ []) i ≡ Some x → (slice_get xs i ≡ Some x) ⊎ (x ≡ y)
got_either [] y x zero at = inr cc
got_either [] y x (suc i) at = absurd (none_is_some x at)
got_either (z ∷ zs) y x zero at = inl at
got_either (z ∷ zs) y x (suc i) at = got_either zs y x i at

all_at : {A : Type 0} (P : A → Type 0) (xs : List A) (i : ℕ) (x : A) → slice_get xs i ≡ Some x → All P xs → P x
all_at P xs i x at all =
    subst P (sym (unwrap_or-slice_get xs i x) ∙ ap (λ o. unwrap_or o x) at) (All-get_or P xs i x (slice_get_within xs i x at) all)

module _ (old : Whole) (sound : IsSound old) where
  abbrev last : FrozenData
  last = record { number = old.tables.next; table = old.tables.active; picked = None }

  still_of : (actor : ℕ) (job : Job) → IsOf old.nodes old.tables.frozen actor job → IsOf old.nodes (old.tables.frozen ++ last ∷ []) actor job
  still_of actor (Pack number table) is = (is.0, is.1, got_before old.tables.frozen last _ is.0 is.2)
  still_of actor (Merge number run) is = is

  still_at_work : (actor : ℕ) (job : Option Job) (published : Bool) → IsAtWork old.nodes (branches old) old.owners old.tables.frozen old.counters.branches actor job published → IsAtWork old.nodes (branches old) old.owners (old.tables.frozen ++ last ∷ []) old.counters.branches actor job published
  still_at_work actor None published work = work
  still_at_work actor (Some job) published work = record {
    number = work.number;
    source = still_of actor job work.source;
    unpublished = work.unpublished;
    draft = work.draft;
    nothing = work.nothing;
  }

  picked_by_none : (actor : ℕ) → None ≡ Some actor → ⊥
  picked_by_none actor is = none_is_some actor is

  pub rotated_sound : AreBelow old.nodes old.tables old.counters → length old.tables.frozen < 4 → key_count old.tables.active ≡ 1024 → IsSound (has_rotated old)
  rotated_sound below room full = record {
    shaped = sound.shaped;
    latches = sound.latches;
    latched = sound.latched;
    extents = sound.extents;
    memtables = AreMemtables-rotated old.tables sound.memtables room full;
    count = sound.count;
    actors = λ number known. record {
      told = (sound.actors number known).told;
      knows_root = (sound.actors number known).knows_root;
      descent = (sound.actors number known).descent;
      job = still_at_work number (actor_in old.actors number).job (actor_in old.actors number).published (sound.actors number known).job;
    };
    apart = sound.apart;
    picked = λ i actor f at is. elim (got_either old.tables.frozen last f i at) [
      | inl before ↦ sound.picked i actor f before is
      | inr newest ↦ absurd (picked_by_none actor (sym (ap (λ (g : FrozenData). g.picked) newest) ∙ is))
    ];
    runs = sound.runs;
    ends = sound.ends;
    bounds = record {
      steps = sound.bounds.steps;
      places = sound.bounds.places;
      branches = sound.bounds.branches;
      memtables = omega (arith, below.memtables);
      lists = sound.bounds.lists;
      generations = sound.bounds.generations;
      height = sound.bounds.height;
      numbers = sound.bounds.numbers;
    };
  }

  same_sources : (job : Job) → SeesSource old (has_rotated old) job
  same_sources (Pack number table) = λ i f at is. (i, got_before old.tables.frozen last f i at)
  same_sources (Merge number run) = λ n among. refl

  -- an actor with a job is one of the 32
  worker : (number : ℕ) (job : Job) → (actor_in old.actors number).job ≡ Some job → number < ACTORS
  worker number job is = elim (cases_lt number (length old.actors)) [
    | inl below ↦ omega (arith, sound.count)
    | inr past ↦ absurd (none_is_some job (sym (ap (λ (a : Actor). a.job) (get_or_past old.actors number idle past)) ∙ is))
  ]

  packs_older : (number table actor : ℕ) → IsPicked old.tables.frozen table actor → table ≢ old.tables.next
  packs_older number table actor picked same =
      let within = slice_get_within old.tables.frozen picked.0 _ picked.2 in
      let below = all_at (λ (f : FrozenData). f.number < old.tables.next) old.tables.frozen picked.0 _ picked.2 sound.memtables.below_next in
      omega (arith, below, same)

  still_has : (rule : Rule) (actor : ℕ) (job : Job) → IsOf old.nodes old.tables.frozen actor job → HasTable rule (branches old) old.tables.frozen job → HasTable rule (branches old) (old.tables.frozen ++ last ∷ []) job
  still_has rule actor (Pack number table) picked has = λ i f at is. elim (got_either old.tables.frozen last f i at) [
    | inl before ↦ has i f before is
    | inr newest ↦ absurd (packs_older number table actor picked (sym is ∙ ap (λ (g : FrozenData). g.number) newest))
  ]
  still_has rule actor (Merge number run) picked has = has

  source_of : (number : ℕ) (job : Job) (o : Option Job) → o ≡ Some job → IsAtWork old.nodes (branches old) old.owners old.tables.frozen old.counters.branches number o (actor_in old.actors number).published → IsOf old.nodes old.tables.frozen number job
  source_of number job None is work = absurd (none_is_some job is)
  source_of number job (Some j) is work = subst (λ (k : Job). IsOf old.nodes old.tables.frozen number k) (some_same j job is) work.source

  pub rotated_framed : (rule : Rule) (tells : Bool) (actor : ℕ) → (tells ≡ true → AreDrafts rule old) → IsFramed rule tells old (has_rotated old) actor
  rotated_framed rule tells actor drafts = record {
    drafts = λ told number job is published.
        let known = worker number job is in
        still_has rule number job (source_of number job (actor_in old.actors number).job is (sound.actors number known).job) (drafts told number job is published);
    means = λ told key.
        let base = sub rule (table_in (branches old)) (node_at old.nodes) (node_at old.nodes 0).height 0 key in
        let tables = map-append (λ (f : FrozenData). f.table) old.tables.frozen (last ∷ []) in
        ap (λ (ts : List Table). act_all rule key base (chain (ts ++ as_table [] ∷ []) key)) tables ∙ empty_acts rule key base (tables_of old.tables);
    others = λ other below apart. still_with rule tells old (has_rotated old) other refl refl (λ job is. same_sources job) refl refl (λ node. refl);
  }

-- a rotation, seen through the parts of the state
module _ (whole old : Whole) (view_is : whole ≡ old) (tables : MemtableData) where
  pub rotation_framed : IsSound whole → tables ≡ rotated whole.tables → (rule : Rule) (tells : Bool) (actor : ℕ) → (tells ≡ true → AreDrafts rule old) → IsFramed rule tells old (record whole { tables = tables }) actor
  rotation_framed sound is rule tells actor drafts =
      let sound_old = subst (λ (w : Whole). IsSound w) view_is sound in
      let framed = rotated_framed old sound_old rule tells actor drafts in
      let here : IsFramed rule tells old (has_rotated whole) actor = subst (λ (w : Whole). IsFramed rule tells old (has_rotated w) actor) (sym view_is) framed in
      subst (λ (t : MemtableData). IsFramed rule tells old (record whole { tables = t }) actor) (sym is) here

  pub same_tables_framed : tables ≡ whole.tables → (rule : Rule) (tells : Bool) (actor : ℕ) → (tells ≡ true → AreDrafts rule old) → IsFramed rule tells old (record whole { tables = tables }) actor
  same_tables_framed is rule tells actor drafts =
      let framed = unchanged_framed rule tells old drafts actor in
      let here : IsFramed rule tells old whole actor = subst (λ (w : Whole). IsFramed rule tells old w actor) (sym view_is) framed in
      subst (λ (t : MemtableData). IsFramed rule tells old (record whole { tables = t }) actor) (sym is) here

pub same_tables_sound : (whole : Whole) (tables : MemtableData) → IsSound whole → tables ≡ whole.tables → IsSound (record whole { tables = tables })
same_tables_sound whole tables sound is = subst (λ (t : MemtableData). IsSound (record whole { tables = t })) (sym is) sound

pub rotation_sound : (whole : Whole) (tables : MemtableData) → IsSound whole → AreBelow whole.nodes whole.tables whole.counters → length whole.tables.frozen < 4 → key_count whole.tables.active ≡ 1024 → tables ≡ rotated whole.tables → IsSound (record whole { tables = tables })
rotation_sound whole tables sound below room full is = subst (λ (t : MemtableData). IsSound (record whole { tables = t })) (sym is) (rotated_sound whole sound below room full)
