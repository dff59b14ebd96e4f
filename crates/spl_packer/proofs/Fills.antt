-- A branch is filled with what a picked table has.
use Rattle.std.proofs.Common.{◌≡◌, ℕ, ◌+◌, Bool, List, [], ◌∷◌, ◌++◌, Option, Some, None, length, slice_get, refl, sym, ap, subst, ◌∙◌, length-append, append_assoc, append-nil, arith}
use Rattle.std.specs.Prelude.{All}
use Rattle.std.specs.List.Sorted.{IsStrictlySortedBy}
use Rattle.std.specs.Ordering.{is_lt}
use Rattle.std.proofs.lemmas.Option.{get_or_from_slice_get, slice_get_within}
use Rattle.spl_message.specs.declared.message.Message.{Message}
use Rattle.spl_message.specs.Entries.{AreEntries, Entries}
use Rattle.spl_message.specs.Table.{IsTable, Table, as_table, key_count}
use Rattle.spl_branch.specs.Branch.{Branch, table_of}
use Rattle.spl_build.specs.Builder.{Building, added}
use Rattle.spl_build.specs.declared.stage.Stage.TheVariants.{Adding}
use Rattle.spl_tables.specs.Memtables.{FrozenData}
use Rattle.spl_state.specs.declared.job.Job.TheVariants.{Pack}
use Rattle.spl_desk.specs.Holder.{Holder}
use Rattle.spl_job.specs.declared.steps.Picked.{Picked}
use Rattle.spl_job.specs.Holding.{Builds as IsBuilder, Holding, IsHolding, after_grant}
use Rattle.spl_output.specs.Building.{AddsAt, BuildsAt, with_granted}
use Rattle.spl_packer.specs.Packs.{HasPicked, IsBefore, IsBuilt, IsFilling, packs}

-- an actor that builds has a job of which nothing is published
pub picked_builds : (holder : Holder) (picked : Picked) (extents : List ℕ) → HasPicked holder picked extents → (holding : Holding) × IsHolding holder holding × IsBuilder holding
picked_builds holder picked extents has = (packs picked has.0 has.1 extents, has.2, (refl, Pack picked.number has.0, refl))

nothing_before : (entries : Entries) → IsBefore None entries
nothing_before [] = tt
nothing_before (entry ∷ entries) = tt

-- nothing was added
pub fills_first : (tells : Bool) (holder : Holder) (builder : Building) (picked : Picked) → IsTable picked.table → builder.number ≡ picked.number → builder.extents ≡ [] → builder.entries ≡ 0 → builder.last ≡ None → builder.stage ≡ Adding → builder.stopped ≡ None → added builder ≡ [] → HasPicked holder picked [] → IsFilling tells holder builder picked picked.table.messages
fills_first tells holder builder picked order number extents entries last stage stopped empty has = record {
  done = [];
  parts = refl;
  order = order;
  before = subst (λ (o : Option (List ℕ)). IsBefore o picked.table.messages) (sym last) (nothing_before picked.table.messages);
  number = number;
  entries = entries;
  stage = stage;
  stopped = stopped;
  has = subst (λ (es : List ℕ). HasPicked holder picked es) (sym extents) has;
  told = λ tells. empty;
}

rest_in_order : (entry : List ℕ × Message) (left : Entries) → AreEntries (entry ∷ left) → AreEntries left
unfolding IsStrictlySortedBy
rest_in_order entry left order = order.1

key_before : (entry : List ℕ × Message) (left : Entries) → AreEntries (entry ∷ left) → IsBefore (Some entry.0) left
unfolding IsStrictlySortedBy
key_before entry [] order = tt
key_before entry (next ∷ left) order = ap is_lt order.0.0

granted_number : (before : Building) (granted : Option ℕ) → (with_granted before granted).number ≡ before.number
granted_number before None = refl
granted_number before (Some extent) = refl

granted_entries : (before : Building) (granted : Option ℕ) → (with_granted before granted).entries ≡ before.entries
granted_entries before None = refl
granted_entries before (Some extent) = refl

granted_stage : (before : Building) (granted : Option ℕ) → (with_granted before granted).stage ≡ before.stage
granted_stage before None = refl
granted_stage before (Some extent) = refl

granted_added : (before : Building) (granted : Option ℕ) → added (with_granted before granted) ≡ added before
granted_added before None = refl
granted_added before (Some extent) = refl

granted_has : (holder : Holder) (picked : Picked) (memtable told : ℕ) (before : Building) (granted : Option ℕ) → IsHolding holder (after_grant (packs picked memtable told before.extents) granted) → HasPicked holder picked (with_granted before granted).extents
granted_has holder picked memtable told before None is = (memtable, told, is)
granted_has holder picked memtable told before (Some extent) is = (memtable, told, is)

-- one entry more was added
pub fills_more : (tells : Bool) (old new : Holder) (before after : Building) (picked : Picked) (key : List ℕ) (message : Message) (left : Entries) → IsFilling tells old before picked ((key, message) ∷ left) → AddsAt tells old new before after key message → IsFilling tells new after picked left
fills_more tells old new before after picked key message left filling adds =
    let entry : List ℕ × Message = (key, message) in
    let count : length (filling.done ++ entry ∷ []) ≡ length filling.done + 1 = length-append filling.done (entry ∷ []) in
    let was = filling.entries in
    let same = granted_entries before adds.granted in
    let more = adds.adds.entries in
    record {
      done = filling.done ++ entry ∷ [];
      parts = filling.parts ∙ sym (append_assoc filling.done (entry ∷ []) left);
      order = rest_in_order entry left filling.order;
      before = subst (λ (o : Option (List ℕ)). IsBefore o left) (sym adds.adds.last) (key_before entry left filling.order);
      number = adds.adds.number ∙ granted_number before adds.granted ∙ filling.number;
      entries = omega (arith, count, was, same, more);
      stage = adds.adds.stage ∙ granted_stage before adds.granted ∙ filling.stage;
      stopped = adds.adds.stopped;
      has = subst (λ (es : List ℕ). HasPicked new picked es) (sym adds.adds.extents)
          (granted_has new picked filling.has.0 filling.has.1 before adds.granted (adds.holds (packs picked filling.has.0 filling.has.1 before.extents) filling.has.2));
      told = λ tell. adds.adds.table tell ∙ ap (λ (es : Entries). es ++ entry ∷ []) (granted_added before adds.granted ∙ filling.told tell);
    }

frozen_has : (P : FrozenData → Type 0) (frozen : List FrozenData) (place : ℕ) (one : FrozenData) → All P frozen → slice_get frozen place ≡ Some one → P one
frozen_has P frozen place one all at = subst P (get_or_from_slice_get frozen place one one at) (all place one (slice_get_within frozen place one at))

-- what holds of each frozen table holds of the picked one
picked_has : (P : Table → Type 0) (holder : Holder) (picked : Picked) (extents : List ℕ) → (HasPicked holder picked extents → All (λ (f : FrozenData). P f.table) holder.at.tables.frozen) → HasPicked holder picked extents → P picked.table
picked_has P holder picked extents each has =
    let source = has.2.has.sources in
    let same : source.0 ≡ picked.table = first source.0 source.2 in
    subst P (source.1.table_is ∙ same)
    (frozen_has (λ (f : FrozenData). P f.table) holder.at.tables.frozen source.1.place source.1.source (each has) source.1.at)
  where
    first : (t : Table) → picked.table ∷ [] ≡ t ∷ [] → t ≡ picked.table
    first t e = cc

-- a picked table has keys
pub picked_full : (holder : Holder) (picked : Picked) (extents : List ℕ) → HasPicked holder picked extents → key_count picked.table ≡ 1024
picked_full holder picked extents has = picked_has (λ (t : Table). key_count t ≡ 1024) holder picked extents (λ h. h.2.sound.memtables.full) has

-- in their order
pub picked_in_order : (holder : Holder) (picked : Picked) (extents : List ℕ) → HasPicked holder picked extents → IsTable picked.table
picked_in_order holder picked extents has = picked_has (λ (t : Table). IsTable t) holder picked extents (λ h. h.2.sound.memtables.in_order) has

-- so a branch that has all of it is not empty
pub filled_some : (tells : Bool) (holder : Holder) (builder : Building) (picked : Picked) → IsFilling tells holder builder picked [] → builder.entries ≡ 0 → ⊥
filled_some tells holder builder picked filling none =
    let full = picked_full holder picked builder.extents filling.has in
    let all : length picked.table.messages ≡ length filling.done = ap (λ (es : Entries). length es) (filling.parts ∙ append-nil filling.done) in
    let count = filling.entries in
    omega (arith, full, all, count, none)

-- and it is the branch that the job asks for
pub filled_built : (tells : Bool) (old new : Holder) (builder : Building) (picked : Picked) (branch : Branch) → IsFilling tells old builder picked [] → BuildsAt tells old new builder branch → IsBuilt tells new branch
filled_built tells old new builder picked branch filling built =
    let all : added builder ≡ filling.done → table_of branch ≡ as_table (added builder) → table_of branch ≡ picked.table =
    λ told table. table ∙ ap as_table (told ∙ sym (append-nil filling.done) ∙ sym filling.parts) in
    record {
      holding = packs picked filling.has.0 filling.has.1 (builder.extents ++ built.granted);
      number = picked.number;
      memtable = filling.has.0;
      is = built.holds (packs picked filling.has.0 filling.has.1 builder.extents) filling.has.2;
      job = refl;
      free = λ node. refl;
      asked = record {
        job = Pack picked.number filling.has.0;
        has_job = refl;
        unpublished = refl;
        number_is = built.builds.number ∙ filling.number;
        extents_are = built.builds.extents;
        table_is = λ tell. ap (λ (t : Table). t ∷ []) (sym (all (filling.told tell) (built.builds.table tell)));
      };
    }
