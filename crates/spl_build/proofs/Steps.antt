-- The steps of the work, as the code makes them.
use Rattle.std.proofs.Common.{◌≡◌, ℕ, zero, suc, ◌+◌, ◌*◌, ◌^◌, ◌<◌, ◌≤◌, Bool, true, false, List, [], ◌∷◌, ◌++◌, Option, Some, None, IfSome, length, take, refl, sym, ap, ap₂, ◌∙◌, subst, append_assoc, arith}
use Rattle.std.specs.List.{AllByRecursion}
use Rattle.std.specs.Map.{keys_of}
use Rattle.std.specs.Option.{option_or}
use Rattle.std.specs.Prelude.{All}
use Rattle.std.proofs.lemmas.List.{length-append, length_push, map-append}
use Rattle.spl_message.specs.declared.message.Message.{Message}
use Rattle.spl_message.specs.Key.{AreRising, is_below}
use Rattle.spl_message.specs.Entries.{Entries, AreEntries}
use Rattle.spl_port.specs.declared.at.At.{At}
use Rattle.spl_port.specs.Page.{IndexRow, index_fault, leaf_fault}
use Rattle.spl_port.specs.Counts.{Counts}
use Rattle.spl_port.specs.Seal.{Sealed, begins_leaf}
use Rattle.spl_page.specs.LeafPage.{leaf_entry_length}
use Rattle.spl_page.specs.Tables.{child_keys, children, leaf_table, table_length}
use Rattle.spl_message.specs.Fnv.{fnv_of}
use Rattle.spl_branch.specs.Branch.{leaf_entries}
use Rattle.spl_branch.specs.Pages.{AreParts, kinds_of, page_total, shown_pages}
use Rattle.spl_branch.specs.Tree.{first_key}
use Rattle.spl_branch.proofs.GrowingLists.{all_back, all_take}
use Rattle.spl_branch.proofs.GrowingTable.{keys_grow, rising_back, rising_front}
use Rattle.spl_build.proofs.Adding.{entry_adds, leaf_adds, leaf_table_same, nothing_added}
use Rattle.spl_build.proofs.Indexing.{index_table_same, index_works}
use Rattle.spl_build.specs.declared.fault.BuildFault.{BuildFault}
use Rattle.spl_build.specs.declared.stage.Stage.{Stage}
use Rattle.spl_build.specs.Builder.{Adds, Building, Keeps, WritesLeaf, building}
use Rattle.spl_build.specs.Counts.{WritesPages}
use Rattle.spl_build.specs.Cuts.{cuts_with}
use Rattle.spl_build.specs.Levels.{LevelState, adopted}
use Rattle.spl_build.specs.Work.{IsAdding, IsWork, WorkState, rootless}
use Rattle.spl_build.specs.Written.{Appends, Written, next_place}

-- ---- nothing was added

pub nothing_adds : (number : ℕ) (written : Written) (begun : Entries) (hashes : List ℕ) (cuts : List (List ℕ)) (last : Option (List ℕ)) (levels : LevelState) →
    written ≡ record { number = number; extents = []; parts = [] } → begun ≡ [] → hashes ≡ [] → cuts ≡ [] → last ≡ None → levels ≡ record { waiting = []; above = []; height = 0 } →
    IsAdding (record { written = written; begun = begun; first = None; hashes = hashes; cuts = cuts; last = last; leaves = 0; levels = levels })
nothing_adds number written begun hashes cuts last levels written_is begun_is hashes_are cuts_are last_is levels_are =
    rw (written_is, begun_is, hashes_are, cuts_are, last_is, levels_are) (nothing_added number)

-- ---- one more key

first_more : (table : Entries) (key : List ℕ) (message : Message) → option_or (first_key table) (Some key) ≡ first_key (table ++ (key, message) ∷ [])
first_more [] key message = refl
first_more (entry ∷ table) key message = refl

module _ (work : WorkState) (key : List ℕ) (message : Message) (begun : Entries) (first : Option (List ℕ)) (hashes : List ℕ) (cuts : List (List ℕ)) (last : Option (List ℕ))
    (begun_is : begun ≡ work.begun ++ (key, message) ∷ []) (hashes_are : hashes ≡ work.hashes ++ fnv_of key ∷ []) (cuts_are : cuts ≡ cuts_with work.cuts (length work.hashes) key) (last_is : last ≡ Some key) where
  pub push_adds : IsAdding work → IfSome work.last (λ last. is_below last key ≡ true) → first ≡ option_or work.first (Some key) →
      IsAdding (record work { begun = begun; first = first; hashes = hashes; cuts = cuts; last = last })
  push_adds adding above first_is =
      let first_ok : first ≡ first_key (work.begun ++ (key, message) ∷ []) =
      first_is ∙ ap (λ (o : Option (List ℕ)). option_or o (Some key)) adding.sound.first ∙ first_more work.begun key message in
      rw (begun_is, hashes_are, cuts_are, last_is) (entry_adds work key message first adding above first_ok)

  pub push_done : (tells : Bool) (old : WorkState) (stage : Stage) (stopped : Option BuildFault) → work ≡ old → stopped ≡ None → table_length work.begun + leaf_entry_length key message ≤ 4096 →
      Adds tells (building old stage stopped) (building (record work { begun = begun; first = first; hashes = hashes; cuts = cuts; last = last }) stage stopped) key message
  push_done tells old stage stopped same none fits =
      subst (λ (w : WorkState). Adds tells (building w stage stopped) (building (record work { begun = begun; first = first; hashes = hashes; cuts = cuts; last = last }) stage stopped) key message) same
      (record {
        number = refl;
        extents = refl;
        entries = ap (λ (hs : List ℕ). length hs) hashes_are ∙ length_push work.hashes (fnv_of key);
        hashes = hashes_are;
        last = last_is;
        page = λ _. record { begun = begun_is; parts = refl; roots = refl };
        next = λ over. absurd (omega (arith, fits, over));
        cuts = cuts_are;
        stage = refl;
        stopped = none;
        table = λ _.
            ap (λ (t : Entries). leaf_entries (shown_pages work.written.parts) ++ t) begun_is
            ∙ sym (append_assoc (leaf_entries (shown_pages work.written.parts)) work.begun ((key, message) ∷ []));
      })

-- the begun leaf page stays a table
pub push_rises : (work : WorkState) (key : List ℕ) (message : Message) → IsAdding work → IfSome work.last (λ last. is_below last key ≡ true) → AreEntries (work.begun ++ (key, message) ∷ [])
push_rises work key message adding above =
    let rises = subst AreRising (append_assoc (child_keys work.levels.waiting) (keys_of work.begun) (key ∷ [])) (adding.room key above) in
    subst AreRising (sym (keys_grow work.begun key message)) (rising_back (child_keys work.levels.waiting) (keys_of work.begun ++ key ∷ []) rises)

-- ---- one more leaf page

pub leaves_fit : (work : WorkState) → IsAdding work → page_total work.written.parts < 32 * length work.written.extents → length work.written.extents ≤ 65536 → work.leaves ≤ 2 ^ 21
leaves_fit work adding room extents = omega (arith, adding.leaves)

no_first : (table : Entries) → 0 < length table → first_key table ≡ None → ⊥
no_first [] some none = omega arith
no_first (entry ∷ table) some none = cc

-- a page that is begun has a first key
pub has_first : (work : WorkState) → IsAdding work → 0 < length work.begun → work.first ≡ None → ⊥
has_first work adding some none = no_first work.begun some (sym adding.sound.first ∙ none)

module _ (tells : Bool) (work : WorkState) (written : Written) (bytes key : List ℕ) (at : At) (begun : Entries) (leaves : ℕ) (levels : LevelState)
    (adding : IsAdding work) (first_is : work.first ≡ Some key) (few : length work.begun ≤ 816) (appends : Appends tells work.written written bytes) (at_is : at ≡ next_place work.written true)
    (sound : leaf_fault at bytes ≡ None) (table : leaf_table bytes ≡ work.begun) (leaf : begins_leaf bytes ≡ true) (begun_is : begun ≡ []) (leaves_are : leaves ≡ work.leaves + 1)
    (levels_are : levels ≡ record work.levels { waiting = work.levels.waiting ++ record { child = at.page; key = key } ∷ [] }) where
  sound_there : leaf_fault (next_place work.written true) bytes ≡ None
  sound_there = subst (λ (a : At). leaf_fault a bytes ≡ None) at_is sound

  levels_there : levels ≡ record work.levels { waiting = work.levels.waiting ++ record { child = page_total work.written.parts; key = key } ∷ [] }
  levels_there = levels_are ∙ ap (λ (a : At). let l : LevelState = record work.levels { waiting = work.levels.waiting ++ record { child = a.page; key = key } ∷ [] } in l) at_is

  pub leaf_writes : IsAdding (record work { written = written; begun = begun; first = None; leaves = leaves; levels = levels })
  leaf_writes =
      rw (begun_is, leaves_are, levels_there) (leaf_adds tells work written bytes key adding first_is few appends sound_there table leaf)

  pub leaf_keeps : (old : WorkState) (stage : Stage) (stopped : Option BuildFault) → work ≡ old →
      Keeps tells (building old stage stopped) (building (record work { written = written; begun = begun; first = None; leaves = leaves; levels = levels }) stage stopped)
  leaf_keeps old stage stopped same =
      subst (λ (w : WorkState). Keeps tells (building w stage stopped) (building (record work { written = written; begun = begun; first = None; leaves = leaves; levels = levels }) stage stopped)) same
      (record {
        number = appends.number;
        extents = appends.extents;
        entries = refl;
        hashes = refl;
        cuts = refl;
        last = refl;
        table = λ is. ap (λ (t : Entries). leaf_entries (shown_pages written.parts) ++ t) begun_is ∙ leaf_table_same tells work written bytes key adding first_is few appends sound_there table leaf (appends.told is);
      })

  pub leaf_written : (old : WorkState) (stage : Stage) (stopped : Option BuildFault) → work ≡ old → AreParts written.number written.extents written.parts →
      WritesLeaf tells (building old stage stopped) (building (record work { written = written; begun = begun; first = None; leaves = leaves; levels = levels }) stage stopped)
  leaf_written old stage stopped same parts =
      let child : IndexRow = record { child = at.page; key = key } in
      subst (λ (w : WorkState). WritesLeaf tells (building w stage stopped) (building (record work { written = written; begun = begun; first = None; leaves = leaves; levels = levels }) stage stopped)) same
      (record {
        parts = parts;
        kinds = appends.kinds ∙ ap (λ (b : Bool). kinds_of work.written.parts ++ b ∷ []) leaf;
        roots = omega (arith, ap (λ (l : LevelState). length l.waiting + length l.above) levels_are, length_push work.levels.waiting child);
        told = λ is. (
          bytes,
          table,
          appends.pages (appends.told is) ∙ ap (λ (b : Bool). shown_pages work.written.parts ++ record { at = next_place work.written b; bytes = bytes } ∷ []) leaf,
        );
      })

-- a page more was written
pub page_gained : (tells : Bool) (old new : Written) (bytes : List ℕ) (work : WorkState) (before after : Counts) → old ≡ work.written → Appends tells old new bytes → after.writes ≡ before.writes + 1 → after.faults ≡ before.faults →
    WritesPages before after (page_total work.written.parts) (page_total new.parts)
page_gained tells old new bytes work before after same appends writes faults =
    let more : page_total new.parts ≡ page_total old.parts + 1 = ap (λ (kinds : List Bool). length kinds) appends.kinds ∙ length_push (kinds_of old.parts) (begins_leaf bytes) in
    let was : page_total old.parts ≡ page_total work.written.parts = ap (λ (w : Written). page_total w.parts) same in
    record { writes = omega (arith, writes, more, was); faults = faults }

-- the entry did not fit into the page that was begun, which is written, and stands in the next one
pub next_adds : (tells : Bool) (old mid new : Building) (key : List ℕ) (message : Message) → 4096 < table_length old.begun + leaf_entry_length key message → table_length [] + leaf_entry_length key message ≤ 4096 →
    Keeps tells old mid → WritesLeaf tells old mid → mid.begun ≡ [] → mid.stage ≡ old.stage → Adds tells mid new key message → Adds tells old new key message
next_adds tells old mid new key message over short kept written empty stage adds =
    let goes = adds.page (subst (λ (t : Entries). table_length t + leaf_entry_length key message ≤ 4096) (sym empty) short) in
    record {
      number = adds.number ∙ kept.number;
      extents = adds.extents ∙ kept.extents;
      entries = adds.entries ∙ ap (λ (n : ℕ). n + 1) kept.entries;
      hashes = adds.hashes ∙ ap (λ (hs : List ℕ). hs ++ fnv_of key ∷ []) kept.hashes;
      last = adds.last;
      page = λ fits. absurd (omega (arith, over, fits));
      next = λ _. (
        goes.begun ∙ ap (λ (t : Entries). t ++ (key, message) ∷ []) empty,
        record {
          parts = subst (λ (p : List Sealed). AreParts new.number new.extents p) (sym goes.parts)
              (subst (λ (n : ℕ). AreParts n new.extents mid.parts) (sym adds.number) (subst (λ (e : List ℕ). AreParts mid.number e mid.parts) (sym adds.extents) written.parts));
          kinds = ap kinds_of goes.parts ∙ written.kinds;
          roots = goes.roots ∙ written.roots;
          told = λ is. let found = written.told is in (found.0, found.1, ap shown_pages goes.parts ∙ found.2);
        },
      );
      cuts = adds.cuts ∙ ap₂ (λ (cs : List (List ℕ)) (n : ℕ). cuts_with cs n key) kept.cuts kept.entries;
      stage = adds.stage ∙ stage;
      stopped = adds.stopped;
      table = λ is. adds.table is ∙ ap (λ (t : Entries). t ++ (key, message) ∷ []) (kept.table is);
    }

-- ---- one more index page

all_at : {X : Type 0} (P : X → Type 0) (xs : List X) → AllByRecursion P xs → All P xs
all_at P [] all k d within = absurd (omega arith)
all_at P (x ∷ xs) all zero d within = all.0
all_at P (x ∷ xs) all (suc k) d within = all_at P xs all.1 k d (omega arith)

some_below : (n : ℕ) (rows : List IndexRow) → 0 < length rows → AllByRecursion (λ r. r.child < n) rows → 0 < n
some_below n [] some all = absurd (omega arith)
some_below n (row ∷ rows) some all = omega (arith, all.0)

module _ (work : WorkState) (sound : IsWork work) where
  pub some_wait : 1 < length work.levels.waiting + length work.levels.above → 0 < length work.levels.waiting
  some_wait roots =
      sound.some (some_below (page_total work.written.parts) (rootless work.levels) (omega (arith, length-append work.levels.above work.levels.waiting)) sound.children)

  pub waiting_rises : AreRising (child_keys work.levels.waiting)
  waiting_rises =
      let keys = rising_front (child_keys (rootless work.levels)) (keys_of work.begun) sound.rising in
      rising_back (child_keys work.levels.above) (child_keys work.levels.waiting) (subst AreRising (map-append (λ (r : IndexRow). r.key) work.levels.above work.levels.waiting) keys)

  pub children_below : (taken : List IndexRow) (at : At) → taken ≡ take (length taken) work.levels.waiting → at ≡ next_place work.written false → All (λ r. r.child < at.page) taken
  children_below taken at front at_is =
      let P : IndexRow → Type 0 = λ r. r.child < page_total work.written.parts in
      let waiting = all_back P work.levels.above work.levels.waiting sound.children in
      let here = all_at P taken (subst (λ (rs : List IndexRow). AllByRecursion P rs) (sym front) (all_take P (length taken) work.levels.waiting waiting)) in
      subst (λ (a : At). All (λ r. r.child < a.page) taken) (sym at_is) here

  pub height_fits : page_total work.written.parts < 32 * length work.written.extents → length work.written.extents ≤ 65536 → work.levels.height ≤ 2 ^ 21
  height_fits room extents = omega (arith, sound.height)

  module _ (tells : Bool) (written : Written) (bytes : List ℕ) (taken : List IndexRow) (at : At) (count : ℕ) (levels : LevelState) (appends : Appends tells work.written written bytes)
      (at_is : at ≡ next_place work.written false) (index : begins_leaf bytes ≡ false) where
    pub index_writes : taken ≡ take (length taken) work.levels.waiting → 0 < length taken → 1 < length work.levels.waiting + length work.levels.above → length taken ≤ 680 →
        (length taken < length work.levels.waiting → 59 ≤ length taken) → index_fault at bytes ≡ None → children at.page bytes ≡ taken → count ≡ length taken →
        levels ≡ adopted work.levels count at.page → IsWork (record work { written = written; levels = levels })
    index_writes front some roots most many page_sound rows count_is levels_are =
        let there : index_fault (next_place work.written false) bytes ≡ None = subst (λ (a : At). index_fault a bytes ≡ None) at_is page_sound in
        let rows_there : children (page_total work.written.parts) bytes ≡ taken = subst (λ (a : At). children a.page bytes ≡ taken) at_is rows in
        let levels_there : levels ≡ adopted work.levels (length taken) (page_total work.written.parts) =
        levels_are ∙ ap₂ (λ (n : ℕ) (a : At). adopted work.levels n a.page) count_is at_is in
        rw levels_there (index_works tells work written bytes taken sound front some appends there rows_there index roots most many)

    pub index_keeps : (old : WorkState) (stage : Stage) (stopped : Option BuildFault) → work ≡ old →
        Keeps tells (building old stage stopped) (building (record work { written = written; levels = levels }) stage stopped)
    index_keeps old stage stopped same =
        subst (λ (w : WorkState). Keeps tells (building w stage stopped) (building (record work { written = written; levels = levels }) stage stopped)) same
        (record {
          number = appends.number;
          extents = appends.extents;
          entries = refl;
          hashes = refl;
          cuts = refl;
          last = refl;
          table = λ is. index_table_same tells work.written written bytes work.begun appends index (appends.told is);
        })
