-- Work of which an index page is written.
use Rattle.std.proofs.Common.{◌≡◌, ℕ, ◌+◌, ◌-◌, ◌<◌, ◌≤◌, Bool, true, false, List, [], ◌∷◌, ◌++◌, Option, Some, None, IfSome, drop, take, length, map, replicate, refl, sym, ap, ◌∙◌, subst, append-nil, append_assoc, arith}
use Rattle.std.specs.List.{AllByRecursion, last_or}
use Rattle.std.specs.Map.{keys_of}
use Rattle.std.proofs.lemmas.Grind.{replicate_next}
use Rattle.std.proofs.lemmas.List.{length-append, length_push, map-append, take-append-drop}
use Rattle.spl_message.specs.Key.{AreRising}
use Rattle.spl_message.specs.Entries.{Entries, AreEntries}
use Rattle.spl_message.specs.Table.{as_table, cuts_of}
use Rattle.spl_port.specs.Counts.{Shown}
use Rattle.spl_port.specs.Page.{IndexRow, index_fault}
use Rattle.spl_port.specs.Seal.{begins_leaf}
use Rattle.spl_page.specs.Tables.{child_keys, children}
use Rattle.spl_message.specs.Fnv.{fnv_of}
use Rattle.spl_branch.specs.Branch.{leaf_entries}
use Rattle.spl_branch.specs.Pages.{AreTold, kinds_of, page_total, shown_pages}
use Rattle.spl_branch.proofs.GrowingLists.{all_append, all_back, all_front, all_weaker}
use Rattle.spl_branch.proofs.GrowingTable.{leaf_entries_index}
use Rattle.spl_build.proofs.Grove.{grove_index, grove_risen}
use Rattle.spl_build.proofs.Rising.{last_push, rising_without}
use Rattle.spl_build.proofs.Stacking.{stacked_index}
use Rattle.spl_build.specs.Levels.{adopted, parent_of, risen}
use Rattle.spl_build.specs.Work.{IsGrove, IsStacked, IsTold, IsWork, WorkState, rootless, table_in}
use Rattle.spl_build.specs.Written.{Appends, Written, next_place}

-- ---- the next level has the same pages

rootless_risen : (waiting above : List IndexRow) (height : ℕ) → rootless (risen waiting above height) ≡ above ++ waiting
rootless_risen [] above height = sym (append-nil above)
rootless_risen (row ∷ rows) above height = refl

order_risen : (waiting above : List IndexRow) (height : ℕ) → (risen waiting above height).waiting ++ (risen waiting above height).above ≡ waiting ++ above
order_risen [] above height = append-nil above
order_risen (row ∷ rows) above height = refl

height_risen : (waiting above : List IndexRow) (height : ℕ) → (risen waiting above height).height ≤ height + 1
height_risen [] above height = omega arith
height_risen (row ∷ rows) above height = omega arith

some_risen : (waiting above : List IndexRow) (row : IndexRow) (height : ℕ) → 0 < length (risen waiting (above ++ row ∷ []) height).waiting
some_risen [] above row height = omega (arith, length_push above row)
some_risen (other ∷ rows) above row height = omega arith

-- ---- one more index page

module _ (tells : Bool) (old written : Written) (bytes : List ℕ) where
  index_kinds : Appends tells old written bytes → begins_leaf bytes ≡ false → kinds_of written.parts ≡ kinds_of old.parts ++ false ∷ []
  index_kinds appends index = appends.kinds ∙ ap (λ (b : Bool). kinds_of old.parts ++ b ∷ []) index

  index_shown : Appends tells old written bytes → begins_leaf bytes ≡ false → AreTold written.parts → shown_pages written.parts ≡ shown_pages old.parts ++ record { at = next_place old false; bytes = bytes } ∷ []
  index_shown appends index told = appends.pages told ∙ ap (λ (b : Bool). shown_pages old.parts ++ record { at = next_place old b; bytes = bytes } ∷ []) index

pub index_table_same : (tells : Bool) (old written : Written) (bytes : List ℕ) (begun : Entries) → Appends tells old written bytes → begins_leaf bytes ≡ false → AreTold written.parts →
    table_in written.parts begun ≡ table_in old.parts begun
index_table_same tells old written bytes begun appends index told =
    ap (λ (t : Entries). t ++ begun)
    (ap leaf_entries (index_shown tells old written bytes appends index told) ∙ leaf_entries_index (shown_pages old.parts) (next_place old false) bytes refl)

module _ (tells : Bool) (work : WorkState) (written : Written) (bytes : List ℕ) (row : IndexRow) (more rest : List IndexRow) (sound : IsWork work)
    (split : work.levels.waiting ≡ row ∷ (more ++ rest)) (appends : Appends tells work.written written bytes) (index_sound : index_fault (next_place work.written false) bytes ≡ None)
    (rows : children (page_total work.written.parts) bytes ≡ row ∷ more) (index : begins_leaf bytes ≡ false)
    (roots : 1 < length (row ∷ (more ++ rest)) + length work.levels.above) (most : length (row ∷ more) ≤ 680) (many : 0 < length rest → 59 ≤ length (row ∷ more)) where
  kinds_more : kinds_of written.parts ≡ kinds_of work.written.parts ++ false ∷ []
  kinds_more = index_kinds tells work.written written bytes appends index

  total_more : page_total written.parts ≡ page_total work.written.parts + 1
  total_more = ap (λ (bs : List Bool). length bs) kinds_more ∙ length_push (kinds_of work.written.parts) false

  kinds_are : kinds_of written.parts ≡ replicate work.leaves true ++ replicate (page_total written.parts - work.leaves) false
  kinds_are =
      let left : page_total written.parts - work.leaves ≡ page_total work.written.parts - work.leaves + 1 = omega (arith, sound.height, total_more) in
      kinds_more
      ∙ ap (λ (bs : List Bool). bs ++ false ∷ []) sound.kinds
      ∙ append_assoc (replicate work.leaves true) (replicate (page_total work.written.parts - work.leaves) false) (false ∷ [])
      ∙ ap (λ (bs : List Bool). replicate work.leaves true ++ bs) (sym (replicate_next (page_total work.written.parts - work.leaves) false))
      ∙ ap (λ (n : ℕ). replicate work.leaves true ++ replicate n false) (sym left)

  -- the keys with those of all children, and with the first one's alone
  long_keys : child_keys (rootless work.levels) ++ keys_of work.begun ≡ child_keys work.levels.above ++ row.key ∷ (child_keys more ++ (child_keys rest ++ keys_of work.begun))
  long_keys =
      ap (λ (rs : List IndexRow). child_keys (work.levels.above ++ rs) ++ keys_of work.begun) split
      ∙ ap (λ (ks : List (List ℕ)). ks ++ keys_of work.begun)
      (map-append (λ (r : IndexRow). r.key) work.levels.above (row ∷ (more ++ rest))
      ∙ ap (λ (ks : List (List ℕ)). child_keys work.levels.above ++ row.key ∷ ks) (map-append (λ (r : IndexRow). r.key) more rest))
      ∙ append_assoc (child_keys work.levels.above) (row.key ∷ (child_keys more ++ child_keys rest)) (keys_of work.begun)
      ∙ ap (λ (ks : List (List ℕ)). child_keys work.levels.above ++ row.key ∷ ks) (append_assoc (child_keys more) (child_keys rest) (keys_of work.begun))

  short_keys : child_keys ((work.levels.above ++ record { child = page_total work.written.parts; key = row.key } ∷ []) ++ rest) ++ keys_of work.begun
      ≡ child_keys work.levels.above ++ row.key ∷ (child_keys rest ++ keys_of work.begun)
  short_keys =
      ap (λ (rs : List IndexRow). child_keys rs ++ keys_of work.begun) (append_assoc work.levels.above (record { child = page_total work.written.parts; key = row.key } ∷ []) rest)
      ∙ ap (λ (ks : List (List ℕ)). ks ++ keys_of work.begun) (map-append (λ (r : IndexRow). r.key) work.levels.above (record { child = page_total work.written.parts; key = row.key } ∷ rest))
      ∙ append_assoc (child_keys work.levels.above) (row.key ∷ child_keys rest) (keys_of work.begun)

  told_index : AreTold written.parts → IsTold work → IsTold (record work { written = written; levels = risen rest (work.levels.above ++ record { child = page_total work.written.parts; key = row.key } ∷ []) work.levels.height })
  told_index are_told told =
      let same = index_table_same tells work.written written bytes work.begun appends index are_told in
      let pages : List Shown = shown_pages work.written.parts in
      let count : length pages ≡ page_total work.written.parts = appends.count (appends.back are_told) in
      let plain : IsGrove pages (record { waiting = row ∷ (more ++ rest); above = work.levels.above; height = work.levels.height }) =
      subst (λ (rs : List IndexRow). IsGrove pages (record { waiting = rs; above = work.levels.above; height = work.levels.height })) split told.grove in
      let grown = grove_index pages (next_place work.written false) bytes row more rest work.levels.above work.levels.height refl index_sound rows plain in
      let N : List Shown → ℕ → Type 0 = λ ps n. IsGrove ps (record { waiting = rest; above = work.levels.above ++ record { child = n; key = row.key } ∷ []; height = work.levels.height }) in
      let placed : N (shown_pages written.parts) (page_total work.written.parts) =
      subst (λ (ps : List Shown). N ps (page_total work.written.parts)) (sym (index_shown tells work.written written bytes appends index are_told))
      (subst (λ (n : ℕ). N (pages ++ record { at = next_place work.written false; bytes = bytes } ∷ []) n) count grown) in
      record {
        order = subst AreEntries (sym same) told.order;
        hashes = told.hashes ∙ ap (λ (t : Entries). map fnv_of (keys_of t)) (sym same);
        cuts = told.cuts ∙ ap (λ (t : Entries). cuts_of (as_table t)) (sym same);
        grove = grove_risen (shown_pages written.parts) rest (work.levels.above ++ record { child = page_total work.written.parts; key = row.key } ∷ []) work.levels.height placed;
      }

  index_step : IsWork (record work { written = written; levels = risen rest (work.levels.above ++ record { child = page_total work.written.parts; key = row.key } ∷ []) work.levels.height })
  index_step =
      let parent : IndexRow = record { child = page_total work.written.parts; key = row.key } in
      let over : List IndexRow = work.levels.above ++ parent ∷ [] in
      let P : IndexRow → Type 0 = λ r. r.child < page_total work.written.parts in
      let Q : IndexRow → Type 0 = λ r. r.child < page_total written.parts in
      let lower : AllByRecursion Q (rootless work.levels) = all_weaker P Q (rootless work.levels) (λ r h. omega (arith, total_more)) sound.children in
      let waiting_lower : AllByRecursion Q (row ∷ (more ++ rest)) = subst (λ (rs : List IndexRow). AllByRecursion Q rs) split (all_back Q work.levels.above work.levels.waiting lower) in
      let here : page_total work.written.parts < page_total written.parts = omega (arith, total_more) in
      let over_lower : AllByRecursion Q over = all_append Q work.levels.above (parent ∷ []) (all_front Q work.levels.above work.levels.waiting lower) (here, tt) in
      let last : last_or None ((risen rest over work.levels.height).waiting ++ (risen rest over work.levels.height).above) ≡ Some parent =
      ap (λ (rs : List IndexRow). last_or None rs) (order_risen rest over work.levels.height ∙ sym (append_assoc rest work.levels.above (parent ∷ [])))
      ∙ last_push None (rest ++ work.levels.above) parent in
      record {
        kinds = kinds_are;
        most = sound.most;
        first = sound.first;
        height = omega (arith, height_risen rest over work.levels.height, sound.height, total_more);
        shape =
            stacked_index work.leaves (page_total work.written.parts) (page_total written.parts) row parent more rest work.levels.above work.levels.height total_more roots most many
            (subst (λ (rs : List IndexRow). IsStacked work.leaves (record { waiting = rs; above = work.levels.above; height = work.levels.height }) (page_total work.written.parts)) split sound.shape);
        some = λ _. some_risen rest work.levels.above parent work.levels.height;
        rising = subst (λ (rs : List IndexRow). AreRising (child_keys rs ++ keys_of work.begun)) (sym (rootless_risen rest over work.levels.height))
            (subst AreRising (sym short_keys) (rising_without (child_keys work.levels.above) row.key (child_keys more) (child_keys rest ++ keys_of work.begun) (subst AreRising long_keys sound.rising)));
        children = subst (λ (rs : List IndexRow). AllByRecursion Q rs) (sym (rootless_risen rest over work.levels.height))
            (all_append Q over rest over_lower (all_back Q (row ∷ more) rest waiting_lower));
        newest = subst (λ (o : Option IndexRow). IfSome o (λ r. r.child + 1 ≡ page_total written.parts)) (sym last) (sym total_more);
        told = λ are_told. told_index are_told (sound.told (appends.back are_told));
      }

-- the index page over the first waiting pages
pub index_works : (tells : Bool) (work : WorkState) (written : Written) (bytes : List ℕ) (taken : List IndexRow) → IsWork work → taken ≡ take (length taken) work.levels.waiting → 0 < length taken →
    Appends tells work.written written bytes → index_fault (next_place work.written false) bytes ≡ None → children (page_total work.written.parts) bytes ≡ taken → begins_leaf bytes ≡ false →
    1 < length work.levels.waiting + length work.levels.above → length taken ≤ 680 → (length taken < length work.levels.waiting → 59 ≤ length taken) →
    IsWork (record work { written = written; levels = adopted work.levels (length taken) (page_total work.written.parts) })
index_works tells work written bytes [] sound front some appends index_sound rows index roots most many = absurd (omega arith)
index_works tells work written bytes (row ∷ more) sound front some appends index_sound rows index roots most many =
    let n : ℕ = length (row ∷ more) in
    let rest : List IndexRow = drop n work.levels.waiting in
    let split : work.levels.waiting ≡ row ∷ (more ++ rest) =
    sym (take-append-drop n work.levels.waiting) ∙ ap (λ (rs : List IndexRow). rs ++ rest) (sym front) in
    let len : length work.levels.waiting ≡ length (row ∷ (more ++ rest)) = ap (λ (rs : List IndexRow). length rs) split in
    let all = length-append more rest in
    let parent : parent_of work.levels.waiting (page_total work.written.parts) ≡ record { child = page_total work.written.parts; key = row.key } ∷ [] =
    ap (λ (rs : List IndexRow). parent_of rs (page_total work.written.parts)) split in
    subst (λ (rs : List IndexRow). IsWork (record work { written = written; levels = risen rest (work.levels.above ++ rs) work.levels.height })) (sym parent)
    (index_step tells work written bytes row more rest sound split appends index_sound rows index (omega (arith, roots, len)) most (λ some. many (omega (arith, len, all, some))))
