-- Work on which keys may still come.
use Rattle.std.proofs.Common.{◌≡◌, ℕ, ◌+◌, ◌-◌, ◌<◌, ◌≤◌, Bool, true, false, List, [], ◌∷◌, ◌++◌, Option, Some, None, IfSome, drop, length, map, replicate, refl, sym, ap, ap₂, ◌∙◌, subst, append-nil, append_assoc, arith}
use Rattle.std.specs.List.{AllByRecursion, last_or}
use Rattle.std.specs.List.Sorted.{IsStrictlySortedBy}
use Rattle.std.specs.Map.{keys_of}
use Rattle.std.proofs.lemmas.Grind.{replicate_next}
use Rattle.std.proofs.lemmas.List.{length-map, length_push, map_push}
use Rattle.spl_message.specs.declared.message.Message.{Message}
use Rattle.spl_message.specs.Key.{AreRising, is_below}
use Rattle.spl_message.specs.Entries.{Entries, AreEntries}
use Rattle.spl_message.specs.Table.{as_table, cuts_of}
use Rattle.spl_message.proofs.Rising.{one_rising}
use Rattle.spl_port.specs.Counts.{Shown}
use Rattle.spl_port.specs.Page.{IndexRow, leaf_fault}
use Rattle.spl_port.specs.Seal.{begins_leaf}
use Rattle.spl_page.specs.Tables.{child_keys, leaf_table}
use Rattle.spl_message.specs.Fnv.{fnv_of}
use Rattle.spl_branch.specs.Branch.{leaf_entries}
use Rattle.spl_branch.specs.Pages.{AreTold, kinds_of, page_total, shown_pages}
use Rattle.spl_branch.specs.Tree.{first_key}
use Rattle.spl_branch.proofs.GrowingLists.{all_append, all_weaker}
use Rattle.spl_branch.proofs.GrowingTable.{cuts_grow, keys_grow, leaf_entries_leaf}
use Rattle.spl_build.proofs.Grove.{grove_leaf}
use Rattle.spl_build.proofs.Rising.{last_push, rising_more, rising_without}
use Rattle.spl_build.proofs.Stacking.{stacked_leaf}
use Rattle.spl_build.specs.Cuts.{cuts_with}
use Rattle.spl_build.specs.Work.{IsAdding, IsGrove, IsTold, WorkState, rootless, table_in}
use Rattle.spl_build.specs.Written.{Appends, Written, next_place}

-- ---- nothing was added

pub nothing_added : (number : ℕ) → IsAdding (record {
  written = record { number = number; extents = []; parts = [] };
  begun = [];
  first = None;
  hashes = [];
  cuts = [];
  last = None;
  leaves = 0;
  levels = record { waiting = []; above = []; height = 0 };
})
unfolding IsStrictlySortedBy
nothing_added number = record {
  sound = record {
    kinds = refl;
    most = omega arith;
    first = refl;
    height = omega arith;
    shape = (0, 0, (refl, refl), record { packed = omega arith; few = omega arith; total = refl });
    some = λ none. absurd (omega arith);
    rising = tt;
    children = tt;
    newest = tt;
    told = λ told. record { order = tt; hashes = refl; cuts = refl; grove = record { leaves = tt; low = tt; high = tt; whole = refl } };
  };
  above = refl;
  height = refl;
  leaves = refl;
  room = λ key above. one_rising key;
  told = λ told key above. one_rising key;
}

-- ---- one more key

-- work with the key and its message behind the others
abbrev pub with_entry : WorkState → List ℕ → Message → Option (List ℕ) → WorkState
with_entry work key message first = record work {
  begun = work.begun ++ (key, message) ∷ [];
  first = first;
  hashes = work.hashes ++ fnv_of key ∷ [];
  cuts = cuts_with work.cuts (length work.hashes) key;
  last = Some key;
}

module _ (work : WorkState) (key : List ℕ) (message : Message) (first : Option (List ℕ)) (adding : IsAdding work)
    (above : IfSome work.last (λ last. is_below last key ≡ true)) (first_is : first ≡ first_key (work.begun ++ (key, message) ∷ [])) where
  table_more : table_in work.written.parts (work.begun ++ (key, message) ∷ []) ≡ table_in work.written.parts work.begun ++ (key, message) ∷ []
  table_more = sym (append_assoc (leaf_entries (shown_pages work.written.parts)) work.begun ((key, message) ∷ []))

  table_keys_more : keys_of (table_in work.written.parts (work.begun ++ (key, message) ∷ [])) ≡ keys_of (table_in work.written.parts work.begun) ++ key ∷ []
  table_keys_more = ap keys_of table_more ∙ keys_grow (table_in work.written.parts work.begun) key message

  keys_more : child_keys work.levels.waiting ++ keys_of (work.begun ++ (key, message) ∷ []) ≡ (child_keys work.levels.waiting ++ keys_of work.begun) ++ key ∷ []
  keys_more =
      ap (λ (ks : List (List ℕ)). child_keys work.levels.waiting ++ ks) (keys_grow work.begun key message)
      ∙ sym (append_assoc (child_keys work.levels.waiting) (keys_of work.begun) (key ∷ []))

  rootless_is : rootless work.levels ≡ work.levels.waiting
  rootless_is = ap (λ (over : List IndexRow). over ++ work.levels.waiting) adding.above

  told_more : IsTold work → (AreTold work.written.parts) → IsTold (with_entry work key message first)
  told_more told are_told =
      let count : length work.hashes ≡ length (table_in work.written.parts work.begun) =
      ap (λ (hs : List ℕ). length hs) told.hashes ∙ length-map (keys_of (table_in work.written.parts work.begun)) fnv_of ∙ length-map (table_in work.written.parts work.begun) (λ entry. entry.0) in
      record {
        order = subst AreRising (sym table_keys_more) (adding.told are_told key above);
        hashes =
            ap (λ (hs : List ℕ). hs ++ fnv_of key ∷ []) told.hashes
            ∙ sym (map_push fnv_of (keys_of (table_in work.written.parts work.begun)) key)
            ∙ ap (λ (ks : List (List ℕ)). map fnv_of ks) (sym table_keys_more);
        cuts =
            ap₂ (λ (cuts : List (List ℕ)) (n : ℕ). cuts_with cuts n key) told.cuts count
            ∙ sym (cuts_grow (table_in work.written.parts work.begun) key message)
            ∙ ap (λ (t : Entries). cuts_of (as_table t)) (sym table_more);
        grove = told.grove;
      }

  pub entry_adds : IsAdding (with_entry work key message first)
  entry_adds =
      let rises = adding.room key above in
      record {
        sound = record {
          kinds = adding.sound.kinds;
          most = omega (arith, adding.sound.most, length_push work.hashes (fnv_of key), length_push work.begun (key, message));
          first = first_is;
          height = adding.sound.height;
          shape = adding.sound.shape;
          some = adding.sound.some;
          rising = subst (λ (ks : List (List ℕ)). AreRising (ks ++ keys_of (work.begun ++ (key, message) ∷ []))) (ap child_keys (sym rootless_is)) (subst AreRising (sym keys_more) rises);
          children = adding.sound.children;
          newest = adding.sound.newest;
          told = λ are_told. told_more (adding.sound.told are_told) are_told;
        };
        above = adding.above;
        height = adding.height;
        leaves = adding.leaves;
        room = λ next over. subst (λ (ks : List (List ℕ)). AreRising (ks ++ next ∷ [])) (sym keys_more) (rising_more (child_keys work.levels.waiting ++ keys_of work.begun) key next rises over);
        told = λ are_told next over.
            subst (λ (ks : List (List ℕ)). AreRising (ks ++ next ∷ [])) (sym table_keys_more)
            (rising_more (keys_of (table_in work.written.parts work.begun)) key next (adding.told are_told key above) over);
      }

-- ---- one more leaf page

-- work of which the begun leaf page is written, where it has this first key
abbrev pub with_leaf : WorkState → Written → List ℕ → WorkState
with_leaf work written key = record work {
  written = written;
  begun = [];
  first = None;
  leaves = work.leaves + 1;
  levels = record work.levels { waiting = work.levels.waiting ++ record { child = page_total work.written.parts; key = key } ∷ [] };
}

keys_split : (table : Entries) (key : List ℕ) → first_key table ≡ Some key → keys_of table ≡ key ∷ drop 1 (keys_of table)
keys_split [] key is = cc
keys_split (entry ∷ table) key is = let same : entry.0 ≡ key = cc in ap (λ (k : List ℕ). k ∷ keys_of table) same

module _ (tells : Bool) (work : WorkState) (written : Written) (bytes key : List ℕ) (adding : IsAdding work) (first_is : work.first ≡ Some key) (few : length work.begun ≤ 816)
    (appends : Appends tells work.written written bytes) (sound : leaf_fault (next_place work.written true) bytes ≡ None) (table : leaf_table bytes ≡ work.begun) (leaf : begins_leaf bytes ≡ true) where
  kinds_more : kinds_of written.parts ≡ kinds_of work.written.parts ++ true ∷ []
  kinds_more = appends.kinds ∙ ap (λ (b : Bool). kinds_of work.written.parts ++ b ∷ []) leaf

  total_more : page_total written.parts ≡ page_total work.written.parts + 1
  total_more = ap (λ (bs : List Bool). length bs) kinds_more ∙ length_push (kinds_of work.written.parts) true

  shown_more : AreTold written.parts → shown_pages written.parts ≡ shown_pages work.written.parts ++ record { at = next_place work.written true; bytes = bytes } ∷ []
  shown_more told = appends.pages told ∙ ap (λ (b : Bool). shown_pages work.written.parts ++ record { at = next_place work.written b; bytes = bytes } ∷ []) leaf

  pub leaf_table_same : AreTold written.parts → table_in written.parts [] ≡ table_in work.written.parts work.begun
  leaf_table_same told =
      append-nil (leaf_entries (shown_pages written.parts))
      ∙ ap leaf_entries (shown_more told)
      ∙ leaf_entries_leaf (shown_pages work.written.parts) (next_place work.written true) bytes refl
      ∙ ap (λ (t : Entries). leaf_entries (shown_pages work.written.parts) ++ t) table

  begun_first : first_key work.begun ≡ Some key
  begun_first = sym adding.sound.first ∙ first_is

  old_keys : child_keys work.levels.waiting ++ keys_of work.begun ≡ child_keys work.levels.waiting ++ key ∷ drop 1 (keys_of work.begun)
  old_keys = ap (λ (ks : List (List ℕ)). child_keys work.levels.waiting ++ ks) (keys_split work.begun key begun_first)

  new_keys : child_keys (work.levels.waiting ++ record { child = page_total work.written.parts; key = key } ∷ []) ++ [] ≡ child_keys work.levels.waiting ++ key ∷ []
  new_keys =
      append-nil (child_keys (work.levels.waiting ++ record { child = page_total work.written.parts; key = key } ∷ []))
      ∙ map_push (λ (r : IndexRow). r.key) work.levels.waiting (record { child = page_total work.written.parts; key = key })

  kinds_are : kinds_of written.parts ≡ replicate (work.leaves + 1) true ++ replicate (page_total written.parts - (work.leaves + 1)) false
  kinds_are =
      let none : page_total work.written.parts - work.leaves ≡ 0 = omega (arith, adding.leaves) in
      let none_new : page_total written.parts - (work.leaves + 1) ≡ 0 = omega (arith, adding.leaves, total_more) in
      kinds_more
      ∙ ap (λ (bs : List Bool). bs ++ true ∷ [])
      (adding.sound.kinds ∙ ap (λ (n : ℕ). replicate work.leaves true ++ replicate n false) none ∙ append-nil (replicate work.leaves true))
      ∙ sym (replicate_next work.leaves true)
      ∙ sym (append-nil (replicate (work.leaves + 1) true))
      ∙ ap (λ (n : ℕ). replicate (work.leaves + 1) true ++ replicate n false) (sym none_new)

  told_leaf : AreTold written.parts → IsTold work → IsTold (with_leaf work written key)
  told_leaf are_told told =
      let same = leaf_table_same are_told in
      let pages : List Shown = shown_pages work.written.parts in
      let count : length pages ≡ page_total work.written.parts = appends.count (appends.back are_told) in
      let G : List IndexRow → ℕ → Type 0 = λ over h. IsGrove pages (record { waiting = work.levels.waiting; above = over; height = h }) in
      let plain : IsGrove pages (record { waiting = work.levels.waiting; above = []; height = 0 }) =
      subst (λ (over : List IndexRow). G over 0) adding.above (subst (λ (h : ℕ). G work.levels.above h) adding.height told.grove) in
      let grown = grove_leaf pages (next_place work.written true) bytes key work.levels.waiting refl sound (ap first_key table ∙ begun_first) plain in
      let N : List Shown → ℕ → List IndexRow → ℕ → Type 0 = λ ps n over h. IsGrove ps (record { waiting = work.levels.waiting ++ record { child = n; key = key } ∷ []; above = over; height = h }) in
      record {
        order = subst AreEntries (sym same) told.order;
        hashes = told.hashes ∙ ap (λ (t : Entries). map fnv_of (keys_of t)) (sym same);
        cuts = told.cuts ∙ ap (λ (t : Entries). cuts_of (as_table t)) (sym same);
        grove =
            subst (λ (ps : List Shown). N ps (page_total work.written.parts) work.levels.above work.levels.height) (sym (shown_more are_told))
            (subst (λ (n : ℕ). N (pages ++ record { at = next_place work.written true; bytes = bytes } ∷ []) n work.levels.above work.levels.height) count
            (subst (λ (over : List IndexRow). N (pages ++ record { at = next_place work.written true; bytes = bytes } ∷ []) (length pages) over work.levels.height) (sym adding.above)
            (subst (λ (h : ℕ). N (pages ++ record { at = next_place work.written true; bytes = bytes } ∷ []) (length pages) [] h) (sym adding.height) grown)));
      }

  pub leaf_adds : IsAdding (with_leaf work written key)
  leaf_adds =
      let child : IndexRow = record { child = page_total work.written.parts; key = key } in
      let waiting : List IndexRow = work.levels.waiting ++ child ∷ [] in
      let rootless_new : work.levels.above ++ waiting ≡ waiting = ap (λ (over : List IndexRow). over ++ waiting) adding.above in
      let rootless_old : rootless work.levels ≡ work.levels.waiting = ap (λ (over : List IndexRow). over ++ work.levels.waiting) adding.above in
      let before : AreRising (child_keys work.levels.waiting ++ key ∷ (drop 1 (keys_of work.begun) ++ [])) =
      subst (λ (ks : List (List ℕ)). AreRising (child_keys work.levels.waiting ++ key ∷ ks)) (sym (append-nil (drop 1 (keys_of work.begun))))
      (subst AreRising old_keys (subst (λ (rs : List IndexRow). AreRising (child_keys rs ++ keys_of work.begun)) rootless_old adding.sound.rising)) in
      let lower : AllByRecursion (λ r. r.child < page_total work.written.parts) work.levels.waiting =
      subst (λ (rs : List IndexRow). AllByRecursion (λ r. r.child < page_total work.written.parts) rs) rootless_old adding.sound.children in
      let below : AllByRecursion (λ r. r.child < page_total written.parts) work.levels.waiting =
      all_weaker (λ (r : IndexRow). r.child < page_total work.written.parts) (λ (r : IndexRow). r.child < page_total written.parts) work.levels.waiting (λ r h. omega (arith, total_more)) lower in
      let here : page_total work.written.parts < page_total written.parts = omega (arith, total_more) in
      record {
        sound = record {
          kinds = kinds_are;
          most = omega (arith, adding.sound.most);
          first = refl;
          height = omega (arith, adding.sound.height, total_more);
          shape = stacked_leaf work.leaves (page_total work.written.parts) (page_total written.parts) work.levels.waiting work.levels.above work.levels.height child adding.above adding.height total_more adding.sound.shape;
          some = λ some. omega (arith, length_push work.levels.waiting child);
          rising = subst (λ (rs : List IndexRow). AreRising (child_keys rs ++ [])) (sym rootless_new) (subst AreRising (sym new_keys) (rising_without (child_keys work.levels.waiting) key (drop 1 (keys_of work.begun)) [] before));
          children = subst (λ (rs : List IndexRow). AllByRecursion (λ r. r.child < page_total written.parts) rs) (sym rootless_new)
              (all_append (λ (r : IndexRow). r.child < page_total written.parts) work.levels.waiting (child ∷ []) below (here, tt));
          newest =
              let last : last_or None (waiting ++ work.levels.above) ≡ Some child =
              ap (λ (over : List IndexRow). last_or None (waiting ++ over)) adding.above ∙ ap (λ (rs : List IndexRow). last_or None rs) (append-nil waiting) ∙ last_push None work.levels.waiting child in
              subst (λ (o : Option IndexRow). IfSome o (λ r. r.child + 1 ≡ page_total written.parts)) (sym last) (sym total_more);
          told = λ are_told. told_leaf are_told (adding.sound.told (appends.back are_told));
        };
        above = adding.above;
        height = adding.height;
        leaves = total_more ∙ ap (λ n. n + 1) adding.leaves;
        room = λ next over.
            let long : AreRising (child_keys work.levels.waiting ++ key ∷ (drop 1 (keys_of work.begun) ++ next ∷ [])) =
            subst AreRising (ap (λ (ks : List (List ℕ)). ks ++ next ∷ []) old_keys ∙ append_assoc (child_keys work.levels.waiting) (key ∷ drop 1 (keys_of work.begun)) (next ∷ [])) (adding.room next over) in
            let short = rising_without (child_keys work.levels.waiting) key (drop 1 (keys_of work.begun)) (next ∷ []) long in
            subst AreRising (sym (ap (λ (ks : List (List ℕ)). ks ++ next ∷ []) new_keys ∙ append_assoc (child_keys work.levels.waiting) (key ∷ []) (next ∷ []))) short;
        told = λ are_told next over.
            subst (λ (t : Entries). AreRising (keys_of t ++ next ∷ [])) (sym (leaf_table_same are_told)) (adding.told (appends.back are_told) next over);
      }
