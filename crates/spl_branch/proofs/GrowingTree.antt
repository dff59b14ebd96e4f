-- A page more at the end of the pages changes nothing of the trees that stand.
use Rattle.std.proofs.Common.{◌≡◌, ℕ, zero, suc, true, false, List, [], ◌∷◌, ◌++◌, Some, None, IsSomeAnd, length, take, drop, refl, sym, ap, ap₂, ◌∙◌, subst}
use Rattle.std.specs.Cmp.Lexicographic.{slice_cmp}
use Rattle.std.specs.declared.cmp.Ordering.TheVariants.{Less}
use Rattle.std.specs.List.{AllByRecursion}
use Rattle.std.specs.List.Sorted.{IsStrictlySortedBy}
use Rattle.std.specs.Map.{keys_of}
use Rattle.std.specs.Ordering.{nat_cmp}
use Rattle.std.proofs.lemmas.List.{map-append}
use Rattle.std.proofs.lemmas.List.Concat.{flat_map-append}
use Rattle.spl_message.specs.Entries.{Entries, AreEntries}
use Rattle.spl_message.specs.Key.{AreRising}
use Rattle.spl_port.specs.declared.at.At.{At}
use Rattle.spl_port.specs.Counts.{Shown}
use Rattle.spl_port.specs.Page.{IndexRow, index_fault, leaf_fault}
use Rattle.spl_page.specs.Tables.{child_keys, children, leaf_table}
use Rattle.spl_branch.specs.Tree.{AreChildren, IsTree, children_at, first_key, shown_children, shown_table, table_under, tables_under}
use Rattle.spl_branch.proofs.GrowingLists.{all_append, all_back, all_drop, all_front, all_take, flat_map_push, slice_get_end, slice_get_front}
use Rattle.spl_branch.proofs.GrowingTable.{table_back}

-- children stay where the pages under each do
module _ (height : ℕ) (pages more : List Shown) (stays : (page : ℕ) → IsTree height pages page → IsTree height (pages ++ more) page × (table_under height (pages ++ more) page ≡ table_under height pages page)) where
  children_by : (rows : List IndexRow) → AreChildren height pages rows → AreChildren height (pages ++ more) rows
  children_by [] each = tt
  children_by (row ∷ rows) each =
      let child = stays row.child each.0.0 in
      ((child.0, ap first_key child.1 ∙ each.0.1), children_by rows each.1)

  tables_by : (rows : List IndexRow) → AreChildren height pages rows → tables_under height (pages ++ more) rows ≡ tables_under height pages rows
  tables_by [] each = refl
  tables_by (row ∷ rows) each = ap₂ (λ table rest. table ++ rest) (stays row.child each.0.0).1 (tables_by rows each.1)

stays : (height : ℕ) (pages more : List Shown) (page : ℕ) → IsTree height pages page → IsTree height (pages ++ more) page × (table_under height (pages ++ more) page ≡ table_under height pages page)
unfolding IsTree table_under
stays zero pages more page tree =
    let same = slice_get_front pages more page (λ shown. (shown.at.leaf ≡ true) × (leaf_fault shown.at shown.bytes ≡ None)) tree in
    (subst (λ found. IsSomeAnd found (λ shown. (shown.at.leaf ≡ true) × (leaf_fault shown.at shown.bytes ≡ None))) (sym same) tree, ap shown_table same)
stays (suc height) pages more page tree =
    let same = slice_get_front pages more page (λ shown. (shown.at.leaf ≡ false) × (index_fault shown.at shown.bytes ≡ None)) tree.0 in
    let rows = ap shown_children same in
    let index = subst (λ found. IsSomeAnd found (λ shown. (shown.at.leaf ≡ false) × (index_fault shown.at shown.bytes ≡ None))) (sym same) tree.0 in
    let below = children_by height pages more (stays height pages more) (children_at pages page) tree.1 in (
      (index, subst (AreChildren height (pages ++ more)) (sym rows) below),
      ap (tables_under height (pages ++ more)) rows ∙ tables_by height pages more (stays height pages more) (children_at pages page) tree.1,
    )

pub tree_stays : (height : ℕ) (pages more : List Shown) (page : ℕ) → IsTree height pages page → IsTree height (pages ++ more) page
tree_stays height pages more page tree = (stays height pages more page tree).0

pub table_stays : (height : ℕ) (pages more : List Shown) (page : ℕ) → IsTree height pages page → table_under height (pages ++ more) page ≡ table_under height pages page
table_stays height pages more page tree = (stays height pages more page tree).1

pub children_stay : (height : ℕ) (pages more : List Shown) (rows : List IndexRow) → AreChildren height pages rows → AreChildren height (pages ++ more) rows
children_stay height pages more = children_by height pages more (stays height pages more)

pub tables_stay : (height : ℕ) (pages more : List Shown) (rows : List IndexRow) → AreChildren height pages rows → tables_under height (pages ++ more) rows ≡ tables_under height pages rows
tables_stay height pages more = tables_by height pages more (stays height pages more)

-- ---- the page that is added

module _ (pages : List Shown) (at : At) (bytes : List ℕ) where
  pub leaf_stands : at.leaf ≡ true → leaf_fault at bytes ≡ None → IsTree 0 (pages ++ record { at = at; bytes = bytes } ∷ []) (length pages)
  unfolding IsTree
  leaf_stands leaf sound =
      subst (λ found. IsSomeAnd found (λ shown. (shown.at.leaf ≡ true) × (leaf_fault shown.at shown.bytes ≡ None))) (sym (slice_get_end pages (record { at = at; bytes = bytes }) [])) (leaf, sound)

  pub leaf_table_stands : table_under 0 (pages ++ record { at = at; bytes = bytes } ∷ []) (length pages) ≡ leaf_table bytes
  unfolding table_under
  leaf_table_stands = ap shown_table (slice_get_end pages (record { at = at; bytes = bytes }) [])

pub index_stands : (height : ℕ) (pages : List Shown) (at : At) (bytes : List ℕ) → at.leaf ≡ false → index_fault at bytes ≡ None → AreChildren height pages (children at.page bytes)
    → IsTree (suc height) (pages ++ record { at = at; bytes = bytes } ∷ []) (length pages)
unfolding IsTree
index_stands height pages at bytes index sound below =
    let shown : Shown = record { at = at; bytes = bytes } in
    let end = slice_get_end pages shown [] in (
      subst (λ found. IsSomeAnd found (λ shown. (shown.at.leaf ≡ false) × (index_fault shown.at shown.bytes ≡ None))) (sym end) (index, sound),
      subst (AreChildren height (pages ++ shown ∷ [])) (sym (ap shown_children end)) (children_stay height pages (shown ∷ []) (children at.page bytes) below),
    )

pub index_table_stands : (height : ℕ) (pages : List Shown) (at : At) (bytes : List ℕ) → at.leaf ≡ false → index_fault at bytes ≡ None → AreChildren height pages (children at.page bytes)
    → table_under (suc height) (pages ++ record { at = at; bytes = bytes } ∷ []) (length pages) ≡ tables_under height pages (children at.page bytes)
unfolding table_under
index_table_stands height pages at bytes index sound below =
    let shown : Shown = record { at = at; bytes = bytes } in
    ap (tables_under height (pages ++ shown ∷ [])) (ap shown_children (slice_get_end pages shown []))
    ∙ tables_stay height pages (shown ∷ []) (children at.page bytes) below

-- ---- children in a row

pub first_key_front : (table more : Entries) (key : List ℕ) → first_key table ≡ Some key → first_key (table ++ more) ≡ Some key
first_key_front [] more key is = absurd (cc)
first_key_front (entry ∷ table) more key is = is

pub first_key_of : (height : ℕ) (pages : List Shown) (row : IndexRow) (rows : List IndexRow) → AreChildren height pages (row ∷ rows) → first_key (tables_under height pages (row ∷ rows)) ≡ Some row.key
first_key_of height pages row rows each = first_key_front (table_under height pages row.child) (tables_under height pages rows) row.key each.0.1

first_passes : (P : List ℕ → Type 0) (table : Entries) (key : List ℕ) → first_key table ≡ Some key → AllByRecursion P (keys_of table) → P key
first_passes P [] key is all = absurd (cc)
first_passes P (entry ∷ table) key is all = let same : entry.0 ≡ key = cc in subst P same all.0

-- the keys behind a table are above its first key
rest_above : (table rest : Entries) (key : List ℕ) → first_key table ≡ Some key → AreEntries (table ++ rest) → AllByRecursion (λ other. slice_cmp nat_cmp key other ≡ Less) (keys_of rest)
unfolding IsStrictlySortedBy
rest_above [] rest key is order = absurd (cc)
rest_above (entry ∷ table) rest key is order =
    let same : entry.0 ≡ key = cc in
    let all = subst (AllByRecursion (λ other. slice_cmp nat_cmp entry.0 other ≡ Less)) (map-append (λ entry. entry.0) table rest) order.0 in
    subst (λ key. AllByRecursion (λ other. slice_cmp nat_cmp key other ≡ Less) (keys_of rest)) same (all_back (λ other. slice_cmp nat_cmp entry.0 other ≡ Less) (keys_of table) (keys_of rest) all)

-- a child stands this high over the leaf pages, with its first key
abbrev pub IsChild : ℕ → List Shown → IndexRow → Type 0
IsChild height pages row = IsTree height pages row.child × (first_key (table_under height pages row.child) ≡ Some row.key)

module _ (height : ℕ) (pages : List Shown) where
  pub children_join : (rows more : List IndexRow) → AreChildren height pages rows → AreChildren height pages more → AreChildren height pages (rows ++ more)
  children_join = all_append (IsChild height pages)

  pub tables_join : (rows more : List IndexRow) → tables_under height pages (rows ++ more) ≡ tables_under height pages rows ++ tables_under height pages more
  tables_join = flat_map-append (λ row. table_under height pages row.child)

  pub child_added : (rows : List IndexRow) (row : IndexRow) → AreChildren height pages rows → IsTree height pages row.child → first_key (table_under height pages row.child) ≡ Some row.key
      → AreChildren height pages (rows ++ row ∷ [])
  child_added rows row each tree first = children_join rows (row ∷ []) each ((tree, first), tt)

  pub table_added : (rows : List IndexRow) (row : IndexRow) → tables_under height pages (rows ++ row ∷ []) ≡ tables_under height pages rows ++ table_under height pages row.child
  table_added = flat_map_push (λ row. table_under height pages row.child)

  pub children_front : (rows more : List IndexRow) → AreChildren height pages (rows ++ more) → AreChildren height pages rows
  children_front = all_front (IsChild height pages)

  pub children_back : (rows more : List IndexRow) → AreChildren height pages (rows ++ more) → AreChildren height pages more
  children_back = all_back (IsChild height pages)

  pub children_take : (n : ℕ) (rows : List IndexRow) → AreChildren height pages rows → AreChildren height pages (take n rows)
  children_take = all_take (IsChild height pages)

  pub children_drop : (n : ℕ) (rows : List IndexRow) → AreChildren height pages rows → AreChildren height pages (drop n rows)
  children_drop = all_drop (IsChild height pages)

  -- the first keys rise, since each stands in its table, and the tables rise one after the other
  first_keys_above : (P : List ℕ → Type 0) (rows : List IndexRow) → AreChildren height pages rows → AllByRecursion P (keys_of (tables_under height pages rows)) → AllByRecursion P (child_keys rows)
  first_keys_above P [] each all = tt
  first_keys_above P (row ∷ rows) each all =
      let table = table_under height pages row.child in
      let rest = tables_under height pages rows in
      let parts = subst (AllByRecursion P) (map-append (λ entry. entry.0) table rest) all in
      (first_passes P table row.key each.0.1 (all_front P (keys_of table) (keys_of rest) parts), first_keys_above P rows each.1 (all_back P (keys_of table) (keys_of rest) parts))

  pub keys_rise : (rows : List IndexRow) → AreChildren height pages rows → AreEntries (tables_under height pages rows) → AreRising (child_keys rows)
  unfolding IsStrictlySortedBy
  keys_rise [] each order = tt
  keys_rise (row ∷ rows) each order =
      let table = table_under height pages row.child in
      let rest = tables_under height pages rows in
      (first_keys_above (λ key. slice_cmp nat_cmp row.key key ≡ Less) rows each.1 (rest_above table rest row.key each.0.1 order), keys_rise rows each.1 (table_back table rest order))
