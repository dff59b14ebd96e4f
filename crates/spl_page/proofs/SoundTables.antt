-- What a search by halves finds in the table of a leaf page and among the children of an index page.
use Rattle.std.proofs.Common.{◌≡◌, ℕ, zero, suc, ◌-◌, ◌<◌, ◌≤◌, Bool, true, false, not, cond, List, [], ◌∷◌, Ordering, Option, Some, None, length, map, refl, sym, ap, ◌∙◌, arith}
use Rattle.std.specs.declared.cmp.Ordering.TheVariants.{Less, Equal, Greater}
use Rattle.std.specs.BTreeMap.{is_at}
use Rattle.std.specs.Cmp.Lexicographic.{slice_cmp, nat_list_cmp_total}
use Rattle.std.specs.List.{slice_get}
use Rattle.std.specs.Map.{keys_of}
use Rattle.std.specs.Option.{option_map}
use Rattle.std.specs.Ordering.{nat_cmp, is_eq, is_lt, ordering_reverse}
use Rattle.std.proofs.lemmas.List.{length-map}
use Rattle.std.proofs.lemmas.Map.{lookup-none}
use Rattle.std.proofs.lemmas.Map.Entries.{none_below_head}
use Rattle.std.proofs.lemmas.Map.Keys.{sorted_tail}
use Rattle.std.proofs.lemmas.Map.Text.{is_eq-slice_cmp}
use Rattle.std.proofs.lemmas.Option.{slice_get-map}
use Rattle.spl_message.specs.declared.message.Message.{Message}
use Rattle.spl_message.specs.Bound.{IsLeastAbove}
use Rattle.spl_message.specs.Key.{is_below, same_key}
use Rattle.spl_message.specs.Entries.{AreEntries, Entries, message_in}
use Rattle.spl_port.specs.Page.{IndexRow, LeafRow, index_row, index_row_length, leaf_row, leaf_row_length}
use Rattle.spl_page.specs.Sound.{child_at, count_below, entries_of}
use Rattle.spl_page.specs.Tables.{child_for, child_keys, children, later, leaf_table, table_entry}
use Rattle.spl_page.proofs.Halves.{count_within}
use Rattle.spl_page.proofs.PageTables.{table_keys, table_length}
use Rattle.spl_page.proofs.Rising.{less_is}

-- ---- leaf pages

pub leaf_keys_are : (bytes : List ℕ) → map (λ row. row.key) (entries_of leaf_row leaf_row_length bytes) ≡ keys_of (leaf_table bytes)
unfolding leaf_table
leaf_keys_are bytes = sym (table_keys (entries_of leaf_row leaf_row_length bytes))

pub leaf_count_is : (bytes : List ℕ) → length (entries_of leaf_row leaf_row_length bytes) ≡ length (leaf_table bytes)
unfolding leaf_table
leaf_count_is bytes = sym (table_length (entries_of leaf_row leaf_row_length bytes))

pub leaf_entry_is : (bytes : List ℕ) (i : ℕ) (row : LeafRow) → slice_get (entries_of leaf_row leaf_row_length bytes) i ≡ Some row
    → slice_get (leaf_table bytes) i ≡ Some (table_entry row)
unfolding leaf_table
leaf_entry_is bytes i row is = slice_get-map table_entry (entries_of leaf_row leaf_row_length bytes) i ∙ ap (option_map table_entry) is

-- the entry is the key's, or none is
abbrev pub if_its : Option (List ℕ × Message) → List ℕ → Option Message
if_its None key = None
if_its (Some entry) key = cond (same_key key entry.0) (Some entry.1) None

-- only the first entry that is not below the key can be the key's
pub find_is : (table : Entries) (key : List ℕ) → AreEntries table → message_in table key ≡ if_its (slice_get table (count_below (keys_of table) key)) key
find_is [] key is = refl
find_is (entry ∷ table) key is = by (find_is table key (sorted_tail (slice_cmp nat_cmp) entry.0 (keys_of table) is)) (slice_cmp nat_cmp entry.0 key) refl
  where
    back : (order : Ordering) → slice_cmp nat_cmp entry.0 key ≡ order → slice_cmp nat_cmp key entry.0 ≡ ordering_reverse order
    back order is = nat_list_cmp_total.antisymm key entry.0 ∙ ap ordering_reverse is

    by : message_in table key ≡ if_its (slice_get table (count_below (keys_of table) key)) key → (order : Ordering) → slice_cmp nat_cmp entry.0 key ≡ order
        → message_in (entry ∷ table) key ≡ if_its (slice_get (entry ∷ table) (cond (is_lt order) (suc (count_below (keys_of table) key)) 0)) key
    by rest Less order =
        ap (λ b. cond b (Some entry.1) (message_in table key)) (ap is_eq (back Less order)) ∙ rest
    by rest Equal order =
        ap (λ b. cond b (Some entry.1) (message_in table key)) (ap is_eq (back Equal order))
        ∙ ap (λ b. cond b (Some entry.1) None) (sym (ap is_eq (back Equal order)) ∙ is_eq-slice_cmp key entry.0)
    by rest Greater order =
        lookup-none (is_at (slice_cmp nat_cmp key)) (entry ∷ table) (none_below_head nat_list_cmp_total key entry table is (back Greater order))
        ∙ ap (λ b. cond b (Some entry.1) None) (sym (ap is_eq (back Greater order)) ∙ is_eq-slice_cmp key entry.0)

past : {X : Type 0} (xs : List X) (i : ℕ) → length xs ≤ i → slice_get xs i ≡ None
past [] i le = refl
past (x ∷ xs) zero le = absurd (omega arith)
past (x ∷ xs) (suc i) le = past xs i (omega arith)

pub entry_past : (bytes : List ℕ) (i count : ℕ) → count ≡ length (entries_of leaf_row leaf_row_length bytes) → count ≤ i → None ≡ slice_get (leaf_table bytes) i
entry_past bytes i count is le = sym (past (leaf_table bytes) i (omega (arith, leaf_count_is bytes)))

-- the table of a page whose keys rise
pub find_past : (bytes key : List ℕ) (i count : ℕ) → AreEntries (leaf_table bytes) → i ≡ count_below (map (λ row. row.key) (entries_of leaf_row leaf_row_length bytes)) key
    → count ≡ length (entries_of leaf_row leaf_row_length bytes) → count ≤ i → None ≡ message_in (leaf_table bytes) key
find_past bytes key i count is place counted le =
    ap (λ entry. if_its entry key) (entry_past bytes i count counted le)
    ∙ ap (λ (i : ℕ). if_its (slice_get (leaf_table bytes) i) key) (place ∙ ap (λ keys. count_below keys key) (leaf_keys_are bytes))
    ∙ sym (find_is (leaf_table bytes) key is)

pub find_at : (bytes key : List ℕ) (i : ℕ) (entry : List ℕ × Message) (same : Bool) → AreEntries (leaf_table bytes)
    → i ≡ count_below (map (λ row. row.key) (entries_of leaf_row leaf_row_length bytes)) key
    → slice_get (leaf_table bytes) i ≡ Some entry → same ≡ same_key key entry.0 → cond same (Some entry.1) None ≡ message_in (leaf_table bytes) key
find_at bytes key i entry same is place at same-is =
    ap (λ b. cond b (Some entry.1) None) same-is
    ∙ ap (λ entry. if_its entry key) (sym at)
    ∙ ap (λ (i : ℕ). if_its (slice_get (leaf_table bytes) i) key) (place ∙ ap (λ keys. count_below keys key) (leaf_keys_are bytes))
    ∙ sym (find_is (leaf_table bytes) key is)

-- ---- index pages

-- what is above a key is what is not below the least bytes above it
pub after_is : (key after other : List ℕ) → IsLeastAbove key after → is_below other after ≡ not (is_below key other)
after_is key after other least = by (slice_cmp nat_cmp key other) refl
  where
    back : (order : Ordering) → slice_cmp nat_cmp key other ≡ order → slice_cmp nat_cmp other key ≡ ordering_reverse order
    back order is = nat_list_cmp_total.antisymm other key ∙ ap ordering_reverse is

    by : (order : Ordering) → slice_cmp nat_cmp key other ≡ order → is_below other after ≡ not (is_lt order)
    by Less is = least.least other (ap is_lt is)
    by Equal is = ap is_lt (nat_list_cmp_total.congr other key after (back Equal is)) ∙ least.above
    by Greater is = ap is_lt (nat_list_cmp_total.trans other key after (back Greater is) (less_is (slice_cmp nat_cmp key after) least.above))

-- the child before a place
abbrev pub child_before : List IndexRow → ℕ → Option ℕ
child_before rows zero = None
child_before rows (suc place) = child_at rows place

there : {X : Type 0} (xs : List X) (i : ℕ) → i < length xs → (x : X) × (slice_get xs i ≡ Some x)
there [] i within = absurd (omega arith)
there (x ∷ xs) zero within = (x, refl)
there (x ∷ xs) (suc i) within = there xs i (omega arith)

child_more : (rows : List IndexRow) (row : IndexRow) (found : Option ℕ) (count : ℕ) → count ≤ length rows → found ≡ child_before rows count
    → Some (later found row.child) ≡ child_at (row ∷ rows) count
child_more rows row found zero within is = ap (λ found. Some (later found row.child)) is
child_more rows row found (suc place) within is =
    let at = there rows place (omega arith) in
    let child = ap (option_map (λ row. row.child)) at.1 in
    ap (λ found. Some (later found row.child)) (is ∙ child) ∙ sym child

pub child_is : (rows : List IndexRow) (key after : List ℕ) → IsLeastAbove key after → child_for rows key ≡ child_before rows (count_below (child_keys rows) after)
child_is [] key after least = refl
child_is (row ∷ rows) key after least = by (child_is rows key after least) (is_below key row.key) (is_below row.key after) (after_is key after row.key least)
  where
    by : child_for rows key ≡ child_before rows (count_below (child_keys rows) after) → (above below : Bool) → below ≡ not above
        → cond above None (Some (later (child_for rows key) row.child)) ≡ child_before (row ∷ rows) (cond below (suc (count_below (child_keys rows) after)) 0)
    by rest true true is = absurd (cc)
    by rest true false is = refl
    by rest false true is =
        child_more rows row (child_for rows key) (count_below (child_keys rows) after)
        (omega (arith, count_within (child_keys rows) after, length-map rows (λ (row : IndexRow). row.key))) rest
    by rest false false is = absurd (cc)

pub index_count_is : (page : ℕ) (bytes : List ℕ) → length (entries_of (index_row page) index_row_length bytes) ≡ length (children page bytes)
unfolding children
index_count_is page bytes = refl

pub index_child_is : (page : ℕ) (bytes : List ℕ) (i : ℕ) (row : IndexRow) → slice_get (entries_of (index_row page) index_row_length bytes) i ≡ Some row
    → child_at (children page bytes) i ≡ Some row.child
unfolding children
index_child_is page bytes i row is = ap (option_map (λ row. row.child)) is

child_place : (page : ℕ) (bytes key after : List ℕ) (place : ℕ) → IsLeastAbove key after
    → place ≡ count_below (map (λ row. row.key) (entries_of (index_row page) index_row_length bytes)) after → child_for (children page bytes) key ≡ child_before (children page bytes) place
unfolding children
child_place page bytes key after place least is = child_is (children page bytes) key after least ∙ ap (child_before (children page bytes)) (sym is)

pub child_none : (page : ℕ) (bytes key after : List ℕ) (place : ℕ) → IsLeastAbove key after
    → place ≡ count_below (map (λ row. row.key) (entries_of (index_row page) index_row_length bytes)) after → place ≡ 0 → None ≡ child_for (children page bytes) key
child_none page bytes key after place least is none =
    sym (child_place page bytes key after place least is ∙ ap (child_before (children page bytes)) none)

before_is : (rows : List IndexRow) (place : ℕ) → (place ≡ 0 → ⊥) → child_at rows (place - 1) ≡ child_before rows place
before_is rows zero some = absurd (some refl)
before_is rows (suc place) some = ap (child_at rows) (let e : suc place - 1 ≡ place = omega arith in e)

pub child_some : (page : ℕ) (bytes key after : List ℕ) (place child : ℕ) → IsLeastAbove key after
    → place ≡ count_below (map (λ row. row.key) (entries_of (index_row page) index_row_length bytes)) after → (place ≡ 0 → ⊥)
    → child_at (children page bytes) (place - 1) ≡ Some child → Some child ≡ child_for (children page bytes) key
child_some page bytes key after place child least is some at =
    sym at ∙ before_is (children page bytes) place some ∙ sym (child_place page bytes key after place least is)

-- an entry that is there can be read
pub never : {X : Type 0} (xs : List X) (i : ℕ) → i < length xs → slice_get xs i ≡ None → ⊥
never xs i within none = let at = there xs i within in let both : Some at.0 ≡ None = sym at.1 ∙ none in cc
