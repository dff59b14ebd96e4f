-- What holds of the table of a sound leaf page and of the children of a sound index page.
use Rattle.std.proofs.Common.{◌≡◌, ℕ, zero, suc, ◌<◌, Bool, true, false, not, ◌&&◌, cond, ltb, eqb, List, [], ◌∷◌, Option, Some, None, length, drop, map, refl, sym, ap, subst, ◌∙◌, arith}
use Rattle.std.specs.Prelude.{All}
use Rattle.std.specs.List.{AllByRecursion, list_all}
use Rattle.std.specs.Map.{keys_of}
use Rattle.std.specs.Option.{option_and_then, option_map, option_or}
use Rattle.std.proofs.lemmas.Bool.{ltb-true}
use Rattle.std.proofs.lemmas.List.Elements.{All-from_recursion}
use Rattle.spl_message.specs.Key.{AreRising}
use Rattle.spl_message.specs.Entries.{AreEntries}
use Rattle.spl_port.specs.declared.at.At.{At}
use Rattle.spl_port.specs.declared.damaged.Why.{Why}
use Rattle.spl_port.specs.declared.damaged.Why.TheVariants.{Kind, Number, Count, Order, Rest}
use Rattle.spl_port.specs.Page.{IndexRow, LeafRow, Rows, index_fault, index_row, index_row_length, index_rows, is_rising, kind_fault, leaf_fault, leaf_row, leaf_row_length, leaf_rows, number_at, row_count, rows_fault, rows_of}
use Rattle.spl_page.specs.Frame.{head_fault}
use Rattle.spl_page.specs.Tables.{child_keys, children, found_rows, leaf_table, table_entry}
use Rattle.spl_page.proofs.FrameLemmas.{kind_fault_is}
use Rattle.spl_page.proofs.Rising.{rising_passed}

-- ---- entries that are there

-- there are as many as were asked for
one_more : {R : Type 0} (n : ℕ) (first : Option R) (more : Option (Rows R)) (found : Rows R) → ((f : Rows R) → more ≡ Some f → length f.rows ≡ n)
    → option_and_then (λ r. option_map (λ m. record { rows = r ∷ m.rows; rest = m.rest }) more) first ≡ Some found → length found.rows ≡ suc n
one_more n None more found others is = absurd cc
one_more n (Some r) None found others is = absurd cc
one_more n (Some r) (Some m) found others is =
    let here : record { rows = r ∷ m.rows; rest = m.rest } ≡ found = cc in
    ap (λ (f : Rows _). length f.rows) (sym here) ∙ ap suc (others m refl)

so_many : {R : Type 0} (row : List ℕ → Option R) (row_length : List ℕ → ℕ) (n : ℕ) (bytes : List ℕ) (found : Rows R)
    → rows_of row row_length n bytes ≡ Some found → length found.rows ≡ n
so_many row row_length zero bytes found is =
    let here : record { rows = []; rest = bytes } ≡ found = cc in
    ap (λ (f : Rows _). length f.rows) (sym here)
so_many row row_length (suc n) bytes found is =
    one_more n (row bytes) (rows_of row row_length n (drop (row_length bytes) bytes)) found (so_many row row_length n (drop (row_length bytes) bytes)) is

-- what holds of each entry that can be read holds of those that were
each_more : {R : Type 0} (P : R → Type 0) (first : Option R) (more : Option (Rows R)) → ((r : R) → first ≡ Some r → P r) → AllByRecursion P (found_rows more)
    → AllByRecursion P (found_rows (option_and_then (λ r. option_map (λ m. record { rows = r ∷ m.rows; rest = m.rest }) more) first))
each_more P None more here others = tt
each_more P (Some r) None here others = tt
each_more P (Some r) (Some m) here others = (here r refl, others)

pub each : {R : Type 0} (P : R → Type 0) (row : List ℕ → Option R) (row_length : List ℕ → ℕ) → ((bytes : List ℕ) (r : R) → row bytes ≡ Some r → P r)
    → (n : ℕ) (bytes : List ℕ) → AllByRecursion P (found_rows (rows_of row row_length n bytes))
each P row row_length holds zero bytes = tt
each P row row_length holds (suc n) bytes =
    each_more P (row bytes) (rows_of row row_length n (drop (row_length bytes) bytes)) (holds bytes) (each P row row_length holds n (drop (row_length bytes) bytes))

-- ---- a page against which nothing stands

pub neither : (a b : Option Why) → option_or a b ≡ None → (a ≡ None) × (b ≡ None)
neither None b none = (refl, none)
neither (Some why) b none = absurd cc

no_count : (a b c : Bool) → cond a (Some Kind) (cond b (Some Number) (cond c (Some Count) None)) ≡ None → c ≡ false
no_count true b c none = absurd cc
no_count false true c none = absurd cc
no_count false false true none = absurd cc
no_count false false false none = refl

no_order : (rising zeros : Bool) → cond (not rising) (Some Order) (cond (not zeros) (Some Rest) None) ≡ None → rising ≡ true
no_order true zeros none = refl
no_order false zeros none = absurd cc

sound_rising : {R : Type 0} (key : R → List ℕ) (found : Option (Rows R)) → rows_fault key found ≡ None → is_rising (map key (found_rows found)) ≡ true
sound_rising key None none = refl
sound_rising key (Some found) none = no_order (is_rising (map key found.rows)) (list_all (λ byte. eqb byte 0) found.rest) none

some_rows : {R : Type 0} (key : R → List ℕ) (found : Option (Rows R)) (n : ℕ) → rows_fault key found ≡ None → eqb n 0 ≡ false
    → ((f : Rows R) → found ≡ Some f → length f.rows ≡ n) → 0 < length (found_rows found)
some_rows key None n none some many = absurd cc
some_rows key (Some found) zero none some many = absurd cc
some_rows key (Some found) (suc n) none some many = omega (arith, many found refl)

-- its keys rise, and it has an entry
pub record IsSound {R : Type 0} (key : R → List ℕ) (rows : List R) : Type 0 where
  pub rising : is_rising (map key rows) ≡ true
  pub some : 0 < length rows

pub sound_rows : {R : Type 0} (kind : ℕ) (key : R → List ℕ) (row : List ℕ → Option R) (row_length : List ℕ → ℕ) (at : At) (bytes : List ℕ)
    → kind_fault kind key (rows_of row row_length (row_count bytes) (drop 16 bytes)) at bytes ≡ None
    → IsSound key (found_rows (rows_of row row_length (row_count bytes) (drop 16 bytes)))
sound_rows kind key row row_length at bytes none =
    let found = rows_of row row_length (row_count bytes) (drop 16 bytes) in
    let parts = neither (head_fault kind at bytes) (rows_fault key found) (sym (kind_fault_is kind key found at bytes) ∙ none) in
    record {
      rising = sound_rising key found parts.1;
      some = some_rows key found (row_count bytes) parts.1 (no_count _ _ (eqb (row_count bytes) 0) parts.0) (so_many row row_length (row_count bytes) (drop 16 bytes));
    }

-- ---- leaf pages

pub table_keys : (rows : List LeafRow) → keys_of (map table_entry rows) ≡ map (λ row. row.key) rows
table_keys [] = refl
table_keys (row ∷ rows) = ap (λ keys. row.key ∷ keys) (table_keys rows)

pub table_length : (rows : List LeafRow) → length (map table_entry rows) ≡ length rows
table_length [] = refl
table_length (row ∷ rows) = ap suc (table_length rows)

pub leaf_sound : (at : At) (bytes : List ℕ) → leaf_fault at bytes ≡ None → IsSound (λ row. row.key) (found_rows (leaf_rows bytes))
unfolding leaf_fault
leaf_sound at bytes none = sound_rows 76 (λ row. row.key) leaf_row leaf_row_length at bytes none

-- the keys of a sound leaf page rise
pub leaf_table_rises : (at : At) (bytes : List ℕ) → leaf_fault at bytes ≡ None → AreEntries (leaf_table bytes)
unfolding leaf_table
leaf_table_rises at bytes none =
    rising_passed (keys_of (map table_entry (found_rows (leaf_rows bytes)))) (ap is_rising (table_keys (found_rows (leaf_rows bytes))) ∙ (leaf_sound at bytes none).rising)

-- a sound leaf page has a key
pub leaf_table_has_some : (at : At) (bytes : List ℕ) → leaf_fault at bytes ≡ None → 0 < length (leaf_table bytes)
unfolding leaf_table
leaf_table_has_some at bytes none = omega (arith, table_length (found_rows (leaf_rows bytes)), (leaf_sound at bytes none).some)

-- of the place only the page's and the branch's number matter
pub leaf_fault_at : (at other : At) (bytes : List ℕ) → at.page ≡ other.page → at.branch ≡ other.branch → leaf_fault at bytes ≡ leaf_fault other bytes
unfolding leaf_fault
leaf_fault_at at other bytes page branch = rw (page, branch) refl

-- ---- index pages

pub index_sound : (at : At) (bytes : List ℕ) → index_fault at bytes ≡ None → IsSound (λ row. row.key) (found_rows (index_rows at.page bytes))
unfolding index_fault
index_sound at bytes none = sound_rows 73 (λ row. row.key) (index_row at.page) index_row_length at bytes none

-- the first keys of a sound index page's children rise
pub children_rise : (at : At) (bytes : List ℕ) → index_fault at bytes ≡ None → AreRising (child_keys (children at.page bytes))
unfolding children
children_rise at bytes none = rising_passed (child_keys (found_rows (index_rows at.page bytes))) (index_sound at bytes none).rising

-- a sound index page has a child
pub children_has_some : (at : At) (bytes : List ℕ) → index_fault at bytes ≡ None → 0 < length (children at.page bytes)
unfolding children
children_has_some at bytes none = (index_sound at bytes none).some

read_below : (child page : ℕ) (b c d : Bool) (key : List ℕ) (row : IndexRow)
    → cond (ltb child page && b && c && d) (Some (record { child = child; key = key })) None ≡ Some row → row.child < page
read_below child page b c d key row is = by (ltb child page) b c d refl is
  where
    by : (a b c d : Bool) → a ≡ ltb child page → cond (a && b && c && d) (Some (record { child = child; key = key })) None ≡ Some row → row.child < page
    by true true true true e is =
        let here : record { child = child; key = key } ≡ row = cc in
        subst (λ (r : IndexRow). r.child < page) here (ltb-true child page (sym e))
    by false b c d e is = absurd cc
    by true false c d e is = absurd cc
    by true true false d e is = absurd cc
    by true true true false e is = absurd cc

-- the number of each child is below the page's own
pub children_are_below : (page : ℕ) (bytes : List ℕ) → All (λ row. row.child < page) (children page bytes)
unfolding children
children_are_below page bytes =
    All-from_recursion (λ row. row.child < page) (found_rows (index_rows page bytes))
    (each (λ row. row.child < page) (index_row page) index_row_length (λ (entry : List ℕ) (row : IndexRow). read_below (number_at 0 4 entry) page _ _ _ _ row) (row_count bytes) (drop 16 bytes))

-- of the place only the page's and the branch's number matter
pub index_fault_at : (at other : At) (bytes : List ℕ) → at.page ≡ other.page → at.branch ≡ other.branch → index_fault at bytes ≡ index_fault other bytes
unfolding index_fault
index_fault_at at other bytes page branch = rw (page, branch) refl
