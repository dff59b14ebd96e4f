-- The bytes of an entry of an index page, and the children that are written.
use Rattle.std.proofs.Common.{◌≡◌, ℕ, ◌+◌, ◌*◌, ◌^◌, ◌<◌, ◌≤◌, Bool, true, false, ◌&&◌, cond, ltb, leb, List, [], ◌∷◌, ◌++◌, Option, Some, None, length, take, drop, refl, sym, ap, subst, ◌∙◌, arith}
use Rattle.std.specs.Prelude.{slice_index, sum_by}
use Rattle.std.specs.List.{AllByRecursion}
use Rattle.std.proofs.lemmas.Bool.{and_from, cond-true, leb-true, lt-ltb, le-leb}
use Rattle.std.proofs.lemmas.List.{take_at, length-append, length-drop, length-take-le}
use Rattle.std.proofs.lemmas.List.Sums.{sum_by-cons}
use Rattle.byteorder.specs.Numbers.{big_number-reads_back}
use Rattle.spl_message.specs.Key.{AreRising, IsKey}
use Rattle.spl_port.specs.declared.at.At.{At}
use Rattle.spl_port.specs.Page.{IndexRow, index_fault, index_row, index_row_length, is_index_row, kind_fault, number_at}
use Rattle.spl_page.specs.IndexPage.{index_entry_length, index_head}
use Rattle.spl_page.specs.Sound.{entries_of, page_rows}
use Rattle.spl_page.specs.Tables.{child_keys, children, children_length}
use Rattle.spl_page.specs.Writer.{IsNext, IsText, Written, nothing, rows_written, written_children}
use Rattle.spl_page.proofs.PageTables.{each}

abbrev pub size : IndexRow → ℕ
size row = index_entry_length row.key

abbrev pub IsAt : ℕ → IndexRow → Type 0
IsAt page row = row.child < page

-- the bytes of an entry
abbrev pub text_of : IndexRow → List ℕ
text_of row = index_head row.child (length row.key) ++ (row.key ++ [])

passes : (n page len total : ℕ) → n < page → 1 ≤ len → len ≤ 64 → 5 + len ≤ total → (ltb n page && leb 1 len && leb len 64 && leb (5 + len) total) ≡ true
passes n page len total a b c d = and_from _ _ (and_from _ _ (and_from _ _ (lt-ltb n page a) (le-leb 1 len b)) (le-leb len 64 c)) (le-leb (5 + len) total d)

abbrev made : ℕ → List ℕ → Option IndexRow
made child key = Some (record { child = child; key = key })

entry_back : (row : IndexRow) (page : ℕ) (rest : List ℕ) → IsKey row.key → page ≤ 2 ^ 32 → row.child < page
    → index_row page ((index_head row.child (length row.key) ++ row.key) ++ rest) ≡ Some row
entry_back row page rest is within below =
    let bytes = (index_head row.child (length row.key) ++ row.key) ++ rest in
    let fits : row.child < 256 ^ 4 = omega (arith, below, within) in
    let child : number_at 0 4 bytes ≡ row.child = big_number-reads_back 4 row.child (length row.key ∷ (row.key ++ rest)) fits in
    let long : 5 + length row.key ≤ length bytes = omega (arith, length-append row.key rest) in
    let test : is_index_row page bytes ≡ true = passes (number_at 0 4 bytes) page (length row.key) (length bytes) (omega (arith, child, below)) (omega (arith, is.0)) is.1 long in
    cond-true (is_index_row page bytes) (made (number_at 0 4 bytes) (take (length row.key) (row.key ++ rest))) None test
    ∙ ap (λ (n : ℕ). made n (take (length row.key) (row.key ++ rest))) child
    ∙ ap (made row.child) (take_at row.key rest (length row.key) refl)

is_text : (row : IndexRow) → IsKey row.key → IsText index_row index_row_length size IsAt row (index_head row.child (length row.key) ++ row.key)
is_text row is = record {
  read = λ page rest within at. entry_back row page rest is within at;
  long = λ rest. omega arith;
  sized = omega arith;
}

-- ---- the child that is put

pub text_is : (row : IndexRow) (text : List ℕ) → IsKey row.key → text ≡ index_head row.child (length row.key) ++ row.key → IsText index_row index_row_length size IsAt row text
text_is row text is same = subst (IsText index_row index_row_length size IsAt row) (sym same) (is_text row is)

pub is_next : (written : Written) (row : IndexRow) (text : List ℕ) → IsKey row.key → row.child < 2 ^ 32 → text ≡ index_head row.child (length row.key) ++ row.key
    → AreRising (child_keys (written_children written ++ row ∷ [])) → children_length (written_children written) + index_entry_length row.key ≤ 4096
    → IsNext index_row index_row_length (λ row. row.key) size IsAt written text
unfolding written_children
is_next written row text is below same order fits = record {
  entry = row;
  is = text_is row text is same;
  anywhere = below;
  order = order;
  least = omega arith;
  fits = fits;
}

pub children_push : (written new : Written) (row : IndexRow) → rows_written index_row index_row_length new ≡ rows_written index_row index_row_length written ++ row ∷ []
    → written_children new ≡ written_children written ++ row ∷ []
unfolding written_children
children_push written new row is = is

-- ---- the children

pub none_written : written_children nothing ≡ []
unfolding written_children
none_written = refl

pub are : (written : Written) → written_children written ≡ rows_written index_row index_row_length written
unfolding written_children
are written = refl

-- an entry that can be read has a key
read_some : (key total : ℕ) (a c : Bool) (child : ℕ) (bytes : List ℕ) (row : IndexRow) → total ≡ length bytes
    → cond (a && leb 1 key && c && leb (5 + key) total) (Some (record { child = child; key = take key (drop 5 bytes) })) None ≡ Some row → 6 ≤ size row
read_some key total a c child bytes row len is = by a (leb 1 key) c (leb (5 + key) total) refl refl is
  where
    by : (a b c d : Bool) → b ≡ leb 1 key → d ≡ leb (5 + key) total
        → cond (a && b && c && d) (Some (record { child = child; key = take key (drop 5 bytes) })) None ≡ Some row → 6 ≤ size row
    by true true true true some there is =
        let here : record { child = child; key = take key (drop 5 bytes) } ≡ row = cc in
        let all : 5 + key ≤ total = leb-true (5 + key) total (sym there) in
        let one : 1 ≤ key = leb-true 1 key (sym some) in
        let long : length (take key (drop 5 bytes)) ≡ key = length-take-le key (drop 5 bytes) (omega (arith, all, len, length-drop 5 bytes)) in
        subst (λ (r : IndexRow). 6 ≤ size r) here (omega (arith, long, one))
    by false b c d some there is = absurd cc
    by true false c d some there is = absurd cc
    by true true false d some there is = absurd cc
    by true true true false some there is = absurd cc

least : (rows : List IndexRow) → AllByRecursion (λ row. 6 ≤ size row) rows → 6 * length rows ≤ sum_by size rows
least [] are = omega arith
least (row ∷ rows) are = omega (arith, least rows are.1, are.0, sum_by-cons size row rows)

pub most : (written : Written) → 6 * length (rows_written index_row index_row_length written) ≤ sum_by size (rows_written index_row index_row_length written)
most written =
    least (rows_written index_row index_row_length written)
    (each (λ row. 6 ≤ size row) (index_row (2 ^ 32)) index_row_length
    (λ (bytes : List ℕ) (row : IndexRow). read_some (slice_index bytes 4) (length bytes) (ltb (number_at 0 4 bytes) (2 ^ 32)) (leb (slice_index bytes 4) 64) (number_at 0 4 bytes) bytes row refl) written.count written.text)

-- ---- the page

pub no_fault : (at : At) (page : List ℕ) → kind_fault 73 (λ row. row.key) (page_rows (index_row at.page) index_row_length page) at page ≡ None → index_fault at page ≡ None
unfolding index_fault
no_fault at page none = none

pub children_are : (written : Written) (number : ℕ) (page : List ℕ) → entries_of (index_row number) index_row_length page ≡ rows_written index_row index_row_length written
    → children number page ≡ written_children written
unfolding children written_children
children_are written number page is = is
