-- The bytes of an entry of a leaf page, and the table of the entries that are written.
use Rattle.std.proofs.Common.{◌≡◌, ℕ, ◌+◌, ◌^◌, ◌<◌, ◌≤◌, Bool, true, not, ◌&&◌, ◌||◌, eqb, leb, List, [], ◌∷◌, ◌++◌, Option, Some, None, length, take, drop, map, refl, sym, ap, subst, ◌∙◌, append_assoc, arith}
use Rattle.std.specs.Prelude.{sum_by}
use Rattle.std.specs.Map.{keys_of}
use Rattle.std.proofs.lemmas.Bool.{and_from, cond-true, le-leb}
use Rattle.std.proofs.lemmas.List.{take_at, drop_at, length-append, map_push}
use Rattle.std.proofs.lemmas.List.Sums.{sum_by-cons}
use Rattle.byteorder.specs.Endian.{big_bytes}
use Rattle.byteorder.specs.Numbers.{big_number-reads_back}
use Rattle.spl_message.specs.declared.message.Message.{Message}
use Rattle.spl_message.specs.declared.message.Message.TheVariants.{Insert, Delete, Update}
use Rattle.spl_message.specs.Entries.{AreEntries}
use Rattle.spl_message.specs.Key.{AreRising, IsKey}
use Rattle.spl_port.specs.declared.at.At.{At}
use Rattle.spl_port.specs.Page.{LeafRow, is_leaf_row, kind_fault, leaf_fault, leaf_row, leaf_row_length, number_at}
use Rattle.spl_page.specs.LeafPage.{kind_of, value_of, leaf_entry_length, leaf_head, leaf_row_of}
use Rattle.spl_page.specs.Sound.{entries_of, page_rows}
use Rattle.spl_page.specs.Tables.{leaf_size, leaf_table, table_entry, table_length}
use Rattle.spl_page.specs.Writer.{IsNext, IsText, Written, leaf_rows_written, nothing, written_table}
use Rattle.spl_page.proofs.PageTables.{table_keys, table_length as table_count}

-- the test of the page grammar on an entry's numbers
abbrev row_test : ℕ → ℕ → ℕ → ℕ → Bool
row_test key kind value total = leb 1 key && leb key 64 && leb kind 2 && leb value 512 && (not (eqb kind 1) || eqb value 0) && leb (4 + key + value) total

kind_passes : (message : Message) → leb (kind_of message) 2 ≡ true
kind_passes (Insert value) = refl
kind_passes Delete = refl
kind_passes (Update operand) = refl

delete_passes : (message : Message) → (not (eqb (kind_of message) 1) || eqb (length (value_of message)) 0) ≡ true
delete_passes (Insert value) = refl
delete_passes Delete = refl
delete_passes (Update operand) = refl

passes : (key total : ℕ) (message : Message) → 1 ≤ key → key ≤ 64 → length (value_of message) ≤ 512 → 4 + key + length (value_of message) ≤ total
    → row_test key (kind_of message) (length (value_of message)) total ≡ true
passes key total message a b c d =
    let value = length (value_of message) in
    and_from _ _
    (and_from _ _
    (and_from _ _ (and_from _ _ (and_from _ _ (le-leb 1 key a) (le-leb key 64 b)) (kind_passes message)) (le-leb value 512 c))
    (delete_passes message))
    (le-leb (4 + key + value) total d)

abbrev made : List ℕ → ℕ → List ℕ → Option LeafRow
made key kind value = Some (record { key = key; kind = kind; value = value })

abbrev pub row_of : List ℕ → Message → LeafRow
row_of key message = leaf_row_of (record { key = key; message = message })

-- the bytes of an entry
abbrev pub text_of : List ℕ → Message → List ℕ
text_of key message = leaf_head (length key) (kind_of message) (length (value_of message)) ++ (key ++ value_of message)

-- the number of the value's bytes
value_back : (key : List ℕ) (message : Message) (rest : List ℕ) → length (value_of message) ≤ 512 → number_at 2 2 (text_of key message ++ rest) ≡ length (value_of message)
value_back key message rest short =
    let fits : length (value_of message) < 256 ^ 2 = omega (arith, short) in
    big_number-reads_back 2 (length (value_of message)) ((key ++ value_of message) ++ rest) fits

-- what stands behind the key
behind_key : (key : List ℕ) (message : Message) (rest : List ℕ) → drop (4 + length key) (text_of key message ++ rest) ≡ value_of message ++ rest
behind_key key message rest =
    let value = value_of message in
    let front : List ℕ = length key ∷ kind_of message ∷ (big_bytes 2 (length value) ++ key) in
    let len : length front ≡ 4 + length key = omega arith in
    let split : text_of key message ++ rest ≡ front ++ (value ++ rest) =
    ap (λ (t : List ℕ). length key ∷ kind_of message ∷ (big_bytes 2 (length value) ++ t)) (append_assoc key value rest) in
    ap (drop (4 + length key)) split ∙ drop_at front (value ++ rest) (4 + length key) len

entry_back : (key : List ℕ) (message : Message) (rest : List ℕ) → IsKey key → length (value_of message) ≤ 512
    → leaf_row (text_of key message ++ rest) ≡ Some (row_of key message)
entry_back key message rest is short =
    let bytes = text_of key message ++ rest in
    let value = value_of message in
    let count = value_back key message rest short in
    let long : 4 + length key + length value ≤ length bytes = omega (arith, length-append (key ++ value) rest, length-append key value) in
    let test : is_leaf_row bytes ≡ true =
    ap (λ (n : ℕ). row_test (length key) (kind_of message) n (length bytes)) count
    ∙ passes (length key) (length bytes) message (omega (arith, is.0)) is.1 short long in
    let key-is : take (length key) ((key ++ value) ++ rest) ≡ key =
    ap (take (length key)) (append_assoc key value rest) ∙ take_at key (value ++ rest) (length key) refl in
    let value-is : take (number_at 2 2 bytes) (drop (4 + length key) bytes) ≡ value =
    ap (λ (n : ℕ). take n (drop (4 + length key) bytes)) count
    ∙ ap (take (length value)) (behind_key key message rest)
    ∙ take_at value rest (length value) refl in
    cond-true (is_leaf_row bytes) (made (take (length key) ((key ++ value) ++ rest)) (kind_of message) (take (number_at 2 2 bytes) (drop (4 + length key) bytes))) None test
    ∙ ap (λ (k : List ℕ). made k (kind_of message) (take (number_at 2 2 bytes) (drop (4 + length key) bytes))) key-is
    ∙ ap (made key (kind_of message)) value-is

long_back : (key : List ℕ) (message : Message) (rest : List ℕ) → length (value_of message) ≤ 512
    → leaf_row_length (text_of key message ++ rest) ≡ length (text_of key message)
long_back key message rest short = omega (arith, value_back key message rest short, length-append key (value_of message))

message_back : (key : List ℕ) (message : Message) → table_entry (row_of key message) ≡ (key, message)
message_back key (Insert value) = refl
message_back key Delete = refl
message_back key (Update operand) = refl

pub size_is : (key : List ℕ) (message : Message) → leaf_size (row_of key message) ≡ leaf_entry_length key message
size_is key message = ap (λ (e : List ℕ × Message). leaf_entry_length e.0 e.1) (message_back key message)

is_text : (key : List ℕ) (message : Message) → IsKey key → length (value_of message) ≤ 512
    → IsText (λ page. leaf_row) leaf_row_length leaf_size (λ page row. Unit {0}) (row_of key message) (text_of key message)
is_text key message is short = record {
  read = λ page rest within at. entry_back key message rest is short;
  long = λ rest. long_back key message rest short;
  sized = omega (arith, size_is key message, length-append key (value_of message));
}

-- ---- the entry that is put

pub text_is : (key : List ℕ) (message : Message) (text : List ℕ) → IsKey key → length (value_of message) ≤ 512 → text ≡ text_of key message
    → IsText (λ page. leaf_row) leaf_row_length leaf_size (λ page row. Unit {0}) (row_of key message) text
text_is key message text is short same =
    subst (IsText (λ page. leaf_row) leaf_row_length leaf_size (λ page row. Unit {0}) (row_of key message)) (sym same) (is_text key message is short)

pub is_next : (written : Written) (key : List ℕ) (message : Message) (text : List ℕ) → IsKey key → length (value_of message) ≤ 512 → text ≡ text_of key message
    → AreRising (map (λ row. row.key) (leaf_rows_written written ++ row_of key message ∷ []))
    → 16 + sum_by leaf_size (leaf_rows_written written) + leaf_entry_length key message ≤ 4096
    → IsNext (λ page. leaf_row) leaf_row_length (λ row. row.key) leaf_size (λ page row. Unit {0}) written text
is_next written key message text is short same order fits = record {
  entry = row_of key message;
  is = text_is key message text is short same;
  anywhere = tt;
  order = order;
  least = omega (arith, size_is key message, is.0);
  fits = omega (arith, size_is key message, fits);
}

-- ---- the table

pub none_written : written_table nothing ≡ []
unfolding written_table
none_written = refl

pub counted : (written : Written) → length (leaf_rows_written written) ≡ length (written_table written)
unfolding written_table
counted written = sym (table_count (leaf_rows_written written))

sizes : (rows : List LeafRow) → sum_by (λ entry. leaf_entry_length entry.0 entry.1) (map table_entry rows) ≡ sum_by leaf_size rows
sizes [] = refl
sizes (row ∷ rows) =
    omega (
      arith,
      sizes rows,
      sum_by-cons (λ (e : List ℕ × Message). leaf_entry_length e.0 e.1) (table_entry row) (map table_entry rows),
      sum_by-cons leaf_size row rows,
    )

pub sized : (written : Written) → table_length (written_table written) ≡ 16 + sum_by leaf_size (leaf_rows_written written)
unfolding written_table
sized written = omega (arith, sizes (leaf_rows_written written))

pub table_push : (written new : Written) (key : List ℕ) (message : Message) → leaf_rows_written new ≡ leaf_rows_written written ++ row_of key message ∷ []
    → written_table new ≡ written_table written ++ (key, message) ∷ []
unfolding written_table
table_push written new key message is =
    ap (map table_entry) is
    ∙ map_push table_entry (leaf_rows_written written) (row_of key message)
    ∙ ap (λ e. map table_entry (leaf_rows_written written) ++ e ∷ []) (message_back key message)

pub rises_next : (written : Written) (key : List ℕ) (message : Message) → AreEntries (written_table written ++ (key, message) ∷ [])
    → AreRising (map (λ row. row.key) (leaf_rows_written written ++ row_of key message ∷ []))
unfolding written_table
rises_next written key message order =
    let rows = leaf_rows_written written in
    subst AreRising (
    ap keys_of (ap (λ e. map table_entry rows ++ e ∷ []) (sym (message_back key message)) ∙ sym (map_push table_entry rows (row_of key message)))
    ∙ table_keys (rows ++ row_of key message ∷ [])
    ) order

-- ---- the page

pub no_fault : (at : At) (page : List ℕ) → kind_fault 76 (λ row. row.key) (page_rows leaf_row leaf_row_length page) at page ≡ None → leaf_fault at page ≡ None
unfolding leaf_fault
no_fault at page none = none

pub table_is : (written : Written) (page : List ℕ) → entries_of leaf_row leaf_row_length page ≡ leaf_rows_written written → leaf_table page ≡ written_table written
unfolding leaf_table written_table
table_is written page is = ap (map table_entry) is
