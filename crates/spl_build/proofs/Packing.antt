-- Pages that get a parent.
use Rattle.std.proofs.Common.{◌≡◌, ℕ, ◌+◌, ◌-◌, ◌*◌, ◌<◌, ◌≤◌, List, [], ◌∷◌, ◌++◌, length, take, drop, get_or, refl, sym, ap, ap₂, ◌∙◌, subst, arith, add-one}
use Rattle.std.proofs.Math.Seq.{take-suc, drop-cons}
use Rattle.std.proofs.Math.ListN.{drop_of_length-le}
use Rattle.std.proofs.lemmas.List.Sums.{sum_by_push}
use Rattle.std.proofs.lemmas.List.{drop-drop, drop-map, take-map, length-drop, length-take-le, length-map, length_push, map-append, map_push, take-append-drop}
use Rattle.spl_message.specs.Key.{AreRising}
use Rattle.spl_page.specs.declared.index_entry.IndexEntry.{IndexEntry}
use Rattle.spl_page.specs.IndexPage.{index_entry_length, index_row_of, index_rows_of}
use Rattle.spl_page.specs.Tables.{child_keys, children_length}
use Rattle.spl_port.specs.Page.{IndexRow}
use Rattle.spl_branch.proofs.GrowingTable.{rising_front}
use Rattle.spl_build.specs.Levels.{LevelState, adopted, parent_of, risen}

-- the first entries and the next one
pub taken_more : (entries : List IndexEntry) (i : ℕ) (entry : IndexEntry) (page : List IndexRow) → i < length entries → page ≡ index_rows_of (take i entries) → entry ≡ get_or entries i entry →
    page ++ index_row_of entry ∷ [] ≡ index_rows_of (take (i + 1) entries)
taken_more entries i entry page within is at =
    ap₂ (λ (front : List IndexRow) (one : IndexEntry). front ++ index_row_of one ∷ []) is at
    ∙ sym (map_push index_row_of (take i entries) (get_or entries i entry))
    ∙ ap index_rows_of (sym (ap (λ n. take n entries) (add-one i) ∙ take-suc entries i entry within))

pub rising_taken : (entries : List IndexEntry) (i : ℕ) (entry : IndexEntry) (page : List IndexRow) → i < length entries → page ≡ index_rows_of (take i entries) → entry ≡ get_or entries i entry →
    AreRising (child_keys (index_rows_of entries)) → AreRising (child_keys (page ++ index_row_of entry ∷ []))
rising_taken entries i entry page within is at rising =
    let parts : child_keys (index_rows_of entries) ≡ child_keys (index_rows_of (take (i + 1) entries)) ++ child_keys (index_rows_of (drop (i + 1) entries)) =
    ap (λ (all : List IndexEntry). child_keys (index_rows_of all)) (sym (take-append-drop (i + 1) entries))
    ∙ ap child_keys (map-append index_row_of (take (i + 1) entries) (drop (i + 1) entries))
    ∙ map-append (λ (row : IndexRow). row.key) (index_rows_of (take (i + 1) entries)) (index_rows_of (drop (i + 1) entries)) in
    let front = rising_front (child_keys (index_rows_of (take (i + 1) entries))) (child_keys (index_rows_of (drop (i + 1) entries))) (subst AreRising parts rising) in
    subst (λ (rows : List IndexRow). AreRising (child_keys rows)) (sym (taken_more entries i entry page within is at)) front

pub front_is : (entries : List IndexEntry) (i : ℕ) (page : List IndexRow) → i ≤ length entries → page ≡ index_rows_of (take i entries) → page ≡ take (length page) (index_rows_of entries)
front_is entries i page within is =
    let count : length page ≡ i = ap (λ (rows : List IndexRow). length rows) is ∙ length-map (take i entries) index_row_of ∙ length-take-le i entries within in
    is ∙ sym (take-map index_row_of i entries) ∙ ap (λ n. take n (index_rows_of entries)) (sym count)

-- the parent of the first waiting pages
parent : (entries : List IndexEntry) (packed page : ℕ) (entry : IndexEntry) → packed < length entries → entry ≡ get_or entries packed entry →
    parent_of (index_rows_of (drop packed entries)) page ≡ record { child = page; key = entry.first } ∷ []
parent entries packed page entry within at =
    ap (λ (rest : List IndexEntry). parent_of (index_rows_of rest) page) (drop-cons entries packed entry within)
    ∙ ap (λ (one : IndexEntry). record { child = page; key = one.first } ∷ []) (sym at)

-- what waits, and the parents, after the first waiting pages got one
pub adopted_is : (level above : List IndexEntry) (packed count height page : ℕ) (entry : IndexEntry) → 0 < count → packed + count ≤ length level → entry ≡ get_or level packed entry →
    adopted (record { waiting = index_rows_of (drop packed level); above = index_rows_of above; height = height }) count page
    ≡ risen (index_rows_of (drop (packed + count) level)) (index_rows_of (above ++ record { child = page; first = entry.first } ∷ [])) height
adopted_is level above packed count height page entry some within at =
    ap₂ (λ (waiting over : List IndexRow). risen waiting over height)
    (drop-map index_row_of count (drop packed level) ∙ ap index_rows_of (drop-drop count packed level))
    (ap (λ (rows : List IndexRow). index_rows_of above ++ rows) (parent level packed page entry (omega arith) at)
    ∙ sym (map_push index_row_of above (record { child = page; first = entry.first })))

risen_some : (waiting above : List IndexRow) (height : ℕ) → 0 < length waiting → record { waiting = waiting; above = above; height = height } ≡ risen waiting above height
risen_some [] above height some = absurd (omega arith)
risen_some (row ∷ rows) above height some = refl

-- the level has pages that wait
pub adopted_part : (level above : List IndexEntry) (packed count height page : ℕ) (entry : IndexEntry) (old : LevelState) → 0 < count → packed + count < length level → entry ≡ get_or level packed entry →
    record { waiting = index_rows_of (drop packed level); above = index_rows_of above; height = height } ≡ old →
    record { waiting = index_rows_of (drop (packed + count) level); above = index_rows_of (above ++ record { child = page; first = entry.first } ∷ []); height = height } ≡ adopted old count page
adopted_part level above packed count height page entry old some within at is =
    let left : 0 < length (index_rows_of (drop (packed + count) level)) = simp (length-map, length-drop) (omega arith) in
    risen_some (index_rows_of (drop (packed + count) level)) (index_rows_of (above ++ record { child = page; first = entry.first } ∷ [])) height left
    ∙ sym (adopted_is level above packed count height page entry some (omega arith) at)
    ∙ ap (λ (levels : LevelState). adopted levels count page) is

-- each page of the level has a parent now
pub adopted_whole : (level above : List IndexEntry) (packed count height page : ℕ) (entry : IndexEntry) (old : LevelState) → 0 < count → packed + count ≡ length level → entry ≡ get_or level packed entry →
    record { waiting = index_rows_of (drop packed level); above = index_rows_of above; height = height } ≡ old →
    record { waiting = index_rows_of (drop 0 (above ++ record { child = page; first = entry.first } ∷ [])); above = []; height = height + 1 } ≡ adopted old count page
adopted_whole level above packed count height page entry old some within at is =
    let none : drop (packed + count) level ≡ [] = drop_of_length-le level (omega arith) in
    ap (λ (h : ℕ). let l : LevelState = record { waiting = index_rows_of (above ++ record { child = page; first = entry.first } ∷ []); above = []; height = h } in l) (add-one height)
    ∙ ap (λ (rest : List IndexEntry). risen (index_rows_of rest) (index_rows_of (above ++ record { child = page; first = entry.first } ∷ [])) height) (sym none)
    ∙ sym (adopted_is level above packed count height page entry some (omega arith) at)
    ∙ ap (λ (levels : LevelState). adopted levels count page) is

pub waiting_count : (level above : List IndexEntry) (packed height : ℕ) (old : LevelState) → record { waiting = index_rows_of (drop packed level); above = index_rows_of above; height = height } ≡ old →
    length old.waiting ≡ length level - packed
waiting_count level above packed height old is =
    ap (λ (levels : LevelState). length levels.waiting) (sym is) ∙ length-map (drop packed level) index_row_of ∙ length-drop packed level

-- one more child takes at most 69 bytes
pub packed_more : (page : List IndexRow) (row : IndexRow) → children_length page ≤ 16 + 69 * length page → index_entry_length row.key ≤ 69 →
    children_length (page ++ row ∷ []) ≤ 16 + 69 * length (page ++ row ∷ [])
packed_more page row before short =
    omega (arith, before, short, sum_by_push (λ (r : IndexRow). index_entry_length r.key) page row, length_push page row)
