-- Entries that are written one after the other, and the page of them.
use Rattle.std.proofs.Common.{◌≡◌, ℕ, zero, suc, ◌+◌, ◌-◌, ◌^◌, ◌<◌, ◌≤◌, ◌↔◌, max, leb, true, List, [], ◌∷◌, ◌++◌, Option, Some, None, length, drop, map, refl, sym, ap, subst, ◌∙◌, append_assoc, arith}
use Rattle.std.specs.Prelude.{replicate, All, sum_by}
use Rattle.std.specs.List.Sorted.{IsStrictlySortedBy}
use Rattle.std.specs.Option.{option_and_then, option_map, option_or}
use Rattle.std.proofs.lemmas.Bool.{le-leb, leb-true}
use Rattle.std.proofs.lemmas.List.{append-nil, drop_at, length-append, length-drop, take_at}
use Rattle.std.proofs.lemmas.List.Elements.{All-drop, All-head, All-nil, All-push, All-take}
use Rattle.std.proofs.lemmas.List.Sums.{sum_by_push}
use Rattle.spl_message.specs.Key.{AreRising}
use Rattle.spl_port.specs.declared.at.At.{At}
use Rattle.spl_port.specs.Page.{Rows, is_rising, kind_fault, rows_fault, rows_of}
use Rattle.spl_page.specs.Frame.{found_fault, head_text}
use Rattle.spl_page.specs.Sound.{entries_of, page_rows}
use Rattle.spl_page.specs.Tables.{found_rows}
use Rattle.spl_page.specs.Writer.{IsConsistent, IsNext, IsText, IsWritten, Written, nothing, rows_written, with_text}
use Rattle.spl_page.proofs.FrameLemmas.{count_back, head_passes, kind_fault_is, zeros_are}
use Rattle.spl_page.proofs.Rising.{passes_rising}
use Rattle.spl_page.proofs.Rows.{whole}

-- ---- one more entry is read behind the others

abbrev joined : {R : Type 0} → Option R → Option (Rows R) → Option (Rows R)
joined first more = option_and_then (λ r. option_map (λ m. record { rows = r ∷ m.rows; rest = m.rest }) more) first

parts : {R : Type 0} (first : Option R) (more : Option (Rows R)) (rows : List R) (rest : List ℕ) → joined first more ≡ Some (whole rows rest)
    → (r : R) × (others : List R) × (first ≡ Some r) × (more ≡ Some (whole others rest)) × (rows ≡ r ∷ others)
parts None more rows rest is = absurd cc
parts (Some r) None rows rest is = absurd cc
parts (Some r) (Some m) rows rest is =
    let same : whole (r ∷ m.rows) m.rest ≡ whole rows rest = cc in
    let behind : m.rest ≡ rest = ap (λ (f : Rows _). f.rest) same in
    (r, m.rows, refl, ap (λ (b : List ℕ). Some (whole m.rows b)) behind, sym (ap (λ (f : Rows _). f.rows) same))

rows_push : {R : Type 0} (row : List ℕ → Option R) (row_length : List ℕ → ℕ) (n : ℕ) (bytes : List ℕ) (rows : List R) (rest : List ℕ) (entry : R)
    → rows_of row row_length n bytes ≡ Some (whole rows rest) → row rest ≡ Some entry
    → rows_of row row_length (suc n) bytes ≡ Some (whole (rows ++ entry ∷ []) (drop (row_length rest) rest))
rows_push row row_length zero bytes rows rest entry are is =
    let same : whole [] bytes ≡ whole rows rest = cc in
    let none : [] ≡ rows = ap (λ (f : Rows _). f.rows) same in
    let all : bytes ≡ rest = ap (λ (f : Rows _). f.rest) same in
    rw (← none, all, is) refl
rows_push row row_length (suc n) bytes rows rest entry are is =
    let more = rows_of row row_length n (drop (row_length bytes) bytes) in
    let p = parts (row bytes) more rows rest are in
    let next = rows_push row row_length n (drop (row_length bytes) bytes) p.1 rest entry p.3 is in
    ap (λ first. joined first (rows_of row row_length (suc n) (drop (row_length bytes) bytes))) p.2
    ∙ ap (joined (Some p.0)) next
    ∙ ap (λ rows. Some (whole (rows ++ entry ∷ []) (drop (row_length rest) rest))) (sym p.4)

-- ---- as the writer holds it

module _ {R : Type 0} (row : ℕ → List ℕ → Option R) (row_length : List ℕ → ℕ) (key : R → List ℕ) (size : R → ℕ) (IsAt : ℕ → R → Type 0) where
  -- the entries that were written are read
  pub reads : (rows : List R) (written : Written) → IsWritten row row_length key size IsAt rows written → rows_written row row_length written ≡ rows
  reads rows written is =
      ap (λ (text : List ℕ). found_rows (rows_of (row (2 ^ 32)) row_length written.count text)) (sym (append-nil written.text))
      ∙ ap found_rows (is.read (2 ^ 32) [] (omega arith) is.anywhere)

  pub holds : (rows : List R) (written : Written) → IsWritten row row_length key size IsAt rows written → IsConsistent row row_length key size IsAt written
  holds rows written is = subst (λ (r : List R). IsWritten row row_length key size IsAt r written) (sym (reads rows written is)) is

  pub none_written : IsWritten row row_length key size IsAt [] nothing
  unfolding IsStrictlySortedBy
  none_written = record {
    read = λ page rest fits are. refl;
    anywhere = All-nil (IsAt (2 ^ 32));
    counted = refl;
    order = tt;
    sized = refl;
    least = omega arith;
    fits = omega arith;
  }

  -- one more entry behind the others
  pub writes : (rows : List R) (written : Written) (text : List ℕ) (entry : R) → IsWritten row row_length key size IsAt rows written
      → IsText row row_length size IsAt entry text → IsAt (2 ^ 32) entry → AreRising (map key (rows ++ entry ∷ [])) → 5 ≤ size entry
      → 16 + sum_by size rows + size entry ≤ 4096 → IsWritten row row_length key size IsAt (rows ++ entry ∷ []) (with_text written text)
  writes rows written text entry is one anywhere order least fits = record {
    read = λ page rest within are. read page rest within are;
    anywhere = All-push (IsAt (2 ^ 32)) rows entry is.anywhere anywhere;
    counted = omega (arith, is.counted, length-append rows (entry ∷ []));
    order = order;
    sized = omega (arith, is.sized, one.sized, length-append written.text text, sum_by_push size rows entry);
    least = omega (arith, is.least, least, one.sized, length-append written.text text);
    fits = omega (arith, fits, is.sized, one.sized, length-append written.text text);
  }
    where
      read : (page : ℕ) (rest : List ℕ) → page ≤ 2 ^ 32 → All (IsAt page) (rows ++ entry ∷ [])
          → rows_of (row page) row_length (written.count + 1) ((written.text ++ text) ++ rest) ≡ Some (whole (rows ++ entry ∷ []) rest)
      read page rest within are =
          let front = subst (All (IsAt page)) (take_at rows (entry ∷ []) (length rows) refl) (All-take (IsAt page) (length rows) (rows ++ entry ∷ []) are) in
          let last = subst (All (IsAt page)) (drop_at rows (entry ∷ []) (length rows) refl) (All-drop (IsAt page) (length rows) (rows ++ entry ∷ []) are) in
          let others = is.read page (text ++ rest) within front in
          let here = one.read page rest within (All-head (IsAt page) entry [] last) in
          let behind : drop (row_length (text ++ rest)) (text ++ rest) ≡ rest = drop_at text rest (row_length (text ++ rest)) (sym (one.long rest)) in
          let more : written.count + 1 ≡ suc written.count = omega arith in
          ap (λ (n : ℕ). rows_of (row page) row_length n ((written.text ++ text) ++ rest)) more
          ∙ ap (rows_of (row page) row_length (suc written.count)) (append_assoc written.text text rest)
          ∙ rows_push (row page) row_length written.count (written.text ++ (text ++ rest)) rows (text ++ rest) entry others here
          ∙ ap (λ (b : List ℕ). Some (whole (rows ++ entry ∷ []) b)) behind

  pub writes_next : (written : Written) (text : List ℕ) → IsConsistent row row_length key size IsAt written → IsNext row row_length key size IsAt written text
      → IsConsistent row row_length key size IsAt (with_text written text)
  writes_next written text is next =
      holds (rows_written row row_length written ++ next.entry ∷ []) (with_text written text)
      (writes (rows_written row row_length written) written text next.entry is next.is next.anywhere next.order next.least next.fits)

  -- the entry that was put is read behind the others
  pub reads_next : (written : Written) (text : List ℕ) (entry : R) → IsConsistent row row_length key size IsAt written → IsNext row row_length key size IsAt written text
      → IsText row row_length size IsAt entry text → IsAt (2 ^ 32) entry
      → rows_written row row_length (with_text written text) ≡ rows_written row row_length written ++ entry ∷ []
  reads_next written text entry is next one anywhere =
      let here = next.is.read (2 ^ 32) [] (omega arith) next.anywhere in
      let both : Some next.entry ≡ Some entry = sym here ∙ one.read (2 ^ 32) [] (omega arith) anywhere in
      let same : next.entry ≡ entry = cc in
      reads (rows_written row row_length written ++ next.entry ∷ []) (with_text written text)
      (writes (rows_written row row_length written) written text next.entry is next.is next.anywhere next.order next.least next.fits)
      ∙ ap (λ r. rows_written row row_length written ++ r ∷ []) same

  -- ---- the page

  abbrev page_of : ℕ → Written → At → ℕ → List ℕ
  page_of kind written at n = head_text kind written.count at ++ (written.text ++ replicate n 0)

  rows_back : (kind : ℕ) (rows : List R) (written : Written) (at : At) (n : ℕ) → IsWritten row row_length key size IsAt rows written
      → at.page < 2 ^ 32 → All (IsAt at.page) rows
      → page_rows (row at.page) row_length (page_of kind written at n) ≡ Some (whole rows (replicate n 0))
  rows_back kind rows written at n is page_fits places =
      let fits : written.count < 2 ^ 16 = omega (arith, is.least, is.fits) in
      ap (λ (k : ℕ). rows_of (row at.page) row_length k (written.text ++ replicate n 0)) (count_back kind written.count at (written.text ++ replicate n 0) fits)
      ∙ is.read at.page (replicate n 0) (omega (arith, page_fits)) places

  pub page_sound : (kind : ℕ) (rows : List R) (written : Written) (at : At) (n : ℕ) (page : List ℕ) → IsWritten row row_length key size IsAt rows written
      → at.page < 2 ^ 32 → at.branch < 2 ^ 64 → 0 < length rows → All (IsAt at.page) rows → page ≡ page_of kind written at n
      → kind_fault kind key (page_rows (row at.page) row_length page) at page ≡ None
  page_sound kind rows written at n page is page_fits branch_fits some places text =
      let fits : written.count < 2 ^ 16 = omega (arith, is.least, is.fits) in
      let made = page_of kind written at n in
      let head = head_passes kind written.count at (written.text ++ replicate n 0) page_fits branch_fits fits (omega (arith, some, is.counted)) in
      let found : found_fault (is_rising (map key rows)) (replicate n 0) ≡ None = rw (passes_rising (map key rows) is.order, zeros_are n) refl in
      subst (λ (b : List ℕ). kind_fault kind key (page_rows (row at.page) row_length b) at b ≡ None) (sym text) (
      kind_fault_is kind key (page_rows (row at.page) row_length made) at made
      ∙ ap (λ o. option_or o (rows_fault key (page_rows (row at.page) row_length made))) head
      ∙ ap (rows_fault key) (rows_back kind rows written at n is page_fits places)
      ∙ found
      )

  pub page_entries : (kind : ℕ) (rows : List R) (written : Written) (at : At) (n : ℕ) (page : List ℕ) → IsWritten row row_length key size IsAt rows written
      → at.page < 2 ^ 32 → All (IsAt at.page) rows → page ≡ page_of kind written at n → entries_of (row at.page) row_length page ≡ rows
  page_entries kind rows written at n page is page_fits places text =
      ap (entries_of (row at.page) row_length) text ∙ ap found_rows (rows_back kind rows written at n is page_fits places)

-- whether one more entry fits, by the bytes that there are
pub fits_by_bytes : (bytes : List ℕ) (most need : ℕ) → most ≡ max (length bytes) 16 → need ≤ 4080
    → (leb most (4096 - need) ≡ true) ↔ (16 + length (drop 16 bytes) + need ≤ 4096)
fits_by_bytes bytes most need is short = (
  λ h. omega (arith, leb-true most (4096 - need) h, is, short, length-drop 16 bytes),
  λ h. le-leb most (4096 - need) (omega (arith, h, is, short, length-drop 16 bytes)),
)
