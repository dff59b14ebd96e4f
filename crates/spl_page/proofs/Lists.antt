-- Lists of entries that are read from a page and written into one.
use Rattle.std.proofs.Common.{◌≡◌, ℕ, zero, suc, ◌+◌, ◌<◌, ◌≤◌, List, [], ◌∷◌, ◌++◌, Option, Some, None, Result, Ok, Err, length, take, drop, map, get_or, refl, sym, ap, subst, ◌∙◌, arith}
use Rattle.std.specs.Prelude.{sum_by, IfOk, IsSome}
use Rattle.std.specs.List.{slice_get}
use Rattle.std.specs.Option.{option_map}
use Rattle.std.proofs.lemmas.List.{map-append, map_push, take-append-drop, take-map, take_more}
use Rattle.std.proofs.lemmas.List.Sums.{sum_by_push, sum_by-take-le}
use Rattle.spl_message.specs.Key.{AreRising}
use Rattle.spl_port.specs.declared.at.At.{At}
use Rattle.spl_port.specs.Page.{Rows, kind_fault, rows_fault}
use Rattle.spl_page.specs.Frame.{head_fault}
use Rattle.spl_page.specs.Tables.{found_rows}
use Rattle.spl_page.proofs.FrameLemmas.{kind_fault_is}
use Rattle.spl_page.proofs.PageTables.{neither}
use Rattle.spl_page.proofs.Rising.{rising_front}

-- ---- a list that is written

module _ {E R : Type 0} (row_is : E → R) (entries : List E) (i : ℕ) (entry : E) (within : i < length entries) (is : entry ≡ get_or entries i entry) where
  pub taken : map row_is (take i entries) ++ row_is entry ∷ [] ≡ map row_is (take (i + 1) entries)
  taken =
      sym (map_push row_is (take i entries) entry)
      ∙ ap (λ e. map row_is (take i entries ++ e ∷ [])) is
      ∙ ap (map row_is) (sym (take_more entries i entry within))

  pub rises : (key : R → List ℕ) → AreRising (map key (map row_is entries)) → AreRising (map key (map row_is (take i entries) ++ row_is entry ∷ []))
  rises key order =
      let front = map row_is (take (i + 1) entries) in
      let back = map row_is (drop (i + 1) entries) in
      let parts : map key (map row_is entries) ≡ map key front ++ map key back =
      ap (λ es. map key (map row_is es)) (sym (take-append-drop (i + 1) entries))
      ∙ ap (map key) (map-append row_is (take (i + 1) entries) (drop (i + 1) entries))
      ∙ map-append key front back in
      subst (λ rows. AreRising (map key rows)) (sym taken) (rising_front (map key front) (map key back) (subst AreRising parts order))

  pub fits : (size : R → ℕ) → 16 + sum_by size (map row_is entries) ≤ 4096 → 16 + sum_by size (map row_is (take i entries)) + size (row_is entry) ≤ 4096
  fits size all =
      omega (
        arith,
        all,
        sum_by_push size (map row_is (take i entries)) (row_is entry),
        ap (sum_by size) (taken ∙ sym (take-map row_is (i + 1) entries)),
        sum_by-take-le size (map row_is entries) (i + 1),
      )

-- ---- a list that is read

pub is_there : {R : Type 0} (rows : List R) (i : ℕ) → i < length rows → IsSome (slice_get rows i)
is_there [] i within = absurd (omega arith)
is_there (row ∷ rows) zero within = refl
is_there (row ∷ rows) (suc i) within = is_there rows i (omega arith)

taken_get : {R : Type 0} (rows : List R) (i : ℕ) (row : R) → slice_get rows i ≡ Some row → take (suc i) rows ≡ take i rows ++ row ∷ []
taken_get [] i row is = absurd cc
taken_get (first ∷ rows) zero row is = let same : first ≡ row = cc in ap (λ r. r ∷ []) same
taken_get (first ∷ rows) (suc i) row is = ap (λ more. first ∷ more) (taken_get rows i row is)

pub read_more : {E R : Type 0} (row_is : E → R) (rows : List R) (i : ℕ) (entries : List E) (entry : E) → map row_is entries ≡ take i rows
    → slice_get rows i ≡ Some (row_is entry) → map row_is (entries ++ entry ∷ []) ≡ take (i + 1) rows
read_more row_is rows i entries entry so_far is =
    let next : suc i ≡ i + 1 = omega arith in
    map_push row_is entries entry
    ∙ ap (λ front. front ++ row_is entry ∷ []) so_far
    ∙ sym (taken_get rows i (row_is entry) is)
    ∙ ap (λ (n : ℕ). take n rows) next

there : {R : Type 0} (key : R → List ℕ) (found : Option (Rows R)) (rows : List R) → rows_fault key found ≡ None → found_rows found ≡ rows
    → option_map (λ f. f.rows) found ≡ Some rows
there key None rows sound is = absurd cc
there key (Some found) rows sound is = ap Some is

-- the entries of a page against which nothing stands are there
pub are_there : {R : Type 0} (kind : ℕ) (key : R → List ℕ) (found : Option (Rows R)) (at : At) (bytes : List ℕ) (rows : List R)
    → kind_fault kind key found at bytes ≡ None → found_rows found ≡ rows → option_map (λ f. f.rows) found ≡ Some rows
are_there kind key found at bytes rows sound is =
    there key found rows (neither (head_fault kind at bytes) (rows_fault key found) (sym (kind_fault_is kind key found at bytes) ∙ sound)).1 is

-- two facts of a value give a third
pub if_ok_both : {T E : Type 0} (result : Result T E) (P Q S : T → Type 0) → ((value : T) → P value → Q value → S value) → IfOk result P → IfOk result Q
    → IfOk result S
if_ok_both (Ok value) P Q S both p q = both value p q
if_ok_both (Err fault) P Q S both p q = tt
