-- A pass over the entries of a page that keeps only the last key, and what it has found.
use Rattle.std.proofs.Common.{◌≡◌, ℕ, ◌+◌, ◌-◌, ◌<◌, ◌≤◌, Bool, true, ◌&&◌, List, [], ◌∷◌, ◌++◌, Option, Some, None, length, drop, map, refl, sym, ap, ◌∙◌, arith}
use Rattle.std.specs.Ordering.{nat_cmp, is_lt}
use Rattle.std.specs.Cmp.Lexicographic.{slice_cmp}
use Rattle.std.proofs.lemmas.List.{map_push}
use Rattle.spl_port.specs.Page.{Rows, is_rising, rows_of}
use Rattle.spl_page.proofs.Rising.{last_of, last_of_push, rising_last_push}
use Rattle.spl_page.proofs.Rows.{behind, ends, goes_on, starts, stops, whole}

-- i of the entries were seen, these ones, and the others are read from the rest
pub record Seen {R : Type 0} (row : List ℕ → Option R) (row_length : List ℕ → ℕ) (key : R → List ℕ) (total : Option (Rows R)) (count i : ℕ)
    (rest last : List ℕ) (rises : Bool) (rows : List R) : Type 0 where
  pub are : total ≡ behind rows (rows_of row row_length (count - i) rest)
  pub last_is : last ≡ last_of [] (map key rows)
  pub rising : rises ≡ is_rising (map key rows)

pub seen_none : {R : Type 0} (row : List ℕ → Option R) (row_length : List ℕ → ℕ) (key : R → List ℕ) (total : Option (Rows R)) (count n : ℕ) (rest : List ℕ)
    → count ≡ n → total ≡ rows_of row row_length n rest → Seen row row_length key total count 0 rest [] true []
seen_none row row_length key total count n rest e is =
    let k : count - 0 ≡ n = omega (arith, e) in
    record {
      are = starts total ∙ ap (behind []) (is ∙ ap (λ (m : ℕ). rows_of row row_length m rest) (sym k));
      last_is = refl;
      rising = refl;
    }

pub seen_more : {R : Type 0} (row : List ℕ → Option R) (row_length : List ℕ → ℕ) (key : R → List ℕ) (total : Option (Rows R)) (count i : ℕ)
    (rest last : List ℕ) (rises above : Bool) (rows : List R) (r : R) (new : List ℕ)
    → Seen row row_length key total count i rest last rises rows → i < count → row rest ≡ Some r → 0 < length (key r)
    → above ≡ is_lt (slice_cmp nat_cmp last (key r)) → new ≡ drop (row_length rest) rest
    → Seen row row_length key total count (i + 1) new (key r) (rises && above) (rows ++ r ∷ [])
seen_more row row_length key total count i rest last rises above rows r new seen lt here some above-is new-is =
    let keys = map key rows in
    let push : map key (rows ++ r ∷ []) ≡ keys ++ key r ∷ [] = map_push key rows r in
    record {
      are =
          goes_on row row_length rows count i rest r total lt here seen.are
          ∙ ap (λ bytes. behind (rows ++ r ∷ []) (rows_of row row_length (count - (i + 1)) bytes)) (sym new-is);
      last_is = sym (last_of_push [] keys (key r)) ∙ ap (last_of []) (sym push);
      rising =
          ap (λ (b : Bool). b && above) seen.rising
          ∙ ap (λ (b : Bool). is_rising keys && b) (above-is ∙ ap (λ k. is_lt (slice_cmp nat_cmp k (key r))) seen.last_is)
          ∙ sym (rising_last_push keys (key r) some)
          ∙ ap is_rising (sym push);
    }

pub seen_stops : {R : Type 0} (row : List ℕ → Option R) (row_length : List ℕ → ℕ) (key : R → List ℕ) (total : Option (Rows R)) (count i : ℕ)
    (rest last : List ℕ) (rises : Bool) (rows : List R)
    → Seen row row_length key total count i rest last rises rows → i < count → row rest ≡ None → total ≡ None
seen_stops row row_length key total count i rest last rises rows seen lt here = stops row row_length rows count i rest total lt here seen.are

pub seen_all : {R : Type 0} (row : List ℕ → Option R) (row_length : List ℕ → ℕ) (key : R → List ℕ) (total : Option (Rows R)) (count i : ℕ)
    (rest last : List ℕ) (rises : Bool) (rows : List R)
    → Seen row row_length key total count i rest last rises rows → count ≤ i → total ≡ Some (whole rows rest)
seen_all row row_length key total count i rest last rises rows seen le = ends row row_length rows count i rest total le seen.are
