-- A pass over the entries of a page that keeps where each of them starts.
use Rattle.std.proofs.Common.{◌≡◌, ℕ, ◌+◌, ◌-◌, ◌*◌, ◌<◌, ◌≤◌, Bool, true, ◌&&◌, List, [], ◌∷◌, ◌++◌, Option, Some, None, length, take, drop, map, refl, sym, ap, subst, ◌∙◌, arith}
use Rattle.std.specs.Prelude.{All, slice_set}
use Rattle.std.specs.Option.{option_map}
use Rattle.std.specs.Ordering.{nat_cmp, is_lt}
use Rattle.std.specs.Cmp.Lexicographic.{slice_cmp}
use Rattle.std.proofs.lemmas.List.{drop-drop, length-drop, map_push, take_more_set}
use Rattle.std.proofs.lemmas.List.Elements.{All-append, All-cons, All-nil}
use Rattle.spl_port.specs.Page.{is_rising, row_count}
use Rattle.spl_page.specs.Sound.{IsScan, entries_of, page_rows, read_at}
use Rattle.spl_page.specs.Tables.{found_rows}
use Rattle.spl_page.proofs.Rows.{whole}
use Rattle.spl_page.proofs.Searching.{Seen, seen_all, seen_more, seen_none, seen_stops}

module _ {R : Type 0} (row : List ℕ → Option R) (row_length : List ℕ → ℕ) (key : R → List ℕ) (bytes : List ℕ) where
  -- the pass has seen i of the entries, whose starts stand at the front
  pub record Scanned (count i end : ℕ) (last : List ℕ) (rises : Bool) (starts : List ℕ) : Type 0 where
    pub rows : List R
    pub seen : Seen row row_length key (page_rows row row_length bytes) count i (drop end bytes) last rises rows
    pub read : read_at row bytes (take i starts) ≡ map Some rows
    pub within : All (λ start. start < 4096) (take i starts)
    pub least : 16 + 5 * i ≤ end
    pub most : end ≤ 4096

-- an entry with this key was read
record There {R : Type 0} (key : R → List ℕ) (read : Option R) (is_key : List ℕ) : Type 0 where
  entry : R
  is : read ≡ Some entry
  has : key entry ≡ is_key

there : {R : Type 0} (key : R → List ℕ) (read : Option R) (is_key : List ℕ) → Some is_key ≡ option_map key read → There key read is_key
there key None is_key is = absurd (cc)
there key (Some entry) is_key is = record { entry = entry; is = refl; has = cc }

pub not_there : {R : Type 0} (key : R → List ℕ) (read : Option R) → None ≡ option_map key read → read ≡ None
not_there key None is = refl
not_there key (Some entry) is = absurd (cc)

module _ {R : Type 0} (row : List ℕ → Option R) (row_length : List ℕ → ℕ) (key : R → List ℕ) (bytes : List ℕ) where
  pub scanned_none : (count : ℕ) (starts : List ℕ) → count ≡ row_count bytes → Scanned row row_length key bytes count 0 16 [] true starts
  scanned_none count starts is = record {
    rows = [];
    seen = seen_none row row_length key (page_rows row row_length bytes) count (row_count bytes) (drop 16 bytes) is refl;
    read = refl;
    within = All-nil (λ start. start < 4096);
    least = omega arith;
    most = omega arith;
  }

  pub scanned_more : (count i end : ℕ) (last : List ℕ) (rises : Bool) (starts here rest : List ℕ) (size : ℕ) (above : Bool)
      → Scanned row row_length key bytes count i end last rises starts → i < count → length bytes ≡ 4096 → length starts ≡ 816
      → rest ≡ drop end bytes → Some here ≡ option_map key (row rest) → size ≡ row_length rest → size ≤ length rest → 0 < length here → 5 ≤ size
      → above ≡ is_lt (slice_cmp nat_cmp last here)
      → Scanned row row_length key bytes count (i + 1) (end + size) here (rises && above) (slice_set starts i end)
  scanned_more count i end last rises starts here rest size above so_far lt len room is key-is size-is fits some least above-is =
      let read = there key (row rest) here key-is in
      let entry = read.entry in
      let at_end : row (drop end bytes) ≡ Some entry = ap row (sym is) ∙ read.is in
      let left : length rest ≡ 4096 - end = ap length is ∙ length-drop end bytes ∙ ap (λ (n : ℕ). n - end) len in
      let bound : i < length starts = omega (arith, so_far.least, so_far.most, fits, left, least, room) in
      let taken : take (i + 1) (slice_set starts i end) ≡ take i starts ++ end ∷ [] = take_more_set starts i end bound in
      let new : drop (end + size) bytes ≡ drop (row_length (drop end bytes)) (drop end bytes) =
      sym (drop-drop size end bytes) ∙ ap (λ (n : ℕ). drop n (drop end bytes)) (size-is ∙ ap row_length is) in
      let next = seen_more row row_length key (page_rows row row_length bytes) count i (drop end bytes) last rises above so_far.rows entry (drop (end + size) bytes) so_far.seen lt at_end
      (subst (λ (k : List ℕ). 0 < length k) (sym read.has) some) (above-is ∙ ap (λ k. is_lt (slice_cmp nat_cmp last k)) (sym read.has)) new in
      record {
        rows = so_far.rows ++ entry ∷ [];
        seen = subst (λ (k : List ℕ). Seen row row_length key (page_rows row row_length bytes) count (i + 1) (drop (end + size) bytes) k (rises && above) (so_far.rows ++ entry ∷ [])) read.has next;
        read =
            ap (read_at row bytes) taken
            ∙ map_push (λ start. row (drop start bytes)) (take i starts) end
            ∙ ap (λ read. read ++ row (drop end bytes) ∷ []) so_far.read
            ∙ ap (λ read. map Some so_far.rows ++ read ∷ []) at_end
            ∙ sym (map_push Some so_far.rows entry);
        within = subst (All (λ start. start < 4096)) (sym taken) (All-append (λ start. start < 4096) (take i starts) (end ∷ []) so_far.within (All-cons (λ start. start < 4096) end [] (omega (arith, left, fits, least, so_far.most)) (All-nil (λ start. start < 4096))));
        least = omega (arith, so_far.least, least);
        most = omega (arith, fits, left, so_far.most);
      }

  pub scanned_stops : (count i end : ℕ) (last : List ℕ) (rises : Bool) (starts rest : List ℕ) → Scanned row row_length key bytes count i end last rises starts
      → i < count → rest ≡ drop end bytes → None ≡ option_map key (row rest) → page_rows row row_length bytes ≡ None
  scanned_stops count i end last rises starts rest so_far lt is none =
      seen_stops row row_length key (page_rows row row_length bytes) count i (drop end bytes) last rises so_far.rows so_far.seen lt (ap row (sym is) ∙ not_there key (row rest) none)

  pub scanned_all : (count i end : ℕ) (last : List ℕ) (rises : Bool) (starts rest : List ℕ) → Scanned row row_length key bytes count i end last rises starts
      → count ≤ i → i ≤ count → count ≡ row_count bytes → rest ≡ drop end bytes → IsScan row row_length key bytes starts rises rest
  scanned_all count i end last rises starts rest so_far le up counted is =
      let are = seen_all row row_length key (page_rows row row_length bytes) count i (drop end bytes) last rises so_far.rows so_far.seen le in
      let found = ap found_rows are in
      let same : i ≡ row_count bytes = omega (arith, counted) in
      record {
        rows = are ∙ ap (λ (rows : List R). Some (whole rows (drop end bytes))) (sym found) ∙ ap (λ rest. Some (whole (entries_of row row_length bytes) rest)) (sym is);
        rising = so_far.seen.rising ∙ ap (λ (rows : List R). is_rising (map key rows)) (sym found);
        places = record {
          entries = ap (λ (n : ℕ). read_at row bytes (take n starts)) (sym same) ∙ so_far.read ∙ ap (map Some) (sym found);
          within = subst (λ (n : ℕ). All (λ start. start < 4096) (take n starts)) same so_far.within;
        };
        few = omega (arith, same, so_far.least, so_far.most);
      }
