-- A branch of which all pages are written.
use Rattle.std.proofs.Common.{◌≡◌, ℕ, ◌+◌, ◌-◌, ◌^◌, ◌<◌, ◌≤◌, ◌↔◌, List, [], ◌∷◌, ◌++◌, None, IfSome, length, map, refl, sym, ap, ap₂, ◌∙◌, subst, append-nil, arith}
use Rattle.std.specs.Prelude.{Contains}
use Rattle.std.specs.List.{last_or}
use Rattle.std.specs.Map.{keys_of}
use Rattle.std.proofs.lemmas.List.{length-map}
use Rattle.spl_message.specs.Entries.{Entries, AreEntries}
use Rattle.spl_message.specs.Table.{as_table, cuts_of}
use Rattle.spl_port.specs.Counts.{Shown}
use Rattle.spl_port.specs.Page.{IndexRow}
use Rattle.spl_port.specs.Seal.{Sealed}
use Rattle.spl_quotient.specs.Exponent.{IsExponent}
use Rattle.spl_quotient.specs.Filter.{Filter}
use Rattle.spl_message.specs.Fnv.{fnv_of}
use Rattle.spl_quotient.specs.Fnv.{fingerprint_of, print_of}
use Rattle.spl_quotient.proofs.Hashes.{map-fingerprint_of}
use Rattle.spl_branch.specs.Branch.{Branch, HoldsTable, IsBranch, leaf_entries}
use Rattle.spl_branch.specs.Pages.{AreParts, page_total, shown_pages}
use Rattle.spl_branch.specs.Tree.{IsTree, table_under}
use Rattle.spl_branch.proofs.GrowingParts.{total_most}
use Rattle.spl_build.proofs.Stacking.{levels_many, levels_one, stacked_root}
use Rattle.spl_build.specs.Builder.{IsCompact}
use Rattle.spl_build.specs.Pyramid.{IsPyramid}
use Rattle.spl_build.specs.Work.{IsGrove, IsStacked, IsTold, IsWork, WorkState, table_in}

one_root : (waiting above : List IndexRow) → 0 < length waiting → length waiting + length above ≤ 1 → (row : IndexRow) × (waiting ≡ row ∷ []) × (above ≡ [])
one_root [] above some few = absurd (omega arith)
one_root (row ∷ []) [] some few = (row, refl, refl)
one_root (row ∷ []) (other ∷ above) some few = absurd (omega arith)
one_root (row ∷ other ∷ waiting) above some few = absurd (omega arith)

module _ (work : WorkState) (sound : IsWork work) (parts : AreParts work.written.number work.written.extents work.written.parts) (few : length work.written.extents ≤ 65536) where
  -- so few keys that a filter may be made of them
  pub few_hashes : work.begun ≡ [] → length work.hashes ≤ 2 ^ 51
  few_hashes leaf = omega (arith, sound.most, ap (λ (t : Entries). length t) leaf, sound.height, total_most work.written.number work.written.extents work.written.parts parts, few)

  pub few_levels : work.levels.height ≤ 2 ^ 21
  few_levels = omega (arith, sound.height, total_most work.written.number work.written.extents work.written.parts parts, few)

module _ (work : WorkState) (filter : Filter) (sound : IsWork work) (leaf : work.begun ≡ []) (some : 0 < length work.hashes) (root : length work.levels.waiting + length work.levels.above ≤ 1)
    (parts : AreParts work.written.number work.written.extents work.written.parts) (few : length work.written.extents ≤ 65536)
    (exponent : IsExponent (length work.hashes) filter.q) (prints : (print : ℕ) → Contains filter.prints print ↔ Contains (map (print_of filter.q) work.hashes) print) where
  -- the branch
  abbrev made : Branch
  made = record {
    number = work.written.number;
    extents = work.written.extents;
    parts = work.written.parts;
    leaves = work.leaves;
    levels = work.levels.height + 1;
    entries = length work.hashes;
    cuts = work.cuts;
    filter = filter;
  }

  some_leaves : 0 < work.leaves
  some_leaves = omega (arith, sound.most, ap (λ (t : Entries). length t) leaf)

  table_is : table_in work.written.parts work.begun ≡ leaf_entries (shown_pages work.written.parts)
  table_is = ap (λ (t : Entries). table_in work.written.parts t) leaf ∙ append-nil (leaf_entries (shown_pages work.written.parts))

  holds : IsTold work → HoldsTable made
  holds told =
      let pages : List Shown = shown_pages work.written.parts in
      let found = one_root work.levels.waiting work.levels.above (sound.some (omega (arith, sound.height, some_leaves))) root in
      let row : IndexRow = found.0 in
      let grove : IsGrove pages (record { waiting = row ∷ []; above = []; height = work.levels.height }) =
      subst (λ (over : List IndexRow). IsGrove pages (record { waiting = row ∷ []; above = over; height = work.levels.height })) found.2
      (subst (λ (rows : List IndexRow). IsGrove pages (record { waiting = rows; above = work.levels.above; height = work.levels.height })) found.1 told.grove) in
      let newest : row.child + 1 ≡ page_total work.written.parts =
      subst (λ (rows : List IndexRow). IfSome (last_or None (row ∷ [] ++ rows)) (λ r. r.child + 1 ≡ page_total work.written.parts)) found.2
      (subst (λ (rows : List IndexRow). IfSome (last_or None (rows ++ work.levels.above)) (λ r. r.child + 1 ≡ page_total work.written.parts)) found.1 sound.newest) in
      let last_is : row.child ≡ page_total work.written.parts - 1 = omega (arith, newest) in
      let height_is : work.levels.height ≡ work.levels.height + 1 - 1 = omega arith in
      let count : length work.hashes ≡ length (leaf_entries pages) =
      ap (λ (hs : List ℕ). length hs) told.hashes ∙ length-map (keys_of (table_in work.written.parts work.begun)) fnv_of
      ∙ length-map (table_in work.written.parts work.begun) (λ entry. entry.0) ∙ ap (λ (t : Entries). length t) table_is in
      let cut : map (print_of filter.q) work.hashes ≡ map (fingerprint_of filter.q) (keys_of (leaf_entries pages)) =
      ap (λ (hs : List ℕ). map (print_of filter.q) hs) (told.hashes ∙ ap (λ (t : Entries). map fnv_of (keys_of t)) table_is)
      ∙ sym (map-fingerprint_of filter.q (keys_of (leaf_entries pages))) in
      record {
        order = subst AreEntries table_is told.order;
        leaves = grove.leaves;
        entries = count;
        cuts = told.cuts ∙ ap (λ (t : Entries). cuts_of (as_table t)) table_is;
        tree = subst (λ (n : ℕ). IsTree (work.levels.height + 1 - 1) pages n) last_is (subst (λ (h : ℕ). IsTree h pages row.child) height_is grove.low.0.0);
        whole =
            ap₂ (λ (h n : ℕ). table_under h pages n) (sym height_is) (sym last_is)
            ∙ sym (append-nil (table_under work.levels.height pages row.child))
            ∙ grove.whole;
        exponent = exponent;
        prints = subst (λ (ps : List ℕ). (print : ℕ) → Contains filter.prints print ↔ Contains ps print) cut prints;
      }

  pub is_branch : IsBranch made
  is_branch = record {
    parts = parts;
    extents = few;
    some = some_leaves;
    kinds = sound.kinds;
    levels = omega arith;
    entries = some;
    told = λ are_told. holds (sound.told are_told);
  }

  levels_fit : IsPyramid work.leaves work.levels.height 1 (page_total work.written.parts - 1)
  levels_fit =
      let total : ℕ = page_total work.written.parts in
      let found = one_root work.levels.waiting work.levels.above (sound.some (omega (arith, sound.height, some_leaves))) root in
      stacked_root work.leaves total found.0 work.levels.height
      (subst (λ (over : List IndexRow). IsStacked work.leaves (record { waiting = found.0 ∷ []; above = over; height = work.levels.height }) total) found.2
      (subst (λ (rows : List IndexRow). IsStacked work.leaves (record { waiting = rows; above = work.levels.above; height = work.levels.height }) total) found.1 sound.shape))

  pub is_compact : IsCompact made
  is_compact =
      let height_is : work.levels.height ≡ work.levels.height + 1 - 1 = omega arith in
      record {
        keys = omega (arith, sound.most, ap (λ (t : Entries). length t) leaf);
        levels = subst (λ (h : ℕ). IsPyramid work.leaves h 1 (page_total work.written.parts - 1)) height_is levels_fit;
        one = levels_one work.leaves work.levels.height (page_total work.written.parts - 1) levels_fit;
        many = levels_many work.leaves work.levels.height (page_total work.written.parts - 1) levels_fit;
      }

  -- the same as the code has it
  pub branch_made : (number : ℕ) (extents : List ℕ) (sealed : List Sealed) (levels entries : ℕ) (cuts : List (List ℕ)) → number ≡ work.written.number → extents ≡ work.written.extents → sealed ≡ work.written.parts →
      levels ≡ work.levels.height + 1 → entries ≡ length work.hashes → cuts ≡ work.cuts →
      IsBranch (record { number = number; extents = extents; parts = sealed; leaves = work.leaves; levels = levels; entries = entries; cuts = cuts; filter = filter })
  branch_made number extents sealed levels entries cuts number_is extents_are parts_are levels_are entries_are cuts_are =
      rw (number_is, extents_are, parts_are, levels_are, entries_are, cuts_are) is_branch

  pub compact_made : (number : ℕ) (extents : List ℕ) (sealed : List Sealed) (levels entries : ℕ) (cuts : List (List ℕ)) → number ≡ work.written.number → extents ≡ work.written.extents → sealed ≡ work.written.parts →
      levels ≡ work.levels.height + 1 → entries ≡ length work.hashes → cuts ≡ work.cuts →
      IsCompact (record { number = number; extents = extents; parts = sealed; leaves = work.leaves; levels = levels; entries = entries; cuts = cuts; filter = filter })
  compact_made number extents sealed levels entries cuts number_is extents_are parts_are levels_are entries_are cuts_are =
      rw (number_is, extents_are, parts_are, levels_are, entries_are, cuts_are) is_compact
