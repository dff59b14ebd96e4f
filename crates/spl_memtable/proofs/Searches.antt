-- What a binary search by the key finds in a table.
use Rattle.std.proofs.Common.{◌≡◌, ℕ, ◌+◌, ◌<◌, List, length, get_or, Some, None, Ordering, subst, ap, ◌∙◌, arith}
use Rattle.std.proofs.lemmas.Cmp.{nat_list_cmp_total}
use Rattle.std.proofs.lemmas.List.{get_or-map}
use Rattle.std.proofs.lemmas.List.Sorted.{searchable_from_sorted}
use Rattle.std.proofs.lemmas.Map.Entries.{length-keys_of, lookup_at_gap, lookup_from_place}
use Rattle.std.proofs.lemmas.Map.Keys.{IsDistinct-from_sorted, Less-from_sorted}
use Rattle.std.proofs.lemmas.Map.Lookups.{exact_bytes}
use Rattle.std.proofs.lemmas.Option.{slice_get-get_or, slice_get_within}
use Rattle.std.specs.Cmp.{eq_by_cmp_equiv}
use Rattle.std.specs.Cmp.Lexicographic.{slice_cmp}
use Rattle.std.specs.declared.cmp.Ordering.TheVariants.{Less, Equal, Greater}
use Rattle.std.specs.List.{slice_get}
use Rattle.std.specs.List.Sorted.{IsNonDecreasingBy, IsPartitionPoint, IsSortedBy}
use Rattle.std.specs.Map.{keys_of}
use Rattle.std.specs.Ordering.{nat_cmp, is_lt, ordering_index, ordering_reverse}
use Rattle.spl_message.specs.declared.message.Message.{Message}
use Rattle.spl_message.specs.Entries.{Entries, AreEntries, message_in}

-- how an entry's key compares to another key
abbrev pub rank : List ℕ → List ℕ × Message → Ordering
rank key entry = slice_cmp nat_cmp entry.0 key

module _ (table : Entries) (order : AreEntries table) where
  next_above : (i : ℕ) (d : List ℕ × Message) → i + 1 < length table → slice_cmp nat_cmp (get_or table i d).0 (get_or table (i + 1) d).0 ≡ Less
  next_above i d within =
      let inside : i + 1 < length (keys_of table) = rw (length-keys_of table) within in
      let below : i < length table = omega arith in
      subst (λ (key : List ℕ). slice_cmp nat_cmp key (get_or table (i + 1) d).0 ≡ Less) (get_or-map (λ (e : List ℕ × Message). e.0) table i d d.0 below) (
      subst (λ (key : List ℕ). slice_cmp nat_cmp (get_or (keys_of table) i d.0) key ≡ Less) (get_or-map (λ (e : List ℕ × Message). e.0) table (i + 1) d d.0 within) (
      Less-from_sorted (slice_cmp nat_cmp) (keys_of table) i (i + 1) d.0 order (omega arith) inside
      ))

  in_order : IsSortedBy (λ (a b : List ℕ × Message). is_lt (slice_cmp nat_cmp a.0 b.0)) table
  in_order i d low within = ap is_lt (nat_list_cmp_total.antisymm (get_or table (i + 1) d).0 (get_or table i d).0 ∙ ap ordering_reverse (next_above i d within))

  rises : (key : List ℕ) → IsNonDecreasingBy (λ entry. ordering_index (rank key entry)) table
  rises key = searchable_from_sorted nat_list_cmp_total (λ (e : List ℕ × Message). e.0) table key in_order

  -- the entry with the key has its message
  pub found : (key : List ℕ) (i : ℕ) (entry : List ℕ × Message) → slice_get table i ≡ Some entry → rank key entry ≡ Equal → message_in table key ≡ Some entry.1
  found key i entry is same = lookup_from_place (eq_by_cmp_equiv nat_list_cmp_total) table i key entry.1 (IsDistinct-from_sorted (slice_cmp nat_cmp) (keys_of table) order)
      (subst (λ (k : List ℕ). slice_get table i ≡ Some (k, entry.1)) (exact_bytes entry.0 key same) is)

  -- where the keys below end and those above begin there is none
  pub missing : (key : List ℕ) (i : ℕ) → (IsNonDecreasingBy (λ entry. ordering_index (rank key entry)) table → IsPartitionPoint (λ entry. rank key entry ≡ Less) (λ entry. rank key entry ≡ Greater) table i) → message_in table key ≡ None
  missing key i parted =
      let point = parted (rises key) in
      let turned : (entry : List ℕ × Message) → slice_cmp nat_cmp key entry.0 ≡ ordering_reverse (rank key entry) = λ entry. nat_list_cmp_total.antisymm key entry.0 in
      let at : (j : ℕ) (entry : List ℕ × Message) → slice_get table j ≡ Some entry → get_or table j entry ≡ entry =
      λ j entry is. let read = slice_get-get_or table j entry (slice_get_within table j entry is) in cc in
      lookup_at_gap nat_list_cmp_total key table i order
      (λ j entry before is. turned entry ∙ ap ordering_reverse (subst (λ (e : List ℕ × Message). rank key e ≡ Less) (at j entry is) (point.0 j entry (omega arith) before)))
      (λ entry is. turned entry ∙ ap ordering_reverse (subst (λ (e : List ℕ × Message). rank key e ≡ Greater) (at i entry is) (point.1 i entry (omega arith) (slice_get_within table i entry is))))
