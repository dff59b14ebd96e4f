-- A table with one more entry, and in two parts.
use Rattle.std.proofs.Common.{◌≡◌, ℕ, ◌+◌, ◌%◌, Bool, true, false, if◌then◌else◌, ◌&&◌, cond, List, [], ◌∷◌, ◌++◌, Option, Some, None, IfSome, filter, length, map, refl, sym, ap, ◌∙◌, subst, append-nil, arith}
use Rattle.std.specs.Prelude.{nat_lt, ◌==◌}
use Rattle.std.specs.Cmp.Lexicographic.{slice_cmp}
use Rattle.std.specs.declared.cmp.Ordering.{Ordering}
use Rattle.std.specs.declared.cmp.Ordering.TheVariants.{Less, Equal, Greater}
use Rattle.std.specs.List.{enumerate_from, last_or}
use Rattle.std.specs.List.Sorted.{IsStrictlySortedBy}
use Rattle.std.specs.Map.{keys_of}
use Rattle.std.specs.Ordering.{nat_cmp, is_lt}
use Rattle.std.proofs.lemmas.Cmp.{nat_list_cmp_total}
use Rattle.std.proofs.lemmas.List.{length-map, map-append, map_push}
use Rattle.std.proofs.lemmas.List.Elements.{filter-append}
use Rattle.spl_message.specs.declared.message.Message.{Message}
use Rattle.spl_message.specs.Key.{AreRising, is_below}
use Rattle.spl_message.specs.Entries.{Entries, AreEntries}
use Rattle.spl_message.specs.Table.{as_table, cuts_of}
use Rattle.spl_port.specs.declared.at.At.{At}
use Rattle.spl_port.specs.Counts.{Shown}
use Rattle.spl_page.specs.Tables.{leaf_table}
use Rattle.spl_branch.specs.Branch.{leaf_entries}
use Rattle.spl_branch.specs.Last.{last_key}
use Rattle.spl_branch.proofs.GrowingLists.{all_front, all_weaker, enumerate_push, flat_map_push}

-- ---- keys that rise

pub rising_front : (keys more : List (List ℕ)) → AreRising (keys ++ more) → AreRising keys
unfolding IsStrictlySortedBy
rising_front [] more order = tt
rising_front (key ∷ keys) more order = (all_front (λ other. slice_cmp nat_cmp key other ≡ Less) keys more order.0, rising_front keys more order.1)

pub rising_back : (keys more : List (List ℕ)) → AreRising (keys ++ more) → AreRising more
unfolding IsStrictlySortedBy
rising_back [] more order = order
rising_back (key ∷ keys) more order = rising_back keys more order.1

is_less : (o : Ordering) → is_lt o ≡ true → o ≡ Less
is_less Less lt = refl
is_less Equal lt = absurd (cc)
is_less Greater lt = absurd (cc)

pub rising_push : (keys : List (List ℕ)) (key : List ℕ) → AreRising keys → IfSome (last_or None keys) (λ last. is_below last key ≡ true) → AreRising (keys ++ key ∷ [])
unfolding IsStrictlySortedBy
rising_push [] key order above = (tt, tt)
rising_push (last ∷ []) key order above = ((is_less (slice_cmp nat_cmp last key) above, tt), (tt, tt))
rising_push (first ∷ next ∷ keys) key order above =
    let rest = rising_push (next ∷ keys) key order.1 above in
    let later = all_weaker (λ other. slice_cmp nat_cmp next other ≡ Less) (λ other. slice_cmp nat_cmp first other ≡ Less) (keys ++ key ∷ []) (λ other. nat_list_cmp_total.trans first next other order.0.0) rest.0 in
    ((order.0.0, later), rest)

-- ---- a table in two parts

pub table_front : (front back : Entries) → AreEntries (front ++ back) → AreEntries front
table_front front back order = rising_front (keys_of front) (keys_of back) (subst AreRising (map-append (λ entry. entry.0) front back) order)

pub table_back : (front back : Entries) → AreEntries (front ++ back) → AreEntries back
table_back front back order = rising_back (keys_of front) (keys_of back) (subst AreRising (map-append (λ entry. entry.0) front back) order)

-- ---- a table with one more entry

module _ (table : Entries) (key : List ℕ) (message : Message) where
  pub keys_grow : keys_of (table ++ (key, message) ∷ []) ≡ keys_of table ++ key ∷ []
  keys_grow = map_push (λ entry. entry.0) table (key, message)

  pub table_grow : AreEntries table → IfSome (last_key table) (λ last. is_below last key ≡ true) → AreEntries (table ++ (key, message) ∷ [])
  table_grow order above = subst AreRising (sym keys_grow) (rising_push (keys_of table) key order above)

last_push : (o : Option (List ℕ)) (keys : List (List ℕ)) (key : List ℕ) → last_or o (keys ++ key ∷ []) ≡ Some key
last_push o [] key = refl
last_push o (other ∷ keys) key = last_push (Some other) keys key

pub last_grow : (table : Entries) (key : List ℕ) (message : Message) → last_key (table ++ (key, message) ∷ []) ≡ Some key
last_grow table key message = ap (last_or None) (keys_grow table key message) ∙ last_push None (keys_of table) key

-- whether a rank is one where a table may be cut
abbrev is_cut : ℕ → Bool
is_cut rank = nat_lt 0 rank && (rank % 1024 == 0)

-- the keys of these ranks where it may be cut
abbrev cuts_among : List (ℕ × List ℕ) → List (List ℕ)
cuts_among ranked = map (λ ranked. ranked.1) (filter (λ ranked. is_cut ranked.0) ranked)

cut_or_none : (cuts : List (List ℕ)) (rank : ℕ) (key : List ℕ) (cut : Bool) → cuts ++ map (λ (ranked : ℕ × List ℕ). ranked.1) (cond cut ((rank, key) ∷ []) []) ≡ cond cut (cuts ++ key ∷ []) cuts
cut_or_none cuts rank key true = refl
cut_or_none cuts rank key false = append-nil cuts

pub cuts_grow : (table : Entries) (key : List ℕ) (message : Message) → cuts_of (as_table (table ++ (key, message) ∷ [])) ≡ (if nat_lt 0 (length table) && (length table % 1024 == 0) then cuts_of (as_table table) ++ key ∷ [] else cuts_of (as_table table))
cuts_grow table key message =
    let keys = keys_of table in
    let ranked = enumerate_from 0 keys in
    let next : ℕ × List ℕ = (0 + length keys, key) in
    let rank : 0 + length keys ≡ length table = omega (arith, length-map table (λ (entry : List ℕ × Message). entry.0)) in
    ap (λ keys. cuts_among (enumerate_from 0 keys)) (keys_grow table key message)
    ∙ ap cuts_among (enumerate_push 0 keys key)
    ∙ ap (map (λ (ranked : ℕ × List ℕ). ranked.1)) (filter-append (λ (ranked : ℕ × List ℕ). is_cut ranked.0) ranked (next ∷ []))
    ∙ map-append (λ (ranked : ℕ × List ℕ). ranked.1) (filter (λ (ranked : ℕ × List ℕ). is_cut ranked.0) ranked) (filter (λ (ranked : ℕ × List ℕ). is_cut ranked.0) (next ∷ []))
    ∙ cut_or_none (cuts_of (as_table table)) (0 + length keys) key (is_cut (0 + length keys))
    ∙ ap (λ (rank : ℕ). if is_cut rank then cuts_of (as_table table) ++ key ∷ [] else cuts_of (as_table table)) rank

-- ---- the entries of the leaf pages

module _ (pages : List Shown) (at : At) (bytes : List ℕ) where
  pub leaf_entries_leaf : at.leaf ≡ true → leaf_entries (pages ++ record { at = at; bytes = bytes } ∷ []) ≡ leaf_entries pages ++ leaf_table bytes
  leaf_entries_leaf leaf =
      flat_map_push (λ shown. if shown.at.leaf then leaf_table shown.bytes else []) pages (record { at = at; bytes = bytes })
      ∙ ap (λ (leaf : Bool). leaf_entries pages ++ (if leaf then leaf_table bytes else [])) leaf

  pub leaf_entries_index : at.leaf ≡ false → leaf_entries (pages ++ record { at = at; bytes = bytes } ∷ []) ≡ leaf_entries pages
  leaf_entries_index index =
      flat_map_push (λ shown. if shown.at.leaf then leaf_table shown.bytes else []) pages (record { at = at; bytes = bytes })
      ∙ ap (λ (leaf : Bool). leaf_entries pages ++ (if leaf then leaf_table bytes else [])) index
      ∙ append-nil (leaf_entries pages)
