-- The first leaf page that has an entry not below a key, where the way to the key ends at a page.
use Rattle.std.proofs.Common.{◌≡◌, ℕ, zero, suc, ◌+◌, ◌<◌, ◌≤◌, Bool, true, false, ◌&&◌, cond, List, [], ◌∷◌, ◌++◌, Option, Some, None, length, map, take, flat_map, replicate, refl, sym, ap, ◌∙◌, subst, arith}
use Rattle.std.specs.Cmp.Lexicographic.{slice_cmp}
use Rattle.std.specs.List.{AllByRecursion, list_all, slice_get}
use Rattle.std.specs.Map.{keys_of}
use Rattle.std.specs.Ordering.{nat_cmp, is_lt, ordering_reverse}
use Rattle.std.specs.declared.cmp.Ordering.{Ordering}
use Rattle.std.specs.declared.cmp.Ordering.TheVariants.{Less, Equal, Greater}
use Rattle.std.proofs.lemmas.Bool.{and_from, and_parts}
use Rattle.std.proofs.lemmas.Cmp.{nat_list_cmp_total, tied_itself}
use Rattle.std.proofs.lemmas.List.{map-append}
use Rattle.std.proofs.lemmas.List.Concat.{flat_map-append}
use Rattle.std.proofs.lemmas.Map.Keys.{sorted_head, sorted_tail}
use Rattle.spl_message.specs.declared.message.Message.{Message}
use Rattle.spl_message.specs.Entries.{AreEntries, Entries}
use Rattle.spl_message.specs.Key.{is_below}
use Rattle.spl_port.specs.Counts.{Shown}
use Rattle.spl_page.specs.Sound.{count_below}
use Rattle.spl_page.specs.Tables.{leaf_table}
use Rattle.spl_page.proofs.PageTables.{leaf_table_has_some}
use Rattle.spl_branch.specs.Branch.{IsSoundLeaf}
use Rattle.spl_branch.specs.Leaves.{are_below, tables_below}
use Rattle.spl_branch.specs.Visiting.{start_on}
use Rattle.spl_branch.proofs.Dividing.{AreHigher, AreLower, IsDivided}
use Rattle.spl_branch.proofs.GrowingLists.{all_back, all_front}
use Rattle.spl_branch.proofs.Joined.{all_first}

-- the entries of tables, one behind the other
abbrev pub joined : List Entries → Entries
joined tables = flat_map (λ entries. entries) tables

less_is : (order : Ordering) → is_lt order ≡ true → order ≡ Less
less_is Less is = refl
less_is Equal is = absurd cc
less_is Greater is = absurd cc

above_not_below : (key other : List ℕ) → is_below key other ≡ true → is_below other key ≡ false
above_not_below key other is =
    ap is_lt (nat_list_cmp_total.antisymm other key ∙ ap ordering_reverse (less_is (slice_cmp nat_cmp key other) is))

-- ---- whether all entries are below the key

lower_are : (table : Entries) (key : List ℕ) → AreLower key table → are_below table key ≡ true
lower_are [] key lower = refl
lower_are (entry ∷ table) key lower = and_from (is_below entry.0 key) (are_below table key) lower.0 (lower_are table key lower.1)

higher_are_not : (table : Entries) (key : List ℕ) → 0 < length table → AreHigher key table → are_below table key ≡ false
higher_are_not [] key some higher = absurd (omega arith)
higher_are_not (entry ∷ table) key some higher = ap (λ b. b && are_below table key) (above_not_below key entry.0 higher.0)

below_append : (first second : Entries) (key : List ℕ) → are_below first key ≡ true → are_below second key ≡ true → are_below (first ++ second) key ≡ true
below_append [] second key here more = more
below_append (entry ∷ first) second key here more =
    let parts = and_parts (is_below entry.0 key) (are_below first key) here in
    and_from (is_below entry.0 key) (are_below (first ++ second) key) parts.0 (below_append first second key parts.1 more)

-- the entries of the tables before the first one that has another are below the key
pub earlier_below : (tables : List Entries) (key : List ℕ) → are_below (joined (take (tables_below tables key) tables)) key ≡ true
earlier_below [] key = refl
earlier_below (table ∷ tables) key = by (are_below table key) refl (earlier_below tables key)
  where
    by : (b : Bool) → are_below table key ≡ b → are_below (joined (take (tables_below tables key) tables)) key ≡ true
        → are_below (joined (take (cond b (suc (tables_below tables key)) 0) (table ∷ tables))) key ≡ true
    by true is rest = below_append table (joined (take (tables_below tables key) tables)) key is rest
    by false is rest = refl

-- ---- how many tables are below it

some_before : (before more : List Entries) (key : List ℕ) → AreLower key (joined before) → tables_below (before ++ more) key ≡ length before + tables_below more key
some_before [] more key lower = omega arith
some_before (table ∷ before) more key lower =
    let P : List ℕ → Type 0 = λ other. is_below other key ≡ true in
    let both = subst (AllByRecursion P) (map-append (λ entry. entry.0) table (joined before)) lower in
    let here = lower_are table key (all_front P (keys_of table) (keys_of (joined before)) both) in
    let rest = some_before before more key (all_back P (keys_of table) (keys_of (joined before)) both) in
    ap (λ b. cond b (suc (tables_below (before ++ more) key)) 0) here
    ∙ (let one_more : suc (tables_below (before ++ more) key) ≡ suc (length before) + tables_below more key = omega (arith, rest) in one_more)

pub none_below : (tables : List Entries) (key : List ℕ) → AllByRecursion (λ table. 0 < length table) tables → AreHigher key (joined tables) → tables_below tables key ≡ 0
none_below [] key some higher = refl
none_below (table ∷ tables) key some higher =
    let P : List ℕ → Type 0 = λ other. is_below key other ≡ true in
    let both = subst (AllByRecursion P) (map-append (λ entry. entry.0) table (joined tables)) higher in
    ap (λ b. cond b (suc (tables_below tables key)) 0) (higher_are_not table key some.0 (all_front P (keys_of table) (keys_of (joined tables)) both))

-- ---- the table at a place

record IsSplit (tables : List Entries) (place : ℕ) (table : Entries) : Type 0 where
  before : List Entries
  after : List Entries
  are : tables ≡ before ++ table ∷ after
  count : length before ≡ place

split_at : (tables : List Entries) (place : ℕ) (table : Entries) → slice_get tables place ≡ Some table → IsSplit tables place table
split_at [] place table at = absurd cc
split_at (first ∷ tables) zero table at =
    let same : first ≡ table = cc in
    record { before = []; after = tables; are = ap (λ table. table ∷ tables) same; count = refl }
split_at (first ∷ tables) (suc place) table at =
    let s = split_at tables place table at in
    record { before = first ∷ s.before; after = s.after; are = ap (λ tables. first ∷ tables) s.are; count = ap suc s.count }

-- entries that rise have an entry with a key once
not_twice : (entry other : List ℕ × Message) (front rest : Entries) → AreEntries (entry ∷ (front ++ other ∷ rest)) → entry.0 ≡ other.0 → ⊥
not_twice entry other front rest is same =
    let less = all_first (λ key. slice_cmp nat_cmp entry.0 key ≡ Less) front (other ∷ rest) other.0 (sorted_head (slice_cmp nat_cmp) entry.0 (keys_of (front ++ other ∷ rest)) is) refl in
    let equal : slice_cmp nat_cmp entry.0 other.0 ≡ Equal = ap (slice_cmp nat_cmp entry.0) (sym same) ∙ tied_itself nat_list_cmp_total entry.0 in
    cc

-- so it stands at one place
one_place : (front other : Entries) (entry : List ℕ × Message) (rest more : Entries) → AreEntries (front ++ entry ∷ rest) → front ++ entry ∷ rest ≡ other ++ entry ∷ more → front ≡ other
one_place [] [] entry rest more is same = refl
one_place [] (next ∷ other) entry rest more is same =
    let first : entry ≡ next = cc in
    let tail : rest ≡ other ++ entry ∷ more = cc in
    absurd (not_twice entry entry other more (subst (λ rest. AreEntries (entry ∷ rest)) tail is) refl)
one_place (next ∷ front) [] entry rest more is same =
    let first : next ≡ entry = cc in
    absurd (not_twice next entry front rest is (ap (λ entry. entry.0) first))
one_place (next ∷ front) (last ∷ other) entry rest more is same =
    let first : next ≡ last = cc in
    let tail : front ++ entry ∷ rest ≡ other ++ entry ∷ more = cc in
    let here = one_place front other entry rest more (sorted_tail (slice_cmp nat_cmp) next.0 (keys_of (front ++ entry ∷ rest)) is) tail in
    rw (first, here) refl

append_same : (front rest more : Entries) → front ++ rest ≡ front ++ more → rest ≡ more
append_same [] rest more same = same
append_same (entry ∷ front) rest more same =
    let tail : front ++ rest ≡ front ++ more = cc in
    append_same front rest more tail

-- what stands before the part, and behind it, is the same in both ways
front_same : (front part back other more : Entries) → 0 < length part → AreEntries (front ++ (part ++ back)) → front ++ (part ++ back) ≡ other ++ (part ++ more) → front ≡ other
front_same front [] back other more some is same = absurd (omega arith)
front_same front (entry ∷ part) back other more some is same = one_place front other entry (part ++ back) (part ++ more) is same

-- the way ends at the leaf page at this place
pub starts_at : (tables : List Entries) (place : ℕ) (table : Entries) (key : List ℕ) → AreEntries (joined tables) → AllByRecursion (λ table. 0 < length table) tables
    → slice_get tables place ≡ Some table → 0 < length table → IsDivided (joined tables) table key
    → tables_below tables key ≡ cond (are_below table key) (place + 1) place
starts_at tables place table key is each at some d =
    let s = split_at tables place table at in
    let parts : joined tables ≡ joined s.before ++ (table ++ joined s.after) = ap joined s.are ∙ flat_map-append (λ entries. entries) s.before (table ∷ s.after) in
    let both : d.front ++ (table ++ d.back) ≡ joined s.before ++ (table ++ joined s.after) = sym d.are ∙ parts in
    let front : d.front ≡ joined s.before = front_same d.front table d.back (joined s.before) (joined s.after) some (subst AreEntries d.are is) both in
    let back : d.back ≡ joined s.after =
    append_same table d.back (joined s.after) (append_same d.front (table ++ d.back) (table ++ joined s.after) (both ∙ ap (λ front. front ++ (table ++ joined s.after)) (sym front))) in
    let each_after = (all_back (λ table. 0 < length table) s.before (table ∷ s.after) (subst (AllByRecursion (λ table. 0 < length table)) s.are each)).1 in
    let after : tables_below s.after key ≡ 0 = none_below s.after key each_after (subst (AreHigher key) back d.higher) in
    ap (λ tables. tables_below tables key) s.are
    ∙ some_before s.before (table ∷ s.after) key (subst (AreLower key) front d.lower)
    ∙ by (are_below table key) (length s.before) (tables_below s.after key) s.count after
  where
    by : (b : Bool) (before after : ℕ) → before ≡ place → after ≡ 0 → before + cond b (suc after) 0 ≡ cond b (place + 1) place
    by true before after count none = omega (arith, count, none)
    by false before after count none = omega (arith, count)

-- ---- by a search of the leaf page

below_step : (b : Bool) (table : Entries) (key : List ℕ) → cond b (suc (count_below (keys_of table) key)) 0 < suc (length table)
    → (count_below (keys_of table) key < length table → are_below table key ≡ false) → (b && are_below table key) ≡ false
below_step true table key less rest = rest (omega (arith, less))
below_step false table key less rest = refl

some_not_below : (table : Entries) (key : List ℕ) → count_below (keys_of table) key < length table → are_below table key ≡ false
some_not_below [] key less = absurd (omega arith)
some_not_below (entry ∷ table) key less = below_step (is_below entry.0 key) table key less (some_not_below table key)

whole_step : (b : Bool) (table : Entries) (key : List ℕ) → suc (length table) ≤ cond b (suc (count_below (keys_of table) key)) 0
    → (length table ≤ count_below (keys_of table) key → are_below table key ≡ true) → (b && are_below table key) ≡ true
whole_step true table key most rest = rest (omega (arith, most))
whole_step false table key most rest = absurd (omega (arith, most))

all_below : (table : Entries) (key : List ℕ) → length table ≤ count_below (keys_of table) key → are_below table key ≡ true
all_below [] key most = refl
all_below (entry ∷ table) key most = whole_step (is_below entry.0 key) table key most (all_below table key)

module _ (shown : Shown) (key : List ℕ) (leaf : shown.at.leaf ≡ true) where
  on_leaf : (b : Bool) → are_below (leaf_table shown.bytes) key ≡ b → cond b (shown.at.page + 1) shown.at.page ≡ start_on shown key
  on_leaf b is =
      ap (λ b. cond b (shown.at.page + 1) shown.at.page) (sym is)
      ∙ ap (λ b. cond b (cond (are_below (leaf_table shown.bytes) key) (shown.at.page + 1) shown.at.page) 0) (sym leaf)

  pub starts_here : count_below (keys_of (leaf_table shown.bytes)) key < length (leaf_table shown.bytes) → shown.at.page ≡ start_on shown key
  starts_here less = on_leaf false (some_not_below (leaf_table shown.bytes) key less)

  pub starts_next : length (leaf_table shown.bytes) ≤ count_below (keys_of (leaf_table shown.bytes)) key → shown.at.page + 1 ≡ start_on shown key
  starts_next most = on_leaf true (all_below (leaf_table shown.bytes) key most)

-- no leaf page is named behind the last one
pub start_within : (shown : Shown) (key : List ℕ) (leaves : ℕ) → (shown.at.leaf ≡ true → shown.at.page < leaves) → start_on shown key ≤ leaves
start_within shown key leaves within = by shown.at.leaf (are_below (leaf_table shown.bytes) key) within
  where
    by : (leaf below : Bool) → (leaf ≡ true → shown.at.page < leaves) → cond leaf (cond below (shown.at.page + 1) shown.at.page) 0 ≤ leaves
    by true true within = let less = within refl in omega (arith, less)
    by true false within = let less = within refl in omega (arith, less)
    by false below within = omega arith

-- ---- the tables of sound leaf pages have entries

pub tables_have_some : (pages : List Shown) (leaves : ℕ) (kinds : List Bool) → map (λ (shown : Shown). shown.at.leaf) pages ≡ replicate leaves true ++ kinds → AllByRecursion IsSoundLeaf pages
    → AllByRecursion (λ table. 0 < length table) (map (λ (shown : Shown). leaf_table shown.bytes) (take leaves pages))
tables_have_some pages zero kinds is sound = tt
tables_have_some [] (suc leaves) kinds is sound = tt
tables_have_some (shown ∷ pages) (suc leaves) kinds is sound =
    let leaf : shown.at.leaf ≡ true = cc in
    let more : map (λ (shown : Shown). shown.at.leaf) pages ≡ replicate leaves true ++ kinds = cc in
    (leaf_table_has_some shown.at shown.bytes (sound.0 leaf), tables_have_some pages leaves kinds more sound.1)
