-- The part of a table that lies in a span, read from its start on until its end.
use Rattle.std.proofs.Common.{◌≡◌, ℕ, Bool, false, true, cond, List, [], ◌∷◌, ◌++◌, filter, Option, Some, None, Ordering, refl, sym, ap, subst, ◌∙◌}
use Rattle.std.specs.Prelude.{All, not, ◌&&◌}
use Rattle.std.proofs.lemmas.Bool.{false≢true}
use Rattle.std.proofs.lemmas.Cmp.{nat_list_cmp_total}
use Rattle.std.proofs.lemmas.List.Elements.{All-head, All-tail, filter_agree}
use Rattle.std.proofs.lemmas.List.Kept.{IsStrictlySortedBy-filter}
use Rattle.std.proofs.lemmas.Map.Keys.{sorted_head, sorted_tail}
use Rattle.std.specs.BTreeMap.Range.{entries_between}
use Rattle.std.specs.Cmp.Lexicographic.{slice_cmp}
use Rattle.std.specs.declared.cmp.Ordering.TheVariants.{Less, Equal, Greater}
use Rattle.std.specs.declared.ops.Bound.TheVariants.{Included, Unbounded}
use Rattle.std.specs.List.{AllByRecursion}
use Rattle.std.specs.Map.{keys_of}
use Rattle.std.specs.Ordering.{nat_cmp, is_le, is_lt, ordering_reverse}
use Rattle.spl_message.specs.declared.message.Message.{Message}
use Rattle.spl_message.specs.declared.span.Span.{Span}
use Rattle.spl_message.specs.Key.{is_below}
use Rattle.spl_message.specs.Span.{is_before, is_from, in_span}
use Rattle.spl_message.specs.Entries.{Entries, AreEntries}

-- the entries whose keys lie in the span
abbrev pub part_in : Span → Entries → Entries
part_in span entries = filter (λ entry. in_span span entry.0) entries

-- the first entry stays or goes with its key
keys_of-kept : (passes : Bool) (entry : List ℕ × Message) (rest : Entries) (keys : List (List ℕ)) → keys_of rest ≡ keys → keys_of (cond passes (entry ∷ rest) rest) ≡ cond passes (entry.0 ∷ keys) keys
keys_of-kept true entry rest keys is = ap (λ ks. entry.0 ∷ ks) is
keys_of-kept false entry rest keys is = is

keys_of-filter : (test : List ℕ → Bool) (table : Entries) → keys_of (filter (λ entry. test entry.0) table) ≡ filter test (keys_of table)
keys_of-filter test [] = refl
keys_of-filter test (entry ∷ table) = keys_of-kept (test entry.0) entry _ _ (keys_of-filter test table)

pub AreEntries-filter : (test : List ℕ → Bool) (table : Entries) → AreEntries table → AreEntries (filter (λ entry. test entry.0) table)
AreEntries-filter test table is = rw (keys_of-filter test table) (IsStrictlySortedBy-filter (slice_cmp nat_cmp) test (keys_of table) is)

-- at or above a start is not below it
not_below : (o : Ordering) → (is_le o && true) ≡ not (is_lt (ordering_reverse o))
not_below Less = refl
not_below Equal = refl
not_below Greater = refl

pub from_start : (start : List ℕ) (table : Entries) → entries_between (slice_cmp nat_cmp) (Included start) Unbounded table ≡ filter (λ entry. is_from (Some start) entry.0) table
from_start start table =
    filter_agree _ _ (λ entry. not_below (slice_cmp nat_cmp start entry.0) ∙ ap (λ o. not (is_lt o)) (sym (nat_list_cmp_total.antisymm entry.0 start))) table

-- what passes one test and then the other passes both
both_pass : (first second : Bool) (entry : List ℕ × Message) (rest all : Entries) (test : List ℕ × Message → Bool) → test entry ≡ second → filter test rest ≡ all
    → filter test (cond first (entry ∷ rest) rest) ≡ cond (first && second) (entry ∷ all) all
both_pass true second entry rest all test is others = ap (λ b. cond b (entry ∷ filter test rest) (filter test rest)) is ∙ ap (λ es. cond second (entry ∷ es) es) others
both_pass false second entry rest all test is others = others

pub filter-filter : (span : Span) (table : Entries) → filter (λ entry. is_before span.to entry.0) (filter (λ entry. is_from span.from entry.0) table) ≡ part_in span table
filter-filter span [] = refl
filter-filter span (entry ∷ table) = both_pass (is_from span.from entry.0) (is_before span.to entry.0) entry _ _ (λ e. is_before span.to e.0) refl (filter-filter span table)

-- what is above a key that is not before the end is not before it either
above_end : (first later end : List ℕ) (o : Ordering) → slice_cmp nat_cmp later end ≡ o → is_below first end ≡ false → slice_cmp nat_cmp first later ≡ Less → is_lt o ≡ false
above_end first later end Less is past above =
    let below = nat_list_cmp_total.trans first later end above is in
    absurd (false≢true (sym past ∙ ap is_lt below))
above_end first later end Equal is past above = refl
above_end first later end Greater is past above = refl

later_too : (end : Option (List ℕ)) (first later : List ℕ) → is_before end first ≡ false → slice_cmp nat_cmp first later ≡ Less → is_before end later ≡ false
later_too None first later past above = absurd (false≢true (sym past))
later_too (Some end) first later past above = above_end first later end (slice_cmp nat_cmp later end) refl past above

pub none_later : (end : Option (List ℕ)) (first : List ℕ) (rest : Entries) → is_before end first ≡ false → AllByRecursion (λ key. slice_cmp nat_cmp first key ≡ Less) (keys_of rest) → filter (λ entry. is_before end entry.0) rest ≡ []
none_later end first [] past above = refl
none_later end first (entry ∷ rest) past above =
    ap (λ b. cond b (entry ∷ filter (λ e. is_before end e.0) rest) (filter (λ e. is_before end e.0) rest)) (later_too end first entry.0 past above.0) ∙ none_later end first rest past above.1

-- no key is left, or the first one that is left is not before the end
abbrev pub IsPast : Option (List ℕ) → Entries → Type 0
IsPast end [] = Unit {0}
IsPast end (entry ∷ rest) = is_before end entry.0 ≡ false

-- the keys before the end are those in front of the first that is not
cut : (end : Option (List ℕ)) (front rest : Entries) → AreEntries (front ++ rest) → All (λ entry. is_before end entry.0 ≡ true) front → IsPast end rest → filter (λ entry. is_before end entry.0) (front ++ rest) ≡ front
cut end [] [] order before past = refl
cut end [] (entry ∷ rest) order before past =
    ap (λ b. cond b (entry ∷ filter (λ e. is_before end e.0) rest) (filter (λ e. is_before end e.0) rest)) past
    ∙ none_later end entry.0 rest past (sorted_head (slice_cmp nat_cmp) entry.0 (keys_of rest) order)
cut end (entry ∷ front) rest order before past =
    ap (λ b. cond b (entry ∷ filter (λ e. is_before end e.0) (front ++ rest)) (filter (λ e. is_before end e.0) (front ++ rest))) (All-head (λ e. is_before end e.0 ≡ true) entry front before)
    ∙ ap (λ es. entry ∷ es) (cut end front rest (sorted_tail (slice_cmp nat_cmp) entry.0 (keys_of (front ++ rest)) order) (All-tail (λ e. is_before end e.0 ≡ true) entry front before) past)

-- what was read from the start on, up to the first key that is not before the end, is the part of the span
pub is_part : (span : Span) (table front rest : Entries) → AreEntries table → front ++ rest ≡ filter (λ entry. is_from span.from entry.0) table
    → All (λ entry. is_before span.to entry.0 ≡ true) front → IsPast span.to rest → front ≡ part_in span table
is_part span table front rest order all before past =
    let sorted = subst AreEntries (sym all) (AreEntries-filter (is_from span.from) table order) in
    sym (cut span.to front rest sorted before past) ∙ ap (λ es. filter (λ entry. is_before span.to entry.0) es) all ∙ filter-filter span table

pub AreEntries-part_in : (span : Span) (table : Entries) → AreEntries table → AreEntries (part_in span table)
AreEntries-part_in span table order = AreEntries-filter (in_span span) table order
