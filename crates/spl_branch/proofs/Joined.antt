-- Tables, one behind the other, that are one table: a key that is not below the first key of the second is not in the first.
use Rattle.std.proofs.Common.{◌≡◌, ℕ, Bool, true, false, cond, List, [], ◌∷◌, ◌++◌, Option, Some, None, Ordering, refl, sym, ap, ◌∙◌}
use Rattle.std.specs.declared.cmp.Ordering.TheVariants.{Less, Equal, Greater}
use Rattle.std.specs.BTreeMap.{is_at}
use Rattle.std.specs.Cmp.Lexicographic.{slice_cmp}
use Rattle.std.specs.List.{AllByRecursion}
use Rattle.std.specs.Map.{keys_of}
use Rattle.std.specs.Option.{option_or}
use Rattle.std.specs.Ordering.{nat_cmp, is_eq, is_lt}
use Rattle.std.proofs.lemmas.Bool.{false≢true}
use Rattle.std.proofs.lemmas.Cmp.{nat_list_cmp_total}
use Rattle.std.proofs.lemmas.Map.{lookup-none}
use Rattle.std.proofs.lemmas.Map.Entries.{none_below_head}
use Rattle.std.proofs.lemmas.Map.Keys.{sorted_head, sorted_tail}
use Rattle.spl_message.specs.declared.message.Message.{Message}
use Rattle.spl_message.specs.Key.{is_below}
use Rattle.spl_message.specs.Entries.{AreEntries, Entries, message_in}
use Rattle.spl_branch.specs.Tree.{first_key}

found_or : (here : Bool) (message : Message) (first second both : Option Message) → both ≡ option_or first second
    → cond here (Some message) both ≡ option_or (cond here (Some message) first) second
found_or true message first second both is = refl
found_or false message first second both is = is

-- a lookup goes on where it finds nothing
pub message_at-append : (first second : Entries) (key : List ℕ) → message_in (first ++ second) key ≡ option_or (message_in first key) (message_in second key)
message_at-append [] second key = refl
message_at-append (entry ∷ first) second key =
    found_or (is_at (slice_cmp nat_cmp key) entry.0) entry.1 (message_in first key) (message_in second key) (message_in (first ++ second) key) (message_at-append first second key)

-- what holds of each key of two tables holds of the first key of the second
pub all_first : (P : List ℕ → Type 0) (first second : Entries) (key : List ℕ) → AllByRecursion P (keys_of (first ++ second)) → first_key second ≡ Some key → P key
all_first P [] [] key all is = absurd cc
all_first P [] (entry ∷ second) key all is = let same : entry.0 ≡ key = cc in rw (← same) all.0
all_first P (entry ∷ first) second key all is = all_first P first second key all.1 is

-- a key that is not below one is not one that is below it
not_at : (key entry further : List ℕ) (order : Ordering) → slice_cmp nat_cmp key entry ≡ order → slice_cmp nat_cmp entry further ≡ Less → is_below key further ≡ false
    → is_eq order ≡ false
not_at key entry further Less is below above = refl
not_at key entry further Greater is below above = refl
not_at key entry further Equal is below above =
    let less : slice_cmp nat_cmp key further ≡ Less = nat_list_cmp_total.congr key entry further is ∙ below in
    absurd (false≢true (sym above ∙ ap is_lt less))

pub none_before : (first second : Entries) (further key : List ℕ) → AreEntries (first ++ second) → first_key second ≡ Some further → is_below key further ≡ false
    → message_in first key ≡ None
none_before [] second further key is at above = refl
none_before (entry ∷ first) second further key is at above =
    let less = all_first (λ k. slice_cmp nat_cmp entry.0 k ≡ Less) first second further (sorted_head (slice_cmp nat_cmp) entry.0 (keys_of (first ++ second)) is) at in
    let other : is_at (slice_cmp nat_cmp key) entry.0 ≡ false = not_at key entry.0 further (slice_cmp nat_cmp key entry.0) refl less above in
    ap (λ here. cond here (Some entry.1) (message_in first key)) other
    ∙ none_before first second further key (sorted_tail (slice_cmp nat_cmp) entry.0 (keys_of (first ++ second)) is) at above

less_from_below : (order : Ordering) → is_lt order ≡ true → order ≡ Less
less_from_below Less is = refl
less_from_below Equal is = absurd (false≢true is)
less_from_below Greater is = absurd (false≢true is)

pub none_from : (table : Entries) (first key : List ℕ) → AreEntries table → first_key table ≡ Some first → is_below key first ≡ true → message_in table key ≡ None
none_from [] first key is at below = refl
none_from (entry ∷ table) first key is at below =
    let same : entry.0 ≡ first = cc in
    let less : slice_cmp nat_cmp key entry.0 ≡ Less = ap (slice_cmp nat_cmp key) same ∙ less_from_below (slice_cmp nat_cmp key first) below in
    lookup-none (is_at (slice_cmp nat_cmp key)) (entry ∷ table) (none_below_head nat_list_cmp_total key entry table is less)
