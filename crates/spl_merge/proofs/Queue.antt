-- The queue of heads: what its counts say of the heads, and what taking and giving a head do to them.
use Rattle.std.proofs.Common.{◌≡◌, ℕ, zero, suc, ◌+◌, ◌-◌, ◌<◌, ◌≤◌, Bool, true, false, ◌&&◌, cond, not, ◌==◌, List, [], ◌∷◌, ◌++◌, length, get_or, take, Option, Some, None, Ordering, refl, ap, ◌∙◌, sym, subst, arith}
use Rattle.std.proofs.lemmas.Bool.{false≢true}
use Rattle.std.proofs.lemmas.Bool.Decides.{nat_tests}
use Rattle.std.proofs.lemmas.Cmp.{nat_list_cmp_total, tied_itself}
use Rattle.std.proofs.lemmas.Grind.{common_steps}
use Rattle.std.proofs.lemmas.List.Sums.{sum_by-cons, sum_by-append, get_or-le-sum_by}
use Rattle.std.proofs.lemmas.List.Sorted.{sum_by-IsPermutation}
use Rattle.std.proofs.lemmas.Map.Text.{is_eq-slice_cmp}
use Rattle.std.proofs.lemmas.Slice.Eq.{bytes_eq-Decides}
use Rattle.std.specs.declared.cmp.Ordering.TheVariants.{Less, Equal, Greater}
use Rattle.std.specs.declared.cmp.Reverse.{Reverse}
use Rattle.std.specs.Cmp.{nat_cmp_is}
use Rattle.std.specs.Cmp.Lexicographic.{slice_cmp}
use Rattle.std.specs.BinaryHeap.{PopsGreatest}
use Rattle.std.specs.List.{AllByRecursion, count_by, slice_get}
use Rattle.std.specs.List.Sorted.{IsPermutation}
use Rattle.std.specs.Option.{IfSome, is_some}
use Rattle.std.specs.Ordering.{nat_cmp, is_eq, is_lt, ordering_reverse, ordering_then}
use Rattle.std.specs.Prelude.{slice_set}
use Rattle.spl_message.specs.declared.message.Message.{Message}
use Rattle.spl_message.specs.declared.message.Message.TheVariants.{Delete}
use Rattle.spl_message.specs.Key.{is_below, same_key}
use Rattle.spl_merge.specs.declared.merger.Rank.{Rank}
use Rattle.spl_merge.specs.Merger.{AreFrom, Head, IsAbove, Merger, at_key, has_key, headless, without}
use Rattle.spl_merge.specs.Ranks.{AreQueued, IsQueue, QueuesHead, Takes, rank_cmp, ranks}

-- one where the test passes, and else none
abbrev one : Bool → ℕ
one passes = cond passes 1 0

count-cons : {X : Type 0} (test : X → Bool) (x : X) (xs : List X) →
    count_by test (x ∷ xs) ≡ one (test x) + count_by test xs
count-cons test x xs = sum_by-cons (λ y. one (test y)) x xs

-- the first head's rank and the others'
ranks-front : (test : Rank → Bool) (s : ℕ) (head : Head) (heads : List Head) →
    count_by test (ranks s (head ∷ heads)) ≡ count_by test (ranks s (head ∷ [])) + count_by test
    (ranks (suc s) heads)
ranks-front test s None heads = omega arith
ranks-front test s (Some entry) heads =
    let rank : Rank = record { key = entry.0; stream = s } in
    let all = count-cons test rank (ranks (suc s) heads) in
    let alone = count-cons test rank [] in
    omega (arith, all, alone)

headless-front : (test : ℕ → Bool) (s : ℕ) (head : Head) (heads : List Head) →
    count_by test (headless s (head ∷ heads)) ≡ count_by test (headless s (head ∷ [])) + count_by test
    (headless (suc s) heads)
headless-front test s None heads =
    let all = count-cons test s (headless (suc s) heads) in
    let alone = count-cons test s [] in
    omega (arith, all, alone)
headless-front test s (Some entry) heads = omega arith

-- a head in the place of another
pub ranks-set : (test : Rank → Bool) (s i n : ℕ) (heads : List Head) (old new : Head) →
    slice_get heads i ≡ Some old → n ≡ s + i →
    count_by test (ranks s (slice_set heads i new)) + count_by test (ranks n (old ∷ [])) ≡ count_by test
    (ranks n (new ∷ [])) + count_by test (ranks s heads)
ranks-set test s i n [] old new is at = cc
ranks-set test s zero n (head ∷ heads) old new is at =
    let same : head ≡ old = cc in
    let here : n ≡ s = omega arith in
    let before = ranks-front test s head heads in
    let after = ranks-front test s new heads in
    let one : count_by test (ranks n (old ∷ [])) ≡ count_by test (ranks s (head ∷ [])) =
    ap (λ m. count_by test (ranks m (old ∷ []))) here
    ∙ ap (λ (h : Head). count_by test (ranks s (h ∷ []))) (sym same) in
    let other : count_by test (ranks n (new ∷ [])) ≡ count_by test (ranks s (new ∷ [])) =
    ap (λ m. count_by test (ranks m (new ∷ []))) here in
    omega (arith, before, after, one, other)
ranks-set test s (suc i) n (head ∷ heads) old new is at =
    let before = ranks-front test s head heads in
    let after = ranks-front test s head (slice_set heads i new) in
    let later = ranks-set test (suc s) i n heads old new is (omega arith) in
    omega (arith, before, after, later)

pub headless-set : (test : ℕ → Bool) (s i n : ℕ) (heads : List Head) (old new : Head) →
    slice_get heads i ≡ Some old → n ≡ s + i →
    count_by test (headless s (slice_set heads i new)) + count_by test (headless n (old ∷ [])) ≡ count_by test
    (headless n (new ∷ [])) + count_by test (headless s heads)
headless-set test s i n [] old new is at = cc
headless-set test s zero n (head ∷ heads) old new is at =
    let same : head ≡ old = cc in
    let here : n ≡ s = omega arith in
    let before = headless-front test s head heads in
    let after = headless-front test s new heads in
    let one : count_by test (headless n (old ∷ [])) ≡ count_by test (headless s (head ∷ [])) =
    ap (λ m. count_by test (headless m (old ∷ []))) here
    ∙ ap (λ (h : Head). count_by test (headless s (h ∷ []))) (sym same) in
    let other : count_by test (headless n (new ∷ [])) ≡ count_by test (headless s (new ∷ [])) =
    ap (λ m. count_by test (headless m (new ∷ []))) here in
    omega (arith, before, after, one, other)
headless-set test s (suc i) n (head ∷ heads) old new is at =
    let before = headless-front test s head heads in
    let after = headless-front test s head (slice_set heads i new) in
    let later = headless-set test (suc s) i n heads old new is (omega arith) in
    omega (arith, before, after, later)

-- a head for each stream, or none
pub counts_all : (s : ℕ) (heads : List Head) → count_by (λ rank. true) (ranks s heads) + count_by
    (λ stream. true) (headless s heads) ≡ length heads
counts_all s [] = refl
counts_all s (None ∷ heads) =
    let rest = counts_all (suc s) heads in
    let more = count-cons (λ (stream : ℕ). true) s (headless (suc s) heads) in
    omega (arith, rest, more)
counts_all s (Some entry ∷ heads) =
    let rest = counts_all (suc s) heads in
    let rank : Rank = record { key = entry.0; stream = s } in
    let more = count-cons (λ (rank : Rank). true) rank (ranks (suc s) heads) in
    omega (arith, rest, more)

pub count_all : {X : Type 0} (xs : List X) → count_by (λ x. true) xs ≡ length xs
count_all [] = refl
count_all {X} (x ∷ xs) = let rest = count_all xs in let more =
    count-cons (λ (y : X). true) x xs in omega (arith, rest, more)

-- whether a rank is this one
abbrev pub is_rank : Rank → Rank → Bool
is_rank rank other = same_key other.key rank.key && (other.stream == rank.stream)

-- a stream's head, at its place
abbrev pub Placed : ℕ → Rank → List Head → Type 0
Placed s rank heads = (i : ℕ) × (entry : List ℕ × Message) × (slice_get heads i ≡ Some (Some entry))
    × (entry.0 ≡ rank.key) × (rank.stream ≡ s + i)

both : (a b : Bool) → (a && b) ≡ true → (a ≡ true) × (b ≡ true)
both true b h = (refl, h)
both false b h = absurd (false≢true h)

same_bytes : (xs ys : List ℕ) → same_key xs ys ≡ true → xs ≡ ys
same_bytes xs ys is = (bytes_eq-Decides xs ys).0 is

later_place : (s : ℕ) (rank : Rank) (head : Head) (heads : List Head) → Placed (suc s) rank heads →
    Placed s rank (head ∷ heads)
later_place s rank head heads placed = (suc placed.0, placed.1, placed.2, placed.3, omega (arith, placed.4))

-- the rank of the entry at the front of this stream
abbrev pub rank_of : List ℕ × Message → ℕ → Rank
rank_of entry stream = record { key = entry.0; stream = stream }

-- a rank that is counted is that of a head
pub placed : (s : ℕ) (rank : Rank) (heads : List Head) → 0 < count_by (is_rank rank) (ranks s heads) →
    Placed s rank heads
placed s rank [] some = absurd (omega arith)
placed s rank (None ∷ heads) some = later_place s rank None heads (placed (suc s) rank heads some)
placed s rank (Some entry ∷ heads) some = by (λ more. placed (suc s) rank heads more)
    (is_rank rank (rank_of entry s)) refl
  where
    by : (0 < count_by (is_rank rank) (ranks (suc s) heads) → Placed (suc s) rank heads) → (b : Bool) →
        is_rank rank (rank_of entry s) ≡ b → Placed s rank (Some entry ∷ heads)
    by later true is =
        let parts = both (same_key entry.0 rank.key) (s == rank.stream) is in
        (0, entry, refl, same_bytes entry.0 rank.key parts.0, grind (arith, nat_tests, parts.1))
    by later false is =
        let more = count-cons (is_rank rank) (rank_of entry s) (ranks (suc s) heads) in
        let none : one (is_rank rank (rank_of entry s)) ≡ 0 = ap one is in
        later_place s rank (Some entry) heads (later (omega (arith, more, none)))

-- a number that is counted is that of a stream without a head
pub headless_at : (s n : ℕ) (heads : List Head) → 0 < count_by (λ m. m == n) (headless s heads) → (i : ℕ)
    × (slice_get heads i ≡ Some None) × (n ≡ s + i)
headless_at s n [] some = absurd (omega arith)
headless_at s n (Some entry ∷ heads) some = let at =
    headless_at (suc s) n heads some in (suc at.0, at.1, omega (arith, at.2))
headless_at s n (None ∷ heads) some = by (λ more. headless_at (suc s) n heads more) (s == n) refl
  where
    by : (0 < count_by (λ m. m == n) (headless (suc s) heads) → (i : ℕ) × (slice_get heads i ≡ Some None)
        × (n ≡ suc s + i)) →
        (b : Bool) → (s == n) ≡ b → (i : ℕ) × (slice_get (None ∷ heads) i ≡ Some None) × (n ≡ s + i)
    by later true is = (0, refl, grind (arith, nat_tests, is))
    by later false is =
        let more = count-cons (λ m. m == n) s (headless (suc s) heads) in
        let none : one (s == n) ≡ 0 = ap one is in
        let at = later (omega (arith, more, none)) in
        (suc at.0, at.1, omega (arith, at.2))

-- whether a rank comes before this one
abbrev pub is_before : Rank → Rank → Bool
is_before rank other = is_lt (rank_cmp other rank)

-- whatever comes before no other is counted nowhere
pub none_before : (rank : Reverse Rank) (queue : List (Reverse Rank)) →
    AllByRecursion (λ other. is_lt (rank_cmp other.0 rank.0) ≡ false) queue →
    count_by (λ other. is_before rank.0 other.0) queue ≡ 0
none_before rank [] all = refl
none_before rank (other ∷ queue) all =
    let more = count-cons (λ (o : Reverse Rank). is_before rank.0 o.0) other queue in
    let none : one (is_before rank.0 other.0) ≡ 0 = ap one all.0 in
    let rest = none_before rank queue all.1 in
    omega (arith, more, none, rest)

less : (o : Ordering) → is_lt o ≡ true → o ≡ Less
less Less h = refl
less Equal h = absurd (false≢true h)
less Greater h = absurd (false≢true h)

-- of the first head and the others none comes before
not_before : (s : ℕ) (rank : Rank) (entry : List ℕ × Message) (heads : List Head) →
    count_by (is_before rank) (ranks s (Some entry ∷ heads)) ≡ 0 →
    (is_before rank (rank_of entry s) ≡ false) × (count_by (is_before rank) (ranks (suc s) heads) ≡ 0)
not_before s rank entry heads none = by (is_before rank (rank_of entry s)) refl
  where
    more : count_by (is_before rank) (ranks s (Some entry ∷ heads)) ≡ one
        (is_before rank (rank_of entry s)) + count_by (is_before rank) (ranks (suc s) heads)
    more = count-cons (is_before rank) (rank_of entry s) (ranks (suc s) heads)

    by : (b : Bool) → is_before rank (rank_of entry s) ≡ b → (is_before rank (rank_of entry s) ≡ false)
        × (count_by (is_before rank) (ranks (suc s) heads) ≡ 0)
    by true is = let here : one (is_before rank (rank_of entry s)) ≡ 1 =
        ap one is in absurd (omega (arith, more, here))
    by false is = (is, omega (arith, more))

-- then no head's key is below
key_from : (s : ℕ) (rank : Rank) (entry : List ℕ × Message) → is_before rank (rank_of entry s) ≡ false →
    is_below entry.0 rank.key ≡ false
key_from s rank entry not_before = by (slice_cmp nat_cmp entry.0 rank.key) refl
  where
    by : (o : Ordering) → slice_cmp nat_cmp entry.0 rank.key ≡ o → is_below entry.0 rank.key ≡ false
    by Less is = absurd (false≢true (sym not_before
        ∙ ap (λ o. is_lt (ordering_then o (nat_cmp s rank.stream))) is))
    by Equal is = ap is_lt is
    by Greater is = ap is_lt is

pub keys_from : (s : ℕ) (rank : Rank) (heads : List Head) → count_by (is_before rank) (ranks s heads) ≡ 0 →
    AreFrom rank.key heads
keys_from s rank [] none = tt
keys_from s rank (None ∷ heads) none = (tt, keys_from (suc s) rank heads none)
keys_from s rank (Some entry ∷ heads) none =
    let parts = not_before s rank entry heads none in
    (key_from s rank entry parts.0, keys_from (suc s) rank heads parts.1)

-- and of an earlier stream none has the key
other_key : (s : ℕ) (rank : Rank) (entry : List ℕ × Message) → s < rank.stream →
    is_before rank (rank_of entry s) ≡ false → same_key entry.0 rank.key ≡ false
other_key s rank entry earlier not_before = by (same_key entry.0 rank.key) refl
  where
    by : (b : Bool) → same_key entry.0 rank.key ≡ b → same_key entry.0 rank.key ≡ false
    by false is = is
    by true is =
        let alike : slice_cmp nat_cmp entry.0 rank.key ≡ Equal =
        ap (slice_cmp nat_cmp entry.0) (sym (same_bytes entry.0 rank.key is))
        ∙ tied_itself nat_list_cmp_total entry.0 in
        let first : nat_cmp s rank.stream ≡ Less = sym (nat_cmp_is s rank.stream Less earlier) in
        absurd (false≢true (sym not_before ∙ ap (λ o. is_lt (ordering_then o (nat_cmp s rank.stream))) alike
        ∙ ap is_lt first))

-- the first rank is that of the first head with the key
pub at_key-first : (s i : ℕ) (rank : Rank) (heads : List Head) (entry : List ℕ × Message) →
    count_by (is_before rank) (ranks s heads) ≡ 0 →
    slice_get heads i ≡ Some (Some entry) → entry.0 ≡ rank.key → rank.stream ≡ s + i →
    at_key s rank.key heads ≡ (rank.stream, entry.1) ∷ at_key s rank.key (slice_set heads i None)
at_key-first s i rank [] entry none is key at = cc
at_key-first s zero rank (None ∷ heads) entry none is key at = cc
at_key-first s zero rank (Some other ∷ heads) entry none is key at =
    let same : other ≡ entry = cc in
    let here : s ≡ rank.stream = omega arith in
    let has : same_key other.0 rank.key ≡ true = (bytes_eq-Decides other.0 rank.key).1
    (ap (λ (e : List ℕ × Message). e.0) same ∙ key) in
    let rest : List (ℕ × Message) = at_key (suc s) rank.key heads in
    ap (λ b. cond b ((s, other.1) ∷ rest) rest) has ∙ ap (λ n. (n, other.1) ∷ rest) here
    ∙ ap (λ (e : List ℕ × Message). (rank.stream, e.1) ∷ rest) same
at_key-first s (suc i) rank (None ∷ heads) entry none is key at =
    at_key-first (suc s) i rank heads entry none is key (omega arith)
at_key-first s (suc i) rank (Some other ∷ heads) entry none is key at =
    let parts = not_before s rank other heads none in
    let lacks = other_key s rank other (omega (arith, at)) parts.0 in
    let later = at_key-first (suc s) i rank heads entry parts.1 is key (omega arith) in
    let before : at_key s rank.key (Some other ∷ heads) ≡ at_key (suc s) rank.key heads =
    ap (λ b. cond b ((s, other.1) ∷ at_key (suc s) rank.key heads) (at_key (suc s) rank.key heads))
    lacks in
    let rest : List (ℕ × Message) = at_key (suc s) rank.key (slice_set heads i None) in
    let after : at_key s rank.key (Some other ∷ slice_set heads i None) ≡ rest =
    ap (λ b. cond b ((s, other.1) ∷ rest) rest) lacks in
    before ∙ later ∙ ap (λ others. (rank.stream, entry.1) ∷ others) (sym after)

all-set : {X : Type 0} (P : X → Type 0) (xs : List X) (i : ℕ) (x : X) → P x → AllByRecursion P xs →
    AllByRecursion P (slice_set xs i x)
all-set P [] i x holds all = tt
all-set P (y ∷ xs) zero x holds all = (holds, all.1)
all-set P (y ∷ xs) (suc i) x holds all = (all.0, all-set P xs i x holds all.1)

-- of the other streams nothing is taken
without-set : (key : List ℕ) (i : ℕ) (heads : List Head) (entry : List ℕ × Message) →
    slice_get heads i ≡ Some (Some entry) → entry.0 ≡ key →
    without key (slice_set heads i None) ≡ without key heads
without-set key i [] entry is same = cc
without-set key zero (None ∷ heads) entry is same = cc
without-set key zero (Some other ∷ heads) entry is same =
    let e : other ≡ entry = cc in
    let has : same_key other.0 key ≡ true = (bytes_eq-Decides other.0 key).1
    (ap (λ (e : List ℕ × Message). e.0) e ∙ same) in
    ap (λ b. cond b None (Some other) ∷ without key heads) (sym has)
without-set key (suc i) (head ∷ heads) entry is same =
    ap (λ rest. cond (has_key key head) None head ∷ rest) (without-set key i heads entry is same)

-- where every head's key is above, none has the key
none_at : (s : ℕ) (key first : List ℕ) (heads : List Head) → is_below key first ≡ true → AreFrom first heads →
    at_key s key heads ≡ []
none_at s key first [] below all = refl
none_at s key first (None ∷ heads) below all = none_at (suc s) key first heads below all.1
none_at s key first (Some entry ∷ heads) below all =
    by (none_at (suc s) key first heads below all.1) (same_key entry.0 key) refl
  where
    by : at_key (suc s) key heads ≡ [] → (b : Bool) → same_key entry.0 key ≡ b →
        at_key s key (Some entry ∷ heads) ≡ []
    by rest true is = absurd (false≢true (sym all.0
        ∙ ap (λ (k : List ℕ). is_below k first) (same_bytes entry.0 key is) ∙ below))
    by rest false is = ap (λ b. cond b ((s, entry.1) ∷ at_key (suc s) key heads) (at_key (suc s) key heads))
        is ∙ rest

-- a key that is not below another and not the same is above it
above_other : (first key : List ℕ) → is_below first key ≡ false → same_key first key ≡ false →
    is_below key first ≡ true
above_other first key not_below other = by (slice_cmp nat_cmp first key) refl
  where
    by : (o : Ordering) → slice_cmp nat_cmp first key ≡ o → is_below key first ≡ true
    by Less is = absurd (false≢true (sym not_below ∙ ap is_lt is))
    by Equal is = absurd (false≢true (sym other ∙ sym (is_eq-slice_cmp first key) ∙ ap is_eq is))
    by Greater is = ap is_lt (nat_list_cmp_total.antisymm key first ∙ ap ordering_reverse is)

none_head : (s : ℕ) (heads : List Head) → count_by (λ rank. true) (ranks s heads) ≡ 0 →
    AllByRecursion (λ head. head ≡ None) heads
none_head s [] none = tt
none_head s (None ∷ heads) none = (refl, none_head (suc s) heads none)
none_head s (Some entry ∷ heads) none =
    let more = count-cons (λ (r : Rank). true) (rank_of entry s) (ranks (suc s) heads) in absurd
    (omega (arith, none, more))

none_with : (s : ℕ) (key : List ℕ) (heads : List Head) → AllByRecursion (λ head. head ≡ None) heads →
    at_key s key heads ≡ []
none_with s key [] none = refl
none_with s key (None ∷ heads) none = none_with (suc s) key heads none.1
none_with s key (Some entry ∷ heads) none = cc (none.0)

-- what holds of all heads holds of the one at a place
at_place : (P : Head → Type 0) (i : ℕ) (heads : List Head) (head : Head) → slice_get heads i ≡ Some head →
    AllByRecursion P heads → P head
at_place P i [] head is all = cc
at_place P zero (other ∷ heads) head is all = let same : other ≡ head = cc in subst P same all.0
at_place P (suc i) (other ∷ heads) head is all = at_place P i heads head is all.1

key_itself : (key : List ℕ) → same_key key key ≡ true
key_itself key = (bytes_eq-Decides key key).1 refl

is_itself : (rank : Rank) → is_rank rank rank ≡ true
is_itself rank = ap (λ b. b && (rank.stream == rank.stream)) (key_itself rank.key) ∙ grind (arith, nat_tests)

module _ (heads : List Head) (wanted : List ℕ) (last : Option (List ℕ)) (queue : List (Reverse Rank))
    (queued : AreQueued heads wanted last queue) where
  -- an empty queue leaves no head
  pub empty_queue : length queue ≡ 0 → AllByRecursion (λ head. head ≡ None) heads
  empty_queue none =
      let all = queued.ranked (λ rank. true) in
      let count = count_all queue in
      none_head 0 heads (omega (arith, all, count))

  pub empty_at : (key : List ℕ) → length queue ≡ 0 → at_key 0 key heads ≡ []
  empty_at key none = none_with 0 key heads (empty_queue none)

  module _ (rank : Reverse Rank) (some : 0 < length queue) (first : rank ≡ get_or queue 0 rank)
      (greatest : AllByRecursion (λ other. is_lt (rank_cmp other.0 rank.0) ≡ false) queue) where
    -- the first of the queue is the rank of a head
    pub top_placed : Placed 0 rank.0 heads
    top_placed =
        let test : Reverse Rank → Bool = λ other. is_rank rank.0 other.0 in
        let here : test (get_or queue 0 rank) ≡ true = ap test (sym first) ∙ is_itself rank.0 in
        let count : one (test (get_or queue 0 rank)) ≤ count_by test queue =
        get_or-le-sum_by (λ other. one (test other)) queue 0 rank some in
        let one_here : one (test (get_or queue 0 rank)) ≡ 1 = ap one here in
        let all = queued.ranked (is_rank rank.0) in
        placed 0 rank.0 heads (omega (arith, count, one_here, all))

    -- and no head's rank comes before it
    top_first : count_by (is_before rank.0) (ranks 0 heads) ≡ 0
    top_first = sym (queued.ranked (is_before rank.0)) ∙ none_before rank queue greatest

    pub top_from : AreFrom rank.0.key heads
    top_from = keys_from 0 rank.0 heads top_first

    pub top_at : at_key 0 rank.0.key heads ≡ (rank.0.stream, top_placed.1.1) ∷ at_key 0 rank.0.key
        (slice_set heads rank.0.stream None)
    top_at =
        let at : rank.0.stream ≡ top_placed.0 = omega (arith, top_placed.4) in
        at_key-first 0 top_placed.0 rank.0 heads top_placed.1 top_first top_placed.2 top_placed.3 top_placed.4
        ∙ ap (λ i. (rank.0.stream, top_placed.1.1) ∷ at_key 0 rank.0.key (slice_set heads i None)) (sym at)

    -- its key is above the latest one, as every head's is
    pub top_above : IsAbove last rank.0.key
    top_above =
        subst (IsAbove last) top_placed.3
        (at_place (λ head. IfSome head (λ entry. IsAbove last entry.0)) top_placed.0 heads
        (Some top_placed.1) top_placed.2 queued.above)

    from_top : (key : List ℕ) → AreFrom key heads → is_below rank.0.key key ≡ false
    from_top key from =
        let here : is_below top_placed.1.0 key ≡ false =
        at_place (λ head. IfSome head (λ entry. is_below entry.0 key ≡ false)) top_placed.0 heads
        (Some top_placed.1) top_placed.2 from in
        ap (λ k. is_below k key) (sym top_placed.3) ∙ here

    -- where its key is another one, no head has the key
    pub top_other : (key : List ℕ) → AreFrom key heads → same_key rank.0.key key ≡ false →
        at_key 0 key heads ≡ []
    top_other key from other = none_at 0 key rank.0.key heads
        (above_other rank.0.key key (from_top key from) other) top_from

    pub top_is : slice_get heads rank.0.stream ≡ Some (Some top_placed.1)
    top_is = let at : rank.0.stream ≡ top_placed.0 = omega (arith, top_placed.4) in ap (slice_get heads) at
        ∙ top_placed.2

    -- the top is taken out of the queue, and its stream is wanted
    pub taken_queued : (rest : List (Reverse Rank)) → IsQueue rest → IsPermutation queue (rank ∷ rest) →
        AreQueued (slice_set heads rank.0.stream None) (wanted ++ rank.0.stream ∷ []) last rest
    taken_queued rest order permutation = record {
      order = order;
      ranked = λ test.
          let all = queued.ranked test in
          let moved = sum_by-IsPermutation (λ (r : Reverse Rank). one (test r.0)) queue (rank ∷ rest)
          permutation in
          let front = count-cons (λ (r : Reverse Rank). test r.0) rank rest in
          let taken = ranks-set test 0 rank.0.stream rank.0.stream heads (Some top_placed.1) None top_is
          (omega arith) in
          let alone = count-cons test (rank_of top_placed.1 rank.0.stream) [] in
          let same : test (rank_of top_placed.1 rank.0.stream) ≡ test rank.0 =
          ap (λ (key : List ℕ). test (record { key = key; stream = rank.0.stream })) top_placed.3 in
          let ones : one (test (rank_of top_placed.1 rank.0.stream)) ≡ one (test rank.0) = ap one same in
          omega (arith, all, moved, front, taken, alone, ones);
      wanting = λ test.
          let all = queued.wanting test in
          let more = sum_by-append (λ n. one (test n)) wanted (rank.0.stream ∷ []) in
          let taken = headless-set test 0 rank.0.stream rank.0.stream heads (Some top_placed.1) None top_is
          (omega arith) in
          omega (arith, all, more, taken);
      above = all-set (λ head. IfSome head (λ entry. IsAbove last entry.0)) heads rank.0.stream None tt
          queued.above;
    }

    -- so the head of the oldest stream that has the key is taken
    pub takes : (key : List ℕ) → AreFrom key heads → same_key rank.0.key key ≡ true → (old : Merger) →
        old.heads ≡ heads → old.wanted ≡ wanted →
        (new : List Head) → new ≡ slice_set heads rank.0.stream None → (more : List ℕ) →
        more ≡ wanted ++ rank.0.stream ∷ [] →
        (message : Message) → message ≡ top_placed.1.1 →
        Takes key old message (record old { heads = new; wanted = more })
    takes key from same old heads_are wanted_are new new_are more more_are message message_is =
        let is : rank.0.key ≡ key = same_bytes rank.0.key key same in
        record {
          taken = (
            rank.0.stream,
            ap (at_key 0 key) heads_are
                ∙ subst (λ (k : List ℕ). at_key 0 k heads ≡ (rank.0.stream, top_placed.1.1) ∷ at_key 0 k
                (slice_set heads rank.0.stream None)) is top_at
                ∙ ap (λ (m : Message). (rank.0.stream, m) ∷ at_key 0 key (slice_set heads rank.0.stream None))
                (sym message_is)
                ∙ ap (λ (hs : List Head). (rank.0.stream, message) ∷ at_key 0 key hs) (sym new_are),
            more_are ∙ ap (λ (ws : List ℕ). ws ++ rank.0.stream ∷ []) (sym wanted_are),
          );
          others = ap (without key) new_are ∙ without-set key rank.0.stream heads top_placed.1 top_is
              (top_placed.3 ∙ is) ∙ ap (without key) (sym heads_are);
          least = subst (AreFrom key) (sym new_are)
              (all-set (λ head. IfSome head (λ entry. is_below entry.0 key ≡ false)) heads rank.0.stream None
              tt from);
          rest = refl;
        }

    -- there is room for one stream more that is wanted
    pub room_wanted : length wanted < length heads
    room_wanted =
        let all = counts_all 0 heads in
        let queue_all = queued.ranked (λ rank. true) in
        let wanted_all = queued.wanting (λ stream. true) in
        let queue_count = count_all queue in
        let wanted_count = count_all wanted in
        omega (arith, all, queue_all, wanted_all, queue_count, wanted_count)

-- a place with an element lies in the list
pub within : {X : Type 0} (i : ℕ) (xs : List X) (x : X) → slice_get xs i ≡ Some x → i < length xs
within i [] x is = cc
within zero (y ∷ xs) x is = omega arith
within (suc i) (y ∷ xs) x is = omega (arith, within i xs x is)

-- a list of which no first element is seen is empty
pub is_empty : {X : Type 0} (xs : List X) (len : ℕ) → len ≡ length xs → (false ≡ true → 0 < len)
    × (0 < len → false ≡ true) → length xs ≡ 0
is_empty [] len is seen = refl
is_empty (x ∷ xs) len is seen = absurd (false≢true (seen.1 (omega (arith, is))))

-- what is popped is the first, and the rest stays a queue
pub popped : (queue rest : List (Reverse Rank)) (top : Reverse Rank) (len : ℕ)
    (result : Option (Reverse Rank)) → 0 < len → 0 < length queue → top ≡ get_or queue 0 top →
    (is_some result ≡ true → 0 < len) × (0 < len → is_some result ≡ true) →
    IfSome result (λ x. x ≡ get_or queue 0 x) → IfSome result (λ x. IsPermutation queue (x ∷ rest)) →
    IfSome result (λ x. IsQueue rest) →
    IsPermutation queue (top ∷ rest) × IsQueue rest
popped queue rest top len None some more first seen is permutation order = absurd (false≢true (seen.1 some))
popped [] rest top len (Some x) some more first seen is permutation order = absurd (omega arith)
popped (y ∷ queue) rest top len (Some x) some more first seen is permutation order =
    (subst (λ (r : Reverse Rank). IsPermutation (y ∷ queue) (r ∷ rest)) (is ∙ sym first) permutation, order)

pub kept_order : (queue rest : List (Reverse Rank)) (result : Option (Reverse Rank)) → IsQueue queue →
    IfSome result (λ x. PopsGreatest (λ r o. rank_cmp o.0 r.0) queue x rest) →
    IfSome result (λ x. IsQueue rest)
kept_order queue rest None order pops = tt
kept_order queue rest (Some x) order pops = (pops order).0

-- the message of a head
abbrev pub second : Head → Message
second None = Delete
second (Some entry) = entry.1

-- the head at a place
pub head_at : (i : ℕ) (heads : List Head) (head other : Head) → slice_get heads i ≡ Some head →
    get_or heads i other ≡ head
head_at i [] head other is = cc
head_at zero (first ∷ heads) head other is = cc
head_at (suc i) (first ∷ heads) head other is = head_at i heads head other is

pub not_true : (b : Bool) → not b ≡ true → b ≡ false
not_true true h = absurd (false≢true h)
not_true false h = refl

pub not_false : (b : Bool) → not b ≡ false → b ≡ true
not_false true h = refl
not_false false h = absurd (false≢true (sym h))

-- a head comes into the queue
pub queues_head : (stream : ℕ) (rank : Reverse Rank) (entry : List ℕ
    × Message) (old new : List (Reverse Rank)) → rank.0 ≡ rank_of entry stream →
    (IsQueue old → IsQueue new) → IsPermutation (rank ∷ old) new → QueuesHead stream (Some entry) old new
queues_head stream rank entry old new is order permutation = record {
  order = order;
  ranked = λ test.
      let moved = sum_by-IsPermutation (λ (r : Reverse Rank). one (test r.0)) (rank ∷ old) new permutation in
      let front = count-cons (λ (r : Reverse Rank). test r.0) rank old in
      let alone = count-cons test (rank_of entry stream) [] in
      let same : one (test rank.0) ≡ one (test (rank_of entry stream)) = ap (λ (r : Rank). one (test r)) is in
      omega (arith, moved, front, alone, same);
}

-- the last of a list
pub last_split : (xs : List ℕ) (n : ℕ) → slice_get xs (length xs - 1) ≡ Some n →
    xs ≡ take (length xs - 1) xs ++ n ∷ []
last_split [] n is = cc
last_split (x ∷ []) n is = cc
last_split (x ∷ y ∷ xs) n is = grind (arith, common_steps, last_split (y ∷ xs) n)

module _ (heads : List Head) (front : List ℕ) (last : Option (List ℕ)) (queue : List (Reverse Rank)) (n : ℕ)
    (queued : AreQueued heads (front ++ n ∷ []) last queue) where
  wanted_counted : (test : ℕ → Bool) → count_by test front + one (test n) ≡ count_by test (front ++ n ∷ [])
  wanted_counted test =
      let split = sum_by-append (λ m. one (test m)) front (n ∷ []) in
      let alone = count-cons test n [] in
      omega (arith, split, alone)

  -- the stream that is wanted has no head
  pub wanted_at : slice_get heads n ≡ Some None
  wanted_at =
      let counted = wanted_counted (λ m. m == n) in
      let itself : (n == n) ≡ true = grind (arith, nat_tests) in
      let here : one (n == n) ≡ 1 = ap one itself in
      let all = queued.wanting (λ m. m == n) in
      let at = headless_at 0 n heads (omega (arith, counted, here, all)) in
      let same : n ≡ at.0 = omega (arith, at.2) in
      ap (slice_get heads) same ∙ at.1

  -- and there is room for it in the queue
  pub room_queue : length queue < length heads
  room_queue =
      let all = counts_all 0 heads in
      let queue_all = queued.ranked (λ rank. true) in
      let wanted_all = queued.wanting (λ stream. true) in
      let queue_count = count_all queue in
      let counted = wanted_counted (λ stream. true) in
      omega (arith, all, queue_all, wanted_all, queue_count, counted)

  pub given_queued : (entry : Head) (more : List (Reverse Rank)) → IfSome entry (λ e. IsAbove last e.0) →
      QueuesHead n entry queue more →
      AreQueued (slice_set heads n entry) front last more
  given_queued entry more above queues = record {
    order = queues.order queued.order;
    ranked = λ test.
        let all = queued.ranked test in
        let given = ranks-set test 0 n n heads None entry wanted_at (omega arith) in
        let into = queues.ranked test in
        omega (arith, all, given, into);
    wanting = λ test.
        let all = queued.wanting test in
        let given = headless-set test 0 n n heads None entry wanted_at (omega arith) in
        let counted = wanted_counted test in
        let alone = count-cons test n [] in
        omega (arith, all, given, counted, alone);
    above = all-set (λ head. IfSome head (λ e. IsAbove last e.0)) heads n entry above queued.above;
  }
