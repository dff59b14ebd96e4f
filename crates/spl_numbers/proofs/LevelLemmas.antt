-- What a change of one number leaves of a set's levels.
use Rattle.std.proofs.Common.{◌≡◌, ◌≢◌, ℕ, ◌+◌, ◌-◌, ◌*◌, ◌^◌, ◌/◌, ◌%◌, ◌<◌, ◌≤◌, List, length, get_or, set, slice_get, replicate, Some, Bool, true, false, eqb, not, w64, refl, ⊎_elim, ap, sym, ◌∙◌, arith}
use Rattle.std.specs.Int.{trailing_zeros}
use Rattle.std.proofs.lemmas.List.{length-set, get_or-set_same, get_or-set_other, get_or_past, get_or_default, same_lists, length-replicate, get_or-replicate}
use Rattle.std.proofs.lemmas.List.FromFn.{length-map-range_with_len, get_or-map-range_with_len}
use Rattle.std.proofs.lemmas.List.Sums.{sum_by-set, count_by-le-length}
use Rattle.std.proofs.lemmas.List.Folds.{sum_by-replicate}
use Rattle.std.proofs.lemmas.Option.{slice_get-get_or, slice_get_within, get_or_from_slice_get}
use Rattle.std.proofs.lemmas.Bool.{cases_eq, cases_lt, true≢false}
use Rattle.std.proofs.lemmas.Bool.Decides.{nat_tests}
use Rattle.spl_numbers.specs.declared.numbers.TheConstants.{LIMIT, WORDS}
use Rattle.spl_numbers.specs.Bits.{bit, ChangesBit}
use Rattle.spl_numbers.specs.Numbers.{has, size_of, one_if}
use Rattle.spl_numbers.specs.Levels.{members_in, Sums, AreLevels}
use Rattle.spl_numbers.proofs.BitLemmas.{bit_of_zero, bit-zeros, bit_lowest, word_within, zero_at}

pub length-members_in : (members : List ℕ) (limit : ℕ) → length (members_in members limit) ≡ limit
unfolding members_in
length-members_in members limit = length-map-range_with_len (bit members) 0 limit

pub get_or-members_in : (members : List ℕ) (limit number : ℕ) (d : Bool) → number < limit → get_or (members_in members limit) number d ≡ bit members number
unfolding members_in
get_or-members_in members limit number d within = get_or-map-range_with_len (bit members) 0 limit number number d within (omega arith)

-- the numbers beyond the limit have no bit
pub has-members_in : (members words groups : List ℕ) (limit count number : ℕ) → AreLevels members words groups limit count → has (members_in members limit) number ≡ bit members number
has-members_in members words groups limit count number h =
    ⊎_elim
    (λ within. get_or-members_in members limit number false within)
    (λ past. get_or_past (members_in members limit) number false (omega (arith, length-members_in members limit)) ∙ sym (h.above number past))
    (cases_lt number limit)

pub number_within : (members : List ℕ) (limit number : ℕ) (was : Bool) → slice_get (members_in members limit) number ≡ Some was → number < limit
number_within members limit number was had =
    omega (arith, slice_get_within (members_in members limit) number was had, length-members_in members limit)

pub bit_from_had : (members : List ℕ) (limit number : ℕ) (was : Bool) → slice_get (members_in members limit) number ≡ Some was → bit members number ≡ was
bit_from_had members limit number was had =
    sym (get_or-members_in members limit number false (number_within members limit number was had)) ∙ get_or_from_slice_get (members_in members limit) number was false had

pub members_in-set : (old new : List ℕ) (limit number : ℕ) (now : Bool) → ChangesBit old new number now → number < limit → members_in new limit ≡ set (members_in old limit) number now
members_in-set old new limit number now h within =
    same_lists _ _ (length-members_in new limit ∙ sym (length-members_in old limit) ∙ sym (length-set (members_in old limit) number now))
    (λ other d among.
    let below : other < limit = omega (arith, length-members_in new limit) in
    get_or-members_in new limit other d below
    ∙ ⊎_elim
    (λ (same : other ≡ number).
    ap (bit new) same ∙ h.this_bit ∙ sym (get_or-set_same (members_in old limit) number now d (omega (arith, length-members_in old limit))) ∙ ap (λ k. get_or (set (members_in old limit) number now) k d) (sym same))
    (λ apart. h.other_bits other apart ∙ sym (get_or-members_in old limit other d below) ∙ sym (get_or-set_other (members_in old limit) number other now d apart))
    (cases_eq other number))

pub size_of-set : (members : List Bool) (number : ℕ) (was now : Bool) → slice_get members number ≡ Some was → size_of (set members number now) + one_if was ≡ size_of members + one_if now
size_of-set members number was now had =
    rw (get_or_from_slice_get members number was was had) at (sum_by-set one_if members number now was (slice_get_within members number was had))

pub size_of-some : (members : List Bool) (number : ℕ) → slice_get members number ≡ Some true → 0 < size_of members
size_of-some members number had = omega (arith, size_of-set members number true false had)

nonzero : (n : ℕ) → n ≢ 0 → not (eqb n 0) ≡ true
nonzero n some = grind (arith, nat_tests)

nonzero_from : (n : ℕ) → not (eqb n 0) ≡ true → n ≢ 0
nonzero_from n test zero = grind (arith, nat_tests)

some_word : (words : List ℕ) (at : ℕ) → bit words at ≡ true → get_or words (at / 64) 0 ≢ 0
some_word words at here zero = true≢false (sym here ∙ bit_of_zero words at zero)

pub lower_word : (lower upper : List ℕ) (word : ℕ) → Sums lower upper → bit upper word ≡ true → get_or lower word 0 ≢ 0
lower_word lower upper word h here = nonzero_from (get_or lower word 0) (sym (h word) ∙ here)

-- a level where no bit is set is over one where none is
pub no_bits : (lower upper : List ℕ) → Sums lower upper → ((word : ℕ) → bit upper word ≡ false) → (at : ℕ) → bit lower at ≡ false
no_bits lower upper h none at =
    bit_of_zero lower at (zero_from (get_or lower (at / 64) 0) (sym (h (at / 64)) ∙ none (at / 64)))
  where
    zero_from : (n : ℕ) → not (eqb n 0) ≡ false → n ≡ 0
    zero_from n test = grind (arith, nat_tests)

pub Sums-set : (lower lower' upper upper' : List ℕ) (at : ℕ) → Sums lower upper → ChangesBit lower lower' at true → ChangesBit upper upper' (at / 64) true → Sums lower' upper'
Sums-set lower lower' upper upper' at h low up = λ word.
    ⊎_elim
    (λ (same : word ≡ at / 64). rw same (up.this_bit ∙ sym (nonzero _ (some_word lower' at low.this_bit))))
    (λ apart. up.other_bits word apart ∙ h word ∙ ap (λ w. not (eqb w 0)) (sym (low.other_words word apart)))
    (cases_eq word (at / 64))

pub Sums-clear : (lower lower' upper upper' : List ℕ) (at : ℕ) → Sums lower upper → ChangesBit lower lower' at false → get_or lower' (at / 64) 0 ≡ 0 → ChangesBit upper upper' (at / 64) false → Sums lower' upper'
Sums-clear lower lower' upper upper' at h low zero up = λ word.
    ⊎_elim
    (λ (same : word ≡ at / 64). rw (same, zero) up.this_bit)
    (λ apart. up.other_bits word apart ∙ h word ∙ ap (λ w. not (eqb w 0)) (sym (low.other_words word apart)))
    (cases_eq word (at / 64))

pub Sums-keep : (lower lower' upper : List ℕ) (at : ℕ) → Sums lower upper → bit lower at ≡ true → ChangesBit lower lower' at false → get_or lower' (at / 64) 0 ≢ 0 → Sums lower' upper
Sums-keep lower lower' upper at h had low some = λ word.
    ⊎_elim
    (λ (same : word ≡ at / 64). rw same (h (at / 64) ∙ nonzero _ (some_word lower at had) ∙ sym (nonzero _ some)))
    (λ apart. h word ∙ ap (λ w. not (eqb w 0)) (sym (low.other_words word apart)))
    (cases_eq word (at / 64))

-- the upper bit of a word that has a bit
pub upper_bit : (lower upper : List ℕ) (at : ℕ) → Sums lower upper → bit lower at ≡ true → bit upper (at / 64) ≡ true
upper_bit lower upper at h had = h (at / 64) ∙ nonzero _ (some_word lower at had)

pub above-set : (old new : List ℕ) (limit number : ℕ) (now : Bool) → ChangesBit old new number now → number < limit → ((other : ℕ) → limit ≤ other → bit old other ≡ false) → (other : ℕ) → limit ≤ other → bit new other ≡ false
above-set old new limit number now h within above = λ other past. h.other_bits other (omega arith) ∙ above other past

pub members_in-none : (members : List ℕ) (limit : ℕ) → ((number : ℕ) → bit members number ≡ false) → members_in members limit ≡ replicate limit false
members_in-none members limit none =
    same_lists _ _ (length-members_in members limit ∙ sym (length-replicate limit false))
    (λ k d among.
    let below : k < limit = omega (arith, length-members_in members limit) in
    get_or-members_in members limit k d below ∙ none k ∙ sym (get_or-replicate limit k false d below))

pub size_of-none : (limit : ℕ) → size_of (replicate limit false) ≡ 0
size_of-none limit = omega (arith, sum_by-replicate one_if limit false)

pub AreLevels-new : (limit : ℕ) → limit ≤ LIMIT → AreLevels (replicate (limit / 64 + 1) 0) (replicate WORDS 0) (replicate 1 0) limit 0
AreLevels-new limit within =
    record {
      within = within;
      member_words = length-replicate {A = ℕ} (limit / 64 + 1) 0;
      word_words = length-replicate {A = ℕ} WORDS 0;
      group_words = length-replicate {A = ℕ} 1 0;
      above = λ number past. bit-zeros (limit / 64 + 1) number;
      first = sums (limit / 64 + 1) WORDS;
      second = sums WORDS 1;
      counted = rw (members_in-none (replicate (limit / 64 + 1) 0) limit (bit-zeros (limit / 64 + 1))) (sym (size_of-none limit));
    }
  where
    sums : (n m : ℕ) → Sums (replicate n 0) (replicate m 0)
    sums n m = λ word. rw (zero_at n word) (bit-zeros m word)

-- a number is added
pub AreLevels-insert : (members members' words words' groups groups' : List ℕ) (limit count number : ℕ) → AreLevels members words groups limit count → slice_get (members_in members limit) number ≡ Some false → ChangesBit members members' number true → ChangesBit words words' (number / 64) true → ChangesBit groups groups' (number / 64 / 64) true → AreLevels members' words' groups' limit (count + 1)
AreLevels-insert members members' words words' groups groups' limit count number h had low mid top =
    let within = number_within members limit number false had in
    record {
      within = h.within;
      member_words = low.words ∙ h.member_words;
      word_words = mid.words ∙ h.word_words;
      group_words = top.words ∙ h.group_words;
      above = above-set members members' limit number true low within h.above;
      first = Sums-set members members' words words' number h.first low mid;
      second = Sums-set words words' groups groups' (number / 64) h.second mid top;
      counted = rw (members_in-set members members' limit number true low within) (omega (arith, h.counted, size_of-set (members_in members limit) number false true had));
    }

-- what removing a number does to the upper levels: nothing where its word keeps a bit
pub data Cleared (members words words' groups groups' : List ℕ) (number : ℕ) : Type 0 where
  Kept : get_or members (number / 64) 0 ≢ 0 → words' ≡ words → groups' ≡ groups → Cleared members words words' groups groups' number
  Word : get_or members (number / 64) 0 ≡ 0 → ChangesBit words words' (number / 64) false → get_or words' (number / 64 / 64) 0 ≢ 0 → groups' ≡ groups → Cleared members words words' groups groups' number
  Group : get_or members (number / 64) 0 ≡ 0 → ChangesBit words words' (number / 64) false → get_or words' (number / 64 / 64) 0 ≡ 0 → ChangesBit groups groups' (number / 64 / 64) false → Cleared members words words' groups groups' number

pub AreLevels-remove : (members members' words words' groups groups' : List ℕ) (limit count number : ℕ) → AreLevels members words groups limit count → slice_get (members_in members limit) number ≡ Some true → ChangesBit members members' number false → Cleared members' words words' groups groups' number → AreLevels members' words' groups' limit (count - 1)
AreLevels-remove members members' words words' groups groups' limit count number h had low cleared =
    let within = number_within members limit number true had in
    let here = bit_from_had members limit number true had in
    let upper = upper_bit members words number h.first here in
    let size = size_of-set (members_in members limit) number true false had in
    let counted : count - 1 ≡ size_of (members_in members' limit) = rw (members_in-set members members' limit number false low within) (omega (arith, h.counted, size)) in
    let above = above-set members members' limit number false low within h.above in
    elim cleared [
      | Kept some words_are groups_are ↦ rw (words_are, groups_are) record {
        within = h.within;
        member_words = low.words ∙ h.member_words;
        word_words = h.word_words;
        group_words = h.group_words;
        above = above;
        first = Sums-keep members members' words number h.first here low some;
        second = h.second;
        counted = counted;
      }
      | Word zero mid some groups_are ↦ rw groups_are record {
        within = h.within;
        member_words = low.words ∙ h.member_words;
        word_words = mid.words ∙ h.word_words;
        group_words = h.group_words;
        above = above;
        first = Sums-clear members members' words words' number h.first low zero mid;
        second = Sums-keep words words' groups (number / 64) h.second upper mid some;
        counted = counted;
      }
      | Group zero mid none top ↦ record {
        within = h.within;
        member_words = low.words ∙ h.member_words;
        word_words = mid.words ∙ h.word_words;
        group_words = top.words ∙ h.group_words;
        above = above;
        first = Sums-clear members members' words words' number h.first low zero mid;
        second = Sums-clear words words' groups groups' (number / 64) h.second mid none top;
        counted = counted;
      }
    ]

-- the place of a number is in each level
pub places : (members words groups : List ℕ) (limit count number : ℕ) (was : Bool) → AreLevels members words groups limit count → slice_get (members_in members limit) number ≡ Some was → (number / 64 < length members) × (number / 64 / 64 < length words) × (number / 64 / 64 / 64 < length groups)
places members words groups limit count number was h had =
    let within = number_within members limit number was had in
    let members_are = h.member_words in
    let words_are = h.word_words in
    let groups_are = h.group_words in
    let below = h.within in
    (omega arith, omega arith, omega arith)

pub count_fits : (members words groups : List ℕ) (limit count : ℕ) → AreLevels members words groups limit count → count ≤ LIMIT
count_fits members words groups limit count h =
    omega (arith, h.counted, h.within, count_by-le-length (λ member. member) (members_in members limit), length-members_in members limit)

-- a word under a bit is one of the words, and its lowest bit is a bit of its level
pub next_within : (lower upper : List ℕ) (at : ℕ) → Sums lower upper → bit upper at ≡ true → at < length lower
next_within lower upper at h here = word_within lower at (lower_word lower upper at h here)

pub next_bit : (lower upper : List ℕ) (at word : ℕ) → Sums lower upper → bit upper at ≡ true → word ≡ get_or lower at word → word < 2 ^ 64 → bit lower (at * 64 + trailing_zeros w64 word) ≡ true
next_bit lower upper at word h here read fits =
    let is : get_or lower at 0 ≡ word = get_or_default lower at 0 word (next_within lower upper at h here) ∙ sym read in
    bit_lowest lower at (at * 64 + trailing_zeros w64 word) (lower_word lower upper at h here) (rw is fits) (rw is refl)

pub top_bit : (groups : List ℕ) (top : ℕ) → length groups ≡ 1 → top ≡ get_or groups 0 top → top ≢ 0 → top < 2 ^ 64 → bit groups (trailing_zeros w64 top) ≡ true
top_bit groups top one read some fits =
    let is : get_or groups 0 0 ≡ top = get_or_default groups 0 0 top (omega arith) ∙ sym read in
    bit_lowest groups 0 (trailing_zeros w64 top) (rw is some) (rw is fits) (rw is (omega arith))

pub member_from_bit : (members words groups : List ℕ) (limit count number : ℕ) → AreLevels members words groups limit count → bit members number ≡ true → slice_get (members_in members limit) number ≡ Some true
member_from_bit members words groups limit count number h here =
    let within : number < limit =
    ⊎_elim (λ below. below) (λ past. absurd (true≢false (sym here ∙ h.above number past))) (cases_lt number limit) in
    slice_get-get_or (members_in members limit) number false (omega (arith, length-members_in members limit))
    ∙ ap Some (get_or-members_in members limit number false within ∙ here)

pub none_where_no_group : (members words groups : List ℕ) (limit count : ℕ) → AreLevels members words groups limit count → get_or groups 0 0 ≡ 0 → size_of (members_in members limit) ≡ 0
none_where_no_group members words groups limit count h zero =
    let top : (at : ℕ) → bit groups at ≡ false =
    λ at. bit_of_zero groups at (⊎_elim (λ (first : at / 64 < 1). rw (zero_below (at / 64) first) zero) (λ past. get_or_past groups (at / 64) 0 (omega (arith, h.group_words))) (cases_lt (at / 64) 1)) in
    let none = no_bits members words h.first (no_bits words groups h.second top) in
    rw (members_in-none members limit none) (size_of-none limit)
  where
    zero_below : (n : ℕ) → n < 1 → n ≡ 0
    zero_below n below = omega arith
