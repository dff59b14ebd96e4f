-- How a set keeps its numbers: a bit for each, and two levels of bits above.
use Rattle.std.specs.Prelude.{◌≡◌, ℕ, ◌+◌, ◌/◌, ◌≤◌, ◌==◌, List, Bool, false, not, length, map, slice_index}
use Rattle.std.specs.List.{range_with_len}
use Rattle.spl_numbers.specs.declared.numbers.TheConstants.{LIMIT, WORDS}
use Rattle.spl_numbers.specs.Bits.{bit}
use Rattle.spl_numbers.specs.Numbers.{size_of}

unfoldable pub members_in : List ℕ → ℕ → List Bool
members_in members limit = map (bit members) (range_with_len 0 limit)

-- a bit of the upper level says whether a word of the lower one is not 0
abbrev pub Sums : List ℕ → List ℕ → Type 0
Sums lower upper = (word : ℕ) → bit upper word ≡ not (slice_index lower word == 0)

pub record AreLevels (members words groups : List ℕ) (limit count : ℕ) : Type 0 where
  pub within : limit ≤ LIMIT
  pub member_words : length members ≡ limit / 64 + 1
  pub word_words : length words ≡ WORDS
  pub group_words : length groups ≡ 1
  pub above : (number : ℕ) → limit ≤ number → bit members number ≡ false
  pub first : Sums members words
  pub second : Sums words groups
  pub counted : count ≡ size_of (members_in members limit)
