-- Keys with their values.
use Rattle.std.specs.Prelude.{ℕ, Bool, List, nat_eq}
use Rattle.std.specs.BTreeMap.{is_at}
use Rattle.std.specs.Cmp.{IsEquivalence, and_equiv, on_equiv}
use Rattle.std.specs.Cmp.Lexicographic.{pointwise, slice_cmp, nat_list_eq_equiv}
use Rattle.std.specs.Map.{keys_of, lookup}
use Rattle.std.specs.Ordering.{nat_cmp, eq_of_both, on}
use Rattle.spl_message.specs.Cell.{Cell}
use Rattle.spl_message.specs.Key.{AreRising}

-- the pairs stand in the order of their keys, and no key has two
abbrev pub AreInOrder : List (List ℕ × List ℕ) → Type 0
AreInOrder pairs = AreRising (keys_of pairs)

-- the value of a key, where it has one
abbrev pub value_in : List (List ℕ × List ℕ) → List ℕ → Cell
value_in pairs key = lookup (is_at (slice_cmp nat_cmp key)) pairs

-- two pairs are one if they have the same bytes
abbrev pub same_pair : List ℕ × List ℕ → List ℕ × List ℕ → Bool
same_pair = eq_of_both (on (λ pair. pair.0) (pointwise nat_eq)) (on (λ pair. pair.1) (pointwise nat_eq))

pub same_pair-equiv : IsEquivalence same_pair
same_pair-equiv = and_equiv (on_equiv (λ (pair : List ℕ × List ℕ). pair.0) nat_list_eq_equiv) (on_equiv (λ (pair : List ℕ × List ℕ). pair.1) nat_list_eq_equiv)
