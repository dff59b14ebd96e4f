-- What the tests of a split tell: the pivot that leads to the child, and the split point.
use Rattle.std.proofs.Common.{◌≡◌, ℕ, zero, suc, ◌+◌, ◌<◌, Bool, true, false, ◌||◌, List, [], ◌∷◌, Option, Some, None, length, get_or, drop, refl, sym, ap, ◌∙◌, arith, length-drop, get_or-drop}
use Rattle.std.specs.List.{list_any}
use Rattle.std.proofs.lemmas.Bool.{false≢true, eqb-true}
use Rattle.std.proofs.lemmas.List.Quantifiers.{position-Some}
use Rattle.std.proofs.lemmas.Slice.Eq.{bytes_eq-Decides}
use Rattle.spl_holds.specs.declared.grip.Grip.{Grip}
use Rattle.spl_holds.specs.declared.grip.Grip.TheVariants.{Free, Read, Claim, Write}
use Rattle.spl_holds.specs.Grip.{is_write}
use Rattle.spl_message.specs.Span.{in_span}
use Rattle.spl_node.specs.declared.pivot.Pivot.{Pivot}
use Rattle.spl_node.specs.Node.{NodeData, bare, pivot_at, is_past}
use Rattle.spl_node.specs.Steps.{IsSplitAt, IsSplitKey}
use Rattle.spl_node.proofs.Starts.{first_of_both, second_of_both}
use Rattle.spl_trunk.specs.Trunk.{node_at, pivots_at}
use Rattle.spl_split.specs.Splitting.{is_to, pivot_to, is_at, is_split_at, is_split_key, CanDivide}

pub is_writing : (grip : Grip) → is_write grip ≡ true → grip ≡ Write
is_writing Write is = refl
is_writing Free is = absurd (false≢true is)
is_writing Read is = absurd (false≢true is)
is_writing Claim is = absurd (false≢true is)

leads : (child : ℕ) (o : Option ℕ) → is_to child o ≡ true → o ≡ Some child
leads child None is = absurd (false≢true is)
leads child (Some other) is = ap (λ (n : ℕ). Some n) (eqb-true other child is)

-- the pivot that is found leads to the child
pub pivot_found : (pivots : List Pivot) (child at : ℕ) → pivot_to pivots child ≡ Some at
    → (at < length pivots) × ((pivot_at pivots at).child ≡ Some child)
pivot_found pivots child at is =
    let found = position-Some (λ (pivot : Pivot). is_to child pivot.child) pivots at bare is in
    (found.0, leads child (pivot_at pivots at).child found.1)

starts : (key : List ℕ) (o : Option (List ℕ)) → is_at key o ≡ true → o ≡ Some key
starts key None is = absurd (false≢true is)
starts key (Some start) is = ap (λ (bytes : List ℕ). Some bytes) ((bytes_eq-Decides start key).0 is)

found_any : {X : Type 0} (p : X → Bool) (d : X) (xs : List X) → list_any p xs ≡ true
    → (i : ℕ) × (i < length xs) × (p (get_or xs i d) ≡ true)
found_any p d [] is = absurd (false≢true is)
found_any p d (x ∷ xs) is = by (p x) refl is (λ later. found_any p d xs later)
  where
    by : (b : Bool) → p x ≡ b → (b || list_any p xs) ≡ true
        → (list_any p xs ≡ true → (i : ℕ) × (i < length xs) × (p (get_or xs i d) ≡ true))
        → (i : ℕ) × (i < length (x ∷ xs)) × (p (get_or (x ∷ xs) i d) ≡ true)
    by true here is rest = (0, omega arith, here)
    by false here is rest = let later = rest is in (suc later.0, omega (arith, later.1), later.2)

split_at : (node : NodeData) (key : List ℕ) (height : ℕ) → is_split_at height node key ≡ true
    → IsSplitAt height node key
split_at node key zero is = (
  first_of_both (is_past node.range.from key) (in_span node.range key) is,
  second_of_both (is_past node.range.from key) (in_span node.range key) is,
)
split_at node key (suc height) is =
    let found = found_any (λ (pivot : Pivot). is_at key pivot.start) bare (drop 1 node.pivots) is in
    let there = get_or-drop 1 node.pivots found.0 bare in
    let long = length-drop 1 node.pivots in
    let start = starts key (get_or (drop 1 node.pivots) found.0 bare).start found.2 in (
      1 + found.0,
      omega arith,
      omega (arith, found.1),
      sym (ap (λ (pivot : Pivot). pivot.start) there)
          ∙ start,
    )

-- a key that passes is a split point
pub split_found : (node : NodeData) (key : List ℕ) → is_split_key node key ≡ true → IsSplitKey node key
split_found node key is = split_at node key node.height is

-- where all tests pass the child can be split
pub can_divide : (nodes : List NodeData) (parent at child : ℕ) (key : List ℕ) → parent < length nodes
    → pivot_to (pivots_at nodes parent) child ≡ Some at → is_split_key (node_at nodes child) key ≡ true
    → length (pivots_at nodes parent) < 16 → length nodes < 4096 → CanDivide nodes parent at child key
can_divide nodes parent at child key exists found split few room =
    let pivot = pivot_found (pivots_at nodes parent) child at found in
    record {
      exists = exists;
      within = pivot.0;
      leads = pivot.1;
      split = split_found
          (node_at nodes child) key split;
      pivots = few;
      room = room;
    }
