-- The values that a list of messages leaves in a span, in the order of the keys.
use Rattle.std.proofs.Common.{◌≡◌, ℕ, Bool, true, false, cond, List, [], ◌∷◌, ◌++◌, append_assoc, append-nil, Some, None, Ordering, refl, sym, ap, subst, ◌∙◌}
use Rattle.std.proofs.lemmas.Map.Keys.{sorted_head, sorted_tail}
use Rattle.std.proofs.lemmas.Map.Lookups.{exact_bytes}
use Rattle.std.specs.BTreeMap.{is_at}
use Rattle.std.specs.Cmp.Lexicographic.{slice_cmp}
use Rattle.std.specs.declared.cmp.Ordering.TheVariants.{Less, Equal, Greater}
use Rattle.std.specs.List.{AllByRecursion}
use Rattle.std.specs.List.Sorted.{IsStrictlySortedBy}
use Rattle.std.specs.Map.{keys_of}
use Rattle.std.specs.Ordering.{nat_cmp, is_eq}
use Rattle.spl_message.specs.declared.message.Message.{Message}
use Rattle.spl_message.specs.declared.span.Span.{Span}
use Rattle.spl_message.specs.Cell.{Cell}
use Rattle.spl_message.specs.Entries.{Entries, AreEntries, message_in}
use Rattle.spl_message.specs.Message.{settle}
use Rattle.spl_message.specs.Pairs.{AreInOrder, value_in}
use Rattle.spl_message.specs.Rule.{Rule}
use Rattle.spl_message.specs.Span.{InSpan, in_span}
use Rattle.spl_range.specs.Pieces.{AreValues, living_of}
use Rattle.spl_range.proofs.Adding.{here}

-- pairs, the first one first
abbrev pub Values : Type 0
Values = List (List ℕ × List ℕ)

-- the pairs with one of the key before them, where it has a value
abbrev pub with_value : List ℕ → Cell → Values → Values
with_value key None rest = rest
with_value key (Some value) rest = (key, value) ∷ rest

module _ (rule : Rule) (span : Span) where
  abbrev pub living : Entries → Values
  living [] = []
  living (entry ∷ entries) = with_value entry.0 (living_of rule span entry) (living entries)

  above_with : (key at : List ℕ) (cell : Cell) (pairs : Values) → slice_cmp nat_cmp key at ≡ Less → AllByRecursion (λ k. slice_cmp nat_cmp key k ≡ Less) (keys_of pairs) → AllByRecursion (λ k. slice_cmp nat_cmp key k ≡ Less) (keys_of (with_value at cell pairs))
  above_with key at None pairs first above = above
  above_with key at (Some value) pairs first above = (first, above)

  all_above : (key : List ℕ) (entries : Entries) → AllByRecursion (λ k. slice_cmp nat_cmp key k ≡ Less) (keys_of entries) → AllByRecursion (λ k. slice_cmp nat_cmp key k ≡ Less) (keys_of (living entries))
  all_above key [] above = tt
  all_above key (entry ∷ entries) above = above_with key entry.0 (living_of rule span entry) (living entries) above.0 (all_above key entries above.1)

  order_with : (key : List ℕ) (cell : Cell) (pairs : Values) → AllByRecursion (λ k. slice_cmp nat_cmp key k ≡ Less) (keys_of pairs) → AreInOrder pairs → AreInOrder (with_value key cell pairs)
  unfolding IsStrictlySortedBy
  order_with key None pairs above order = order
  order_with key (Some value) pairs above order = (above, order)

  pub in_order : (entries : Entries) → AreEntries entries → AreInOrder (living entries)
  unfolding IsStrictlySortedBy
  in_order [] order = tt
  in_order (entry ∷ entries) order = order_with entry.0 (living_of rule span entry) (living entries) (all_above entry.0 entries order.0) (in_order entries order.1)

  inside_with : (key : List ℕ) (cell : Cell) (pairs : Values) → AllByRecursion (λ pair. in_span span pair.0 ≡ true) pairs → in_span span key ≡ true → AllByRecursion (λ pair. in_span span pair.0 ≡ true) (with_value key cell pairs)
  inside_with key None pairs others is = others
  inside_with key (Some value) pairs others is = (is, others)

  inside_by : (entry : List ℕ × Message) (pairs : Values) (b : Bool) → in_span span entry.0 ≡ b → AllByRecursion (λ pair. in_span span pair.0 ≡ true) pairs → AllByRecursion (λ pair. in_span span pair.0 ≡ true) (with_value entry.0 (living_of rule span entry) pairs)
  inside_by entry pairs true is others = inside_with entry.0 (living_of rule span entry) pairs others is
  inside_by entry pairs false is others =
      subst (λ (cell : Cell). AllByRecursion (λ pair. in_span span pair.0 ≡ true) (with_value entry.0 cell pairs))
      (sym (ap (λ b. cond b (settle rule entry.0 (Some entry.1)) None) is)) others

  -- only a key of the span has a value
  pub inside : (entries : Entries) → AllByRecursion (λ pair. in_span span pair.0 ≡ true) (living entries)
  inside [] = tt
  inside (entry ∷ entries) = inside_by entry (living entries) (in_span span entry.0) refl (inside entries)

  missing : (key : List ℕ) (pairs : Values) → AllByRecursion (λ k. slice_cmp nat_cmp key k ≡ Less) (keys_of pairs) → value_in pairs key ≡ None
  missing key [] above = refl
  missing key (pair ∷ pairs) above = ap (λ b. cond b (Some pair.1) (value_in pairs key)) (ap is_eq above.0) ∙ missing key pairs above.1

  -- the value that the entries leave for the key
  abbrev left_at : Entries → List ℕ → Cell
  left_at entries key = cond (in_span span key) (settle rule key (message_in entries key)) None

  module _ (entry : List ℕ × Message) (entries : Entries) where
    -- an entry of another key changes nothing
    elsewhere : (key : List ℕ) → is_at (slice_cmp nat_cmp key) entry.0 ≡ false → value_in (living entries) key ≡ left_at entries key → value_in (living (entry ∷ entries)) key ≡ left_at (entry ∷ entries) key
    elsewhere key is rest =
        by (living_of rule span entry)
        ∙ rest
        ∙ sym (ap (λ b. cond (in_span span key) (settle rule key (cond b (Some entry.1) (message_in entries key))) None) is)
      where
        by : (cell : Cell) → value_in (with_value entry.0 cell (living entries)) key ≡ value_in (living entries) key
        by None = refl
        by (Some value) = ap (λ b. cond b (Some value) (value_in (living entries) key)) is

    at_entry : AllByRecursion (λ k. slice_cmp nat_cmp entry.0 k ≡ Less) (keys_of entries) → value_in (living (entry ∷ entries)) entry.0 ≡ left_at (entry ∷ entries) entry.0
    at_entry above =
        by (living_of rule span entry)
        ∙ sym (ap (λ b. cond (in_span span entry.0) (settle rule entry.0 (cond b (Some entry.1) (message_in entries entry.0))) None) (here entry.0))
      where
        by : (cell : Cell) → value_in (with_value entry.0 cell (living entries)) entry.0 ≡ cell
        by None = missing entry.0 (living entries) (all_above entry.0 entries above)
        by (Some value) = ap (λ b. cond b (Some value) (value_in (living entries) entry.0)) (here entry.0)

  none_at : (key : List ℕ) (b : Bool) → None ≡ cond b (settle rule key None) None
  none_at key true = refl
  none_at key false = refl

  values_by : (entry : List ℕ × Message) (entries : Entries) (key : List ℕ) (o : Ordering) → slice_cmp nat_cmp key entry.0 ≡ o → AllByRecursion (λ k. slice_cmp nat_cmp entry.0 k ≡ Less) (keys_of entries)
      → value_in (living entries) key ≡ left_at entries key → value_in (living (entry ∷ entries)) key ≡ left_at (entry ∷ entries) key
  values_by entry entries key Less is above rest = elsewhere entry entries key (ap is_eq is) rest
  values_by entry entries key Greater is above rest = elsewhere entry entries key (ap is_eq is) rest
  values_by entry entries key Equal is above rest =
      subst (λ (k : List ℕ). value_in (living (entry ∷ entries)) k ≡ left_at (entry ∷ entries) k) (sym (exact_bytes key entry.0 is)) (at_entry entry entries above)

  values : (entries : Entries) → AreEntries entries → (key : List ℕ) → value_in (living entries) key ≡ left_at entries key
  values [] order key = none_at key (in_span span key)
  values (entry ∷ entries) order key =
      values_by entry entries key (slice_cmp nat_cmp key entry.0) refl (sorted_head (slice_cmp nat_cmp) entry.0 (keys_of entries) order)
      (values entries (sorted_tail (slice_cmp nat_cmp) entry.0 (keys_of entries) order) key)

  -- a value more, or none
  pub living_some : (key value : List ℕ) (message : Message) (rest : Entries) (pairs : Values) → Some value ≡ living_of rule span (key, message)
      → (pairs ++ (key, value) ∷ []) ++ living rest ≡ pairs ++ living ((key, message) ∷ rest)
  living_some key value message rest pairs is =
      append_assoc pairs ((key, value) ∷ []) (living rest) ∙ ap (λ (cell : Cell). pairs ++ with_value key cell (living rest)) is

  pub living_none : (key : List ℕ) (message : Message) (rest : Entries) (pairs : Values) → None ≡ living_of rule span (key, message)
      → pairs ++ living rest ≡ pairs ++ living ((key, message) ∷ rest)
  living_none key message rest pairs is = ap (λ (cell : Cell). pairs ++ with_value key cell (living rest)) is

  -- at the end
  pub living_all : (pairs : Values) (rest all : Entries) → rest ≡ [] → pairs ++ living rest ≡ living all → pairs ≡ living all
  living_all pairs rest all none is = sym (append-nil pairs) ∙ ap (λ (es : Entries). pairs ++ living es) (sym none) ∙ is

  pub are_values : (entries : Entries) (pairs : Values) → AreEntries entries → pairs ≡ living entries → AreValues span (λ key. settle rule key (message_in entries key)) pairs
  are_values entries pairs order is = rw is (record { inside = inside entries; values = values entries order })

-- the same values, where the cells of the span's keys are the same
pub same_values : (span : Span) (cells others : List ℕ → Cell) (pairs : Values) → AreValues span cells pairs → ((key : List ℕ) → InSpan span key → cells key ≡ others key) → AreValues span others pairs
same_values span cells others pairs are same = record { inside = are.inside; values = λ key. are.values key ∙ by key (in_span span key) refl }
  where
    by : (key : List ℕ) (b : Bool) → in_span span key ≡ b → cond b (cells key) None ≡ cond b (others key) None
    by key true is = same key is
    by key false is = refl
