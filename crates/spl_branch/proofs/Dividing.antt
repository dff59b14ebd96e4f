-- The entries under a page on the way down to a key: what stands before them in the branch is below the key, and what stands behind
-- them is above it.
use Rattle.std.proofs.Common.{◌≡◌, ℕ, Bool, true, false, cond, List, [], ◌∷◌, ◌++◌, Option, Some, None, ◌⊎◌, inl, inr, refl, sym, ap, ◌∙◌, subst, append_assoc, append-nil}
use Rattle.std.specs.Cmp.Lexicographic.{slice_cmp}
use Rattle.std.specs.List.{AllByRecursion}
use Rattle.std.specs.Map.{keys_of}
use Rattle.std.specs.Option.{IsSomeAnd}
use Rattle.std.specs.Ordering.{nat_cmp, is_lt}
use Rattle.std.specs.declared.cmp.Ordering.TheVariants.{Less}
use Rattle.std.proofs.lemmas.List.{map-append}
use Rattle.std.proofs.lemmas.Map.Keys.{sorted_head, sorted_tail}
use Rattle.spl_message.specs.Entries.{AreEntries, Entries}
use Rattle.spl_message.specs.Key.{is_below}
use Rattle.spl_message.proofs.Spans.{below_from, below_trans}
use Rattle.spl_port.specs.Page.{IndexRow}
use Rattle.spl_page.specs.Tables.{child_for, later}
use Rattle.spl_branch.specs.Tree.{first_key}
use Rattle.spl_branch.proofs.Descent.{HasFirst, all_under, first_under, not_below_first}
use Rattle.spl_branch.proofs.GrowingLists.{all_append, all_weaker}
use Rattle.spl_branch.proofs.GrowingTable.{table_back}
use Rattle.spl_branch.proofs.Joined.{all_first}

-- all keys are below the key, and above it
abbrev pub AreLower : List ℕ → Entries → Type 0
AreLower key entries = AllByRecursion (λ other. is_below other key ≡ true) (keys_of entries)

abbrev pub AreHigher : List ℕ → Entries → Type 0
AreHigher key entries = AllByRecursion (λ other. is_below key other ≡ true) (keys_of entries)

-- the first key is not above the key
abbrev pub StartsBelow : List ℕ → Entries → Type 0
StartsBelow key entries = IsSomeAnd (first_key entries) (λ first. is_below key first ≡ false)

-- of these entries, some stand in this part, those before it are below the key, and those behind it above
pub record IsDivided (all part : Entries) (key : List ℕ) : Type 0 where
  pub front : Entries
  pub back : Entries
  pub are : all ≡ front ++ (part ++ back)
  pub lower : AreLower key front
  pub higher : AreHigher key back
  pub first : (front ≡ []) ⊎ StartsBelow key part

pub divided_whole : (all : Entries) (key : List ℕ) → IsDivided all all key
divided_whole all key = record { front = []; back = []; are = sym (append-nil all); lower = tt; higher = tt; first = inl refl }

pub both_append : (P : List ℕ → Type 0) (first second : Entries) → AllByRecursion P (keys_of first) → AllByRecursion P (keys_of second) → AllByRecursion P (keys_of (first ++ second))
both_append P first second all more =
    subst (AllByRecursion P) (sym (map-append (λ entry. entry.0) first second)) (all_append P (keys_of first) (keys_of second) all more)

-- a part of a part
pub divided_on : (all part inner : Entries) (key : List ℕ) → IsDivided all part key → IsDivided part inner key → StartsBelow key inner → IsDivided all inner key
divided_on all part inner key outer d first = record {
  front = outer.front ++ d.front;
  back = d.back ++ outer.back;
  are =
      outer.are
      ∙ ap (λ part. outer.front ++ (part ++ outer.back)) d.are
      ∙ ap (λ rest. outer.front ++ rest) (append_assoc d.front (inner ++ d.back) outer.back ∙ ap (λ rest. d.front ++ rest) (append_assoc inner d.back outer.back))
      ∙ sym (append_assoc outer.front d.front (inner ++ (d.back ++ outer.back)));
  lower = both_append (λ other. is_below other key ≡ true) outer.front d.front outer.lower d.lower;
  higher = both_append (λ other. is_below key other ≡ true) d.back outer.back d.higher outer.higher;
  first = inr first;
}

-- ---- tables that are one table

-- what stands before a key that is not above the key
before_first : (first second : Entries) (further key : List ℕ) → AreEntries (first ++ second) → first_key second ≡ Some further → is_below key further ≡ false → AreLower key first
before_first [] second further key is at above = tt
before_first (entry ∷ first) second further key is at above =
    let less = all_first (λ other. slice_cmp nat_cmp entry.0 other ≡ Less) first second further (sorted_head (slice_cmp nat_cmp) entry.0 (keys_of (first ++ second)) is) at in (
      below_from entry.0 further key (ap is_lt less) above,
      before_first first second further key (sorted_tail (slice_cmp nat_cmp) entry.0 (keys_of (first ++ second)) is) at above,
    )

-- what stands from a key on that is above the key
from_first : (table : Entries) (first key : List ℕ) → AreEntries table → first_key table ≡ Some first → is_below key first ≡ true → AreHigher key table
from_first [] first key is at below = tt
from_first (entry ∷ table) first key is at below =
    let same : entry.0 ≡ first = cc in
    let here : is_below key entry.0 ≡ true = ap (is_below key) same ∙ below in (
      here,
      all_weaker (λ other. slice_cmp nat_cmp entry.0 other ≡ Less) (λ other. is_below key other ≡ true) (keys_of table)
          (λ other less. below_trans key entry.0 other here (ap is_lt less))
          (sorted_head (slice_cmp nat_cmp) entry.0 (keys_of table) is),
    )

none_first : (below : Bool) (child : ℕ) → cond below None (Some child) ≡ None → below ≡ true
none_first true child is = refl
none_first false child is = absurd cc

some_and_at : (o : Option (List ℕ)) (key first : List ℕ) → o ≡ Some first → is_below key first ≡ false → IsSomeAnd o (λ first. is_below key first ≡ false)
some_and_at None key first is above = absurd cc
some_and_at (Some other) key first is above = let same : other ≡ first = cc in ap (is_below key) same ∙ above

module _ (under : ℕ → Entries) (key : List ℕ) where
  -- no child begins at the key or below it
  pub all_higher : (rows : List IndexRow) → AllByRecursion (HasFirst under) rows → AreEntries (all_under under rows) → child_for rows key ≡ None → AreHigher key (all_under under rows)
  all_higher [] has is none = tt
  all_higher (row ∷ rows) has is none =
      from_first (all_under under (row ∷ rows)) row.key key is (first_under under row rows has.0) (none_first (is_below key row.key) (later (child_for rows key) row.child) none)

  -- the table under the child begins at the key or below it
  starts_step : (row : IndexRow) (below : Bool) (found : Option ℕ) (child : ℕ) → HasFirst under row → is_below key row.key ≡ below
      → ((further : ℕ) → found ≡ Some further → StartsBelow key (under further)) → cond below None (Some (later found row.child)) ≡ Some child → StartsBelow key (under child)
  starts_step row true found child has is more named = absurd cc
  starts_step row false None child has is more named =
      let same : row.child ≡ child = cc in
      subst (λ (child : ℕ). StartsBelow key (under child)) same (some_and_at (first_key (under row.child)) key row.key has is)
  starts_step row false (Some further) child has is more named =
      let same : further ≡ child = cc in
      more child (ap Some same)

  pub starts_below : (rows : List IndexRow) (child : ℕ) → AllByRecursion (HasFirst under) rows → child_for rows key ≡ Some child → StartsBelow key (under child)
  starts_below [] child has is = absurd cc
  starts_below (row ∷ rows) child has is =
      starts_step row (is_below key row.key) (child_for rows key) child has.0 refl (λ further found. starts_below rows further has.1 found) is

  -- the child is the first one
  first_divides : (row : IndexRow) (rows : List IndexRow) → AllByRecursion (HasFirst under) rows → AreEntries (under row.child ++ all_under under rows) → child_for rows key ≡ None
      → IsDivided (all_under under (row ∷ rows)) (under row.child) key
  first_divides row rows has is none = record {
    front = [];
    back = all_under under rows;
    are = refl;
    lower = tt;
    higher = all_higher rows has (table_back (under row.child) (all_under under rows) is) none;
    first = inl refl;
  }

  -- the child is one further on
  later_divides : (row : IndexRow) (rows : List IndexRow) (child : ℕ) → AllByRecursion (HasFirst under) rows → AreEntries (under row.child ++ all_under under rows) → child_for rows key ≡ Some child
      → StartsBelow key (under child) → IsDivided (all_under under rows) (under child) key → IsDivided (all_under under (row ∷ rows)) (under child) key
  later_divides row [] child has is found first d = absurd cc
  later_divides row (next ∷ rows) child has is found first d =
      let above = not_below_first (is_below key next.key) (later (child_for rows key) next.child) child found in
      let here = before_first (under row.child) (all_under under (next ∷ rows)) next.key key is (first_under under next rows has.0) above in
      record {
        front = under row.child ++ d.front;
        back = d.back;
        are = ap (λ rest. under row.child ++ rest) d.are ∙ sym (append_assoc (under row.child) d.front (under child ++ d.back));
        lower = both_append (λ other. is_below other key ≡ true) (under row.child) d.front here d.lower;
        higher = d.higher;
        first = inr first;
      }

  divides_step : (row : IndexRow) (rows : List IndexRow) (below : Bool) (found : Option ℕ) (child : ℕ) → AllByRecursion (HasFirst under) rows
      → AreEntries (under row.child ++ all_under under rows) → child_for rows key ≡ found
      → ((further : ℕ) → found ≡ Some further → IsDivided (all_under under rows) (under further) key)
      → cond below None (Some (later found row.child)) ≡ Some child → IsDivided (all_under under (row ∷ rows)) (under child) key
  divides_step row rows true found child has is found_is more named = absurd cc
  divides_step row rows false None child has is found_is more named =
      let same : row.child ≡ child = cc in
      subst (λ (child : ℕ). IsDivided (all_under under (row ∷ rows)) (under child) key) same (first_divides row rows has is found_is)
  divides_step row rows false (Some further) child has is found_is more named =
      let same : further ≡ child = cc in
      subst (λ (child : ℕ). IsDivided (all_under under (row ∷ rows)) (under child) key) same
      (later_divides row rows further has is found_is (starts_below rows further has found_is) (more further refl))

  -- the table under the child divides the tables under the children
  pub divides : (rows : List IndexRow) (child : ℕ) → AllByRecursion (HasFirst under) rows → AreEntries (all_under under rows) → child_for rows key ≡ Some child
      → IsDivided (all_under under rows) (under child) key
  divides [] child has is found = absurd cc
  divides (row ∷ rows) child has is found =
      divides_step row rows (is_below key row.key) (child_for rows key) child has.1 is refl
      (λ further more. divides rows further has.1 (table_back (under row.child) (all_under under rows) is) more) found

  -- where no child begins at the key or below it, nothing stands before the children
  pub front_empty : (all : Entries) (rows : List IndexRow) → AllByRecursion (HasFirst under) rows → AreEntries (all_under under rows) → child_for rows key ≡ None
      → (d : IsDivided all (all_under under rows) key) → d.front ≡ []
  front_empty all rows has is none d = elim d.first [
    | inl empty ↦ empty
    | inr starts ↦ absurd (starts_not rows has none starts)
  ]
    where
      starts_not : (rows : List IndexRow) → AllByRecursion (HasFirst under) rows → child_for rows key ≡ None → StartsBelow key (all_under under rows) → ⊥
      starts_not [] has none starts = starts
      starts_not (row ∷ rows) has none starts = by (first_key (all_under under (row ∷ rows))) (first_under under row rows has.0) starts
        where
          by : (o : Option (List ℕ)) → o ≡ Some row.key → IsSomeAnd o (λ first. is_below key first ≡ false) → ⊥
          by None is starts = starts
          by (Some first) is starts =
              let same : first ≡ row.key = cc in
              let below = none_first (is_below key row.key) (later (child_for rows key) row.child) none in
              let both : true ≡ false = sym below ∙ ap (is_below key) (sym same) ∙ starts in
              cc
