-- The way down: where the tables under children are one table, a key's message is that of the child under which it belongs.
use Rattle.std.proofs.Common.{◌≡◌, ℕ, ◌<◌, Bool, true, false, cond, List, [], ◌∷◌, ◌++◌, flat_map, Option, Some, None, refl, ap, ◌∙◌, subst}
use Rattle.std.specs.List.{AllByRecursion}
use Rattle.std.proofs.lemmas.List.Elements.{recursion_from_All}
use Rattle.std.specs.Option.{option_or}
use Rattle.spl_message.specs.declared.message.Message.{Message}
use Rattle.spl_message.specs.Key.{is_below}
use Rattle.spl_message.specs.Entries.{AreEntries, Entries, message_in}
use Rattle.spl_port.specs.Counts.{Shown}
use Rattle.spl_port.specs.Page.{IndexRow}
use Rattle.spl_page.proofs.PageTables.{children_are_below}
use Rattle.spl_page.specs.Tables.{child_for, children, later}
use Rattle.spl_branch.specs.Tree.{AreChildren, IsTree, first_key, table_under, tables_under}
use Rattle.spl_branch.proofs.GrowingLists.{all_weaker}
use Rattle.spl_branch.proofs.GrowingTable.{table_back, table_front}
use Rattle.spl_branch.proofs.GrowingTree.{first_key_front}
use Rattle.spl_branch.proofs.Joined.{message_at-append, none_before, none_from}

or_none : (message rest : Option Message) → rest ≡ None → option_or message rest ≡ message
or_none None rest none = none
or_none (Some message) rest none = refl

or_some : (message rest : Option Message) → message ≡ None → option_or message rest ≡ rest
or_some None rest none = refl
or_some (Some message) rest none = absurd cc

-- a child is found only where the key is not below the first key under the first child
pub not_below_first : (below : Bool) (child further : ℕ) → cond below None (Some child) ≡ Some further → below ≡ false
not_below_first true child further is = absurd cc
not_below_first false child further is = refl

module _ (under : ℕ → Entries) where
  -- the tables under the children, one behind the other
  abbrev pub all_under : List IndexRow → Entries
  all_under rows = flat_map (λ row. under row.child) rows

  -- each child is kept with the first key under it
  abbrev pub HasFirst : IndexRow → Type 0
  HasFirst row = first_key (under row.child) ≡ Some row.key

  pub first_under : (row : IndexRow) (rows : List IndexRow) → HasFirst row → first_key (all_under (row ∷ rows)) ≡ Some row.key
  first_under row rows has = first_key_front (under row.child) (all_under rows) row.key has

  -- what the table under the child that was found has for a key
  abbrev pub message_under : Option ℕ → List ℕ → Option Message
  message_under None key = None
  message_under (Some child) key = message_in (under child) key

  none_here : (row : IndexRow) (rows : List IndexRow) (key : List ℕ) (further : ℕ) → AllByRecursion HasFirst rows → AreEntries (under row.child ++ all_under rows)
      → child_for rows key ≡ Some further → message_in (under row.child) key ≡ None
  none_here row [] key further has is found = absurd cc
  none_here row (next ∷ rows) key further has is found =
      let above = not_below_first (is_below key next.key) (later (child_for rows key) next.child) further found in
      none_before (under row.child) (all_under (next ∷ rows)) next.key key is (first_under next rows has.0) above

  step : (row : IndexRow) (rows : List IndexRow) (key : List ℕ) (below : Bool) (found : Option ℕ) → HasFirst row → AllByRecursion HasFirst rows → AreEntries (all_under (row ∷ rows))
      → is_below key row.key ≡ below → child_for rows key ≡ found → message_in (all_under rows) key ≡ message_under found key
      → message_in (all_under (row ∷ rows)) key ≡ message_under (cond below None (Some (later found row.child))) key
  step row rows key true found has rest is below-is found-is further = none_from (all_under (row ∷ rows)) row.key key is (first_under row rows has) below-is
  step row rows key false None has rest is below-is found-is further =
      message_at-append (under row.child) (all_under rows) key ∙ or_none (message_in (under row.child) key) (message_in (all_under rows) key) further
  step row rows key false (Some child) has rest is below-is found-is further =
      message_at-append (under row.child) (all_under rows) key
      ∙ or_some (message_in (under row.child) key) (message_in (all_under rows) key) (none_here row rows key child rest is found-is)
      ∙ further

  -- a key's message is that under the child under which it belongs
  pub message_below : (rows : List IndexRow) (key : List ℕ) → AllByRecursion HasFirst rows → AreEntries (all_under rows)
      → message_in (all_under rows) key ≡ message_under (child_for rows key) key
  message_below [] key has is = refl
  message_below (row ∷ rows) key has is =
      step row rows key (is_below key row.key) (child_for rows key) has.0 has.1 is refl refl
      (message_below rows key has.1 (table_back (under row.child) (all_under rows) is))

  -- each child has a table of its own
  pub each_table : (rows : List IndexRow) → AreEntries (all_under rows) → AllByRecursion (λ row. AreEntries (under row.child)) rows
  each_table [] is = tt
  each_table (row ∷ rows) is = (table_front (under row.child) (all_under rows) is, each_table rows (table_back (under row.child) (all_under rows) is))

-- the child that was found is one of the children
pub record FoundIn (P : IndexRow → Type 0) (child : ℕ) : Type 0 where
  pub row : IndexRow
  pub holds : P row
  pub is : row.child ≡ child

found_step : (P : IndexRow → Type 0) (row : IndexRow) (below : Bool) (found : Option ℕ) (child : ℕ) → P row → ((further : ℕ) → found ≡ Some further → FoundIn P further)
    → cond below None (Some (later found row.child)) ≡ Some child → FoundIn P child
found_step P row true found child here there is = absurd cc
found_step P row false None child here there is = record { row = row; holds = here; is = cc }
found_step P row false (Some further) child here there is =
    let same : further ≡ child = cc in
    there child (ap Some same)

pub found_child : (P : IndexRow → Type 0) (rows : List IndexRow) (key : List ℕ) (child : ℕ) → AllByRecursion P rows → child_for rows key ≡ Some child → FoundIn P child
found_child P [] key child all is = absurd cc
found_child P (row ∷ rows) key child all is =
    found_step P row (is_below key row.key) (child_for rows key) child all.0 (λ further found. found_child P rows key further all.1 found) is

-- the child leads on to the key's message
pub record Leads (height : ℕ) (pages : List Shown) (rows : List IndexRow) (key : List ℕ) (child : ℕ) : Type 0 where
  pub tree : IsTree height pages child
  pub order : AreEntries (table_under height pages child)
  pub message : message_in (tables_under height pages rows) key ≡ message_in (table_under height pages child) key

module _ (height : ℕ) (pages : List Shown) (rows : List IndexRow) (key : List ℕ) (are : AreChildren height pages rows) (is : AreEntries (tables_under height pages rows)) where
  the_message : message_in (tables_under height pages rows) key ≡ message_under (table_under height pages) (child_for rows key) key
  the_message =
      message_below (table_under height pages) rows key
      (all_weaker (λ row. IsTree height pages row.child × (first_key (table_under height pages row.child) ≡ Some row.key)) (HasFirst (table_under height pages)) rows (λ row is. is.1) are)
      is

  pub leads_nowhere : child_for rows key ≡ None → message_in (tables_under height pages rows) key ≡ None
  leads_nowhere none = the_message ∙ ap (λ found. message_under (table_under height pages) found key) none

  pub leads : (child : ℕ) → child_for rows key ≡ Some child → Leads height pages rows key child
  leads child found =
      let tree = found_child (λ row. IsTree height pages row.child × (first_key (table_under height pages row.child) ≡ Some row.key)) rows key child are found in
      let order = found_child (λ row. AreEntries (table_under height pages row.child)) rows key child (each_table (table_under height pages) rows is) found in
      record {
        tree = subst (IsTree height pages) tree.is tree.holds.0;
        order = subst (λ page. AreEntries (table_under height pages page)) order.is order.holds;
        message = the_message ∙ ap (λ found. message_under (table_under height pages) found key) found;
      }

-- a child has a number below its page's, whatever the bytes
pub child_below : (page : ℕ) (bytes key : List ℕ) (child : ℕ) → child_for (children page bytes) key ≡ Some child → child < page
child_below page bytes key child is =
    let each = recursion_from_All (λ row. row.child < page) (children page bytes) (children_are_below page bytes) in
    let found = found_child (λ row. row.child < page) (children page bytes) key child each is in
    subst (λ (number : ℕ). number < page) found.is found.holds
