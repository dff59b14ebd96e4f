-- The way down to a key: at each page the key's message in the branch is the one that stands under the page, and what stands before and
-- behind the entries under it is below and above the key.
use Rattle.std.proofs.Common.{◌≡◌, ℕ, zero, suc, ◌+◌, ◌-◌, ◌<◌, ◌≤◌, Bool, true, false, cond, List, [], ◌∷◌, ◌++◌, Option, Some, None, map, length, replicate, refl, sym, ap, ◌∙◌, subst, arith}
use Rattle.std.specs.List.{AllByRecursion, slice_get}
use Rattle.std.specs.Option.{IsSomeAnd}
use Rattle.spl_message.specs.Entries.{AreEntries, Entries, message_in}
use Rattle.spl_message.specs.Key.{is_below}
use Rattle.spl_port.specs.declared.damaged.Why.{Why}
use Rattle.spl_port.specs.Counts.{Counts, Shown}
use Rattle.spl_port.specs.Page.{IndexRow, index_fault, leaf_fault, page_fault}
use Rattle.spl_port.specs.Port.{ReadsOne}
use Rattle.spl_page.specs.Tables.{child_for, children, leaf_table}
use Rattle.spl_page.proofs.PageTables.{leaf_table_has_some}
use Rattle.spl_branch.specs.declared.fault.BranchFault.{BranchFault}
use Rattle.spl_branch.specs.declared.fault.BranchFault.TheVariants.{Fault, Damaged, NoMemory}
use Rattle.spl_branch.specs.Branch.{Branch, IsBranch, IsSoundLeaf, entries_in}
use Rattle.spl_branch.specs.Leaves.{are_below, leaf_tables}
use Rattle.spl_branch.specs.Pages.{AreTold, page_total, shown_pages}
use Rattle.spl_branch.specs.Reading.{HasBranchCause, IsPlaceOf, OnlyReads}
use Rattle.spl_branch.specs.Tree.{AreChildren, IsTree, children_at, first_key, shown_children, shown_table, table_at, table_under, tables_under}
use Rattle.spl_branch.specs.Visiting.{HasVisitCause, IsEnd, child_in}
use Rattle.spl_branch.proofs.Descent.{HasFirst, leads, leads_nowhere}
use Rattle.spl_branch.proofs.Dividing.{AreHigher, IsDivided, all_higher, both_append, divided_on, divided_whole, divides, front_empty, starts_below}
use Rattle.spl_branch.proofs.GrowingLists.{all_weaker}
use Rattle.spl_branch.proofs.LeafPages.{in_order, kinds_are, leaf_place, leaf_told}
use Rattle.spl_branch.proofs.LeafStarts.{joined, none_below, starts_at, tables_have_some}
use Rattle.spl_branch.proofs.PartPages.{some_pages}

-- ---- what the page says, by its kind

sound_leaf : (shown : Shown) → shown.at.leaf ≡ true → leaf_fault shown.at shown.bytes ≡ None → page_fault shown.at shown.bytes ≡ None
unfolding page_fault
sound_leaf shown leaf sound = ap (λ b. cond b (leaf_fault shown.at shown.bytes) (index_fault shown.at shown.bytes)) leaf ∙ sound

sound_index : (shown : Shown) → shown.at.leaf ≡ false → index_fault shown.at shown.bytes ≡ None → page_fault shown.at shown.bytes ≡ None
unfolding page_fault
sound_index shown index sound = ap (λ b. cond b (leaf_fault shown.at shown.bytes) (index_fault shown.at shown.bytes)) index ∙ sound

child_in_leaf : (shown : Shown) (key : List ℕ) → shown.at.leaf ≡ true → child_in shown key ≡ None
child_in_leaf shown key leaf = ap (λ b. cond b None (child_for (children shown.at.page shown.bytes) key)) leaf

child_in_index : (shown : Shown) (key : List ℕ) → shown.at.leaf ≡ false → child_in shown key ≡ child_for (children shown.at.page shown.bytes) key
child_in_index shown key index = ap (λ b. cond b None (child_for (children shown.at.page shown.bytes) key)) index

at_shown : (P : Shown → Type 0) (o : Option Shown) (shown : Shown) → o ≡ Some shown → IsSomeAnd o P → P shown
at_shown P None shown there holds = absurd cc
at_shown P (Some other) shown there holds = let same : other ≡ shown = cc in subst P same holds

-- a page of the tree is a page for its place
sound_at : (o : Option Shown) (b : Bool) (fault : Shown → Option Why) → IsSomeAnd o (λ shown. (shown.at.leaf ≡ b) × (fault shown ≡ None))
    → ((shown : Shown) → shown.at.leaf ≡ b → fault shown ≡ None → page_fault shown.at shown.bytes ≡ None) → IsSomeAnd o (λ shown. page_fault shown.at shown.bytes ≡ None)
sound_at None b fault is then = absurd is
sound_at (Some shown) b fault is then = then shown is.0 is.1

tree_sound : (height : ℕ) (pages : List Shown) (page : ℕ) → IsTree height pages page → IsSomeAnd (slice_get pages page) (λ shown. page_fault shown.at shown.bytes ≡ None)
unfolding IsTree
tree_sound zero pages page tree = sound_at (slice_get pages page) true (λ shown. leaf_fault shown.at shown.bytes) tree sound_leaf
tree_sound (suc height) pages page tree = sound_at (slice_get pages page) false (λ shown. index_fault shown.at shown.bytes) tree.0 sound_index

refuted : (o : Option Shown) (why : Why) → IsSomeAnd o (λ shown. page_fault shown.at shown.bytes ≡ None) → IsSomeAnd o (λ shown. page_fault shown.at shown.bytes ≡ Some why) → ⊥
refuted None why sound unsound = sound
refuted (Some shown) why sound unsound = cc

-- ---- the way

-- the key's message in the branch stands under the page, its entries divide those of the branch, and so many reads are left
pub record IsUnder (branch : Branch) (key : List ℕ) (page start now : ℕ) : Type 0 where
  pub height : ℕ
  pub tree : IsTree height (shown_pages branch.parts) page
  pub order : AreEntries (table_under height (shown_pages branch.parts) page)
  pub message : message_in (table_under height (shown_pages branch.parts) page) key ≡ message_in (entries_in branch) key
  pub divided : IsDivided (entries_in branch) (table_under height (shown_pages branch.parts) page) key
  pub reads : now + height + 1 ≤ start + branch.levels

have_first : (height : ℕ) (pages : List Shown) (rows : List IndexRow) → AreChildren height pages rows → AllByRecursion (HasFirst (table_under height pages)) rows
have_first height pages rows are =
    all_weaker (λ row. IsTree height pages row.child × (first_key (table_under height pages row.child) ≡ Some row.key)) (HasFirst (table_under height pages)) rows (λ row is. is.1) are

higher_whole : (all part : Entries) (key : List ℕ) (d : IsDivided all part key) → d.front ≡ [] → AreHigher key part → AreHigher key all
higher_whole all part key d empty higher =
    let both : all ≡ part ++ d.back = d.are ∙ ap (λ front. front ++ (part ++ d.back)) empty in
    subst (AreHigher key) (sym both) (both_append (λ other. is_below key other ≡ true) part d.back higher d.higher)

module _ (branch : Branch) (key : List ℕ) (is : IsBranch branch) (told : AreTold branch.parts) where
  tables_rise : AreEntries (joined (leaf_tables branch))
  tables_rise = subst AreEntries (in_order branch is told) (is.told told).order

  tables_some : AllByRecursion (λ table. 0 < length table) (leaf_tables branch)
  tables_some =
      tables_have_some (shown_pages branch.parts) branch.leaves (replicate (page_total branch.parts - branch.leaves) false)
      (kinds_are branch.parts (λ j part at. (is.parts.each j part at).told) told ∙ is.kinds) (is.told told).leaves

  leaf_ends : (page : ℕ) (shown : Shown) → slice_get (shown_pages branch.parts) page ≡ Some shown → shown.at.page ≡ page → page < branch.leaves → shown.at.leaf ≡ true
      → leaf_fault shown.at shown.bytes ≡ None → message_in (leaf_table shown.bytes) key ≡ message_in (entries_in branch) key
      → IsDivided (entries_in branch) (leaf_table shown.bytes) key → IsEnd branch key shown
  leaf_ends page shown there number within leaf sound message divided = record {
    message = ap (λ b. cond b (message_in (leaf_table shown.bytes) key) None) leaf ∙ message;
    start =
        ap (λ b. cond b (cond (are_below (leaf_table shown.bytes) key) (shown.at.page + 1) shown.at.page) 0) leaf
        ∙ ap (λ (page : ℕ). cond (are_below (leaf_table shown.bytes) key) (page + 1) page) number
        ∙ sym (
        starts_at (leaf_tables branch) page (leaf_table shown.bytes) key tables_rise tables_some (leaf_told branch page shown within there)
        (leaf_table_has_some shown.at shown.bytes sound)
        (subst (λ all. IsDivided all (leaf_table shown.bytes) key) (in_order branch is told) divided)
        );
  }

  index_ends : (height : ℕ) (shown : Shown) (rows : List IndexRow) → shown.at.leaf ≡ false → AreChildren height (shown_pages branch.parts) rows
      → AreEntries (tables_under height (shown_pages branch.parts) rows) → message_in (tables_under height (shown_pages branch.parts) rows) key ≡ message_in (entries_in branch) key
      → IsDivided (entries_in branch) (tables_under height (shown_pages branch.parts) rows) key → child_for rows key ≡ None → IsEnd branch key shown
  index_ends height shown rows index are order message divided none =
      let pages = shown_pages branch.parts in
      let under = table_under height pages in
      let has = have_first height pages rows are in
      let empty = front_empty under key (entries_in branch) rows has order none divided in
      let higher = higher_whole (entries_in branch) (tables_under height pages rows) key divided empty (all_higher under key rows has order none) in
      record {
        message = ap (λ b. cond b (message_in (leaf_table shown.bytes) key) None) index ∙ sym (leads_nowhere height pages rows key are order none) ∙ message;
        start =
            ap (λ b. cond b (cond (are_below (leaf_table shown.bytes) key) (shown.at.page + 1) shown.at.page) 0) index
            ∙ sym (none_below (leaf_tables branch) key tables_some (subst (AreHigher key) (in_order branch is told) higher));
      }

  end_under : (height page : ℕ) (shown : Shown) → IsTree height (shown_pages branch.parts) page → AreEntries (table_under height (shown_pages branch.parts) page)
      → message_in (table_under height (shown_pages branch.parts) page) key ≡ message_in (entries_in branch) key
      → IsDivided (entries_in branch) (table_under height (shown_pages branch.parts) page) key → slice_get (shown_pages branch.parts) page ≡ Some shown
      → shown.at.page ≡ page → (shown.at.leaf ≡ true → page < branch.leaves) → child_in shown key ≡ None → IsEnd branch key shown
  unfolding IsTree table_under
  end_under zero page shown tree order message divided there number within none =
      let here = at_shown (λ shown. (shown.at.leaf ≡ true) × (leaf_fault shown.at shown.bytes ≡ None)) (slice_get (shown_pages branch.parts) page) shown there tree in
      let table : table_at (shown_pages branch.parts) page ≡ leaf_table shown.bytes = ap shown_table there in
      leaf_ends page shown there number (within here.0) here.0 here.1 (ap (λ table. message_in table key) (sym table) ∙ message)
      (subst (λ table. IsDivided (entries_in branch) table key) table divided)
  end_under (suc height) page shown tree order message divided there number within none =
      let pages = shown_pages branch.parts in
      let here = at_shown (λ shown. (shown.at.leaf ≡ false) × (index_fault shown.at shown.bytes ≡ None)) (slice_get pages page) shown there tree.0 in
      let rows : children_at pages page ≡ children shown.at.page shown.bytes = ap shown_children there in
      index_ends height shown (children shown.at.page shown.bytes) here.0 (subst (AreChildren height pages) rows tree.1)
      (subst (λ rows. AreEntries (tables_under height pages rows)) rows order) (ap (λ rows. message_in (tables_under height pages rows) key) (sym rows) ∙ message)
      (subst (λ rows. IsDivided (entries_in branch) (tables_under height pages rows) key) rows divided) (sym (child_in_index shown key here.0) ∙ none)

child_under : (branch : Branch) (key : List ℕ) (page child start now after height : ℕ) (shown : Shown) → IsTree height (shown_pages branch.parts) page
    → AreEntries (table_under height (shown_pages branch.parts) page)
    → message_in (table_under height (shown_pages branch.parts) page) key ≡ message_in (entries_in branch) key
    → IsDivided (entries_in branch) (table_under height (shown_pages branch.parts) page) key
    → now + height + 1 ≤ start + branch.levels → after ≤ now + 1
    → slice_get (shown_pages branch.parts) page ≡ Some shown → child_in shown key ≡ Some child
    → IsUnder branch key child start after
unfolding IsTree table_under
child_under branch key page child start now after zero shown tree order message divided reads one there named =
    let here = at_shown (λ shown. (shown.at.leaf ≡ true) × (leaf_fault shown.at shown.bytes ≡ None)) (slice_get (shown_pages branch.parts) page) shown there tree in
    let none = child_in_leaf shown key here.0 in
    absurd cc
child_under branch key page child start now after (suc height) shown tree order message divided reads one there named =
    let pages = shown_pages branch.parts in
    let here = at_shown (λ shown. (shown.at.leaf ≡ false) × (index_fault shown.at shown.bytes ≡ None)) (slice_get pages page) shown there tree.0 in
    let rows : children_at pages page ≡ children shown.at.page shown.bytes = ap shown_children there in
    let found : child_for (children_at pages page) key ≡ Some child = ap (λ rows. child_for rows key) rows ∙ sym (child_in_index shown key here.0) ∙ named in
    let on = leads height pages (children_at pages page) key tree.1 order child found in
    let has = have_first height pages (children_at pages page) tree.1 in
    record {
      height = height;
      tree = on.tree;
      order = on.order;
      message = sym on.message ∙ message;
      divided =
          divided_on (entries_in branch) (tables_under height pages (children_at pages page)) (table_under height pages child) key divided
          (divides (table_under height pages) key (children_at pages page) child has order found)
          (starts_below (table_under height pages) key (children_at pages page) child has found);
      reads = omega arith;
    }

-- a way to the key that began at these counts stands at the page
pub record IsDown (branch : Branch) (key : List ℕ) (page : ℕ) (start now : Counts) : Type 0 where
  pub within : page < page_total branch.parts
  pub counts : OnlyReads start now
  pub under : AreTold branch.parts → IsUnder branch key page start.reads now.reads

pub down_starts : (branch : Branch) (key : List ℕ) (pages : ℕ) (counts : Counts) → IsBranch branch → pages ≡ page_total branch.parts → IsDown branch key (pages - 1) counts counts
down_starts branch key pages counts is whole = record {
  within = omega (arith, some_pages branch is);
  counts = record { faults = omega arith; reads = omega arith; writes = refl };
  under = λ told.
      let holds = is.told told in
      let root : page_total branch.parts - 1 ≡ pages - 1 = omega arith in
      let top = subst (λ page. table_under (branch.levels - 1) (shown_pages branch.parts) page ≡ entries_in branch) root holds.whole in
      record {
        height = branch.levels - 1;
        tree = subst (IsTree (branch.levels - 1) (shown_pages branch.parts)) root holds.tree;
        order = subst AreEntries (sym top) holds.order;
        message = ap (λ table. message_in table key) top;
        divided = subst (λ table. IsDivided (entries_in branch) table key) (sym top) (divided_whole (entries_in branch) key);
        reads = omega (arith, is.levels);
      };
}

module _ (branch : Branch) (key : List ℕ) (page : ℕ) (start now after : Counts) (down : IsDown branch key page start now) (one : ReadsOne now after) where
  pub down_counts : OnlyReads start after
  down_counts = record { faults = omega (arith, down.counts.faults, one.faults); reads = omega (arith, down.counts.reads, one.reads); writes = one.writes ∙ down.counts.writes }

  pub down_reach : AreTold branch.parts → after.reads ≤ start.reads + branch.levels
  down_reach told = omega (arith, (down.under told).reads, one.one)

  pub down_goes_on : (shown : Shown) (child : ℕ) → child < page → (AreTold branch.parts → slice_get (shown_pages branch.parts) page ≡ Some shown) → child_in shown key ≡ Some child
      → IsDown branch key child start after
  down_goes_on shown child below there named = record {
    within = omega (arith, down.within);
    counts = down_counts;
    under = λ told.
        let under = down.under told in
        child_under branch key page child start.reads now.reads after.reads under.height shown under.tree under.order under.message under.divided under.reads one.one (there told) named;
  }

  pub down_ends : (shown : Shown) → IsBranch branch → (AreTold branch.parts → slice_get (shown_pages branch.parts) page ≡ Some shown) → IsPlaceOf branch.parts shown.at → shown.at.page ≡ page
      → child_in shown key ≡ None → AreTold branch.parts → IsEnd branch key shown
  down_ends shown is there place number none told =
      let under = down.under told in
      end_under branch key is told under.height page shown under.tree under.order under.message under.divided (there told) number
      (λ leaf. subst (λ (page : ℕ). page < branch.leaves) number (leaf_place branch shown.at is place leaf)) none

  pub down_stops : (fault : BranchFault) → HasVisitCause branch page now after fault → HasBranchCause branch start after fault
  down_stops Fault cause = omega (arith, cause, down.counts.faults)
  down_stops NoMemory cause = tt
  down_stops (Damaged damage) cause = record {
    untold = λ told. refuted (slice_get (shown_pages branch.parts) page) damage.why (let under = down.under told in tree_sound under.height (shown_pages branch.parts) page under.tree) (cause.told told);
    place = cause.place;
    page = cause.latest;
    read = omega (arith, cause.read, down.counts.reads);
  }

-- ---- a leaf page by its number

sound_there : (pages : List Shown) (leaves page : ℕ) (kinds : List Bool) → map (λ (shown : Shown). shown.at.leaf) pages ≡ replicate leaves true ++ kinds → AllByRecursion IsSoundLeaf pages
    → page < leaves → IsSomeAnd (slice_get pages page) (λ shown. page_fault shown.at shown.bytes ≡ None)
sound_there pages zero page kinds is sound within = absurd (omega arith)
sound_there [] (suc leaves) page kinds is sound within = absurd cc
sound_there (shown ∷ pages) (suc leaves) zero kinds is sound within = let leaf : shown.at.leaf ≡ true = cc in sound_leaf shown leaf (sound.0 leaf)
sound_there (shown ∷ pages) (suc leaves) (suc page) kinds is sound within =
    let more : map (λ (shown : Shown). shown.at.leaf) pages ≡ replicate leaves true ++ kinds = cc in
    sound_there pages leaves page kinds more sound.1 (omega arith)

-- where pages are told, a leaf page is never damaged
pub leaf_stops : (branch : Branch) (page : ℕ) (before after : Counts) → IsBranch branch → page < branch.leaves → (fault : BranchFault) → HasVisitCause branch page before after fault
    → HasBranchCause branch before after fault
leaf_stops branch page before after is within Fault cause = cause
leaf_stops branch page before after is within NoMemory cause = tt
leaf_stops branch page before after is within (Damaged damage) cause = record {
  untold = λ told.
      refuted (slice_get (shown_pages branch.parts) page) damage.why
      (sound_there (shown_pages branch.parts) branch.leaves page (replicate (page_total branch.parts - branch.leaves) false)
      (kinds_are branch.parts (λ j part at. (is.parts.each j part at).told) told ∙ is.kinds) (is.told told).leaves within)
      (cause.told told);
  place = cause.place;
  page = cause.latest;
  read = cause.read;
}
