-- The trees of a branch while it is built.
use Rattle.std.proofs.Common.{◌≡◌, ℕ, suc, true, false, List, [], ◌∷◌, ◌++◌, Some, None, length, sym, ap, ap₂, ◌∙◌, subst, append-nil, append_assoc}
use Rattle.std.proofs.lemmas.Bool.{false≢true}
use Rattle.spl_message.specs.Entries.{Entries}
use Rattle.spl_port.specs.declared.at.At.{At}
use Rattle.spl_port.specs.Counts.{Shown}
use Rattle.spl_port.specs.Page.{IndexRow, index_fault, leaf_fault}
use Rattle.spl_page.specs.Tables.{children, leaf_table}
use Rattle.spl_branch.specs.Branch.{IsSoundLeaf}
use Rattle.spl_branch.specs.Tree.{AreChildren, first_key, table_under, tables_under}
use Rattle.spl_branch.proofs.GrowingLists.{all_append}
use Rattle.spl_branch.proofs.GrowingTable.{leaf_entries_index, leaf_entries_leaf}
use Rattle.spl_branch.proofs.GrowingTree.{child_added, children_back, children_front, children_stay, first_key_of, index_stands, index_table_stands, leaf_stands, leaf_table_stands, table_added, tables_join, tables_stay}
use Rattle.spl_build.specs.Levels.{risen}
use Rattle.spl_build.specs.Work.{IsGrove}

-- ---- one more leaf page

module _ (pages : List Shown) (at : At) (bytes : List ℕ) (key : List ℕ) (waiting : List IndexRow) where
  pub grove_leaf : at.leaf ≡ true → leaf_fault at bytes ≡ None → first_key (leaf_table bytes) ≡ Some key → IsGrove pages (record { waiting = waiting; above = []; height = 0 }) →
      IsGrove (pages ++ record { at = at; bytes = bytes } ∷ []) (record { waiting = waiting ++ record { child = length pages; key = key } ∷ []; above = []; height = 0 })
  grove_leaf leaf sound first grove =
      let page : Shown = record { at = at; bytes = bytes } in
      let row : IndexRow = record { child = length pages; key = key } in
      let more : List Shown = pages ++ page ∷ [] in
      record {
        leaves = all_append IsSoundLeaf pages (page ∷ []) grove.leaves ((λ is. sound), tt);
        low = child_added 0 more waiting row (children_stay 0 pages (page ∷ []) waiting grove.low) (leaf_stands pages at bytes leaf sound) (ap first_key (leaf_table_stands pages at bytes) ∙ first);
        high = tt;
        whole =
            table_added 0 more waiting row
            ∙ ap₂ (λ (front last : Entries). front ++ last) (tables_stay 0 pages (page ∷ []) waiting grove.low ∙ grove.whole) (leaf_table_stands pages at bytes)
            ∙ sym (leaf_entries_leaf pages at bytes leaf);
      }

-- ---- one more index page

module _ (pages : List Shown) (at : At) (bytes : List ℕ) (row : IndexRow) (more rest above : List IndexRow) (height : ℕ) where
  pub grove_index : at.leaf ≡ false → index_fault at bytes ≡ None → children at.page bytes ≡ row ∷ more → IsGrove pages (record { waiting = row ∷ (more ++ rest); above = above; height = height }) →
      IsGrove (pages ++ record { at = at; bytes = bytes } ∷ []) (record { waiting = rest; above = above ++ record { child = length pages; key = row.key } ∷ []; height = height })
  grove_index index sound rows grove =
      let page : Shown = record { at = at; bytes = bytes } in
      let parent : IndexRow = record { child = length pages; key = row.key } in
      let all : List Shown = pages ++ page ∷ [] in
      let taken : AreChildren height pages (row ∷ more) = children_front height pages (row ∷ more) rest grove.low in
      let left : AreChildren height pages rest = children_back height pages (row ∷ more) rest grove.low in
      let under : AreChildren height pages (children at.page bytes) = subst (λ (rs : List IndexRow). AreChildren height pages rs) (sym rows) taken in
      let table : table_under (suc height) all (length pages) ≡ tables_under height pages (row ∷ more) =
      index_table_stands height pages at bytes index sound under ∙ ap (λ (rs : List IndexRow). tables_under height pages rs) rows in
      record {
        leaves = all_append IsSoundLeaf pages (page ∷ []) grove.leaves ((λ leaf. absurd (false≢true (sym index ∙ leaf))), tt);
        low = children_stay height pages (page ∷ []) rest left;
        high = child_added (suc height) all above parent (children_stay (suc height) pages (page ∷ []) above grove.high) (index_stands height pages at bytes index sound under)
            (ap first_key table ∙ first_key_of height pages row more taken);
        whole =
            ap₂ (λ (front back : Entries). front ++ back)
            (table_added (suc height) all above parent ∙ ap₂ (λ (front last : Entries). front ++ last) (tables_stay (suc height) pages (page ∷ []) above grove.high) table)
            (tables_stay height pages (page ∷ []) rest left)
            ∙ append_assoc (tables_under (suc height) pages above) (tables_under height pages (row ∷ more)) (tables_under height pages rest)
            ∙ ap (λ (back : Entries). tables_under (suc height) pages above ++ back) (sym (tables_join height pages (row ∷ more) rest))
            ∙ grove.whole
            ∙ sym (leaf_entries_index pages at bytes index);
      }

-- ---- the next level

pub grove_risen : (pages : List Shown) (waiting above : List IndexRow) (height : ℕ) → IsGrove pages (record { waiting = waiting; above = above; height = height }) → IsGrove pages (risen waiting above height)
grove_risen pages [] above height grove = record {
  leaves = grove.leaves;
  low = grove.high;
  high = tt;
  whole = sym (append-nil (tables_under (suc height) pages above)) ∙ grove.whole;
}
grove_risen pages (row ∷ rows) above height grove = grove
