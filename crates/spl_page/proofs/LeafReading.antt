-- The first reason against a leaf page, and lists of its entries.
use Rattle.std.proofs.Common.{◌≡◌, ℕ, ◌+◌, true, List, [], ◌∷◌, None, map, refl, sym, ap, ◌∙◌, arith}
use Rattle.std.specs.Prelude.{sum_by}
use Rattle.std.proofs.lemmas.List.Sums.{sum_by-cons}
use Rattle.spl_message.specs.Key.{AreRising}
use Rattle.spl_port.specs.declared.at.At.{At}
use Rattle.spl_port.specs.Page.{IsLeafPage, LeafRow, kind_fault, is_rising, leaf_fault, leaf_row, leaf_row_length, leaf_rows, page_fault}
use Rattle.spl_page.specs.declared.leaf_entry.LeafEntry.{LeafEntry}
use Rattle.spl_page.specs.LeafPage.{leaf_entry_length, leaf_keys, leaf_length, leaf_row_of, leaf_rows_of}
use Rattle.spl_page.specs.Sound.{entries_of, page_rows}
use Rattle.spl_page.specs.Tables.{leaf_size}
use Rattle.spl_page.proofs.LeafText.{no_fault, size_is}
use Rattle.spl_page.proofs.Lists.{are_there}
use Rattle.spl_page.proofs.PageTables.{leaf_sound}
use Rattle.spl_page.proofs.Rising.{rising_passed}

abbrev key_of : LeafRow → List ℕ
key_of row = row.key

-- of the kind that is wanted there is one reason
leaf_fault_is : (at : At) (bytes : List ℕ) → at.leaf ≡ true → leaf_fault at bytes ≡ page_fault at bytes
unfolding page_fault
leaf_fault_is at bytes kind = rw kind refl

pub form_fault_is : (at : At) (bytes : List ℕ) → at.leaf ≡ true → kind_fault 76 key_of (leaf_rows bytes) at bytes ≡ page_fault at bytes
unfolding leaf_fault
form_fault_is at bytes kind = leaf_fault_is at bytes kind

-- ---- lists of entries

keys_are : (entries : List LeafEntry) → map key_of (leaf_rows_of entries) ≡ leaf_keys entries
keys_are [] = refl
keys_are (entry ∷ entries) = ap (λ keys. entry.key ∷ keys) (keys_are entries)

pub rises : (entries : List LeafEntry) → is_rising (leaf_keys entries) ≡ true → AreRising (map key_of (leaf_rows_of entries))
rises entries rising = rising_passed (map key_of (leaf_rows_of entries)) (ap is_rising (keys_are entries) ∙ rising)

pub length_is : (entries : List LeafEntry) → 16 + sum_by leaf_size (leaf_rows_of entries) ≡ leaf_length entries
length_is [] = refl
length_is (entry ∷ entries) =
    omega (
      arith,
      length_is entries,
      size_is entry.key entry.message,
      sum_by-cons leaf_size (leaf_row_of entry) (leaf_rows_of entries),
      sum_by-cons (λ (e : LeafEntry). leaf_entry_length e.key e.message) entry entries,
    )

-- a page with these entries
module _ (at : At) (bytes : List ℕ) (entries : List LeafEntry) (sound : kind_fault 76 key_of (page_rows leaf_row leaf_row_length bytes) at bytes ≡ None)
    (are : entries_of leaf_row leaf_row_length bytes ≡ leaf_rows_of entries) where
  pub is_page : IsLeafPage at bytes (leaf_rows_of entries)
  is_page = record { sound = no_fault at bytes sound; entries = are_there 76 key_of (leaf_rows bytes) at bytes (leaf_rows_of entries) sound are }

  pub page_rises : is_rising (leaf_keys entries) ≡ true
  page_rises = ap is_rising (sym (keys_are entries)) ∙ ap (λ rows. is_rising (map key_of rows)) (sym are) ∙ (leaf_sound at bytes (no_fault at bytes sound)).rising
