-- The first reason against an index page, and lists of its children.
use Rattle.std.proofs.Common.{◌≡◌, ℕ, ◌+◌, ◌<◌, true, false, List, [], ◌∷◌, None, map, refl, sym, ap, ◌∙◌, arith}
use Rattle.std.specs.Prelude.{All, sum_by}
use Rattle.std.proofs.lemmas.List.Sums.{sum_by-cons}
use Rattle.std.proofs.lemmas.List.Elements.{All-map}
use Rattle.spl_message.specs.Key.{AreRising}
use Rattle.spl_port.specs.declared.at.At.{At}
use Rattle.spl_port.specs.Page.{IsIndexPage, IndexRow, kind_fault, is_rising, index_fault, index_row, index_row_length, index_rows, page_fault}
use Rattle.spl_page.specs.declared.index_entry.IndexEntry.{IndexEntry}
use Rattle.spl_page.specs.IndexPage.{first_keys, index_entry_length, index_length, index_row_of, index_rows_of}
use Rattle.spl_page.specs.Sound.{entries_of, page_rows}
use Rattle.spl_page.proofs.IndexText.{no_fault, size}
use Rattle.spl_page.proofs.Lists.{are_there}
use Rattle.spl_page.proofs.PageTables.{index_sound}
use Rattle.spl_page.proofs.Rising.{rising_passed}

abbrev key_of : IndexRow → List ℕ
key_of row = row.key

-- of the kind that is wanted there is one reason
index_fault_is : (at : At) (bytes : List ℕ) → at.leaf ≡ false → index_fault at bytes ≡ page_fault at bytes
unfolding page_fault
index_fault_is at bytes kind = rw kind refl

pub form_fault_is : (at : At) (bytes : List ℕ) → at.leaf ≡ false → kind_fault 73 key_of (index_rows at.page bytes) at bytes ≡ page_fault at bytes
unfolding index_fault
form_fault_is at bytes kind = index_fault_is at bytes kind

-- ---- lists of children

keys_are : (entries : List IndexEntry) → map key_of (index_rows_of entries) ≡ first_keys entries
keys_are [] = refl
keys_are (entry ∷ entries) = ap (λ keys. entry.first ∷ keys) (keys_are entries)

pub rises : (entries : List IndexEntry) → is_rising (first_keys entries) ≡ true → AreRising (map key_of (index_rows_of entries))
rises entries rising = rising_passed (map key_of (index_rows_of entries)) (ap is_rising (keys_are entries) ∙ rising)

pub length_is : (entries : List IndexEntry) → 16 + sum_by size (index_rows_of entries) ≡ index_length entries
length_is [] = refl
length_is (entry ∷ entries) =
    omega (
      arith,
      length_is entries,
      sum_by-cons size (index_row_of entry) (index_rows_of entries),
      sum_by-cons (λ (e : IndexEntry). index_entry_length e.first) entry entries,
    )

pub places : (page : ℕ) (entries : List IndexEntry) → All (λ entry. entry.child < page) entries → All (λ row. row.child < page) (index_rows_of entries)
places page entries below = All-map (λ (row : IndexRow). row.child < page) index_row_of entries below

-- a page with these children
module _ (at : At) (bytes : List ℕ) (entries : List IndexEntry) (sound : kind_fault 73 key_of (page_rows (index_row at.page) index_row_length bytes) at bytes ≡ None)
    (are : entries_of (index_row at.page) index_row_length bytes ≡ index_rows_of entries) where
  pub is_page : IsIndexPage at bytes (index_rows_of entries)
  is_page = record { sound = no_fault at bytes sound; entries = are_there 73 key_of (index_rows at.page bytes) at bytes (index_rows_of entries) sound are }

  pub page_rises : is_rising (first_keys entries) ≡ true
  page_rises = ap is_rising (sym (keys_are entries)) ∙ ap (λ rows. is_rising (map key_of rows)) (sym are) ∙ (index_sound at bytes (no_fault at bytes sound)).rising
