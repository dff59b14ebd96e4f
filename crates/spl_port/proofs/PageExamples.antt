-- The definition of pages at examples: the page of branch 7 that inserts `1` at `a`, and what is refused.
use Rattle.std.proofs.Common.{◌≡◌, ℕ, true, false, List, [], ◌∷◌, ◌++◌, Some, refl}
use Rattle.std.specs.Prelude.{replicate}
use Rattle.spl_port.specs.declared.at.At.{At}
use Rattle.spl_port.specs.declared.damaged.Why.TheVariants.{Kind, Number, Count, Entry, Order, Rest}
use Rattle.spl_port.specs.Page.{IsLeafPage, IsIndexPage, leaf_fault, index_fault, page_fault}

-- page 0 of branch 7, a leaf page
abbrev at : At
at = record { extent = 0; branch = 7; page = 0; leaf = true }

-- a page's head, its entries, and zeros
abbrev page : ℕ → ℕ → ℕ → ℕ → List ℕ → ℕ → List ℕ
page kind count number branch entries zeros =
    (kind ∷ 1 ∷ 0 ∷ count ∷ 0 ∷ 0 ∷ 0 ∷ number ∷ 0 ∷ 0 ∷ 0 ∷ 0 ∷ 0 ∷ 0 ∷ 0 ∷ branch ∷ []) ++ entries ++ replicate zeros 0

-- `a` with an insert of `1`
abbrev entry : List ℕ
entry = 1 ∷ 0 ∷ 0 ∷ 1 ∷ 97 ∷ 49 ∷ []

pub leaf_page : IsLeafPage at (page 76 1 0 7 entry 4074) (record { key = 97 ∷ []; kind = 0; value = 49 ∷ [] } ∷ [])
unfolding leaf_fault
leaf_page = record { sound = refl; entries = refl }

pub another_kind : leaf_fault at (page 73 1 0 7 entry 4074) ≡ Some Kind
unfolding leaf_fault
another_kind = refl

pub another_branch : leaf_fault (record at { branch = 8 }) (page 76 1 0 7 entry 4074) ≡ Some Number
unfolding leaf_fault
another_branch = refl

pub no_entries : leaf_fault at (page 76 0 0 7 [] 4080) ≡ Some Count
unfolding leaf_fault
no_entries = refl

pub a_long_key : leaf_fault at (page 76 1 0 7 (65 ∷ 0 ∷ 0 ∷ 1 ∷ 97 ∷ 49 ∷ []) 4074) ≡ Some Entry
unfolding leaf_fault
a_long_key = refl

pub a_delete_with_a_value : leaf_fault at (page 76 1 0 7 (1 ∷ 1 ∷ 0 ∷ 1 ∷ 97 ∷ 49 ∷ []) 4074) ≡ Some Entry
unfolding leaf_fault
a_delete_with_a_value = refl

pub equal_keys : leaf_fault at (page 76 2 0 7 (entry ++ entry) 4068) ≡ Some Order
unfolding leaf_fault
equal_keys = refl

pub a_byte_behind : leaf_fault at (page 76 1 0 7 (entry ++ 1 ∷ []) 4073) ≡ Some Rest
unfolding leaf_fault
a_byte_behind = refl

-- page 2 of branch 7, an index page over the leaf pages 0 and 1
abbrev at_index : At
at_index = record { extent = 0; branch = 7; page = 2; leaf = false }

-- the child 0 with the first key `a`, and a child with the first key `b`
abbrev children : ℕ → List ℕ
children second = 0 ∷ 0 ∷ 0 ∷ 0 ∷ 1 ∷ 97 ∷ 0 ∷ 0 ∷ 0 ∷ second ∷ 1 ∷ 98 ∷ []

pub index_page : IsIndexPage at_index (page 73 2 2 7 (children 1) 4068)
    (record { child = 0; key = 97 ∷ [] } ∷ record { child = 1; key = 98 ∷ [] } ∷ [])
unfolding index_fault
index_page = record { sound = refl; entries = refl }

pub its_own_child : index_fault at_index (page 73 2 2 7 (children 2) 4068) ≡ Some Entry
unfolding index_fault
its_own_child = refl

-- what is wanted at a place decides the kind
pub wanted_kind : page_fault at_index (page 76 2 2 7 (children 1) 4068) ≡ Some Kind
unfolding page_fault index_fault
wanted_kind = refl
