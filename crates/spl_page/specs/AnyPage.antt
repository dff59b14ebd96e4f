-- A page that was checked, of either kind.
use Rattle.std.specs.Prelude.{Bool, true, false}
use Rattle.spl_port.specs.Counts.{Shown}
use Rattle.spl_page.specs.declared.any_page.AnyPage.{AnyPage}
use Rattle.spl_page.specs.declared.any_page.AnyPage.TheVariants.{Leaf, Index}

-- its place and its bytes
abbrev pub shown_of : AnyPage → Shown
shown_of (Leaf shown) = shown
shown_of (Index shown) = shown

abbrev pub is_leaf : AnyPage → Bool
is_leaf (Leaf shown) = true
is_leaf (Index shown) = false
