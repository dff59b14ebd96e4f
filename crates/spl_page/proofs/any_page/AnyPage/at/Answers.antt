use Rattle.std.proofs.Common.{◌≡◌, None, sym, subst, ◌∙◌}
use Rattle.spl_port.specs.Page.{page_fault}
use Rattle.spl_page.specs.AnyPage.{shown_of}
use Rattle.spl_page.specs.declared.any_page.AnyPage.{AnyPage}
use Rattle.spl_page.proofs.IndexReading.{form_fault_is as index_fault_is}
use Rattle.spl_page.proofs.LeafReading.{form_fault_is as leaf_fault_is}
use Rattle.spl_page.proofs.any_page.AnyPage.at.Goals as goal

pub returns-in-Leaf-clause-sound : goal.returns-in-Leaf-clause-sound
returns-in-Leaf-clause-sound c =
    subst (λ (page : AnyPage). page_fault (shown_of page).at (shown_of page).bytes ≡ None) (sym c.in-Leaf.is)
    (sym (leaf_fault_is c.in-Leaf.page.at c.in-Leaf.page.bytes c.at.ensures.kind) ∙ c.at.ensures.sound)

pub returns-in-Index-clause-sound : goal.returns-in-Index-clause-sound
returns-in-Index-clause-sound c =
    subst (λ (page : AnyPage). page_fault (shown_of page).at (shown_of page).bytes ≡ None) (sym c.in-Index.is)
    (sym (index_fault_is c.in-Index.page.at c.in-Index.page.bytes c.at-in-Index.ensures.kind) ∙ c.at-in-Index.ensures.sound)
