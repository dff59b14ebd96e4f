use Rattle.std.proofs.Common.{sym, subst, ◌∙◌}
use Rattle.std.proofs.lemmas.Result.{err_from_is_err_and}
use Rattle.spl_page.specs.PageFault.{IsFormFault}
use Rattle.spl_page.proofs.IndexReading.{form_fault_is as index_fault_is}
use Rattle.spl_page.proofs.LeafReading.{form_fault_is as leaf_fault_is}
use Rattle.spl_page.proofs.any_page.AnyPage.check.Goals as goal

pub returns-in_err-check-clause-err : goal.returns-in_err-check-clause-err
returns-in_err-check-clause-err c =
    let p = err_from_is_err_and c.from_residual.result c.from_residual.ensures.1 in
    rw (p.1, p.2) (subst (λ why. IsFormFault c.args.at why c.in_err-check.field-0.0) (leaf_fault_is c.args.at c.args.bytes c.if-at.true) c.in_err-check.ensures.err)

pub returns-in_err-check-2-clause-err : goal.returns-in_err-check-2-clause-err
returns-in_err-check-2-clause-err c =
    let p = err_from_is_err_and c.from_residual-in_err-check-2.result c.from_residual-in_err-check-2.ensures.1 in
    rw (p.1, p.2) (subst (λ why. IsFormFault c.args.at why c.in_err-check-2.field-0.0) (index_fault_is c.args.at c.args.bytes c.if-at.false) c.in_err-check-2.ensures.err)

pub returns-in_ok-check-clause-sound : goal.returns-in_ok-check-clause-sound
returns-in_ok-check-clause-sound c = sym (leaf_fault_is c.args.at c.args.bytes c.if-at.true) ∙ c.in_ok-check.ensures.sound

pub returns-in_ok-check-2-clause-sound : goal.returns-in_ok-check-2-clause-sound
returns-in_ok-check-2-clause-sound c = sym (index_fault_is c.args.at c.args.bytes c.if-at.false) ∙ c.in_ok-check-2.ensures.sound
