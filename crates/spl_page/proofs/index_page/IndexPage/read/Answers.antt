use Rattle.std.proofs.Common.{◌≡◌, None, refl, rules, sym, ◌∙◌, arith}
use Rattle.spl_port.specs.Page.{page_fault}
use Rattle.spl_page.proofs.IndexReading.{form_fault_is, is_page, page_rises}
use Rattle.spl_page.proofs.index_page.IndexPage.read.Goals as goal

pub returns-in-Some-clause-err : goal.returns-in-Some-clause-err
returns-in-Some-clause-err c = (refl, sym (form_fault_is c.args.at c.args.bytes.now c.requires) ∙ sym c.form_fault.ensures.fault ∙ c.in-Some.is)

pub returns-in_err-entries-clause-err : goal.returns-in_err-entries-clause-err
returns-in_err-entries-clause-err c =
    let none : page_fault c.args.at c.args.bytes.now ≡ None =
    sym (form_fault_is c.args.at c.args.bytes.now c.requires) ∙ sym c.form_fault.ensures.fault ∙ c.in_default.is in
    search (rules, none)

pub invariant_of-result : goal.invariant_of-result
invariant_of-result c =
    let sound = sym c.form_fault.ensures.fault ∙ c.in_default.is in
    record {
      rising = page_rises c.args.at c.args.bytes.now c.in_ok-entries.field-0.entries.items sound c.in_ok-entries.ensures.ok;
      length = omega (arith, c.in_ok-entries.ensures.end, c.in_ok-entries.ensures.short);
    }

pub returns-clause-ok : goal.returns-clause-ok
returns-clause-ok c =
    let sound = sym c.form_fault.ensures.fault ∙ c.in_default.is in
    is_page c.args.at c.args.bytes.now c.in_ok-entries.field-0.entries.items sound c.in_ok-entries.ensures.ok
