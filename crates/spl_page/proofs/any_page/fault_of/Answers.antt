use Rattle.std.proofs.Common.{◌∙◌}
use Rattle.spl_page.proofs.IndexReading.{form_fault_is as index_fault_is}
use Rattle.spl_page.proofs.LeafReading.{form_fault_is as leaf_fault_is}
use Rattle.spl_page.proofs.any_page.fault_of.Goals as goal

pub returns-then-at : goal.returns-then-at
returns-then-at c = c.form_fault.ensures.fault ∙ leaf_fault_is c.args.at c.args.bytes.now c.if-at.true

pub returns-else-at : goal.returns-else-at
returns-else-at c = c.form_fault-else-at.ensures.fault ∙ index_fault_is c.args.at c.args.bytes.now c.if-at.false
