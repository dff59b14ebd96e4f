use Rattle.std.proofs.Common.{◌≡◌, replicate, ap, ◌∙◌, arith}
use Rattle.std.proofs.lemmas.Grind.{common_steps}
use Rattle.spl_quotient.specs.Slot.{Slot, blank}
use Rattle.spl_quotient.specs.Table.{turned}
use Rattle.spl_quotient.proofs.Turns.{turned-replicate, same_table}
use Rattle.spl_quotient.proofs.table.Table.new.Goals as goal

pub returns : goal.returns
returns c =
    let filled : c.resize.new.self.items ≡ replicate c.args.count blank = grind (arith, common_steps, c.in_ok-resize.ensures.items) in
    same_table _ _ c.args.origin (ap (turned {X = Slot} c.args.origin) filled ∙ turned-replicate c.args.origin c.args.count blank (omega arith))
