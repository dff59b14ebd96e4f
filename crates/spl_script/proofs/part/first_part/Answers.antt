use Rattle.std.proofs.Common.{eqb, sym}
use Rattle.spl_script.proofs.Parts.{split_some, split_none}
use Rattle.spl_script.proofs.part.first_part.Goals as goal

pub returns-in-Some-clause-parts : goal.returns-in-Some-clause-parts
returns-in-Some-clause-parts c = split_some (λ byte. eqb byte c.args.separator) c.args.bytes.now c.in-Some.end (sym c.in-Some.ensures)

pub returns-in-None-clause-parts : goal.returns-in-None-clause-parts
returns-in-None-clause-parts c = split_none (λ byte. eqb byte c.args.separator) c.args.bytes.now (sym c.in-None.ensures)
