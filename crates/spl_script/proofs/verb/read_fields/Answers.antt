use Rattle.std.proofs.Common.{eqb, sym}
use Rattle.spl_script.proofs.Parts.{asks_no_caller}
use Rattle.spl_script.proofs.verb.read_fields.Goals as goal

pub returns-in_default-read_caller-clause-value : goal.returns-in_default-read_caller-clause-value
returns-in_default-read_caller-clause-value c =
    asks_no_caller c.args.callers c.args.text.now _ (λ byte. eqb byte 32) c.in-Some.rest.now (rw c.in-Some.is at c.first_part.ensures.parts) (sym (rw c.in_default-read_caller.is at c.read_caller.ensures.value))
