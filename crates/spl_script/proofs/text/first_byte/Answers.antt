use Rattle.std.proofs.Common.{sym, ◌∙◌}
use Rattle.std.proofs.lemmas.Bool.{ne_eqb}
use Rattle.spl_script.proofs.Texts.{other_cons}
use Rattle.spl_script.proofs.text.first_byte.Goals as goal

pub returns-then-not-is_plain-clause-value : goal.returns-then-not-is_plain-clause-value
returns-then-not-is_plain-clause-value c = other_cons c.args.byte c.args.rest.now (ne_eqb _ _ c.if-byte-eq37.false) (sym c.is_plain.ensures ∙ c.if-not-is_plain.true)
