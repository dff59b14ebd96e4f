use Rattle.std.proofs.Common.{◌≡◌, refl, sym, ap, ◌∙◌}
use Rattle.spl_report.specs.ReportText.{report_text}
use Rattle.spl_top.specs.Asked.{rule_of_merge}
use Rattle.spl_top.specs.Outcome.{bad_line, ran}
use Rattle.spl_top.proofs.Tops.{cause_as, fault_same}
use Rattle.spl_top.proofs.ending.ending_of_input.Goals as goal

pub returns-in-Err-Line-clause-told : goal.returns-in-Err-Line-clause-told
returns-in-Err-Line-clause-told g c = (bad_line (record { line = c.in-Err-Line.line; why = c.in-Err-Line.why }), rw c.in-Err-Line.field-0-is at c.in-Err-Line.ensures.exact, refl, c.in_ok-text-in-Err-Line.ensures ∙ fault_same _ _ _ _ (sym c.in-Err-Line.line-is) (sym c.in-Err-Line.why-is))

pub returns-clause-told : goal.returns-clause-told
returns-clause-told g c = (
  ran c.in-Ok.script c.in_ok-ran.ran.rows.items c.in_ok-ran.ran.status,
  (c.in-Ok.ensures.small, c.in-Ok.ensures.exact, c.in_ok-ran.ensures.rows),
  refl,
  c.in_ok-text.ensures ∙ ap report_text c.as_slice.ensures.value,
)

pub returns-clause-cause : goal.returns-clause-cause
returns-clause-cause g c =
    cause_as (rule_of_merge (g.W.MergeLaw.rule c.args.own.now) c.args.setup.merge) c.args.setup.extents g.P.Seal.Seal.TELLS (g.P.Port.counts c.args.port.now) (g.P.Port.counts c.run_on.new.port) c.in_ok-ran.ran.status
    (λ rows. rows ≡ c.in_ok-ran.ran.rows.items) (λ rows. c.in_ok-text.text.items ≡ report_text rows)
    (λ rows is. c.in_ok-text.ensures ∙ ap report_text (c.as_slice.ensures.value ∙ sym is)) c.in_ok-ran.ensures.cause
