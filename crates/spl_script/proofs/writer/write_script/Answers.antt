use Rattle.std.proofs.Common.{◌≡◌, ◌∙◌, ap, take, flat_map}
use Rattle.std.proofs.lemmas.List.{take_all}
use Rattle.spl_script.specs.Writing.{line_text}
use Rattle.spl_script.proofs.Again.{read_again, lines_written, all_written, all_readable}
use Rattle.spl_script.proofs.writer.write_script.Goals as goal

pub loop-line-preserved : goal.loop-line-preserved
loop-line-preserved c = record {
  text = lines_written c.lines-lines.result.now c.loop-line.line-index c.line-item.result _ _ c.loop-line-test.true c.line-item.is c.loop-line.invariant.text c.in_ok-push_line.ensures.text;
  whole = all_written c.lines-lines.result.now c.loop-line.line-index c.line-item.result c.loop-line-test.true c.line-item.is c.loop-line.invariant.whole c.in_ok-push_line.ensures.whole;
}

pub returns-clause-again : goal.returns-clause-again
returns-clause-again c = λ callers below near.
    let all : take c.loop-line.line-index c.lines-lines.result.now ≡ c.args.script.now = take_all _ _ c.loop-line-test.false ∙ c.lines-lines.ensures.value in
    read_again callers c.args.script.now c.loop-line.out.items (all_readable callers c.args.script.now (rw all at c.loop-line.invariant.whole) c.lines-lines.ensures.deeds below)
    c.lines-lines.ensures.small (c.loop-line.invariant.text ∙ ap (flat_map line_text) all) near
