use Rattle.std.proofs.Common.{◌≡◌, ◌≤◌, ◌++◌, length, take, arith, ◌∙◌}
use Rattle.std.proofs.lemmas.Grind.{common_steps}
use Rattle.spl_port.specs.Bytes.{Loses}
use Rattle.spl_port.proofs.BytesLemmas.{gives_next, late_kept, on_err_from}
use Rattle.spl_port.proofs.whole.read_whole.Goals as goal

pub loop-buffer-preserved : goal.loop-buffer-preserved
loop-buffer-preserved g c =
    let text : c.extend_from_slice.new.self.items ≡ c.loop-buffer.text.items ++ take c.in_ok-given.given c.read.new.into = c.in_ok-extend_from_slice.ensures.items in (
      grind (arith, common_steps),
      cc,
      rw text (gives_next _ _ _ _ _ c.loop-buffer.invariant.2 c.in_ok-given.ensures.ok),
      c.in_ok-given.ensures.ok_count ∙ c.loop-buffer.invariant.3,
      λ none. late_kept _ _ _ c.in_ok-given.given c.in_ok-given.ensures.late (omega arith) (c.loop-buffer.invariant.4 none),
    )

pub returns-in_err-extend_from_slice-clause-err : goal.returns-in_err-extend_from_slice-clause-err
returns-in_err-extend_from_slice-clause-err g c =
    let fits : length (c.loop-buffer.text.items ++ take c.in_ok-given.given c.read.new.into) ≤ c.args.limit = grind (arith, common_steps) in
    let lost : Loses (g.I.Source.means c.args.input.now).left (g.I.Source.means c.read.new.self).left c.args.limit =
    (_, fits, gives_next _ _ _ _ _ c.loop-buffer.invariant.2 c.in_ok-given.ensures.ok) in
    on_err_from _ lost
