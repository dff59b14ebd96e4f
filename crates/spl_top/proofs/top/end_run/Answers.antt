use Rattle.std.proofs.Common.{◌≡◌, ◌≤◌, length, vec_len, arith, ap, sym, ◌∙◌, subst}
use Rattle.spl_top.specs.Asked.{rule_of_merge}
use Rattle.spl_top.specs.Outcome.{EndsWithInput}
use Rattle.spl_top.specs.Top.{Tells}
use Rattle.spl_top.proofs.Tops.{told_from, late_by, cause_told}
use Rattle.spl_top.proofs.top.end_run.Goals as goal

pub returns-in-Ok-ending_of_input-clause-told : goal.returns-in-Ok-ending_of_input-clause-told
returns-in-Ok-ending_of_input-clause-told g c =
    let rule = rule_of_merge (g.W.MergeLaw.rule c.args.own.now) c.args.setup.merge in
    let o = g.O.Sink.means c.args.out.now in
    let o' = g.O.Sink.means c.tell-in-Ok-ending_of_input.new.out in
    let ending = c.in-Ok-ending_of_input.ending in
    let count : length c.in-Ok.bytes.items ≡ vec_len c.in-Ok.bytes = ap length (sym c.as_slice.ensures.value) ∙ c.as_slice.ensures.len in
    let bound : length c.in-Ok.bytes.items ≤ 16777217 = omega (arith, count, c.in-Ok.ensures.bound) in
    told_from rule g.P.Seal.Seal.TELLS 1 (g.I.Source.means c.args.input.now) (g.I.Source.means c.read_whole.new.input) o o' _ ending.status ending.text.items c.in-Ok.bytes.items
    (c.in-Ok.ensures.count (λ e. cc)) c.in-Ok.ensures.ok bound (λ few. c.in-Ok.ensures.end (omega (arith, count)))
    (subst (EndsWithInput rule g.P.Seal.Seal.TELLS 1 ending.status ending.text.items) c.as_slice.ensures.value c.in-Ok-ending_of_input.ensures.told)
    (subst (λ text. Tells o o' ending.status text c.tell-in-Ok-ending_of_input.result) c.as_slice-in-Ok-ending_of_input.ensures.value c.tell-in-Ok-ending_of_input.ensures)

pub returns-in-Ok-ending_of_input-clause-no_late_read : goal.returns-in-Ok-ending_of_input-clause-no_late_read
returns-in-Ok-ending_of_input-clause-no_late_read g c = λ none.
    late_by _ (vec_len c.in-Ok.bytes) c.in-Ok.ensures.bound (c.in-Ok.ensures.met none) (c.in-Ok.ensures.full none)

pub returns-in-Ok-ending_of_input-clause-cause : goal.returns-in-Ok-ending_of_input-clause-cause
returns-in-Ok-ending_of_input-clause-cause g c =
    let rule = rule_of_merge (g.W.MergeLaw.rule c.args.own.now) c.args.setup.merge in
    let o = g.O.Sink.means c.args.out.now in
    let o' = g.O.Sink.means c.tell-in-Ok-ending_of_input.new.out in
    let ending = c.in-Ok-ending_of_input.ending in
    cause_told rule c.args.setup.extents g.P.Seal.Seal.TELLS (g.P.Port.counts c.args.port.now) (g.P.Port.counts c.ending_of_input.new.port) o o' ending.status ending.text.items c.tell-in-Ok-ending_of_input.result
    (subst (λ text. Tells o o' ending.status text c.tell-in-Ok-ending_of_input.result) c.as_slice-in-Ok-ending_of_input.ensures.value c.tell-in-Ok-ending_of_input.ensures) c.in-Ok-ending_of_input.ensures.cause
