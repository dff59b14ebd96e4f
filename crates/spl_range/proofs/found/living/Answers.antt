use Rattle.std.proofs.Common.{subst, sym, ◌∙◌}
use Rattle.spl_message.specs.Pairs.{AreInOrder}
use Rattle.spl_range.proofs.Living.{are_values, in_order, living_all}
use Rattle.spl_range.proofs.found.living.Goals as goal

pub of-requires : goal.of-requires
of-requires g c =
    let rule = g.L.MergeLaw.rule c.args.law.now in
    let all = c.args.found.entries in
    subst AreInOrder (sym (living_all rule c.args.span.now c.loop-key.pairs.items c.loop-key.key-iterator all c.in-None.ensures.steps.0 c.loop-key.invariant))
    (in_order rule c.args.span.now all c.into_iter-key-iterator.ensures.into_iter_gives.5)

pub returns : goal.returns
returns g c =
    let rule = g.L.MergeLaw.rule c.args.law.now in
    let all = c.args.found.entries in
    are_values rule c.args.span.now all c.of.result c.into_iter-key-iterator.ensures.into_iter_gives.5
    (c.of.ensures ∙ living_all rule c.args.span.now c.loop-key.pairs.items c.loop-key.key-iterator all c.in-None.ensures.steps.0 c.loop-key.invariant)
