use Rattle.std.proofs.Common.{sym, ◌∙◌}
use Rattle.spl_range.proofs.Ends.{dropped}
use Rattle.spl_range.proofs.found.drop_beyond.Goals as goal

pub loop-last-preserved-else-holds : goal.loop-last-preserved-else-holds
loop-last-preserved-else-holds c = λ key inside.
    dropped c.args.span.now c.loop-last.found c.pop_last.new.self c.pop_last.result (c.in-Some.last.now, c.in-Some.field-0-1.now)
    c.pop_last.ensures.removal c.pop_last.ensures.updates c.pop_last.ensures.unchanged c.in-Some.ensures.last (sym c.holds.ensures ∙ c.if-holds.false) key inside
    ∙ c.loop-last.invariant key inside

pub loop-last-preserved-else-holds-2 : goal.loop-last-preserved-else-holds-2
loop-last-preserved-else-holds-2 c = λ key inside.
    dropped c.args.span.now c.loop-last.found c.pop_last.new.self c.pop_last.result (c.in-Some.last.now, c.in-Some.field-0-1.now)
    c.pop_last.ensures.removal c.pop_last.ensures.updates c.pop_last.ensures.unchanged c.in-Some.ensures.last (sym c.holds.ensures ∙ c.if-holds.false) key inside
    ∙ c.loop-last.invariant key inside

pub loop-last-preserved-else-holds-3 : goal.loop-last-preserved-else-holds-3
loop-last-preserved-else-holds-3 c = λ key inside.
    dropped c.args.span.now c.loop-last.found c.pop_last.new.self c.pop_last.result (c.in-Some.last.now, c.in-Some.field-0-1.now)
    c.pop_last.ensures.removal c.pop_last.ensures.updates c.pop_last.ensures.unchanged c.in-Some.ensures.last (sym c.holds.ensures ∙ c.if-holds.false) key inside
    ∙ c.loop-last.invariant key inside
