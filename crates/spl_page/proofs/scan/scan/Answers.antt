use Rattle.std.proofs.Common.{ap, ◌∙◌}
use Rattle.std.specs.Ordering.{is_lt}
use Rattle.spl_page.proofs.Numbers.{rest_is}
use Rattle.spl_page.proofs.Scanning.{scanned_all, scanned_more, scanned_none, scanned_stops}
use Rattle.spl_page.proofs.scan.scan.Goals as goal

pub loop-index-init : goal.loop-index-init
loop-index-init g c =
    scanned_none (g.F.Form.entry c.args.page) g.F.Form.entry_length g.F.Form.entry_key c.args.bytes.now c.entry_count-count.result c.args.starts.now c.entry_count-count.ensures

pub returns-in-None : goal.returns-in-None
returns-in-None g c =
    scanned_stops (g.F.Form.entry c.args.page) g.F.Form.entry_length g.F.Form.entry_key c.args.bytes.now c.entry_count-count.result c.loop-index.index c.loop-index.end
    c.loop-index.last.now c.loop-index.rising c.loop-index.starts _ c.loop-index.invariant c.loop-index-test.true (rest_is c.loop-index.end c.args.bytes.now) c.in-None.ensures.key

pub loop-index-preserved : goal.loop-index-preserved
loop-index-preserved g c =
    scanned_more (g.F.Form.entry c.args.page) g.F.Form.entry_length g.F.Form.entry_key c.args.bytes.now c.entry_count-count.result c.loop-index.index c.loop-index.end
    c.loop-index.last.now c.loop-index.rising c.loop-index.starts c.in-Some.slot.key.now _ c.in-Some.slot.size c.is_lt-rising.result
    c.loop-index.invariant c.loop-index-test.true c.requires.page (c.loop-index.auto.starts ∙ c.requires.room) (rest_is c.loop-index.end c.args.bytes.now)
    c.in-Some.ensures.key c.in-Some.ensures.length c.in-Some.ensures.within c.in-Some.slot.some c.in-Some.slot.least
    (c.is_lt-rising.ensures ∙ ap is_lt c.cmp.ensures)

pub returns : goal.returns
returns g c =
    scanned_all (g.F.Form.entry c.args.page) g.F.Form.entry_length g.F.Form.entry_key c.args.bytes.now c.entry_count-count.result c.loop-index.index c.loop-index.end
    c.loop-index.last.now c.loop-index.rising c.loop-index.starts _ c.loop-index.invariant c.loop-index-test.false c.loop-index.auto.index-end c.entry_count-count.ensures
    (rest_is c.loop-index.end c.args.bytes.now)
