use Rattle.std.proofs.Common.{◌≡◌, true, false, map, ap, sym, ◌∙◌, arith}
use Rattle.std.specs.Ordering.{is_lt}
use Rattle.std.proofs.lemmas.List.{length-map}
use Rattle.spl_message.specs.Key.{is_below}
use Rattle.spl_page.specs.Sound.{entries_of}
use Rattle.spl_page.proofs.Halves.{count_goes_on, count_stops, count_within}
use Rattle.spl_page.proofs.sound_page.SoundPage.rank.Goals as goal

pub loop-low-init : goal.loop-low-init
loop-low-init g c =
    let entries = entries_of (g.F.Form.entry c.args.self.now.at.page) g.F.Form.entry_length c.args.self.now.bytes in
    let within = count_within (map g.F.Form.entry_key entries) c.args.key.now in
    let len = length-map entries g.F.Form.entry_key in
    (omega arith, omega (arith, within, len, c.count-high.ensures.number), omega (arith, c.count-high.ensures.number))

pub loop-low-preserved-then-is_lt : goal.loop-low-preserved-then-is_lt
loop-low-preserved-then-is_lt g c =
    let entries = entries_of (g.F.Form.entry c.args.self.now.at.page) g.F.Form.entry_length c.args.self.now.bytes in
    let below : is_below c.key_at.result.now c.args.key.now ≡ true = ap is_lt (sym c.cmp.ensures) ∙ sym c.is_lt.ensures ∙ c.if-is_lt.true in
    let more = count_goes_on (map g.F.Form.entry_key entries) c.args.key.now _ c.key_at.result.now c.count-high.ensures.rising c.key_at.ensures below in
    (omega (arith, more), c.loop-low.invariant.1, c.loop-low.invariant.2)

pub loop-low-preserved : goal.loop-low-preserved
loop-low-preserved g c =
    let entries = entries_of (g.F.Form.entry c.args.self.now.at.page) g.F.Form.entry_length c.args.self.now.bytes in
    let above : is_below c.key_at.result.now c.args.key.now ≡ false = ap is_lt (sym c.cmp.ensures) ∙ sym c.is_lt.ensures ∙ c.if-is_lt.false in
    let most = count_stops (map g.F.Form.entry_key entries) c.args.key.now _ c.key_at.result.now c.key_at.ensures above in
    (c.loop-low.invariant.0, most, omega (arith, most, c.loop-low.invariant, c.loop-low-test.true))
