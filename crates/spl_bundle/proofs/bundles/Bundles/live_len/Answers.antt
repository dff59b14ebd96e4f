use Rattle.std.proofs.Common.{◌≤◌, ◌<◌, [], ap, ◌∙◌, length, length-append, arith}
use Rattle.std.proofs.lemmas.List.Elements.{All-get_or}
use Rattle.spl_bundle.specs.Numbered.{Bundle, unmarked, next_of, bundle_at}
use Rattle.spl_bundle.specs.declared.bundles.TheConstants.{MAX_BRANCHES}
use Rattle.spl_bundle.proofs.Live.{live_below, live_more, live_none, live_all}
use Rattle.spl_bundle.proofs.bundles.Bundles.live_len.Goals as goal

pub loop-number-init : goal.loop-number-init
loop-number-init c = record {
  counted = let none = ap length (live_none c.args.self.now c.max-from.result) in omega arith;
  bounded = omega arith;
}

pub loop-number-preserved : goal.loop-number-preserved
loop-number-preserved c =
    let queue = c.args.self.now in
    let number = c.loop-number.number in
    let from = c.max-from.result in
    let below : number < next_of queue = omega arith in
    let more = ap length (live_more queue c.args.mark from number (omega arith) (omega arith) below) ∙ length-append (live_below queue from number) (bundle_at queue number).branches in
    let list = ap length c.list.ensures in
    let short : length (bundle_at queue number).branches ≤ MAX_BRANCHES =
    All-get_or (λ (bundle : Bundle). length bundle.branches ≤ MAX_BRANCHES) queue.bundles _ (unmarked []) (omega arith) c.first.ensures.limits.branches in
    record { counted = omega arith; bounded = omega arith }

pub returns : goal.returns
returns c =
    c.loop-number.invariant.counted
    ∙ ap length (live_all c.args.self.now c.args.mark c.max-from.result c.loop-number.number (omega arith) (omega arith) (omega arith))
