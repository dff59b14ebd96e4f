use Rattle.std.proofs.Common.{◌+◌, ◌++◌, ap, ap₂, sym, ◌∙◌, length, length-append, arith}
use Rattle.spl_bundle.specs.Numbered.{bundle_at}
use Rattle.spl_bundle.proofs.Live.{live_below, live_more, length-live_below}
use Rattle.spl_flush.proofs.step.joined.Goals as goal

-- the next list fits
pub unwrap-requires : goal.unwrap-requires
unwrap-requires c =
    let queue = c.args.lists.now in
    let number = c.loop-number.number in
    let from = c.max-from.result in
    let more = ap length (live_more queue c.args.mark from number (omega arith) (omega arith) (omega arith))
    ∙ length-append (live_below queue from number) (bundle_at queue number).branches in
    let short = length-live_below queue c.args.mark from (number + 1) (omega arith) (omega arith) in
    let list = ap length c.list.ensures in
    let before = ap length c.loop-number.invariant in
    c.try_extend_from_slice.ensures.variant.1 (omega (arith, c.requires))

pub loop-number-preserved : goal.loop-number-preserved
loop-number-preserved c =
    let queue = c.args.lists.now in
    let number = c.loop-number.number in
    let from = c.max-from.result in
    let more = live_more queue c.args.mark from number (omega arith) (omega arith) (omega arith) in
    let extended = rw c.unwrap.ensures at c.try_extend_from_slice.ensures.ok in
    extended ∙ ap₂ ◌++◌ c.loop-number.invariant c.list.ensures ∙ sym more
