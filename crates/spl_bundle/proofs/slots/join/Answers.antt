use Rattle.std.proofs.Common.{◌+◌, ◌++◌, ap, ap₂, sym, refl, ◌∙◌, length, length-append, arith}
use Rattle.spl_bundle.specs.Numbered.{bundle_at}
use Rattle.spl_bundle.proofs.Live.{live_below, live_more, live_none, length-live_below}
use Rattle.spl_bundle.proofs.slots.join.Goals as goal

pub loop-number-init : goal.loop-number-init
loop-number-init c = record {
  branches = c.clear.ensures.items ∙ sym (live_none c.args.other.now c.max-from.result);
  room = omega arith;
  owner = refl;
}

-- the next list fits
pub unwrap-requires : goal.unwrap-requires
unwrap-requires c =
    let queue = c.args.other.now in
    let number = c.loop-number.number in
    let from = c.max-from.result in
    let more = ap length (live_more queue c.args.mark from number (omega arith) (omega arith) (omega arith)) ∙ length-append (live_below queue from number) (bundle_at queue number).branches in
    let short = length-live_below queue c.args.mark from (number + 1) (omega arith) (omega arith) in
    let list = ap length c.list.ensures in
    let before = ap length c.loop-number.invariant.branches in
    c.extend_from_slice.ensures.succeeds (omega (arith, c.requires.branches, c.loop-number.invariant.room))

pub loop-number-preserved : goal.loop-number-preserved
loop-number-preserved c =
    let queue = c.args.other.now in
    let number = c.loop-number.number in
    let from = c.max-from.result in
    let more = live_more queue c.args.mark from number (omega arith) (omega arith) (omega arith) in
    let extended = rw c.unwrap.ensures at c.extend_from_slice.ensures.ok in
    record {
      branches = extended ∙ ap₂ ◌++◌ c.loop-number.invariant.branches c.list.ensures ∙ sym more;
      room = omega (arith, c.loop-number.invariant.room, c.extend_from_slice.ensures.capacity);
      owner = c.loop-number.invariant.owner;
    }
