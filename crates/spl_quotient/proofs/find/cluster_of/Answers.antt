use Rattle.std.proofs.Common.{◌≡◌, ◌-◌, true, false, sym, ap, ◌∙◌, arith}
use Rattle.spl_quotient.specs.Slot.{Slot}
use Rattle.spl_quotient.specs.Table.{at, occupied_at}
use Rattle.spl_quotient.proofs.Runs.{shifted_later}
use Rattle.spl_quotient.proofs.Tallies.{tally-pass, tally-pass_before, tally-fail_before}
use Rattle.spl_quotient.proofs.find.cluster_of.Goals as goal

pub loop-start-init : goal.loop-start-init
loop-start-init c = record {
  slot = c.slot_at-slot.ensures.value;
  some = omega arith;
  homes = sym (tally-pass (occupied_at c.args.table.now.slots) c.args.home c.requires.occupied);
  small = omega arith;
}

pub loop-start-preserved-then-is_occupied : goal.loop-start-preserved-then-is_occupied
loop-start-preserved-then-is_occupied c =
    let slots = c.args.table.now.slots in
    let start = c.loop-start.start in
    let here : (at slots start).shifted ≡ true = sym (ap (λ (slot : Slot). slot.shifted) c.loop-start.invariant.slot) ∙ sym c.is_shifted.ensures ∙ c.loop-start-test.true in
    let some = shifted_later slots c.requires.laid start here in
    let read = c.slot_at-slot-in-loop-start.ensures.value in
    let occupied : occupied_at slots (start - 1) ≡ true = sym (ap (λ (slot : Slot). slot.occupied) read) ∙ sym c.is_occupied.ensures ∙ c.if-is_occupied.true in
    record {
      slot = read;
      some = omega arith;
      homes = omega (arith, c.loop-start.invariant.homes, tally-pass_before (occupied_at slots) start some occupied);
      small = omega (arith, c.loop-start.invariant.small);
    }

pub loop-start-preserved : goal.loop-start-preserved
loop-start-preserved c =
    let slots = c.args.table.now.slots in
    let start = c.loop-start.start in
    let here : (at slots start).shifted ≡ true = sym (ap (λ (slot : Slot). slot.shifted) c.loop-start.invariant.slot) ∙ sym c.is_shifted.ensures ∙ c.loop-start-test.true in
    let some = shifted_later slots c.requires.laid start here in
    let read = c.slot_at-slot-in-loop-start.ensures.value in
    let free : occupied_at slots (start - 1) ≡ false = sym (ap (λ (slot : Slot). slot.occupied) read) ∙ sym c.is_occupied.ensures ∙ c.if-is_occupied.false in
    record {
      slot = read;
      some = c.loop-start.invariant.some;
      homes = omega (arith, c.loop-start.invariant.homes, tally-fail_before (occupied_at slots) start some free);
      small = omega (arith, c.loop-start.invariant.small);
    }
