use Rattle.std.proofs.Common.{◌≡◌, ◌≤◌, ℕ, true, false, length, sym, ap, ◌∙◌, inl, inr, arith}
use Rattle.std.proofs.lemmas.Bool.{cases_eq}
use Rattle.std.proofs.lemmas.List.{get_or_past}
use Rattle.spl_quotient.specs.Slot.{Slot, blank}
use Rattle.spl_quotient.specs.Table.{at}
use Rattle.spl_quotient.proofs.Runs.{has_here, has_not}
use Rattle.spl_quotient.proofs.find.run_has.Goals as goal

pub returns-then-remainder : goal.returns-then-remainder
returns-then-remainder c =
    let same : (at c.args.table.now.slots c.args.run).remainder ≡ c.args.remainder =
    sym (ap (λ (slot : Slot). slot.remainder) c.slot_at.ensures.value) ∙ sym c.remainder.ensures ∙ c.if-remainder.true in
    sym (has_here c.args.table.now.slots c.requires.laid c.args.run c.args.run c.args.remainder (omega arith) (λ t after upto. absurd (omega arith)) c.requires.begins c.requires.within same)

pub returns-then-not-is_continuation : goal.returns-then-not-is_continuation
returns-then-not-is_continuation c =
    let over : (at c.args.table.now.slots c.loop-position.position).continuation ≡ false =
    sym (ap (λ (slot : Slot). slot.continuation) c.slot_at-slot.ensures.value) ∙ sym c.is_continuation.ensures ∙ c.if-not-is_continuation.true in
    sym (has_not c.args.table.now.slots c.requires.laid c.args.run c.loop-position.position c.args.remainder c.requires.begins (omega (arith, c.loop-position.auto.position)) over c.loop-position.invariant.missed)

pub returns-then-remainder-2 : goal.returns-then-remainder-2
returns-then-remainder-2 c =
    let more : (at c.args.table.now.slots c.loop-position.position).continuation ≡ true =
    sym (ap (λ (slot : Slot). slot.continuation) c.slot_at-slot.ensures.value) ∙ sym c.is_continuation.ensures ∙ c.if-not-is_continuation.false in
    let same : (at c.args.table.now.slots c.loop-position.position).remainder ≡ c.args.remainder =
    sym (ap (λ (slot : Slot). slot.remainder) c.slot_at-slot.ensures.value) ∙ sym c.remainder-in-loop-position.ensures ∙ c.if-remainder-2.true in
    sym (has_here c.args.table.now.slots c.requires.laid c.args.run c.loop-position.position c.args.remainder (omega (arith, c.loop-position.auto.position)) (λ t after upto. elim (cases_eq t c.loop-position.position) [
      | inl here ↦ ap (λ (n : ℕ). (at c.args.table.now.slots n).continuation) here ∙ more
      | inr before ↦ c.loop-position.invariant.continued t after (omega arith)
    ]) c.requires.begins (omega arith) same)

pub loop-position-preserved : goal.loop-position-preserved
loop-position-preserved c =
    let more : (at c.args.table.now.slots c.loop-position.position).continuation ≡ true =
    sym (ap (λ (slot : Slot). slot.continuation) c.slot_at-slot.ensures.value) ∙ sym c.is_continuation.ensures ∙ c.if-not-is_continuation.false in
    let read : (at c.args.table.now.slots c.loop-position.position).remainder ≡ c.remainder-in-loop-position.result =
    sym (ap (λ (slot : Slot). slot.remainder) c.slot_at-slot.ensures.value) ∙ sym c.remainder-in-loop-position.ensures in
    record {
      continued = λ t after upto. elim (cases_eq t c.loop-position.position) [
        | inl here ↦ ap (λ (n : ℕ). (at c.args.table.now.slots n).continuation) here ∙ more
        | inr before ↦ c.loop-position.invariant.continued t after (omega arith)
      ];
      missed = λ t from upto same. elim (cases_eq t c.loop-position.position) [
        | inl here ↦ c.if-remainder-2.false (sym read ∙ ap (λ (n : ℕ). (at c.args.table.now.slots n).remainder) (sym here) ∙ same)
        | inr before ↦ c.loop-position.invariant.missed t from (omega arith) same
      ];
    }

pub returns : goal.returns
returns c =
    let behind : length c.args.table.now.slots ≤ c.loop-position.position = omega arith in
    let over : (at c.args.table.now.slots c.loop-position.position).continuation ≡ false =
    ap (λ (slot : Slot). slot.continuation) (get_or_past c.args.table.now.slots c.loop-position.position blank behind) in
    sym (has_not c.args.table.now.slots c.requires.laid c.args.run c.loop-position.position c.args.remainder c.requires.begins (omega (arith, c.loop-position.auto.position)) over c.loop-position.invariant.missed)
