use Rattle.std.proofs.Common.{◌≡◌, true, sym, ap, ◌∙◌, arith}
use Rattle.spl_quotient.specs.Slot.{begins_run}
use Rattle.spl_quotient.specs.Table.{begins_at}
use Rattle.spl_quotient.proofs.Tallies.{tally-pass, tally-pass_one, tally-fail_one}
use Rattle.spl_quotient.proofs.find.nth_run.Goals as goal
use Rattle.spl_quotient.proofs.find.nth_run.Goals.{then-begins_run+else-left-eq0, else-begins_run}

pub returns-then-left-eq0-clause-number : goal.returns-then-left-eq0-clause-number
returns-then-left-eq0-clause-number c =
    let begins : begins_at c.args.table.now.slots c.loop-position.position ≡ true =
    sym (ap begins_run c.slot_at.ensures.value) ∙ sym c.begins_run.ensures ∙ c.if-begins_run.true in
    omega (arith, c.loop-position.invariant.some, c.loop-position.invariant.number, tally-pass (begins_at c.args.table.now.slots) c.loop-position.position begins)

pub loop-position-preserved : goal.loop-position-preserved
loop-position-preserved c =
    let read = sym (ap begins_run c.slot_at.ensures.value) ∙ sym c.begins_run.ensures in
    elim c.if-begins_run.branch [
      | then-begins_run+else-left-eq0 w ↦
          let begun = tally-pass_one (begins_at c.args.table.now.slots) c.loop-position.position (read ∙ w.if-begins_run.true) in
          record { some = omega arith; number = omega (arith, c.loop-position.invariant.number, c.loop-position.invariant.some) }
      | else-begins_run w ↦
          let same = tally-fail_one (begins_at c.args.table.now.slots) c.loop-position.position (read ∙ w.if-begins_run.false) in
          record { some = omega (arith, c.loop-position.invariant.some); number = omega (arith, c.loop-position.invariant.number) }
    ]
