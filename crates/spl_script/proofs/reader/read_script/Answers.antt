use Rattle.std.proofs.Common.{◌≡◌, ◌+◌, ◌≤◌, ◌<◌, arith, eqb, sym, ap, ◌∙◌, length}
use Rattle.std.proofs.lemmas.List.{length-take}
use Rattle.spl_script.specs.declared.lines.ScriptLine.{ScriptLine}
use Rattle.spl_script.specs.Verb.{IsDeed}
use Rattle.spl_script.proofs.Readings.{none_read, more_read, more_faulty, all_added, length_added, fault_told, small_by}
use Rattle.spl_script.proofs.reader.read_script.Goals as goal

pub loop-after-init : goal.loop-after-init
loop-after-init c = record {
  whole = c.within_limit-whole.ensures;
  within = omega arith;
  before = omega arith;
  some = omega arith;
  near = omega arith;
  few = rw c.new-lines.ensures.items (omega arith);
  callers = rw c.new-lines.ensures.items (λ k d none. absurd (omega arith));
  deeds = rw c.new-lines.ensures.items (λ k d none. absurd (omega arith));
  read = none_read c.args.callers c.args.bytes.now c.within_limit-whole.result.now c.new-lines.result.items c.new-lines.ensures.items c.within_limit-whole.ensures;
}

pub of-requires-clause-deeds : goal.of-requires-clause-deeds
of-requires-clause-deeds c = rw c.in_ok-add_line.ensures (all_added (λ (line : ScriptLine). IsDeed line.deed) c.loop-after.lines.items c.in_ok-line.line c.loop-after.invariant.deeds c.in_ok-line.ensures.deed)

pub returns-in_default-clause-callers : goal.returns-in_default-clause-callers
returns-in_default-clause-callers c =
    rw (c.of.ensures ∙ c.in_ok-add_line.ensures) (all_added (λ (line : ScriptLine). line.caller < c.args.callers) c.loop-after.lines.items c.in_ok-line.line c.loop-after.invariant.callers c.in_ok-line.ensures.below)

pub returns-in_default-clause-small : goal.returns-in_default-clause-small
returns-in_default-clause-small c =
    let lengths : length c.first_part.result.0.now ≡ length c.loop-after.left.now = rw c.in_default.is at c.first_part.ensures.lengths in
    small_by _ _ _ (length c.args.bytes.now) lengths c.loop-after.invariant.before c.in_ok-line.ensures.near (ap length c.loop-after.invariant.whole ∙ length-take 16777217 c.args.bytes.now)

pub returns-in_err-line-2-clause-exact : goal.returns-in_err-line-2-clause-exact
returns-in_err-line-2-clause-exact c =
    let parts = rw c.in-Some.is at c.first_part.ensures.parts in
    let lengths = rw c.in-Some.is at c.first_part.ensures.lengths in
    fault_told _ c.in_err-line-2.field-0.0 _ c.from_residual-in_err-line-2.ensures.1
    (more_faulty c.args.callers c.loop-after.number _ _ c.loop-after.lines.items c.in_err-line-2.field-0.0 c.first_part.result.0.now (λ byte. eqb byte 10) c.in-Some.after.now _ _
    parts (omega (arith, lengths, c.loop-after.invariant.within)) c.in_err-line-2.ensures.value c.loop-after.invariant.read)

pub loop-after-preserved : goal.loop-after-preserved
loop-after-preserved c =
    let parts = rw c.in-Some.is at c.first_part.ensures.parts in
    let lengths = rw c.in-Some.is at c.first_part.ensures.lengths in
    let items = c.in_ok-add_line-2.ensures in
    let count : length c.add_line-in-loop-after.new.lines.items ≤ length c.loop-after.lines.items + 1 = rw items (length_added c.loop-after.lines.items c.in_ok-line-2.line) in
    record {
      whole = c.loop-after.invariant.whole;
      within = omega (arith, lengths, c.loop-after.invariant.within);
      before = c.in_ok-line-2.ensures.near.1;
      some = omega arith;
      near = omega (arith, c.in_ok-line-2.ensures.near.0);
      few = omega (arith, count, c.loop-after.invariant.few);
      callers = rw items (all_added (λ (line : ScriptLine). line.caller < c.args.callers) c.loop-after.lines.items c.in_ok-line-2.line c.loop-after.invariant.callers c.in_ok-line-2.ensures.below);
      deeds = rw items (all_added (λ (line : ScriptLine). IsDeed line.deed) c.loop-after.lines.items c.in_ok-line-2.line c.loop-after.invariant.deeds c.in_ok-line-2.ensures.deed);
      read = rw items (sym (more_read c.args.callers c.loop-after.number _ _ c.loop-after.lines.items c.in_ok-line-2.line c.first_part.result.0.now (λ byte. eqb byte 10) c.in-Some.after.now _
          parts (omega (arith, lengths, c.loop-after.invariant.within)) c.in_ok-line-2.ensures.value) ∙ c.loop-after.invariant.read);
    }
