use Rattle.std.proofs.Common.{◌≡◌, ◌*◌, ◌+◌, ◌-◌, ◌<◌, length, arith, sym, get_or, take}
use Rattle.std.specs.Str.Parse.{digits_value}
use Rattle.spl_script.proofs.Callers.{none_at_other, none_at_large, digits_more, value_more, some_at_end, not_empty}
use Rattle.spl_script.proofs.names.read_caller.Goals as goal

pub returns-then-not-is_ascii_digit-clause-value : goal.returns-then-not-is_ascii_digit-clause-value
returns-then-not-is_ascii_digit-clause-value c =
    sym (none_at_other c.args.callers c.args.field.now c.loop-byte.byte-index c.loop-byte-test.true (sym c.if-not-is_ascii_digit.ensures.value))

pub returns-then-number-callers-clause-value : goal.returns-then-number-callers-clause-value
returns-then-number-callers-clause-value c =
    let digit = c.if-not-is_ascii_digit.ensures.cases in
    let value : digits_value 10 (take (c.loop-byte.byte-index + 1) c.args.field.now) ≡ 10 * c.loop-byte.number + (get_or c.args.field.now c.loop-byte.byte-index 0 - 48) =
    value_more c.args.field.now c.loop-byte.byte-index c.loop-byte.number c.loop-byte-test.true c.loop-byte.invariant.value digit.0 digit.1 in
    sym (none_at_large c.args.callers c.args.field.now (c.loop-byte.byte-index + 1) (omega arith))

pub loop-byte-preserved : goal.loop-byte-preserved
loop-byte-preserved c =
    let digit = c.if-not-is_ascii_digit.ensures.cases in
    record {
      digits = digits_more c.args.field.now c.loop-byte.byte-index c.loop-byte-test.true c.loop-byte.invariant.digits (sym c.if-not-is_ascii_digit.ensures.value);
      value = value_more c.args.field.now c.loop-byte.byte-index c.loop-byte.number c.loop-byte-test.true c.loop-byte.invariant.value digit.0 digit.1;
      small = omega arith;
      below = λ _. omega arith;
    }

pub returns-clause-value : goal.returns-clause-value
returns-clause-value c =
    let some : 0 < length c.args.field.now = not_empty c.is_empty.result _ c.is_empty.ensures c.if-is_empty.false in
    sym (some_at_end c.args.callers c.args.field.now c.loop-byte.byte-index c.loop-byte.number (omega arith) some (omega arith) c.loop-byte.invariant.digits c.loop-byte.invariant.value (c.loop-byte.invariant.below (omega arith)))

pub returns-clause-below : goal.returns-clause-below
returns-clause-below c =
    let some : 0 < length c.args.field.now = not_empty c.is_empty.result _ c.is_empty.ensures c.if-is_empty.false in
    c.loop-byte.invariant.below (omega arith)
