use Rattle.std.proofs.Common.{◌≡◌, ◌*◌, ◌+◌, ◌-◌, arith, sym, get_or, take}
use Rattle.std.specs.Str.Parse.{digits_value}
use Rattle.spl_words.proofs.Reading.{digits_more, value_more, none_at_large}
use Rattle.spl_words.proofs.number.number_of.Goals as goal

pub returns-then-number-digit : goal.returns-then-number-digit
returns-then-number-digit c =
    let text = c.args.text.now in
    let i = c.loop-byte.byte-index in
    let number = c.loop-byte.number in
    let digit = c.if-not-is_ascii_digit.ensures.cases in
    let value : digits_value 10 (take (i + 1) text) ≡ 10 * number + (get_or text i 0 - 48) =
    value_more text i number c.loop-byte-test.true c.loop-byte.invariant.value digit.0 digit.1 in
    sym (none_at_large text (i + 1) (omega arith))

pub loop-byte-preserved : goal.loop-byte-preserved
loop-byte-preserved c =
    let text = c.args.text.now in
    let i = c.loop-byte.byte-index in
    let inside = c.loop-byte-test.true in
    let digit = c.if-not-is_ascii_digit.ensures in
    let so_far = c.loop-byte.invariant in
    record {
      digits = digits_more text i inside so_far.digits (sym digit.value);
      value = value_more text i c.loop-byte.number inside so_far.value digit.cases.0 digit.cases.1;
      small = omega arith;
    }
