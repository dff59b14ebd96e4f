use Rattle.std.proofs.Common.{◌≡◌, take, refl, zero-add, get_or, length, arith, sym, ap, ◌∙◌}
use Rattle.std.proofs.lemmas.List.{length-set, take_all}
use Rattle.spl_numbers.specs.Numbers.{times}
use Rattle.spl_numbers.proofs.ListedLemmas.{has_within, slice_get-has, taken_more}
use Rattle.spl_numbers.proofs.numbers.Numbers.take_out.Goals as goal

pub loop-seen-init : goal.loop-seen-init
loop-seen-init c = record { limit = refl; taken = λ n. zero-add _ }

pub remove-requires : goal.remove-requires
remove-requires c =
    let here = sym c.has.ensures ∙ c.if-not-has.false in
    let number = get_or c.args.numbers.now c.loop-seen.seen 0 in
    slice_get-has c.loop-seen.self number _ (has_within c.loop-seen.self number here) here

pub loop-seen-preserved : goal.loop-seen-preserved
loop-seen-preserved c =
    let here = sym c.has.ensures ∙ c.if-not-has.false in
    rw c.remove.ensures record {
      limit = length-set _ _ _ ∙ c.loop-seen.invariant.limit;
      taken = λ n. taken_more c.args.numbers.now c.loop-seen.self c.loop-seen.seen n c.loop-seen-test.true here ∙ c.loop-seen.invariant.taken n;
    }

pub returns-clause-taken : goal.returns-clause-taken
returns-clause-taken c = λ n.
    let past : length c.args.numbers.now ≡ c.loop-seen.seen = omega arith in
    rw past (c.loop-seen.invariant.taken n)
