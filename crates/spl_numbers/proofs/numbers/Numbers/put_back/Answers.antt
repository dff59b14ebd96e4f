use Rattle.std.proofs.Common.{◌≡◌, ◌<◌, length, get_or, take, refl, zero-add, arith, sym, ap, ◌∙◌}
use Rattle.std.proofs.lemmas.List.{length-set, take_all}
use Rattle.spl_numbers.specs.Numbers.{times}
use Rattle.spl_numbers.proofs.ListedLemmas.{slice_get-has, put_free, put_more}
use Rattle.spl_numbers.proofs.numbers.Numbers.put_back.Goals as goal

pub loop-number-init : goal.loop-number-init
loop-number-init c = record { limit = refl; added = λ n. sym (zero-add _) }

pub insert-requires : goal.insert-requires
insert-requires c =
    let h = c.loop-number.invariant in
    let inside : get_or c.args.numbers.now c.loop-number.number-index 0 < length c.loop-number.self = omega (arith, h.limit, c.requires.within c.loop-number.number-index c.loop-number-test.true) in
    slice_get-has _ _ _ inside (put_free c.args.numbers.now c.args.self.now c.loop-number.self c.loop-number.number-index c.loop-number-test.true c.requires.new h.added)

pub loop-number-preserved : goal.loop-number-preserved
loop-number-preserved c =
    let h = c.loop-number.invariant in
    let inside : get_or c.args.numbers.now c.loop-number.number-index 0 < length c.loop-number.self = omega (arith, h.limit, c.requires.within c.loop-number.number-index c.loop-number-test.true) in
    let free = put_free c.args.numbers.now c.args.self.now c.loop-number.self c.loop-number.number-index c.loop-number-test.true c.requires.new h.added in
    rw c.insert.ensures record {
      limit = length-set _ _ _ ∙ h.limit;
      added = λ n. omega (arith, h.added n, put_more c.args.numbers.now c.loop-number.self c.loop-number.number-index n c.loop-number-test.true inside free);
    }

pub returns-clause-added : goal.returns-clause-added
returns-clause-added c = λ n.
    rw (← take_all c.loop-number.number-index c.args.numbers.now c.loop-number-test.false) (c.loop-number.invariant.added n)
