use Rattle.std.proofs.Common.{◌≡◌, ◌+◌, ◌<◌, ℕ, length, take, true, refl, arith, sym, ap, ◌∙◌}
use Rattle.std.proofs.lemmas.List.{take_all}
use Rattle.std.proofs.lemmas.Bool.Decides.{nat_tests}
use Rattle.std.proofs.lemmas.Bool.{true≢false}
use Rattle.spl_numbers.specs.Numbers.{has, times, one_if, size_of}
use Rattle.spl_numbers.proofs.ListedLemmas.{listed, not_listed, not_listed_next, taken_within, same_members}
use Rattle.spl_numbers.proofs.numbers.Numbers.is_listed_by.Goals as goal
use Rattle.spl_numbers.proofs.numbers.Numbers.is_listed_by.Goals.{then-seen-numbers, else-seen-numbers}

pub put_back-requires-clause-within : goal.put_back-requires-clause-within
put_back-requires-clause-within c =
    taken_within (take c.take_out-seen.result c.args.numbers.now) c.args.self.now c.take_out-seen.new.self c.take_out-seen.ensures.taken c.take_out-seen.ensures.limit

pub returns-clause-answer : goal.returns-clause-answer
returns-clause-answer c =
    let h = c.take_out-seen.ensures in
    elim c.if-seen-numbers.branch [
      | then-seen-numbers w ↦
          let whole : take c.take_out-seen.result c.args.numbers.now ≡ c.args.numbers.now = take_all c.take_out-seen.result c.args.numbers.now (omega arith) in
          let taken : (n : ℕ) → times c.args.numbers.now n + one_if (has c.take_out-seen.new.self n) ≡ one_if (has c.args.self.now n) = rw whole at h.taken in
          let count : c.self.inside.count ≡ size_of c.take_out-seen.new.self = rw (← c.self.view_is) c.self.invariant.counted in (
            λ all. listed c.args.numbers.now c.args.self.now c.take_out-seen.new.self taken (grind (arith, nat_tests)),
            λ lists. let empty = not_listed c.args.numbers.now c.args.self.now c.take_out-seen.new.self taken lists in grind (arith, nat_tests),
          )
      | else-seen-numbers w ↦
          let within : c.take_out-seen.result < length c.args.numbers.now = omega arith in (
            λ all. absurd (grind (arith, nat_tests)),
            λ lists. absurd (not_listed_next c.args.numbers.now c.args.self.now c.take_out-seen.new.self c.take_out-seen.result within h.taken (h.next within) lists),
          )
    ]

pub returns-clause-unchanged : goal.returns-clause-unchanged
returns-clause-unchanged c =
    same_members c.args.self.now c.put_back.new.self (c.put_back.ensures.limit ∙ c.take_out-seen.ensures.limit) (λ n. c.put_back.ensures.added n ∙ c.take_out-seen.ensures.taken n)
