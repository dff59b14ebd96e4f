use Rattle.std.proofs.Common.{◌≡◌, ◌+◌, ℕ, length, take}
use Rattle.spl_numbers.specs.Numbers.{has, times, one_if}
use Rattle.spl_numbers.proofs.numbers.Numbers.take_out.Given as goal

-- each number is in the set still or was taken out once
abbrev pub invariant-loop-seen : goal.invariant-loop-seen
invariant-loop-seen l = record {
  limit : length l.self ≡ length l.initial.self;
  taken : (n : ℕ) → times (take l.seen l.numbers) n + one_if (has l.self n) ≡ one_if (has l.initial.self n);
}
