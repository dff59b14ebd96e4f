use Rattle.std.proofs.Common.{◌≡◌, ◌+◌, ℕ, length, take}
use Rattle.spl_numbers.specs.Numbers.{has, times, one_if}
use Rattle.spl_numbers.proofs.numbers.Numbers.put_back.Given as goal

-- the numbers so far were added
abbrev pub invariant-loop-number : goal.invariant-loop-number
invariant-loop-number l = record {
  limit : length l.self ≡ length l.initial.self;
  added : (n : ℕ) → one_if (has l.self n) ≡ times (take l.number-index l.numbers) n + one_if (has l.initial.self n);
}
