use Rattle.std.proofs.Common.{◌≡◌, ◌-◌, ◌<◌, ◌++◌, length, All}
use Rattle.spl_script.specs.Generator.{generated}
use Rattle.spl_script.specs.Verb.{IsDeed}
use Rattle.spl_script.proofs.generator.make.Given as goal

-- the lines so far, and those that the state gives, are those of the seed
abbrev pub invariant-loop : goal.invariant-loop
invariant-loop l = record {
  lines : l.made.items ++ generated (l.fn.lines - l.counter) l.state ≡ generated l.fn.lines l.fn.seed;
  count : length l.made.items ≡ l.counter;
  deeds : All (λ line. IsDeed line.deed) l.made.items;
  callers : All (λ line. line.caller < 1) l.made.items;
}
