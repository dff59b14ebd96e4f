-- Which calls of something in memory fail.
use Rattle.std.specs.Prelude.{ℕ, List, Bool, ◌==◌, if◌then◌else◌}
use Rattle.std.specs.List.{list_any}
use Rattle.spl_port.specs.Counts.{raised_count}

-- the numbers of the calls that are to fail, and how many calls were made and failed
pub record Plan : Type 0 where
  pub failing : List ℕ
  pub calls : ℕ
  pub faults : ℕ

-- no call was made
abbrev pub plan_of : List ℕ → Plan
plan_of failing = record { failing = failing; calls = 0; faults = 0 }

-- whether the next call is one of those that are to fail
abbrev pub fails : Plan → Bool
fails plan = list_any (λ call. call == plan.calls) plan.failing

-- after one more call, which failed or not
abbrev pub after_call : Plan → Bool → Plan
after_call plan failed = record {
  failing = plan.failing;
  calls = raised_count plan.calls;
  faults = if failed then raised_count plan.faults else plan.faults;
}
