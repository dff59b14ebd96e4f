-- What the run of a script that is made of a seed leaves of a core, and what is told of it.
use Rattle.std.specs.Prelude.{◌≡◌, ℕ, ◌-◌, Bool, List}
use Rattle.spl_message.specs.Rule.{Rule}
use Rattle.spl_port.specs.Counts.{Counts}
use Rattle.spl_core.specs.Leaves.{leaf_count}
use Rattle.spl_state.specs.Whole.{Whole}
use Rattle.spl_script.specs.Generator.{generated}
use Rattle.spl_report.specs.declared.report.Row.{Row}
use Rattle.spl_run.specs.Solo.{HasRun}
use Rattle.spl_run.specs.Status.{IsRunOf}
use Rattle.spl_load.specs.Line.{load_text}

-- There are rows of a run of the seed's script, with this status, which the core's turns show; and the line tells these rows, by how
-- much the device's count of written pages rose, and how many leaves the core has in the end.
pub record HasLoaded (rule : Rule) (tells : Bool) (seed lines : ℕ) (start : Whole) (before after : Counts) (end : Whole) (told : List ℕ) (status : ℕ) : Type 0 where
  pub rows : List Row
  pub is : IsRunOf rule tells (generated lines seed) rows status
  pub run : HasRun rule tells start before after end rows status
  pub line : told ≡ load_text rows (after.writes - before.writes) (leaf_count end.nodes)
