use Rattle.spl_load.proofs.OneRun.{one_run_of}
use Rattle.spl_load.proofs.run.one_run.Goals as goal

pub returns : goal.returns
returns c = one_run_of
