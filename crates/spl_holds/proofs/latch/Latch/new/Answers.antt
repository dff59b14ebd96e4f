use Rattle.spl_holds.proofs.LatchLemmas.{IsLatched-grips_in, grips_in-nobody}
use Rattle.spl_holds.proofs.latch.Latch.new.Goals as goal

pub returns-clause-nobody : goal.returns-clause-nobody
returns-clause-nobody c = grips_in-nobody

pub returns-clause-latched : goal.returns-clause-latched
returns-clause-latched c = IsLatched-grips_in _ _ tt
