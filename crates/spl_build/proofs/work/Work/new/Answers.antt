use Rattle.spl_build.proofs.Steps.{nothing_adds}
use Rattle.spl_build.proofs.work.Work.new.Goals as goal

pub returns-clause-sound : goal.returns-clause-sound
returns-clause-sound g c =
    nothing_adds c.args.number _ _ _ _ _ _ c.new.ensures c.new-2.ensures c.new-3.ensures.hashes c.new-3.ensures.cuts c.new-3.ensures.last c.new-4.ensures
