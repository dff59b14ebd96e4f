use Rattle.spl_session.proofs.Asking.{read_cause}
use Rattle.spl_session.proofs.ask.ask_branch.Goals as goal

pub returns-in-Err-clause-cause : goal.returns-in-Err-clause-cause
returns-in-Err-clause-cause g c =
    rw c.fault_of.ensures
    (read_cause g.P.Seal.Seal.TELLS c.args.branch.now (g.P.Port.counts c.args.port.now) (g.P.Port.counts c.get.new.port) c.in-Err.fault c.leaves.ensures.told c.in-Err.ensures.cause)
