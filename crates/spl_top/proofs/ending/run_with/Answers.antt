use Rattle.spl_run.proofs.Solos.{cause_of_run, is_fresh}
use Rattle.spl_top.proofs.ending.run_with.Goals as goal

pub solo-ended-requires-clause-fresh : goal.solo-ended-requires-clause-fresh
solo-ended-requires-clause-fresh g c κs within = is_fresh (g.K.MergeLaw.rule c.args.law.now) g.P.Seal.Seal.TELLS c.args.setup.extents 1 c.in_ok-core.core.parts c.in_ok-core.ensures.empty (c.in_ok-core.ensures.stands (g.K.MergeLaw.rule c.args.law.now))

pub returns-clause-cause : goal.returns-clause-cause
returns-clause-cause g c =
    cause_of_run (g.K.MergeLaw.rule c.args.law.now) c.args.setup.extents g.P.Seal.Seal.TELLS c.in_ok-core.core.parts c.in_ok-core.ensures.empty (g.P.Port.counts c.args.port.now) (g.P.Port.counts c.solo-ended.new.port) c.solo-ended.result.core.parts
    c.solo-ended.result.rows.items c.solo-ended.result.status c.solo-ended.ensures.run
