use Rattle.spl_run.proofs.Solos.{is_fresh}
use Rattle.spl_top.proofs.ending.load_with.Goals as goal

pub load-requires-clause-fresh : goal.load-requires-clause-fresh
load-requires-clause-fresh g c κs within = is_fresh (g.K.MergeLaw.rule c.args.law.now) g.P.Seal.Seal.TELLS c.args.setup.extents 1 c.in_ok-core.core.parts c.in_ok-core.ensures.empty (c.in_ok-core.ensures.stands (g.K.MergeLaw.rule c.args.law.now))

pub returns : goal.returns
returns g c = (c.in_ok-core.core.parts, c.in_ok-loaded.loaded.core.parts, c.in_ok-core.ensures.empty, c.in_ok-loaded.ensures.loaded)
