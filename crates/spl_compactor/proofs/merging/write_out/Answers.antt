use Rattle.spl_compactor.proofs.Merges.{written}
use Rattle.spl_compactor.proofs.merging.write_out.Goals as goal

pub returns-clause-written : goal.returns-clause-written
returns-clause-written g c = λ least out.
    let done = c.finish.ensures in
    written g.P.Seal.Seal.TELLS (g.T.Turns.means c.args.turns.now) (g.T.Turns.means c.finish.new.turns) least c.args.builder.now out done.quiet.same.rule c.finish.result done.built done.none done.none_same
