use Rattle.spl_packer.proofs.Hangs.{built_published}
use Rattle.spl_packer.proofs.build.publish_built.Goals as goal

pub returns-clause-published : goal.returns-clause-published
returns-clause-published g c =
    let built = c.requires.built in
    built_published g.S.Seal.TELLS (g.T.Turns.means c.args.turns.now) (g.T.Turns.means c.publish.new.turns) c.args.branch built
    (c.in_ok-publish.ensures.holds built.holding built.is)
