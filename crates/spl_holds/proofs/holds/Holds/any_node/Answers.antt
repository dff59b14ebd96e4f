use Rattle.spl_holds.proofs.TallyLemmas.{tally_of, found_node}
use Rattle.spl_holds.proofs.holds.Holds.any_node.Goals as goal

pub returns-clause-exists : goal.returns-clause-exists
returns-clause-exists c =
    let tally = tally_of _ _ _ c.args.actor c.index.result.now c.self.invariant c.requires c.index.ensures in
    rw (← c.self.view_is) (found_node c.self.inside.latches.items c.args.actor c.index.result.now c.any.result tally c.any.ensures.found).0

pub returns-clause-held : goal.returns-clause-held
returns-clause-held c =
    let tally = tally_of _ _ _ c.args.actor c.index.result.now c.self.invariant c.requires c.index.ensures in
    rw (← c.self.view_is) (found_node c.self.inside.latches.items c.args.actor c.index.result.now c.any.result tally c.any.ensures.found).1
