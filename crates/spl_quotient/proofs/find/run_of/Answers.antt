use Rattle.std.proofs.Common.{arith, suc, length}
use Rattle.spl_quotient.specs.Table.{occupied_at}
use Rattle.spl_quotient.proofs.Tallies.{tally_mono}
use Rattle.spl_quotient.proofs.Runs.{balanced_before, balanced_all}
use Rattle.spl_quotient.proofs.find.run_of.Goals as goal

pub nth_run-requires-clause-enough : goal.nth_run-requires-clause-enough
nth_run-requires-clause-enough c =
    let slots = c.args.table.now.slots in
    let cluster = c.cluster_of-cluster in
    omega (
      arith,
      cluster.ensures.homes,
      balanced_before slots c.requires.laid cluster.result.start cluster.ensures.unshifted,
      balanced_all slots c.requires.laid,
      tally_mono (occupied_at slots) (suc c.args.home) (length slots) (omega arith),
    )

pub returns-clause-number : goal.returns-clause-number
returns-clause-number c =
    let slots = c.args.table.now.slots in
    let cluster = c.cluster_of-cluster in
    omega (
      arith,
      c.nth_run.ensures.number,
      cluster.ensures.homes,
      balanced_before slots c.requires.laid cluster.result.start cluster.ensures.unshifted,
    )
