use Rattle.spl_load.proofs.Hashes.{hash_of_row}
use Rattle.spl_load.proofs.digest.digest_of.Goals as goal

pub loop-row-preserved : goal.loop-row-preserved
loop-row-preserved c = hash_of_row c.args.rows.now c.loop-row.row-index c.loop-row.hash c.in_ok-hash.hash c.row-item.result c.loop-row-test.true c.row-item.is c.loop-row.invariant c.in_ok-hash.ensures
