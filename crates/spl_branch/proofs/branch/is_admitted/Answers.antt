use Rattle.spl_branch.proofs.Admitting.{is_any_hash}
use Rattle.spl_branch.proofs.branch.is_admitted.Goals as goal

pub returns : goal.returns
returns c =
    is_any_hash c.args.filter.now.prints c.args.filter.now.q c.args.key.now c.hash.result c.admits_hash.result c.hash.ensures.value c.admits_hash.ensures
