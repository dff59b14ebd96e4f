use Rattle.std.proofs.Common.{rules}
use Rattle.spl_refs.proofs.Published.{counted_in}
use Rattle.spl_refs.proofs.refs.Refs.find.Goals as goal

pub returns-clause-number : goal.returns-clause-number
returns-clause-number g c =
    let all = counted_in g.B.Content.number c.self.inside.branches.entries c.args.number c.self.invariant in
    search rules
