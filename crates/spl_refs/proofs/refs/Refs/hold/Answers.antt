use Rattle.std.proofs.Common.{rules}
use Rattle.spl_refs.proofs.Published.{counted_in, counted_after}
use Rattle.spl_refs.proofs.refs.Refs.hold.Goals as goal

pub invariant_of-self : goal.invariant_of-self
invariant_of-self g c =
    let all = counted_in g.B.Content.number c.self.inside.branches.entries c.args.number c.self.invariant in
    counted_after g.B.Content.number c.self.inside.branches.entries _ _ _ c.self.invariant ((c.get_mut.follows.holds _).3 (search rules)).0 (search rules)
