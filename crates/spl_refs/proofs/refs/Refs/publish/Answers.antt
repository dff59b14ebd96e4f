use Rattle.std.proofs.Common.{rules}
use Rattle.spl_refs.proofs.Published.{counted_after}
use Rattle.spl_refs.proofs.refs.Refs.publish.Goals as goal

pub invariant_of-self-2 : goal.invariant_of-self-2
invariant_of-self-2 g c =
    counted_after g.B.Content.number c.self.inside.branches.entries _ _ _ c.self.invariant c.in_ok-insert.ensures.updates.0 (search rules)
