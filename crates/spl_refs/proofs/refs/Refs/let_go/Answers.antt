use Rattle.std.proofs.Common.{◌≡◌, ◌<◌, rules}
use Rattle.spl_refs.proofs.Published.{counted_in, counted_after}
use Rattle.spl_refs.proofs.refs.Refs.let_go.Goals as goal

pub invariant_of-self-then-counted-ne1 : goal.invariant_of-self-then-counted-ne1
invariant_of-self-then-counted-ne1 g c =
    let all = counted_in g.B.Content.number c.self.inside.branches.entries c.args.number c.self.invariant in
    let was : (0 < c.in_ok-counted.counted.now.count) × (g.B.Content.number c.in_ok-counted.counted.now.branch.value ≡ c.args.number) = search rules in
    let written = c.get_mut.follows.holds _ in
    counted_after g.B.Content.number c.self.inside.branches.entries _ _ _ c.self.invariant (written.3 (search rules)).0 (search rules)

pub invariant_of-self-2 : goal.invariant_of-self-2
invariant_of-self-2 g c =
    let all = counted_in g.B.Content.number c.self.inside.branches.entries c.args.number c.self.invariant in
    let was : (0 < c.in_ok-counted.counted.now.count) × (g.B.Content.number c.in_ok-counted.counted.now.branch.value ≡ c.args.number) = search rules in
    let seen = counted_after g.B.Content.number c.self.inside.branches.entries _ _ _ c.self.invariant ((c.get_mut.follows.holds c.in_ok-counted.counted.now).3 (search rules)).0 was in
    counted_after g.B.Content.number _ _ _ _ seen c.remove.ensures.updates.0 (search rules)
