use Rattle.std.proofs.Common.{◌≡◌, ℕ, refl, sym, ◌∙◌, rules}
use Rattle.spl_holds.specs.declared.grip.Grip.TheVariants.{Free}
use Rattle.spl_holds.specs.Holds.{grip_of}
use Rattle.spl_holds.proofs.TallyLemmas.{fewer_held, without_actor-left, without_actor-free}
use Rattle.spl_holds.proofs.holds.Holds.leave_all.Goals as goal

pub loop-node-smaller : goal.loop-node-smaller
loop-node-smaller c =
    rw c.leave.ensures.left (fewer_held c.loop-node.self c.args.actor c.in-Some.node c.any_node.ensures.latched c.requires c.in-Some.ensures.exists c.in-Some.ensures.held)

pub loop-node-preserved : goal.loop-node-preserved
loop-node-preserved c = rw c.leave.ensures.left (without_actor-left c.loop-node.self c.args.actor c.in-Some.node ∙ c.loop-node.invariant)

pub returns-clause-left : goal.returns-clause-left
returns-clause-left c =
    let free : (node : ℕ) → grip_of c.loop-node.self c.args.actor node ≡ Free = search rules in
    sym (without_actor-free c.loop-node.self c.args.actor free) ∙ c.loop-node.invariant
