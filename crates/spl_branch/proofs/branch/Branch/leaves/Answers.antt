use Rattle.std.proofs.Common.{subst}
use Rattle.spl_branch.specs.Branch.{Branch, IsBranch}
use Rattle.spl_branch.specs.Pages.{AreTold}
use Rattle.spl_branch.proofs.LeafPages.{in_order, leaves_within}
use Rattle.spl_branch.proofs.Telling.{are_told}
use Rattle.spl_branch.proofs.branch.Branch.leaves.Goals as goal

pub returns-clause-some : goal.returns-clause-some
returns-clause-some g c = let is = subst IsBranch c.self.view_is c.self.invariant.0 in is.some

pub returns-clause-within : goal.returns-clause-within
returns-clause-within g c = leaves_within c.args.self.now (subst IsBranch c.self.view_is c.self.invariant.0)

pub returns-clause-order : goal.returns-clause-order
returns-clause-order g c = in_order c.args.self.now (subst IsBranch c.self.view_is c.self.invariant.0)

-- a seal may be read by any thread, so its law holds in each of them, and here
pub returns-clause-told : goal.returns-clause-told
returns-clause-told g c tells =
    let law = (g.met.S.Seal g.world.𝓛 g.world.𝓜 g.world.𝓡 ((λ s x. x), (λ x. x), (λ x. x), λ x. x)).tells in
    subst (λ (branch : Branch). AreTold branch.parts) c.self.view_is (are_told g.S.Seal.means g.S.Seal.TELLS c.self.inside.parts.seals.items law tells)
