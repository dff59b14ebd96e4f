use Rattle.std.proofs.Common.{ap, ◌∙◌, subst, length}
use Rattle.spl_message.specs.Entries.{AreEntries}
use Rattle.spl_branch.specs.Branch.{entries_in}
use Rattle.spl_branch.proofs.Telling.{are_told}
use Rattle.spl_branch.proofs.branch.BranchContent.entries.Goals as goal

pub returns-clause-told : goal.returns-clause-told
returns-clause-told g c tells =
    let held = c.self.invariant.0.told (are_told g.S.Seal.means g.S.Seal.TELLS c.self.inside.parts.seals.items g.met.S.Seal.tells tells) in
    let same = c.self.view_is in
    (subst AreEntries (ap entries_in same) held.order, held.entries ∙ ap (λ branch. length (entries_in branch)) same)
