use Rattle.std.proofs.Common.{ap, ◌∙◌}
use Rattle.spl_message.specs.Table.{cuts_of}
use Rattle.spl_branch.specs.Branch.{table_of}
use Rattle.spl_branch.proofs.Telling.{are_told}
use Rattle.spl_branch.proofs.branch.BranchContent.cuts.Goals as goal

pub returns-clause-told : goal.returns-clause-told
returns-clause-told g c tells =
    let held = c.self.invariant.0.told (are_told g.S.Seal.means g.S.Seal.TELLS c.self.inside.parts.seals.items g.met.S.Seal.tells tells) in
    c.as_slice.ensures.value ∙ held.cuts ∙ ap (λ branch. cuts_of (table_of branch)) c.self.view_is
