use Rattle.std.proofs.Common.{◌≡◌, true, flat_map, take, sym, subst}
use Rattle.std.specs.Result.{IfOk}
use Rattle.spl_message.specs.Entries.{Entries, AreEntries}
use Rattle.spl_branch.specs.Branch.{Branch, entries_in}
use Rattle.spl_branch.specs.Leaves.{are_below, leaf_tables}
use Rattle.spl_branch.specs.Pages.{AreTold}
use Rattle.spl_branch.proofs.LeafPages.{if_ok_then}
use Rattle.spl_scan.specs.Scan.{IsAhead, Scan, pages_from}
use Rattle.spl_scan.proofs.Standing.{begins_at}
use Rattle.spl_scan.proofs.scan.Scan.start.Goals as goal

pub returns-in-Some-clause-told : goal.returns-in-Some-clause-told
returns-in-Some-clause-told g c = λ tells.
    let s = c.self.inside in
    let branch = s.branch.value in
    let told : AreTold branch.parts = subst (λ (b : Branch). AreTold b.parts) c.deref.ensures
    (c.leaves-leaves.ensures.told tells) in
    let all = subst (λ (b : Branch). entries_in b ≡ flat_map (λ (entries : Entries). entries) (leaf_tables b))
    c.deref.ensures
    (c.leaves-leaves.ensures.order (c.leaves-leaves.ensures.told tells)) in
    let order = subst (λ (b : Branch). AreEntries (entries_in b)) c.deref-2.ensures
    (c.entries-entries.ensures.told tells).0 in
    let earlier = subst (λ (b : Branch). IfOk c.seek.result
    (λ number. are_below (flat_map (λ (entries : Entries). entries) (take number (leaf_tables b)))
    c.in-Some.from ≡ true))
    c.deref-in-Some.ensures (c.seek.ensures.earlier
    (subst (λ (b : Branch). AreTold b.parts) (sym c.deref-in-Some.ensures) told)) in
    subst (λ (scan : Scan). IfOk c.seek.result (λ number. IsAhead scan.span scan.last (entries_in scan.branch)
    (pages_from scan.branch number))) c.self.view_is
    (if_ok_then (λ number. are_below (flat_map (λ (entries : Entries). entries)
    (take number (leaf_tables branch))) c.in-Some.from ≡ true)
    (λ number. IsAhead s.span s.last (entries_in branch) (pages_from branch number)) c.seek.result
    (λ number below. begins_at branch s.span s.last c.in-Some.from number order all c.in-Some.is below)
    earlier)
