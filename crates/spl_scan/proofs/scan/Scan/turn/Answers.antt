use Rattle.std.proofs.Common.{◌≡◌, ◌≤◌, [], Some, true, ap, sym, subst, ◌∙◌, arith}
use Rattle.std.proofs.lemmas.Bool.{false≢true}
use Rattle.std.specs.Arc.{arc_value}
use Rattle.std.specs.List.{slice_get}
use Rattle.spl_page.specs.AnyPage.{shown_of}
use Rattle.spl_page.specs.Tables.{leaf_table}
use Rattle.spl_branch.specs.Branch.{Branch, entries_in}
use Rattle.spl_branch.specs.Leaves.{leaf_tables}
use Rattle.spl_branch.specs.Pages.{AreTold}
use Rattle.spl_scan.specs.Scan.{Scan, left_of, rest_of}
use Rattle.spl_scan.specs.Search.{over, search}
use Rattle.spl_scan.proofs.Standing.{ends_at, turns_to}
use Rattle.spl_scan.proofs.scan.Scan.turn.Goals as goal

pub returns-then-self-leaves-clause-ended : goal.returns-then-self-leaves-clause-ended
returns-then-self-leaves-clause-ended g c = λ tells same.
    let s = c.self.inside in
    let begun : s.begun ≡ true = ap (λ (scan : Scan). scan.begun) c.self.view_is ∙ c.requires.begun in
    let nothing = subst (λ (scan : Scan). search scan.span scan.last scan.here ≡ over) (sym c.self.view_is)
    c.requires.over in
    let leaves : c.deref.result.now.leaves ≡ s.branch.value.leaves =
    ap (λ (b : Branch). b.leaves) c.deref.ensures in
    let end : s.branch.value.leaves ≤ s.pages = omega
    (arith, leaves, c.leaves.ensures.number, c.if-self-leaves.true) in
    subst (λ (scan : Scan). left_of scan ≡ []) c.self.view_is
    (ends_at s.branch.value s.span s.last s.pages (entries_in s.branch.value) (rest_of s.page s.place)
    (c.self.invariant.1.told tells begun) nothing end)

pub invariant_of-self : goal.invariant_of-self
invariant_of-self g c =
    let s = c.self.inside in
    let begun : s.begun ≡ true = ap (λ (scan : Scan). scan.begun) c.self.view_is ∙ c.requires.begun in
    let nothing = subst (λ (scan : Scan). search scan.span scan.last scan.here ≡ over) (sym c.self.view_is)
    c.requires.over in
    let leaves : c.deref.result.now.leaves ≡ s.branch.value.leaves =
    ap (λ (b : Branch). b.leaves) c.deref.ensures in
    let table = leaf_table (shown_of (arc_value c.in_ok-page.page)).bytes in (
      c.in_ok-page.ensures.leaf,
      record {
        within = omega (arith, leaves, c.leaves.ensures.number, c.if-self-leaves.false);
        fresh = λ none. absurd (false≢true (sym none ∙ begun));
        told = λ tells now.
            let told : AreTold s.branch.value.parts =
            subst (λ (b : Branch). AreTold b.parts) c.deref.ensures (c.leaves.ensures.told tells) in
            let at : slice_get (leaf_tables s.branch.value) s.pages ≡ Some table =
            subst (λ (b : Branch). slice_get (leaf_tables b) s.pages ≡ Some table) c.deref-2.ensures
            (c.in_ok-page.ensures.told (subst (λ (b : Branch). AreTold b.parts) (sym c.deref-2.ensures)
            told)) in
            turns_to s.branch.value s.span s.last s.pages (entries_in s.branch.value) (rest_of s.page s.place)
            table (c.self.invariant.1.told tells now) nothing at;
      },
    )
