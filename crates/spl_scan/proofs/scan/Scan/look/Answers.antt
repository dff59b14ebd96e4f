use Rattle.std.proofs.Common.{◌≡◌, Some, true, ap, subst, ◌∙◌}
use Rattle.spl_scan.specs.declared.met.Met.TheVariants.{Entry, Past}
use Rattle.spl_page.specs.AnyPage.{shown_of}
use Rattle.spl_page.specs.Tables.{leaf_table}
use Rattle.spl_scan.specs.Search.{IsMet}
use Rattle.spl_scan.specs.Scan.{Looks, Scan, rest_of}
use Rattle.spl_scan.proofs.Standing.{entry_looks, entry_stands, met_entry, met_past, past_looks}
use Rattle.spl_scan.proofs.scan.Scan.look.Goals as goal

pub invariant_of-self : goal.invariant_of-self
invariant_of-self g c =
    let s = c.self.inside in
    let begun : s.begun ≡ true = ap (λ (scan : Scan). scan.begun) c.self.view_is ∙ c.requires in
    let is = met_entry s.page c.in-Some.page c.deref.result.now s.span s.last s.place c.in-Some.is
    c.deref.ensures c.in-Entry.key c.in-Entry.message c.in-Entry.next
    (subst (IsMet s.span s.last (leaf_table (shown_of c.deref.result.now).bytes) s.place) c.in-Entry.is
    c.in_ok-key.ensures) in (
      c.self.invariant.0,
      entry_stands g.S.Seal.TELLS _ c.self.invariant.1 begun c.in-Entry.key
          c.in-Entry.message c.in-Entry.next (rest_of s.page c.in-Entry.next) is,
    )

pub returns-in-Entry-clause-looks : goal.returns-in-Entry-clause-looks
returns-in-Entry-clause-looks g c =
    let s = c.self.inside in
    let begun : s.begun ≡ true = ap (λ (scan : Scan). scan.begun) c.self.view_is ∙ c.requires in
    let is = met_entry s.page c.in-Some.page c.deref.result.now s.span s.last s.place c.in-Some.is
    c.deref.ensures c.in-Entry.key c.in-Entry.message c.in-Entry.next
    (subst (IsMet s.span s.last (leaf_table (shown_of c.deref.result.now).bytes) s.place) c.in-Entry.is
    c.in_ok-key.ensures) in
    let shown : Scan = record {
      branch = s.branch.value;
      span = s.span;
      last = s.last;
      begun =
          s.begun;
      pages = s.pages;
      here = rest_of s.page s.place;
    } in
    subst (λ (old : Scan). Looks g.S.Seal.TELLS old (Entry c.in-Entry.key c.in-Entry.message c.in-Entry.next)
    (record shown { last = Some c.in-Entry.key; here = rest_of s.page c.in-Entry.next })) c.self.view_is
    (entry_looks g.S.Seal.TELLS shown c.self.invariant.1 begun c.in-Entry.key c.in-Entry.message
    c.in-Entry.next (rest_of s.page c.in-Entry.next) is)

pub returns-in-Past-clause-looks : goal.returns-in-Past-clause-looks
returns-in-Past-clause-looks g c =
    let s = c.self.inside in
    let begun : s.begun ≡ true = ap (λ (scan : Scan). scan.begun) c.self.view_is ∙ c.requires in
    let is = met_past s.page c.in-Some.page c.deref.result.now s.span s.last s.place c.in-Some.is
    c.deref.ensures (subst (IsMet s.span s.last (leaf_table (shown_of c.deref.result.now).bytes) s.place)
    c.in-Past.is c.in_ok-key.ensures) in
    subst (λ (old : Scan). Looks g.S.Seal.TELLS old Past old) c.self.view_is
    (past_looks g.S.Seal.TELLS _ c.self.invariant.1 begun is)
