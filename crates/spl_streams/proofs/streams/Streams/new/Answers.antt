use Rattle.std.proofs.Common.{◌≡◌, ◌++◌, ◌∷◌, [], ℕ, Some, List, length, map, take, ap, subst, sym, ◌∙◌, arith}
use Rattle.std.proofs.lemmas.List.{length-map, take_all}
use Rattle.std.specs.List.{slice_get}
use Rattle.spl_message.specs.Entries.{AreEntries}
use Rattle.spl_branch.specs.Branch.{Branch, entries_in}
use Rattle.spl_merge.specs.Merger.{Merger}
use Rattle.spl_scan.specs.Scan.{Scan}
use Rattle.spl_streams.specs.Streams.{AreJoined, fresh_merger, fresh_scan}
use Rattle.spl_streams.proofs.Starting.{fresh_joined, more_order, more_scans}
use Rattle.spl_streams.proofs.streams.Streams.new.Goals as goal

pub loop-branch-preserved : goal.loop-branch-preserved
loop-branch-preserved g c =
    let loop = c.loop-branch.invariant in
    let branches = c.args.branches.now in
    let i = c.loop-branch.branch-index in
    record {
      scans = c.in_ok-push.ensures.items
          ∙ ap (λ (scans : List Scan). scans ++ c.in_ok-scan_of.field-0 ∷ []) loop.scans
          ∙ ap (λ (scan : Scan). map (fresh_scan c.args.span.now) (map (λ branch. branch.value) (take i branches)) ++ scan ∷ [])
          c.in_ok-scan_of.ensures.scan
          ∙ sym (more_scans (λ branch. branch.value) branches i c.branch-item.result (omega arith) c.branch-item.is c.args.span.now);
      order = λ told. more_order (λ branch. branch.value) branches i c.branch-item.result (omega arith) c.branch-item.is
          (loop.order told) (c.scan_of.ensures.order told);
    }

pub invariant_of-result : goal.invariant_of-result
invariant_of-result g c = λ sound.
    let loop = c.loop-branch.invariant in
    let branches = map (λ branch. branch.value) c.args.branches.now in
    let all = take_all c.loop-branch.branch-index c.args.branches.now (omega arith) in
    let scans = loop.scans ∙ ap (λ bs. map (fresh_scan c.args.span.now) (map (λ branch. branch.value) bs)) all in
    let count : c.in-Ok.count ≡ length c.args.branches.now = omega (arith, c.in-Ok.ensures) in
    let long = count ∙ sym (length-map c.args.branches.now (λ branch. branch.value)) in
    let merger = c.in_ok-merger.ensures ∙ ap (fresh_merger c.args.span.now c.args.bottom) long in
    subst (λ (m : Merger). AreJoined g.S.Seal.TELLS (record { scans = c.loop-branch.scans.items; merger = m })) (sym merger)
    (subst (λ (s : List Scan). AreJoined g.S.Seal.TELLS
    (record { scans = s; merger = fresh_merger c.args.span.now c.args.bottom (length branches) })) (sym scans)
    (fresh_joined c.args.span.now c.args.bottom g.S.Seal.TELLS branches
    (λ told. subst (λ bs. (i : ℕ) (branch : Branch) → slice_get (map (λ branch. branch.value) bs) i ≡ Some branch →
    AreEntries (entries_in branch)) all (loop.order told))))
