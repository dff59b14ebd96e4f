use Rattle.std.proofs.Common.{◌≡◌, ◌+◌, ◌<◌, true, Option, Some, None, List, ℕ, length, refl, sym, ap, ◌∙◌, arith}
use Rattle.std.proofs.lemmas.List.{get_or_default}
use Rattle.spl_message.specs.declared.span.Span.{Span}
use Rattle.spl_message.specs.Span.{is_from, is_before}
use Rattle.spl_node.specs.declared.pivot.Pivot.{Pivot}
use Rattle.spl_node.specs.Node.{bare, pivot_at, is_past}
use Rattle.spl_node.proofs.Splits.{inserted_rising}
use Rattle.spl_node.proofs.Walks.{before_start}
use Rattle.spl_node.proofs.tests.insert_second.Goals as goal
use Rattle.spl_node.proofs.tests.insert_second.Goals.{else-pivots-gt1-via-then-pivots-gt1+else-starts_by, else-pivots-gt1-via-else-pivots-gt1}

pub insert_pivot-requires-clause-rising : goal.insert_pivot-requires-clause-rising
insert_pivot-requires-clause-rising c =
    let now = c.args.node.now in
    let start = c.args.start in
    let is = c.pivots-pivots.ensures.node in
    let pivots = c.pivots-pivots.result.now in
    let value = c.pivots-pivots.ensures.value in
    let long = ap length value in
    let open_start : (pivot_at now.pivots 0).start ≡ None = is.begin ∙ ap (λ (s : Span). s.from) c.requires.range in
    let next : 1 < length now.pivots → is_before (pivot_at now.pivots 1).start start ≡ true = λ more.
    elim c.else-pivots-gt1.branch [
      | else-pivots-gt1-via-then-pivots-gt1+else-starts_by w ↦
          before_start (pivot_at now.pivots 1).start start (
          ap (λ ps. is_from (pivot_at ps 1).start start) (sym value)
          ∙ ap (λ (p : Pivot). is_from p.start start) (sym (get_or_default pivots 1 w.index-pivots-1.result bare (omega (arith, w.if-pivots-gt1.true))))
          ∙ ap (λ (p : Pivot). is_from p.start start) (sym w.index-pivots-1.is)
          ∙ sym w.starts_by.ensures
          ∙ w.if-starts_by.false)
      | else-pivots-gt1-via-else-pivots-gt1 w ↦ absurd (omega (arith, w.if-pivots-gt1.false))
    ] in
    inserted_rising now.pivots 0 (record { start = Some start; child = Some 1; mark = c.next-mark.result }) start refl is.some is.rising (ap (λ s. is_past s start) open_start) next
