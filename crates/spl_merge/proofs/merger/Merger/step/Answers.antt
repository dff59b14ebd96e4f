use Rattle.std.proofs.Common.{◌≡◌, Some, subst, sym, ap, ◌∙◌}
use Rattle.std.specs.List.{AllByRecursion}
use Rattle.std.specs.Option.{IfSome}
use Rattle.std.specs.Result.{IfOk, is_err}
use Rattle.spl_merge.specs.declared.step.Step.{Step}
use Rattle.spl_merge.specs.Merger.{IsAbove, Merger, kept_at}
use Rattle.spl_merge.specs.Merging.{IsMergedSoFar, built_by, left_of}
use Rattle.spl_merge.proofs.Merges.{behind_is, merged_answer, passed_above}
use Rattle.spl_merge.proofs.merger.Merger.step.Goals as goal

pub pass-requires : goal.pass-requires
pass-requires g c =
    let key = c.in-Some.key in
    subst (λ (m : Merger). AllByRecursion (λ head. IfSome head (λ entry. IsAbove (Some key) entry.0)) m.heads)
    (sym c.take_key-message.ensures.taken)
    (passed_above key c.args.self.now.heads c.in-Some.ensures.some.least.least)

pub returns-clause-merged : goal.returns-clause-merged
returns-clause-merged g c = λ sound following streams.
    let key = c.in-Some.key in
    let rule = g.L.MergeLaw.rule c.args.law.now in
    let old = c.args.self.now in
    let well = c.is_err.ensures.value ∙ ap is_err c.in_ok-message.was in
    let is = behind_is key old c.take_key-message.new.self c.pass.new.self c.is_err.result c.requires.given
    sound c.take_key-message.ensures.taken well c.pass.ensures in
    let kept = subst (λ r. IfOk r (λ found. found ≡ kept_at rule old key)) c.in_ok-message.was
    c.take_key-message.ensures.kept in
    subst (λ (step : Step). IsMergedSoFar rule (left_of old.heads following) old.span old.bottom
    (built_by step) (left_of c.pass.new.self.heads following)) (sym c.answer.ensures)
    (merged_answer rule old c.pass.new.self key c.in_ok-message.field-0 c.in-Some.ensures.some.least kept is
    following streams)
