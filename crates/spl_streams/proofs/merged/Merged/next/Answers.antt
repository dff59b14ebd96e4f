use Rattle.std.proofs.Common.{ℕ, List, Option, ◌<◌, subst, sym}
use Rattle.spl_merge.specs.declared.step.Step.{Step}
use Rattle.spl_merge.specs.declared.step.Step.TheVariants.{Entry, Ended}
use Rattle.spl_streams.specs.Above.{keys_left}
use Rattle.spl_streams.specs.Merging.{Builds, Moves}
use Rattle.spl_streams.proofs.Above.{keys_fewer}
use Rattle.spl_streams.proofs.Going.{builds_then}
use Rattle.spl_streams.proofs.merged.Merged.next.Goals as goal

pub returns-in-Entry-clause-told : goal.returns-in-Entry-clause-told
returns-in-Entry-clause-told g c = λ told.
    let rule = g.L.MergeLaw.rule c.args.law.now in
    let loop = c.loop-key.invariant in
    builds_then rule c.args.self.now c.loop-key.self c.advance.new.self (Entry c.in-Entry.key c.in-Entry.message) loop.keeps
    (loop.told told)
    (subst (λ (step : Step). Builds rule c.loop-key.self step c.advance.new.self) c.in-Entry.is (c.in_ok-key.ensures.told told))

pub returns-in-Ended-clause-told : goal.returns-in-Ended-clause-told
returns-in-Ended-clause-told g c = λ told.
    let rule = g.L.MergeLaw.rule c.args.law.now in
    let loop = c.loop-key.invariant in
    builds_then rule c.args.self.now c.loop-key.self c.advance.new.self Ended loop.keeps (loop.told told)
    (subst (λ (step : Step). Builds rule c.loop-key.self step c.advance.new.self) c.in-Ended.is (c.in_ok-key.ensures.told told))

pub loop-key-smaller : goal.loop-key-smaller
loop-key-smaller g c =
    let moves = subst (λ (step : Step). Moves c.loop-key.self step c.advance.new.self) c.in-Dropped.is c.in_ok-key.ensures.moves in
    subst (λ (last : Option (List ℕ)). keys_left last < keys_left c.loop-key.self.last) (sym moves.1.last)
    (keys_fewer c.loop-key.self.last moves.0 moves.1.is_key moves.1.above)
