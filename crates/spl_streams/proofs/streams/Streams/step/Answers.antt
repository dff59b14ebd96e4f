use Rattle.std.proofs.Common.{◌≡◌, [], false, IfOk, ap, subst, ◌∙◌}
use Rattle.spl_merge.specs.Merging.{AreStreams}
use Rattle.spl_streams.specs.Merging.{Builds, Keeps, Moves, merging_of}
use Rattle.spl_streams.specs.Streams.{AreJoined, Streams, following}
use Rattle.spl_streams.proofs.Stepping.{joined_streams, stepped_joined}
use Rattle.spl_streams.proofs.Steps.{stepped_builds, stepped_failed, stepped_keeps, stepped_moves, stepped_sound}
use Rattle.spl_streams.proofs.streams.Streams.step.Given.{Over}
use Rattle.spl_streams.proofs.streams.Streams.step.Goals as goal
use Rattle.spl_streams.proofs.streams.Streams.step.Goals.{After-step}

sound_of : (g : Over) (c : After-step g) → c.self.inside.merger.failed ≡ false
sound_of g c = ap (λ (s : Streams). s.merger.failed) c.self.view_is ∙ c.requires.sound

given_of : (g : Over) (c : After-step g) → c.self.inside.merger.wanted ≡ []
given_of g c = ap (λ (s : Streams). s.merger.wanted) c.self.view_is ∙ c.requires.given

joined_of : (g : Over) (c : After-step g) → AreJoined g.S.Seal.TELLS
    (record { scans = c.self.inside.scans.items; merger = c.self.inside.merger })
joined_of g c = c.self.invariant (sound_of g c)

pub invariant_of-self : goal.invariant_of-self
invariant_of-self g c = λ sound.
    let after = (goal.at.invariant_of-self g c).After-step in
    stepped_joined g.S.Seal.TELLS c.self.inside.scans.items c.self.inside.merger c.step.new.self (g.L.MergeLaw.rule c.args.law.now)
    c.step.result (joined_of g after) (given_of g after) (c.step.ensures.step (sound_of g after)) sound

pub returns-clause-moves : goal.returns-clause-moves
returns-clause-moves g c =
    let after = (goal.at.returns-clause-moves g c).After-step in
    subst (λ (old : Streams). IfOk c.step.result (λ step. Moves (merging_of old) step
    (merging_of (record { scans = c.self.inside.scans.items; merger = c.step.new.self })))) c.self.view_is
    (stepped_moves g.S.Seal.TELLS c.self.inside.scans.items c.self.inside.merger (joined_of g after) c.step.new.self
    (g.L.MergeLaw.rule c.args.law.now) c.step.result (c.step.ensures.step (sound_of g after)))

pub returns-clause-told : goal.returns-clause-told
returns-clause-told g c = λ told.
    let after = (goal.at.returns-clause-told g c).After-step in
    let rule = g.L.MergeLaw.rule c.args.law.now in
    let m = c.self.inside in
    let streams : AreStreams m.merger.heads (following m.scans.items) =
    joined_streams g.S.Seal.TELLS (record { scans = m.scans.items; merger = m.merger }) (joined_of g after) told
    (given_of g after) in
    subst (λ (old : Streams). IfOk c.step.result (λ step. Builds rule (merging_of old) step
    (merging_of (record { scans = m.scans.items; merger = c.step.new.self })))) c.self.view_is
    (stepped_builds g.S.Seal.TELLS m.scans.items m.merger c.step.new.self rule c.step.result streams
    (c.step.ensures.step (sound_of g after))
    (c.step.ensures.merged (sound_of g after) (following m.scans.items) streams))

pub returns-clause-kept : goal.returns-clause-kept
returns-clause-kept g c = λ sound.
    let after = (goal.at.returns-clause-kept g c).After-step in
    subst (λ (old : Streams). Keeps (merging_of old)
    (merging_of (record { scans = c.self.inside.scans.items; merger = c.step.new.self }))) c.self.view_is
    (stepped_keeps g.S.Seal.TELLS c.self.inside.scans.items c.self.inside.merger c.step.new.self
    (g.L.MergeLaw.rule c.args.law.now) c.step.result (c.step.ensures.step (sound_of g after)) sound)

pub returns-clause-sound : goal.returns-clause-sound
returns-clause-sound g c =
    let after = (goal.at.returns-clause-sound g c).After-step in
    stepped_sound g.S.Seal.TELLS c.self.inside.scans.items c.self.inside.merger c.step.new.self
    (g.L.MergeLaw.rule c.args.law.now) c.step.result (sound_of g after) (c.step.ensures.step (sound_of g after))

pub returns-clause-failed : goal.returns-clause-failed
returns-clause-failed g c =
    let after = (goal.at.returns-clause-failed g c).After-step in
    stepped_failed g.S.Seal.TELLS c.self.inside.scans.items c.self.inside.merger c.step.new.self
    (g.L.MergeLaw.rule c.args.law.now) c.step.result (c.step.ensures.step (sound_of g after))
