use Rattle.std.proofs.Common.{◌≡◌, ◌+◌, ◌-◌, ◌≤◌, None, Some, false, length, slice_set, refl, ap, subst, sym, ◌∙◌, arith}
use Rattle.std.proofs.lemmas.Option.{slice_get_within, slice_get_read}
use Rattle.std.specs.List.{slice_get}
use Rattle.spl_merge.specs.Merger.{Merger}
use Rattle.spl_streams.specs.Merging.{HasMergeCause}
use Rattle.spl_streams.specs.Streams.{AreJoined, Feeds, Streams, branches_of, unread_all}
use Rattle.spl_streams.proofs.Feeding.{fed_feeds, fed_joined, most_all, once_all, rises_above, waits_feeds, waits_joined}
use Rattle.spl_streams.proofs.Going.{cause_of, if_err_same}
use Rattle.spl_streams.proofs.streams.Streams.feed.Given.{Over}
use Rattle.spl_streams.proofs.streams.Streams.feed.Goals as goal
use Rattle.spl_streams.proofs.streams.Streams.feed.Goals.{After-index_mut}

pub index_mut-requires : goal.index_mut-requires
index_mut-requires g c =
    let m = c.self.inside in
    let sound : m.merger.failed ≡ false = ap (λ (s : Streams). s.merger.failed) c.self.view_is ∙ c.requires.sound in
    let joined = c.self.invariant sound in
    let wanted = subst (λ (s : Streams). slice_get s.merger.wanted (length s.merger.wanted - 1) ≡ Some c.args.stream)
    (sym c.self.view_is) c.requires.wanted in
    let at = joined.headless c.args.stream (length m.merger.wanted - 1, wanted) in
    let within = slice_get_within m.merger.heads c.args.stream None at in
    let count = joined.count in
    omega (arith, within, count, m.scans.ok.0)

sound_of : (g : Over) (c : After-index_mut g) → c.self.inside.merger.failed ≡ false
sound_of g c = ap (λ (s : Streams). s.merger.failed) c.self.view_is ∙ c.requires.sound

joined_of : (g : Over) (c : After-index_mut g) → AreJoined g.S.Seal.TELLS
    (record { scans = c.self.inside.scans.items; merger = c.self.inside.merger })
joined_of g c = c.self.invariant (sound_of g c)

wanted_of : (g : Over) (c : After-index_mut g) →
    slice_get c.self.inside.merger.wanted (length c.self.inside.merger.wanted - 1) ≡ Some c.args.stream
wanted_of g c = subst (λ (s : Streams). slice_get s.merger.wanted (length s.merger.wanted - 1) ≡ Some c.args.stream)
    (sym c.self.view_is) c.requires.wanted

there_of : (g : Over) (c : After-index_mut g) → slice_get c.self.inside.scans.items c.args.stream ≡ Some c.index_mut.result.now
there_of g c =
    let m = c.self.inside in
    let joined = joined_of g c in
    let at = joined.headless c.args.stream (length m.merger.wanted - 1, wanted_of g c) in
    let within = slice_get_within m.merger.heads c.args.stream None at in
    let count = joined.count in
    slice_get_read m.scans.items (length m.scans.items) c.args.stream c.index_mut.result.now refl (omega (arith, within, count))
    c.index_mut.ensures.value

pub invariant_of-self : goal.invariant_of-self
invariant_of-self g c = λ sound.
    let after = (goal.at.invariant_of-self g c).After-index_mut in
    waits_joined g.S.Seal.TELLS c.self.inside.scans.items c.self.inside.merger c.args.stream c.index_mut.result.now c.next.new.self
    (there_of g after) c.in_err-entry.ensures.err (joined_of g after)

pub returns-in_err-entry-clause-feeds : goal.returns-in_err-entry-clause-feeds
returns-in_err-entry-clause-feeds g c =
    let after = (goal.at.returns-in_err-entry-clause-feeds g c).After-index_mut in
    subst (λ (old : Streams). Feeds g.S.Seal.TELLS old
    (record { scans = slice_set c.self.inside.scans.items c.args.stream c.next.new.self; merger = c.self.inside.merger }))
    c.self.view_is
    (waits_feeds g.S.Seal.TELLS c.self.inside.scans.items c.self.inside.merger c.args.stream c.index_mut.result.now c.next.new.self
    (there_of g after) c.in_err-entry.ensures.err)

pub returns-in_err-entry-clause-cause : goal.returns-in_err-entry-clause-cause
returns-in_err-entry-clause-cause g c =
    let after = (goal.at.returns-in_err-entry-clause-cause g c).After-index_mut in
    if_err_same c.from_residual.result c.in_err-entry.field-0.0
    (HasMergeCause (branches_of c.args.self.now.scans) (g.P.Port.counts c.args.port.now) (g.P.Port.counts c.next.new.port))
    c.from_residual.ensures.1
    (subst (λ (s : Streams). HasMergeCause (branches_of s.scans) (g.P.Port.counts c.args.port.now) (g.P.Port.counts c.next.new.port)
    c.in_err-entry.field-0.0) c.self.view_is
    (cause_of c.self.inside.scans.items c.args.stream c.index_mut.result.now (g.P.Port.counts c.args.port.now)
    (g.P.Port.counts c.next.new.port) c.in_err-entry.field-0.0 (there_of g after) c.in_err-entry.ensures.cause))

pub give-requires-clause-rises : goal.give-requires-clause-rises
give-requires-clause-rises g c =
    let after = (goal.at.give-requires-clause-rises g c).After-index_mut in
    let last = (joined_of g after).last c.args.stream c.index_mut.result.now (there_of g after)
    (length c.self.inside.merger.wanted - 1, wanted_of g after) in
    rises_above c.index_mut.result.now.span c.index_mut.result.now.last c.self.inside.merger.last c.in_ok-entry.entry last
    c.in_ok-entry.ensures.rises

pub invariant_of-self-2 : goal.invariant_of-self-2
invariant_of-self-2 g c = λ sound.
    let after = (goal.at.invariant_of-self-2 g c).After-index_mut in
    subst (λ (m : Merger). AreJoined g.S.Seal.TELLS
    (record { scans = slice_set c.self.inside.scans.items c.args.stream c.next.new.self; merger = m })) (sym c.give.ensures)
    (fed_joined g.S.Seal.TELLS c.self.inside.scans.items c.self.inside.merger c.args.stream c.index_mut.result.now c.next.new.self
    (there_of g after) (joined_of g after) (wanted_of g after) c.in_ok-entry.entry c.in_ok-entry.ensures.ok c.has_key.ensures
    c.in_ok-entry.ensures.told)

pub returns-clause-feeds : goal.returns-clause-feeds
returns-clause-feeds g c =
    let after = (goal.at.returns-clause-feeds g c).After-index_mut in
    subst (λ (old : Streams). Feeds g.S.Seal.TELLS old
    (record { scans = slice_set c.self.inside.scans.items c.args.stream c.next.new.self; merger = c.give.new.self })) c.self.view_is
    (subst (λ (m : Merger). Feeds g.S.Seal.TELLS (record { scans = c.self.inside.scans.items; merger = c.self.inside.merger })
    (record { scans = slice_set c.self.inside.scans.items c.args.stream c.next.new.self; merger = m })) (sym c.give.ensures)
    (fed_feeds g.S.Seal.TELLS c.self.inside.scans.items c.self.inside.merger c.args.stream c.index_mut.result.now c.next.new.self
    (there_of g after) (joined_of g after) (wanted_of g after) c.in_ok-entry.entry c.in_ok-entry.ensures.ok c.has_key.ensures
    c.in_ok-entry.ensures.told))

pub returns-in_err-entry-clause-most : goal.returns-in_err-entry-clause-most
returns-in_err-entry-clause-most g c =
    let after = (goal.at.returns-in_err-entry-clause-most g c).After-index_mut in
    subst (λ (old : Streams). (g.P.Port.counts c.next.new.port).reads
    ≤ (g.P.Port.counts c.args.port.now).reads + unread_all old.scans) c.self.view_is
    (most_all c.self.inside.scans.items c.args.stream c.index_mut.result.now c.next.new.self (there_of g after)
    (g.P.Port.counts c.args.port.now).reads (g.P.Port.counts c.next.new.port).reads c.in_err-entry.ensures.most)

pub returns-clause-most : goal.returns-clause-most
returns-clause-most g c =
    let after = (goal.at.returns-clause-most g c).After-index_mut in
    subst (λ (old : Streams). (g.P.Port.counts c.next.new.port).reads
    ≤ (g.P.Port.counts c.args.port.now).reads + unread_all old.scans) c.self.view_is
    (most_all c.self.inside.scans.items c.args.stream c.index_mut.result.now c.next.new.self (there_of g after)
    (g.P.Port.counts c.args.port.now).reads (g.P.Port.counts c.next.new.port).reads c.in_ok-entry.ensures.most)

pub returns-clause-once : goal.returns-clause-once
returns-clause-once g c =
    let after = (goal.at.returns-clause-once g c).After-index_mut in
    subst (λ (old : Streams). (g.P.Port.counts c.next.new.port).reads
    + unread_all (slice_set c.self.inside.scans.items c.args.stream c.next.new.self)
    ≤ (g.P.Port.counts c.args.port.now).reads + unread_all old.scans) c.self.view_is
    (once_all c.self.inside.scans.items c.args.stream c.index_mut.result.now c.next.new.self (there_of g after)
    (g.P.Port.counts c.args.port.now).reads (g.P.Port.counts c.next.new.port).reads c.in_ok-entry.ensures.once)
