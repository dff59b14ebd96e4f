use Rattle.std.proofs.Common.{ℕ, ◌<◌, Option, Some, None, List, subst, sym}
use Rattle.spl_streams.specs.Above.{keys_left}
use Rattle.spl_streams.proofs.Above.{keys_fewer}
use Rattle.spl_desk.specs.Branches.{branch_kind}
use Rattle.spl_desk.specs.Quiet.{HasWorkCause}
use Rattle.spl_desk.proofs.Quiet.{cause_behind, quiet_none}
use Rattle.spl_compactor.proofs.Merges.{given_by, next_by, way_known, way_more, way_over}
use Rattle.spl_compactor.proofs.Stops.{if_err_same}
use Rattle.spl_compactor.proofs.merging.merge_once.Goals as goal

pub next_entry-requires-clause-known : goal.next_entry-requires-clause-known
next_entry-requires-clause-known g c κs within =
    way_known g.P.Seal.Seal.TELLS (g.T.Turns.means c.args.turns.now) 0 c.args.builder.now c.args.merged.now c.requires.under_way

pub returns-in_default-clause-ended : goal.returns-in_default-clause-ended
returns-in_default-clause-ended g c = λ _ least way.
    way_over g.P.Seal.Seal.TELLS (g.T.Turns.means c.args.turns.now) least c.args.builder.now c.args.merged.now way c.next_entry.new.merged
    (λ told. given_by c.args.merged.now c.next_entry.new.merged (g.L.MergeLaw.rule c.args.law.now) (g.T.Turns.means c.args.turns.now).rule c.in_ok-entry.field-0 None c.requires.law c.in_default.is (c.in_ok-entry.ensures.told told))

pub returns-in_err-add-clause-cause : goal.returns-in_err-add-clause-cause
returns-in_err-add-clause-cause g c =
    let kind = branch_kind g.P.Seal.Seal.TELLS in
    let old = g.T.Turns.means c.args.turns.now in
    let saw = g.T.Turns.saw c.args.turns.now in
    let new = g.T.Turns.means c.add.new.turns in
    let sees = g.T.Turns.saw c.add.new.turns in
    let before = g.P.Port.counts c.args.port.now in
    let counts = g.P.Port.counts c.next_entry.new.port in
    let after = g.P.Port.counts c.add.new.port in
    if_err_same c.from_residual-in_err-add.result c.in_err-add.field-0.0
    (HasWorkCause kind old saw new sees before after)
    c.from_residual-in_err-add.ensures.1
    (cause_behind kind old old new saw saw sees before counts after c.in_err-add.field-0.0
    (quiet_none kind old saw c.requires.seen) c.next_entry.ensures.counts c.in_err-add.ensures.cause)

pub returns-clause-goes_on : goal.returns-clause-goes_on
returns-clause-goes_on g c = λ _ least way.
    way_more g.P.Seal.Seal.TELLS (g.T.Turns.means c.args.turns.now) least c.args.builder.now c.args.merged.now way
    (g.T.Turns.means c.add.new.turns) c.add.new.builder c.next_entry.new.merged c.in-Some.entry.0 c.in-Some.entry.1
    c.add.ensures.quiet.same.rule c.in_ok-entry.ensures.kept c.in_ok-entry.ensures.sound
    (next_by c.args.merged.now c.next_entry.new.merged c.in_ok-entry.field-0 c.in-Some.entry c.in-Some.is c.in_ok-entry.ensures.rises)
    (λ told. given_by c.args.merged.now c.next_entry.new.merged (g.L.MergeLaw.rule c.args.law.now) (g.T.Turns.means c.args.turns.now).rule c.in_ok-entry.field-0 (Some c.in-Some.entry) c.requires.law c.in-Some.is (c.in_ok-entry.ensures.told told))
    c.in_ok-add.ensures.adds

pub returns-clause-fewer : goal.returns-clause-fewer
returns-clause-fewer g c = λ _.
    let next = next_by c.args.merged.now c.next_entry.new.merged c.in_ok-entry.field-0 c.in-Some.entry c.in-Some.is c.in_ok-entry.ensures.rises in
    subst (λ (last : Option (List ℕ)). keys_left last < keys_left c.args.merged.now.last) (sym next.last)
    (keys_fewer c.args.merged.now.last c.in-Some.entry.0 c.bytes-bytes.ensures.is_key next.above)
