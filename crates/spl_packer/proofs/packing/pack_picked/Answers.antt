use Rattle.std.proofs.Common.{[], inl}
use Rattle.spl_desk.specs.Branches.{branch_kind}
use Rattle.spl_desk.specs.Quiet.{HasWorkCause}
use Rattle.spl_desk.proofs.Quiet.{cause_behind, counts_same, made_before, quiet_then}
use Rattle.spl_enter.specs.Turning.{HasTurnCause}
use Rattle.spl_packer.specs.Outcomes.{ShowsFull, ShowsPacked, ShowsRoom}
use Rattle.spl_packer.specs.Packs.{packs}
use Rattle.spl_packer.specs.declared.packed.Packed.TheVariants as packed
use Rattle.spl_packer.proofs.Outcomes.{picked_on}
use Rattle.spl_packer.proofs.Shown.{made_so, packed_behind}
use Rattle.spl_packer.proofs.Stops.{if_err_map, if_err_same, turn_cause}
use Rattle.spl_packer.proofs.packing.pack_picked.Goals as goal

pub build-requires-clause-picked : goal.build-requires-clause-picked
build-requires-clause-picked g c κs within =
    let has = c.requires.picked in
    picked_on (g.T.Turns.means c.is_root_full.new.turns) c.args.picked.now has.0 has.1 []
    (c.in_ok-is_root_full.ensures.holds (packs c.args.picked.now has.0 has.1 []) has.2)

pub returns-in_err-branch-clause-quiet : goal.returns-in_err-branch-clause-quiet
returns-in_err-branch-clause-quiet g c =
    quiet_then (branch_kind g.P.Seal.Seal.TELLS) (g.T.Turns.means c.args.desk.now.turns) (g.T.Turns.means c.is_root_full.new.turns) (g.T.Turns.means c.build.new.turns)
    (g.T.Turns.saw c.args.desk.now.turns) (g.T.Turns.saw c.is_root_full.new.turns) (g.T.Turns.saw c.build.new.turns)
    c.is_root_full.ensures.quiet c.build.ensures.quiet

pub returns-in_err-branch-clause-cause : goal.returns-in_err-branch-clause-cause
returns-in_err-branch-clause-cause g c =
    let kind = branch_kind g.P.Seal.Seal.TELLS in
    let old = g.T.Turns.means c.args.desk.now.turns in
    let new = g.T.Turns.means c.build.new.turns in
    let before = g.P.Port.counts c.args.desk.now.port.now in
    let after = g.P.Port.counts c.build.new.port in
    if_err_same c.from_residual-in_err-branch.result c.in_err-branch.field-0.0
    (HasWorkCause kind old (g.T.Turns.saw c.args.desk.now.turns) new (g.T.Turns.saw c.build.new.turns) before after)
    c.from_residual-in_err-branch.ensures.1
    (cause_behind kind old (g.T.Turns.means c.is_root_full.new.turns) new (g.T.Turns.saw c.args.desk.now.turns) (g.T.Turns.saw c.is_root_full.new.turns) (g.T.Turns.saw c.build.new.turns)
    before before after c.in_err-branch.field-0.0 c.is_root_full.ensures.quiet (counts_same before) c.in_err-branch.ensures.cause)

pub returns-in_err-publish_built-clause-quiet : goal.returns-in_err-publish_built-clause-quiet
returns-in_err-publish_built-clause-quiet g c =
    let kind = branch_kind g.P.Seal.Seal.TELLS in
    let old = g.T.Turns.means c.args.desk.now.turns in
    let saw = g.T.Turns.saw c.args.desk.now.turns in
    let built = g.T.Turns.means c.build.new.turns in
    quiet_then kind old built (g.T.Turns.means c.publish_built.new.turns) saw (g.T.Turns.saw c.build.new.turns) (g.T.Turns.saw c.publish_built.new.turns)
    (quiet_then kind old (g.T.Turns.means c.is_root_full.new.turns) built saw (g.T.Turns.saw c.is_root_full.new.turns) (g.T.Turns.saw c.build.new.turns)
    c.is_root_full.ensures.quiet c.build.ensures.quiet)
    c.publish_built.ensures.quiet

pub returns-in_err-publish_built-clause-cause : goal.returns-in_err-publish_built-clause-cause
returns-in_err-publish_built-clause-cause g c =
    let kind = branch_kind g.P.Seal.Seal.TELLS in
    let old = g.T.Turns.means c.args.desk.now.turns in
    let saw = g.T.Turns.saw c.args.desk.now.turns in
    let new = g.T.Turns.means c.publish_built.new.turns in
    let sees = g.T.Turns.saw c.publish_built.new.turns in
    let before = g.P.Port.counts c.args.desk.now.port.now in
    let after = g.P.Port.counts c.build.new.port in
    if_err_same c.from_residual-in_err-publish_built.result c.in_err-publish_built.field-0.0
    (HasWorkCause kind old saw new sees before after)
    c.from_residual-in_err-publish_built.ensures.1
    (turn_cause kind old new saw sees before after c.in_err-publish_built.field-0.0 c.in_err-publish_built.ensures.cause)

pub returns-clause-quiet : goal.returns-clause-quiet
returns-clause-quiet g c =
    let kind = branch_kind g.P.Seal.Seal.TELLS in
    let old = g.T.Turns.means c.args.desk.now.turns in
    let saw = g.T.Turns.saw c.args.desk.now.turns in
    let built = g.T.Turns.means c.build.new.turns in
    let published = g.T.Turns.means c.publish_built.new.turns in
    quiet_then kind old published (g.T.Turns.means c.hang.new.turns) saw (g.T.Turns.saw c.publish_built.new.turns) (g.T.Turns.saw c.hang.new.turns)
    (quiet_then kind old built published saw (g.T.Turns.saw c.build.new.turns) (g.T.Turns.saw c.publish_built.new.turns)
    (quiet_then kind old (g.T.Turns.means c.is_root_full.new.turns) built saw (g.T.Turns.saw c.is_root_full.new.turns) (g.T.Turns.saw c.build.new.turns)
    c.is_root_full.ensures.quiet c.build.ensures.quiet)
    c.publish_built.ensures.quiet)
    c.hang.ensures.quiet

pub returns-clause-made : goal.returns-clause-made
returns-clause-made g c =
    let kind = branch_kind g.P.Seal.Seal.TELLS in
    let old = g.T.Turns.means c.args.desk.now.turns in
    let saw = g.T.Turns.saw c.args.desk.now.turns in
    let built = g.T.Turns.means c.build.new.turns in
    let published = g.T.Turns.means c.publish_built.new.turns in
    packed_behind kind old published (g.T.Turns.means c.hang.new.turns) saw (g.T.Turns.saw c.publish_built.new.turns) (g.T.Turns.saw c.hang.new.turns) c.hang.result
    (quiet_then kind old built published saw (g.T.Turns.saw c.build.new.turns) (g.T.Turns.saw c.publish_built.new.turns)
    (quiet_then kind old (g.T.Turns.means c.is_root_full.new.turns) built saw (g.T.Turns.saw c.is_root_full.new.turns) (g.T.Turns.saw c.build.new.turns)
    c.is_root_full.ensures.quiet c.build.ensures.quiet)
    c.publish_built.ensures.quiet)
    c.hang.ensures.made

pub returns-clause-cause : goal.returns-clause-cause
returns-clause-cause g c =
    let kind = branch_kind g.P.Seal.Seal.TELLS in
    let old = g.T.Turns.means c.args.desk.now.turns in
    let saw = g.T.Turns.saw c.args.desk.now.turns in
    let new = g.T.Turns.means c.hang.new.turns in
    let sees = g.T.Turns.saw c.hang.new.turns in
    let before = g.P.Port.counts c.args.desk.now.port.now in
    let after = g.P.Port.counts c.build.new.port in
    if_err_map c.hang.result (HasTurnCause new) (HasWorkCause kind old saw new sees before after)
    (λ fault cause. turn_cause kind old new saw sees before after fault cause) c.hang.ensures.cause

pub returns-then-branch-clause-made : goal.returns-then-branch-clause-made
returns-then-branch-clause-made g c = λ history had.
    made_so (branch_kind g.P.Seal.Seal.TELLS) (g.T.Turns.means c.args.desk.now.turns) (g.T.Turns.means c.is_root_full.new.turns) history (g.T.Turns.saw c.is_root_full.new.turns)
    ShowsFull (ShowsPacked packed.NeedsFlush) (λ turn is. inl is) (c.in_ok-is_root_full.ensures.full c.if-branch.true history had)

pub returns-in_err-branch-clause-looked : goal.returns-in_err-branch-clause-looked
returns-in_err-branch-clause-looked g c = λ wrote.
    made_before (branch_kind g.P.Seal.Seal.TELLS) (g.T.Turns.means c.args.desk.now.turns) (g.T.Turns.means c.is_root_full.new.turns) (g.T.Turns.means c.build.new.turns)
    (g.T.Turns.saw c.args.desk.now.turns) (g.T.Turns.saw c.is_root_full.new.turns) (g.T.Turns.saw c.build.new.turns)
    ShowsRoom c.is_root_full.ensures.quiet.same (c.in_ok-is_root_full.ensures.room c.if-branch.false) c.build.ensures.quiet

pub returns-in_err-publish_built-clause-looked : goal.returns-in_err-publish_built-clause-looked
returns-in_err-publish_built-clause-looked g c = λ wrote.
    let kind = branch_kind g.P.Seal.Seal.TELLS in
    let seen = g.T.Turns.means c.is_root_full.new.turns in
    let published = g.T.Turns.means c.publish_built.new.turns in
    let between = g.T.Turns.saw c.is_root_full.new.turns in
    let sees = g.T.Turns.saw c.publish_built.new.turns in
    made_before kind (g.T.Turns.means c.args.desk.now.turns) seen published (g.T.Turns.saw c.args.desk.now.turns) between sees
    ShowsRoom c.is_root_full.ensures.quiet.same (c.in_ok-is_root_full.ensures.room c.if-branch.false)
    (quiet_then kind seen (g.T.Turns.means c.build.new.turns) published between (g.T.Turns.saw c.build.new.turns) sees c.build.ensures.quiet c.publish_built.ensures.quiet)

pub returns-clause-looked : goal.returns-clause-looked
returns-clause-looked g c = λ wrote.
    let kind = branch_kind g.P.Seal.Seal.TELLS in
    let seen = g.T.Turns.means c.is_root_full.new.turns in
    let published = g.T.Turns.means c.publish_built.new.turns in
    let between = g.T.Turns.saw c.is_root_full.new.turns in
    let behind = g.T.Turns.saw c.publish_built.new.turns in
    let new = g.T.Turns.means c.hang.new.turns in
    let sees = g.T.Turns.saw c.hang.new.turns in
    made_before kind (g.T.Turns.means c.args.desk.now.turns) seen new (g.T.Turns.saw c.args.desk.now.turns) between sees
    ShowsRoom c.is_root_full.ensures.quiet.same (c.in_ok-is_root_full.ensures.room c.if-branch.false)
    (quiet_then kind seen published new between behind sees
    (quiet_then kind seen (g.T.Turns.means c.build.new.turns) published between (g.T.Turns.saw c.build.new.turns) behind c.build.ensures.quiet c.publish_built.ensures.quiet)
    c.hang.ensures.quiet)
