use Rattle.spl_state.specs.View.{branch_data}
use Rattle.spl_desk.specs.Holder.{kind_of}
use Rattle.spl_desk.proofs.Quiet.{quiet_then}
use Rattle.spl_grower.specs.Ends.{IsRootEnd}
use Rattle.spl_grower.specs.Stopping.{HasGrowCause}
use Rattle.spl_grower.proofs.Jobs.{ends_before}
use Rattle.spl_grower.proofs.Stops.{if_err_map, stops_before}
use Rattle.spl_grower.proofs.root.raise_root.Goals as goal

pub returns-clause-quiet : goal.returns-clause-quiet
returns-clause-quiet g c =
    let kind = kind_of g.B.Content.number (branch_data g.B.Content.extents g.B.Content.entries g.B.Content.cuts g.B.Content.table) g.B.Content.TELLS in
    let old = g.T.Turns.means c.args.turns.now in
    let saw = g.T.Turns.saw c.args.turns.now in
    let mid = g.T.Turns.means c.raise_or_stop-outcome.new.turns in
    let between = g.T.Turns.saw c.raise_or_stop-outcome.new.turns in
    let new = g.T.Turns.means c.abandon.new.turns in
    let sees = g.T.Turns.saw c.abandon.new.turns in
    quiet_then kind old mid new saw between sees c.raise_or_stop-outcome.ensures.quiet c.abandon.ensures.quiet

pub returns-clause-made : goal.returns-clause-made
returns-clause-made g c =
    let kind = kind_of g.B.Content.number (branch_data g.B.Content.extents g.B.Content.entries g.B.Content.cuts g.B.Content.table) g.B.Content.TELLS in
    let old = g.T.Turns.means c.args.turns.now in
    let saw = g.T.Turns.saw c.args.turns.now in
    let mid = g.T.Turns.means c.raise_or_stop-outcome.new.turns in
    let between = g.T.Turns.saw c.raise_or_stop-outcome.new.turns in
    let new = g.T.Turns.means c.abandon.new.turns in
    let sees = g.T.Turns.saw c.abandon.new.turns in
    ends_before kind old mid new saw between sees c.raise_or_stop-outcome.result IsRootEnd c.raise_or_stop-outcome.ensures.quiet c.raise_or_stop-outcome.ensures.made c.abandon.ensures.quiet

pub returns-clause-cause : goal.returns-clause-cause
returns-clause-cause g c =
    let kind = kind_of g.B.Content.number (branch_data g.B.Content.extents g.B.Content.entries g.B.Content.cuts g.B.Content.table) g.B.Content.TELLS in
    let old = g.T.Turns.means c.args.turns.now in
    let saw = g.T.Turns.saw c.args.turns.now in
    let mid = g.T.Turns.means c.raise_or_stop-outcome.new.turns in
    let between = g.T.Turns.saw c.raise_or_stop-outcome.new.turns in
    let new = g.T.Turns.means c.abandon.new.turns in
    let sees = g.T.Turns.saw c.abandon.new.turns in
    if_err_map c.raise_or_stop-outcome.result (HasGrowCause kind old saw mid between) (HasGrowCause kind old saw new sees)
    (λ f cause. stops_before kind old mid new saw between sees f c.raise_or_stop-outcome.ensures.quiet cause c.abandon.ensures.quiet) c.raise_or_stop-outcome.ensures.cause
