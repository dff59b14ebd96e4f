use Rattle.std.proofs.Common.{subst}
use Rattle.spl_desk.specs.Branches.{branch_kind}
use Rattle.spl_desk.proofs.Quiet.{made_before, quiet_then}
use Rattle.spl_compactor.specs.declared.compacted.Compacted.{Compacted}
use Rattle.spl_compactor.specs.Outcomes.{AsksFor, IsStale, WasCompacted}
use Rattle.spl_compactor.proofs.compaction.attempt.Goals as goal

pub returns-in_ok-check_turns-in-Stale-clause-quiet : goal.returns-in_ok-check_turns-in-Stale-clause-quiet
returns-in_ok-check_turns-in-Stale-clause-quiet g c =
    quiet_then (branch_kind g.P.Seal.Seal.TELLS) (g.T.Turns.means c.args.desk.now.turns) (g.T.Turns.means c.inner.new.desk.turns) (g.T.Turns.means c.abandon.new.turns)
    (g.T.Turns.saw c.args.desk.now.turns) (g.T.Turns.saw c.inner.new.desk.turns) (g.T.Turns.saw c.abandon.new.turns)
    c.inner.ensures.quiet c.abandon.ensures.quiet

pub returns-in_ok-check_turns-in-Stale-clause-made : goal.returns-in_ok-check_turns-in-Stale-clause-made
returns-in_ok-check_turns-in-Stale-clause-made g c =
    let kind = branch_kind g.P.Seal.Seal.TELLS in
    let old = g.T.Turns.means c.args.desk.now.turns in
    let mid = g.T.Turns.means c.inner.new.desk.turns in
    let new = g.T.Turns.means c.abandon.new.turns in
    let saw = g.T.Turns.saw c.args.desk.now.turns in
    let between = g.T.Turns.saw c.inner.new.desk.turns in
    let sees = g.T.Turns.saw c.abandon.new.turns in
    made_before kind old mid new saw between sees IsStale c.inner.ensures.quiet.same
    (subst (λ (answer : Compacted). WasCompacted kind old saw mid between c.args.node c.args.first c.args.last answer) c.in-Stale.is c.in_ok-other.ensures.made)
    c.abandon.ensures.quiet

pub returns-in_ok-check_turns-in-Stale-clause-asked : goal.returns-in_ok-check_turns-in-Stale-clause-asked
returns-in_ok-check_turns-in-Stale-clause-asked g c =
    let kind = branch_kind g.P.Seal.Seal.TELLS in
    let old = g.T.Turns.means c.args.desk.now.turns in
    let mid = g.T.Turns.means c.inner.new.desk.turns in
    let new = g.T.Turns.means c.abandon.new.turns in
    let saw = g.T.Turns.saw c.args.desk.now.turns in
    let between = g.T.Turns.saw c.inner.new.desk.turns in
    let sees = g.T.Turns.saw c.abandon.new.turns in
    made_before kind old mid new saw between sees (AsksFor c.args.node c.args.first c.args.last) c.inner.ensures.quiet.same c.in_ok-other.ensures.asked c.abandon.ensures.quiet
