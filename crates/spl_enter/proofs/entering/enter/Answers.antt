use Rattle.std.proofs.Common.{false, inl, inr}
use Rattle.spl_holds.specs.declared.grip.Grip.TheVariants.{Claim}
use Rattle.spl_state.specs.View.{branch_data}
use Rattle.spl_desk.specs.Holder.{kind_of}
use Rattle.spl_desk.proofs.Quiet.{made_behind, quiet_then}
use Rattle.spl_job.specs.Holding.{with_grip}
use Rattle.spl_job.specs.Latching.{IsClaimTurn, IsLockTurn, IsRefusal}
use Rattle.spl_enter.proofs.Refusals.{made_so}
use Rattle.spl_enter.proofs.Regrips.{grip_there, raised}
use Rattle.spl_enter.proofs.entering.enter.Goals as goal

pub raise-requires-clause-holds : goal.raise-requires-clause-holds
raise-requires-clause-holds g c =
    let has = c.requires.holds in
    (with_grip has.0 c.args.node Claim, c.if-claim.ensures.holds has.0 has.1, grip_there has.0 c.args.node Claim)

pub returns-then-claim-clause-quiet : goal.returns-then-claim-clause-quiet
returns-then-claim-clause-quiet g c =
    let kind = kind_of g.B.Content.number (branch_data g.B.Content.extents g.B.Content.entries g.B.Content.cuts g.B.Content.table) g.B.Content.TELLS in
    quiet_then kind (g.T.Turns.means c.args.turns.now) (g.T.Turns.means c.claim.new.turns) (g.T.Turns.means c.raise.new.turns)
    (g.T.Turns.saw c.args.turns.now) (g.T.Turns.saw c.claim.new.turns) (g.T.Turns.saw c.raise.new.turns)
    c.claim.ensures.quiet c.raise.ensures.quiet

pub returns-then-claim-clause-holds : goal.returns-then-claim-clause-holds
returns-then-claim-clause-holds g c = λ holding is free.
    raised (g.T.Turns.means c.raise.new.turns) holding c.args.node c.raise.result free
    (c.raise.ensures.holds (with_grip holding c.args.node Claim) (c.if-claim.ensures.holds holding is) (grip_there holding c.args.node Claim))

pub returns-else-claim-clause-holds : goal.returns-else-claim-clause-holds
returns-else-claim-clause-holds g c = λ holding is free. c.if-claim.ensures.holds holding is

pub returns-then-claim-clause-refused : goal.returns-then-claim-clause-refused
returns-then-claim-clause-refused g c = λ no.
    let kind = kind_of g.B.Content.number (branch_data g.B.Content.extents g.B.Content.entries g.B.Content.cuts g.B.Content.table) g.B.Content.TELLS in
    let mid = g.T.Turns.means c.claim.new.turns in
    let new = g.T.Turns.means c.raise.new.turns in
    let sees = g.T.Turns.saw c.raise.new.turns in
    made_behind kind (g.T.Turns.means c.args.turns.now) mid new
    (g.T.Turns.saw c.args.turns.now) (g.T.Turns.saw c.claim.new.turns) sees
    (IsRefusal c.args.node) c.claim.ensures.quiet
    (λ history had. made_so kind mid history new sees (IsLockTurn c.args.node false) (IsRefusal c.args.node) (λ turn is. inr is) (c.raise.ensures.refused no history had))

pub returns-else-claim-clause-refused : goal.returns-else-claim-clause-refused
returns-else-claim-clause-refused g c = λ no history had.
    let kind = kind_of g.B.Content.number (branch_data g.B.Content.extents g.B.Content.entries g.B.Content.cuts g.B.Content.table) g.B.Content.TELLS in
    made_so kind (g.T.Turns.means c.args.turns.now) history (g.T.Turns.means c.claim.new.turns) (g.T.Turns.saw c.claim.new.turns)
    (IsClaimTurn c.args.node false) (IsRefusal c.args.node) (λ turn is. inl is) (c.if-claim.ensures.made history had)
