use Rattle.std.proofs.Common.{◌≡◌, ◌∙◌, Bool, false, ap, inr, subst, sym}
use Rattle.std.specs.Prelude.{Ok}
use Rattle.spl_holds.specs.declared.grip.Grip.TheVariants.{Free, Write}
use Rattle.spl_holds.specs.Grip.{may_write}
use Rattle.spl_state.specs.View.{branch_data}
use Rattle.spl_desk.specs.Holder.{kind_of}
use Rattle.spl_desk.proofs.Quiet.{made_before, made_behind, quiet_then}
use Rattle.spl_job.specs.Holding.{IsHolding, after_latch, with_grip}
use Rattle.spl_job.specs.Latching.{IsRefusal}
use Rattle.spl_enter.specs.Both.{IsRefusalOf}
use Rattle.spl_enter.proofs.Refusals.{made_so}
use Rattle.spl_enter.proofs.Regrips.{ended, grip_elsewhere, grip_there}
use Rattle.spl_enter.proofs.entering.enter_both.Goals as goal

pub returns-in_err-enter-2-clause-quiet : goal.returns-in_err-enter-2-clause-quiet
returns-in_err-enter-2-clause-quiet g c =
    let kind = kind_of g.B.Content.number (branch_data g.B.Content.extents g.B.Content.entries g.B.Content.cuts g.B.Content.table) g.B.Content.TELLS in
    quiet_then kind (g.T.Turns.means c.args.turns.now) (g.T.Turns.means c.enter.new.turns) (g.T.Turns.means c.enter-2.new.turns)
    (g.T.Turns.saw c.args.turns.now) (g.T.Turns.saw c.enter.new.turns) (g.T.Turns.saw c.enter-2.new.turns)
    c.enter.ensures.quiet c.enter-2.ensures.quiet

pub returns-then-branch-clause-quiet : goal.returns-then-branch-clause-quiet
returns-then-branch-clause-quiet g c =
    let kind = kind_of g.B.Content.number (branch_data g.B.Content.extents g.B.Content.entries g.B.Content.cuts g.B.Content.table) g.B.Content.TELLS in
    quiet_then kind (g.T.Turns.means c.args.turns.now) (g.T.Turns.means c.enter.new.turns) (g.T.Turns.means c.enter-2.new.turns)
    (g.T.Turns.saw c.args.turns.now) (g.T.Turns.saw c.enter.new.turns) (g.T.Turns.saw c.enter-2.new.turns)
    c.enter.ensures.quiet c.enter-2.ensures.quiet

pub returns-in_err-check_turns-clause-quiet : goal.returns-in_err-check_turns-clause-quiet
returns-in_err-check_turns-clause-quiet g c =
    let kind = kind_of g.B.Content.number (branch_data g.B.Content.extents g.B.Content.entries g.B.Content.cuts g.B.Content.table) g.B.Content.TELLS in
    quiet_then kind (g.T.Turns.means c.args.turns.now) (g.T.Turns.means c.enter.new.turns) (g.T.Turns.means c.enter-2.new.turns)
    (g.T.Turns.saw c.args.turns.now) (g.T.Turns.saw c.enter.new.turns) (g.T.Turns.saw c.enter-2.new.turns)
    c.enter.ensures.quiet c.enter-2.ensures.quiet

pub returns-then-branch-clause-holds : goal.returns-then-branch-clause-holds
returns-then-branch-clause-holds g c = λ holding is free other.
    let mid = g.T.Turns.means c.enter.new.turns in
    let new = g.T.Turns.means c.enter-2.new.turns in
    let one = with_grip holding c.args.parent Write in
    let first : IsHolding mid one = subst (λ (made : Bool). IsHolding mid (after_latch holding c.args.parent made Write)) c.if-not-branch.false (c.in_ok-enter.ensures.holds holding is free) in
    let away : one.grips c.args.child ≡ Free = grip_elsewhere holding c.args.parent c.args.child Write (λ same. c.requires.apart (sym same)) ∙ other in
    subst (λ (made : Bool). IsHolding new (after_latch one c.args.child made Write)) c.if-branch.true (c.in_ok-enter-2.ensures.holds one first.has away)

pub unlock-requires-clause-holds : goal.unlock-requires-clause-holds
unlock-requires-clause-holds g c =
    let has = c.requires.holds in
    let mid = g.T.Turns.means c.enter.new.turns in
    let new = g.T.Turns.means c.enter-2.new.turns in
    let one = with_grip has.0 c.args.parent Write in
    let first : IsHolding mid one = subst (λ (made : Bool). IsHolding mid (after_latch has.0 c.args.parent made Write)) c.if-not-branch.false (c.in_ok-enter.ensures.holds has.0 has.1 has.2) in
    let away : one.grips c.args.child ≡ Free = grip_elsewhere has.0 c.args.parent c.args.child Write (λ same. c.requires.apart (sym same)) ∙ has.3 in
    let second : IsHolding new one = subst (λ (made : Bool). IsHolding new (after_latch one c.args.child made Write)) c.if-branch.false (c.in_ok-enter-2.ensures.holds one first.has away) in
    (one, second, ap may_write (grip_there has.0 c.args.parent Write))

pub returns-clause-quiet : goal.returns-clause-quiet
returns-clause-quiet g c =
    let kind = kind_of g.B.Content.number (branch_data g.B.Content.extents g.B.Content.entries g.B.Content.cuts g.B.Content.table) g.B.Content.TELLS in
    let old = g.T.Turns.means c.args.turns.now in
    let mid = g.T.Turns.means c.enter.new.turns in
    let back = g.T.Turns.means c.enter-2.new.turns in
    let saw = g.T.Turns.saw c.args.turns.now in
    let between = g.T.Turns.saw c.enter.new.turns in
    let behind = g.T.Turns.saw c.enter-2.new.turns in
    quiet_then kind old back (g.T.Turns.means c.unlock.new.turns) saw behind (g.T.Turns.saw c.unlock.new.turns)
    (quiet_then kind old mid back saw between behind c.enter.ensures.quiet c.enter-2.ensures.quiet) c.unlock.ensures.quiet

pub returns-clause-holds : goal.returns-clause-holds
returns-clause-holds g c = λ holding is free other.
    let mid = g.T.Turns.means c.enter.new.turns in
    let back = g.T.Turns.means c.enter-2.new.turns in
    let one = with_grip holding c.args.parent Write in
    let first : IsHolding mid one = subst (λ (made : Bool). IsHolding mid (after_latch holding c.args.parent made Write)) c.if-not-branch.false (c.in_ok-enter.ensures.holds holding is free) in
    let away : one.grips c.args.child ≡ Free = grip_elsewhere holding c.args.parent c.args.child Write (λ same. c.requires.apart (sym same)) ∙ other in
    let second : IsHolding back one = subst (λ (made : Bool). IsHolding back (after_latch one c.args.child made Write)) c.if-branch.false (c.in_ok-enter-2.ensures.holds one first.has away) in
    ended (g.T.Turns.means c.unlock.new.turns) holding c.args.parent free (c.unlock.ensures.holds one second)

pub returns-clause-refused : goal.returns-clause-refused
returns-clause-refused g c = λ no.
    let kind = kind_of g.B.Content.number (branch_data g.B.Content.extents g.B.Content.entries g.B.Content.cuts g.B.Content.table) g.B.Content.TELLS in
    let old = g.T.Turns.means c.args.turns.now in
    let mid = g.T.Turns.means c.enter.new.turns in
    let back = g.T.Turns.means c.enter-2.new.turns in
    let saw = g.T.Turns.saw c.args.turns.now in
    let between = g.T.Turns.saw c.enter.new.turns in
    let behind = g.T.Turns.saw c.enter-2.new.turns in
    let refused : c.enter-2.result ≡ Ok false = c.in_ok-enter-2.was ∙ ap (λ (made : Bool). Ok made) c.if-branch.false in
    made_before kind old back (g.T.Turns.means c.unlock.new.turns) saw behind (g.T.Turns.saw c.unlock.new.turns)
    (IsRefusalOf c.args.parent c.args.child)
    (quiet_then kind old mid back saw between behind c.enter.ensures.quiet c.enter-2.ensures.quiet).same
    (made_behind kind old mid back saw between behind (IsRefusalOf c.args.parent c.args.child) c.enter.ensures.quiet
    (λ history had. made_so kind mid history back behind (IsRefusal c.args.child) (IsRefusalOf c.args.parent c.args.child) (λ turn is. inr is) (c.enter-2.ensures.refused refused history had)))
    c.unlock.ensures.quiet
