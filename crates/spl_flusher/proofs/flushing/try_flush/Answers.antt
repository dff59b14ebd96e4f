use Rattle.std.proofs.Common.{Bool, true, refl, subst}
use Rattle.spl_state.specs.View.{branch_data}
use Rattle.spl_desk.specs.Holder.{kind_of}
use Rattle.spl_desk.proofs.Quiet.{made_behind, quiet_then}
use Rattle.spl_job.specs.Flushing.{IsFlushTurn}
use Rattle.spl_job.specs.Holding.{IsHolding}
use Rattle.spl_job.proofs.Nothing.{held_nothing, no_holding, nothing_holds}
use Rattle.spl_enter.specs.Both.{after_both}
use Rattle.spl_enter.proofs.Regrips.{both_written}
use Rattle.spl_flusher.proofs.Outcomes.{told_still}
use Rattle.spl_flusher.proofs.flushing.try_flush.Goals as goal

pub enter_both-requires-clause-holds : goal.enter_both-requires-clause-holds
enter_both-requires-clause-holds g c =
    let old = g.T.Turns.means c.args.turns.now in
    (no_holding old.at old.actor, nothing_holds old c.requires.nothing, refl, refl, c.requires.known.0, c.requires.known.1)

pub returns-then-not-branch-clause-after : goal.returns-then-not-branch-clause-after
returns-then-not-branch-clause-after g c =
    let old = g.T.Turns.means c.args.turns.now in
    let mid = g.T.Turns.means c.enter_both.new.turns in
    let none = no_holding old.at old.actor in
    let kept : IsHolding mid none = subst (λ (made : Bool). IsHolding mid (after_both none c.args.parent c.args.child made)) c.if-not-branch.true (c.in_ok-enter_both.ensures.holds none (nothing_holds old c.requires.nothing) refl refl) in
    held_nothing mid none kept refl refl (λ node. refl)

pub returns-then-not-branch-clause-told : goal.returns-then-not-branch-clause-told
returns-then-not-branch-clause-told g c =
    let old = g.T.Turns.means c.args.turns.now in
    let mid = g.T.Turns.means c.enter_both.new.turns in
    let none = no_holding old.at old.actor in
    let kept : IsHolding mid none = subst (λ (made : Bool). IsHolding mid (after_both none c.args.parent c.args.child made)) c.if-not-branch.true (c.in_ok-enter_both.ensures.holds none (nothing_holds old c.requires.nothing) refl refl) in
    told_still old mid none refl kept

pub flush-flushing-requires-clause-holds : goal.flush-flushing-requires-clause-holds
flush-flushing-requires-clause-holds g c =
    let old = g.T.Turns.means c.args.turns.now in
    let mid = g.T.Turns.means c.enter_both.new.turns in
    let none = no_holding old.at old.actor in
    let both = after_both none c.args.parent c.args.child true in
    let held : IsHolding mid both = subst (λ (made : Bool). IsHolding mid (after_both none c.args.parent c.args.child made)) c.if-not-branch.false (c.in_ok-enter_both.ensures.holds none (nothing_holds old c.requires.nothing) refl refl) in
    let written = both_written none c.args.parent c.args.child in
    (both, held, written.0, written.1)

pub returns-in_err-check_turns-2-clause-quiet : goal.returns-in_err-check_turns-2-clause-quiet
returns-in_err-check_turns-2-clause-quiet g c =
    let kind = kind_of g.B.Content.number (branch_data g.B.Content.extents g.B.Content.entries g.B.Content.cuts g.B.Content.table) g.B.Content.TELLS in
    quiet_then kind (g.T.Turns.means c.args.turns.now) (g.T.Turns.means c.enter_both.new.turns) (g.T.Turns.means c.flush-flushing.new.turns)
    (g.T.Turns.saw c.args.turns.now) (g.T.Turns.saw c.enter_both.new.turns) (g.T.Turns.saw c.flush-flushing.new.turns)
    c.enter_both.ensures.quiet c.flush-flushing.ensures.quiet

pub returns-clause-quiet : goal.returns-clause-quiet
returns-clause-quiet g c =
    let kind = kind_of g.B.Content.number (branch_data g.B.Content.extents g.B.Content.entries g.B.Content.cuts g.B.Content.table) g.B.Content.TELLS in
    quiet_then kind (g.T.Turns.means c.args.turns.now) (g.T.Turns.means c.enter_both.new.turns) (g.T.Turns.means c.flush-flushing.new.turns)
    (g.T.Turns.saw c.args.turns.now) (g.T.Turns.saw c.enter_both.new.turns) (g.T.Turns.saw c.flush-flushing.new.turns)
    c.enter_both.ensures.quiet c.flush-flushing.ensures.quiet

pub returns-clause-told : goal.returns-clause-told
returns-clause-told g c =
    let old = g.T.Turns.means c.args.turns.now in
    let mid = g.T.Turns.means c.enter_both.new.turns in
    let new = g.T.Turns.means c.flush-flushing.new.turns in
    let none = no_holding old.at old.actor in
    let both = after_both none c.args.parent c.args.child true in
    let held : IsHolding mid both = subst (λ (made : Bool). IsHolding mid (after_both none c.args.parent c.args.child made)) c.if-not-branch.false (c.in_ok-enter_both.ensures.holds none (nothing_holds old c.requires.nothing) refl refl) in
    told_still old new both refl (c.flush-flushing.ensures.holds both held)

pub returns-clause-made : goal.returns-clause-made
returns-clause-made g c =
    let kind = kind_of g.B.Content.number (branch_data g.B.Content.extents g.B.Content.entries g.B.Content.cuts g.B.Content.table) g.B.Content.TELLS in
    made_behind kind (g.T.Turns.means c.args.turns.now) (g.T.Turns.means c.enter_both.new.turns) (g.T.Turns.means c.flush-flushing.new.turns)
    (g.T.Turns.saw c.args.turns.now) (g.T.Turns.saw c.enter_both.new.turns) (g.T.Turns.saw c.flush-flushing.new.turns)
    (IsFlushTurn c.args.parent c.args.child c.flush-flushing.result) c.enter_both.ensures.quiet c.flush-flushing.ensures.made
