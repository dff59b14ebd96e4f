use Rattle.std.proofs.Common.{◌<◌, ℕ, subst}
use Rattle.spl_base.specs.declared.TheConstants.{ACTORS}
use Rattle.spl_message.specs.History.{History}
use Rattle.spl_state.specs.View.{branch_data}
use Rattle.spl_core.specs.declared.step.Step.TheVariants.{Begin}
use Rattle.spl_desk.specs.Calls.{HasNothing}
use Rattle.spl_desk.specs.Holder.{kind_of}
use Rattle.spl_desk.specs.Turn.{MadeTurn}
use Rattle.spl_down.specs.Descending.{HasEntered}
use Rattle.spl_down.proofs.Beginning.{turn_begun, turn_may, turn_walk}
use Rattle.spl_down.proofs.Seeing.{on_try}
use Rattle.spl_down.proofs.down.begin_once.Given.{Over}
use Rattle.spl_down.proofs.down.begin_once.Goals as goal
use Rattle.spl_down.proofs.down.begin_once.Goals.{After-take_turn}

known : (g : Over) (c : After-take_turn g) → (g.T.Turns.means c.args.turns.now).actor < ACTORS
known g c = subst (λ (n : ℕ). n < ACTORS) c.actor.ensures.value c.actor.ensures.known

made : (g : Over) (c : After-take_turn g) (history : History) → g.T.Turns.saw c.args.turns.now history
    → MadeTurn (kind_of g.B.Content.number (branch_data g.B.Content.extents g.B.Content.entries g.B.Content.cuts g.B.Content.table) g.B.Content.TELLS) (g.T.Turns.means c.args.turns.now) (g.T.Turns.means c.take_turn.new.turns) history (Begin c.args.span.now) c.take_turn.result (g.T.Turns.saw c.take_turn.new.turns)
made g c history saw = c.take_turn.ensures.turn history saw

pub seen_in-requires : goal.seen_in-requires
seen_in-requires g c =
    let kind = kind_of g.B.Content.number (branch_data g.B.Content.extents g.B.Content.entries g.B.Content.cuts g.B.Content.table) g.B.Content.TELLS in
    let same = c.take_turn.ensures.same in
    turn_may kind (g.T.Turns.means c.args.turns.now) (g.T.Turns.means c.take_turn.new.turns) c.args.span.now c.requires.seen.0 (g.T.Turns.saw c.take_turn.new.turns) (known g c) c.requires.free same.actor same.rule c.take_turn.result (made g c c.requires.seen.0 c.requires.seen.1)

pub returns-clause-seen : goal.returns-clause-seen
returns-clause-seen g c = let turn = c.take_turn.ensures.turn c.requires.seen.0 c.requires.seen.1 in (_, turn.saw)

pub returns-clause-entered : goal.returns-clause-entered
returns-clause-entered g c =
    let kind = kind_of g.B.Content.number (branch_data g.B.Content.extents g.B.Content.entries g.B.Content.cuts g.B.Content.table) g.B.Content.TELLS in
    let new = g.T.Turns.means c.take_turn.new.turns in
    let same = c.take_turn.ensures.same in
    let before = (goal.at.returns-clause-entered g c).After-take_turn in
    on_try c.take_turn.result c.seen_in.result (HasEntered kind new c.args.span.now) (HasNothing new.at new.actor) c.seen_in.ensures
    (turn_begun kind (g.T.Turns.means c.args.turns.now) new c.args.span.now c.requires.seen.0 (g.T.Turns.saw c.take_turn.new.turns) (known g before) c.requires.free same.actor same.rule c.take_turn.result (made g before c.requires.seen.0 c.requires.seen.1))

pub returns-clause-walk : goal.returns-clause-walk
returns-clause-walk g c = λ history saw.
    let kind = kind_of g.B.Content.number (branch_data g.B.Content.extents g.B.Content.entries g.B.Content.cuts g.B.Content.table) g.B.Content.TELLS in
    let same = c.take_turn.ensures.same in
    let before = (goal.at.returns-clause-walk g c).After-take_turn in
    turn_walk kind (g.T.Turns.means c.args.turns.now) (g.T.Turns.means c.take_turn.new.turns) c.args.span.now history (g.T.Turns.saw c.take_turn.new.turns) (known g before) c.requires.free same.actor same.rule c.take_turn.result c.seen_in.result c.seen_in.ensures (made g before history saw)
