use Rattle.spl_state.specs.View.{branch_data}
use Rattle.spl_desk.specs.Holder.{kind_of}
use Rattle.spl_desk.proofs.Walks.{has_called, no_call}
use Rattle.spl_core.specs.declared.step.Step.TheVariants.{Abandon}
use Rattle.std.proofs.Common.{refl}
use Rattle.spl_down.proofs.Stopping.{abandon_nothing, abandon_walk}
use Rattle.spl_down.proofs.stop.abandon.Goals as goal

pub returns-clause-called : goal.returns-clause-called
returns-clause-called g c =
    let kind = kind_of g.B.Content.number (branch_data g.B.Content.extents g.B.Content.entries g.B.Content.cuts g.B.Content.table) g.B.Content.TELLS in
    let old = g.T.Turns.means c.args.turns.now in
    let new = g.T.Turns.means c.take_turn.new.turns in
    let seen = c.requires.seen in
    has_called old new 1 c.take_turn.ensures.same
    (abandon_nothing kind old new seen.0 c.take_turn.result (g.T.Turns.saw c.take_turn.new.turns) (c.take_turn.ensures.turn seen.0 seen.1))

pub returns-clause-seen : goal.returns-clause-seen
returns-clause-seen g c = let turn = c.take_turn.ensures.turn c.requires.seen.0 c.requires.seen.1 in (_, turn.saw)

pub returns-clause-no_call : goal.returns-clause-no_call
returns-clause-no_call g c = λ history saw.
    let kind = kind_of g.B.Content.number (branch_data g.B.Content.extents g.B.Content.entries g.B.Content.cuts g.B.Content.table) g.B.Content.TELLS in
    no_call kind (g.T.Turns.means c.args.turns.now) (g.T.Turns.means c.take_turn.new.turns) history Abandon c.take_turn.result (g.T.Turns.saw c.take_turn.new.turns)
    (c.take_turn.ensures.turn history saw) refl

pub returns-clause-walk : goal.returns-clause-walk
returns-clause-walk g c = λ history saw.
    let kind = kind_of g.B.Content.number (branch_data g.B.Content.extents g.B.Content.entries g.B.Content.cuts g.B.Content.table) g.B.Content.TELLS in
    abandon_walk kind (g.T.Turns.means c.args.turns.now) (g.T.Turns.means c.take_turn.new.turns) history c.take_turn.result (g.T.Turns.saw c.take_turn.new.turns)
    (c.take_turn.ensures.turn history saw)
