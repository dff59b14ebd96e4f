use Rattle.spl_desk.proofs.Walks.{has_called}
use Rattle.spl_state.specs.View.{branch_data}
use Rattle.spl_desk.specs.Holder.{kind_of}
use Rattle.spl_session.proofs.Tries.{rotate_no_call, rotate_nothing}
use Rattle.spl_session.proofs.steps.try_rotate.Goals as goal

pub returns-in-Rotated-clause-called : goal.returns-in-Rotated-clause-called
returns-in-Rotated-clause-called g c =
    let kind = kind_of g.B.Content.number (branch_data g.B.Content.extents g.B.Content.entries g.B.Content.cuts g.B.Content.table) g.B.Content.TELLS in
    let old = g.T.Turns.means c.args.turns.now in
    let new = g.T.Turns.means c.take_turn.new.turns in
    let seen = c.requires.seen in
    has_called old new 1 c.take_turn.ensures.same
    (rotate_nothing kind old new seen.0 c.take_turn.result (g.T.Turns.saw c.take_turn.new.turns) (c.take_turn.ensures.turn seen.0 seen.1) c.requires.nothing)

pub returns-in-Rotated-clause-no_call : goal.returns-in-Rotated-clause-no_call
returns-in-Rotated-clause-no_call g c = λ history saw.
    let kind = kind_of g.B.Content.number (branch_data g.B.Content.extents g.B.Content.entries g.B.Content.cuts g.B.Content.table) g.B.Content.TELLS in
    rotate_no_call kind (g.T.Turns.means c.args.turns.now) (g.T.Turns.means c.take_turn.new.turns) history c.take_turn.result (g.T.Turns.saw c.take_turn.new.turns)
    (c.take_turn.ensures.turn history saw)

pub returns-in-FrozenFull-clause-called : goal.returns-in-FrozenFull-clause-called
returns-in-FrozenFull-clause-called g c =
    let kind = kind_of g.B.Content.number (branch_data g.B.Content.extents g.B.Content.entries g.B.Content.cuts g.B.Content.table) g.B.Content.TELLS in
    let old = g.T.Turns.means c.args.turns.now in
    let new = g.T.Turns.means c.take_turn.new.turns in
    let seen = c.requires.seen in
    has_called old new 1 c.take_turn.ensures.same
    (rotate_nothing kind old new seen.0 c.take_turn.result (g.T.Turns.saw c.take_turn.new.turns) (c.take_turn.ensures.turn seen.0 seen.1) c.requires.nothing)

pub returns-in-FrozenFull-clause-no_call : goal.returns-in-FrozenFull-clause-no_call
returns-in-FrozenFull-clause-no_call g c = λ history saw.
    let kind = kind_of g.B.Content.number (branch_data g.B.Content.extents g.B.Content.entries g.B.Content.cuts g.B.Content.table) g.B.Content.TELLS in
    rotate_no_call kind (g.T.Turns.means c.args.turns.now) (g.T.Turns.means c.take_turn.new.turns) history c.take_turn.result (g.T.Turns.saw c.take_turn.new.turns)
    (c.take_turn.ensures.turn history saw)

pub returns-in-NoMemory-clause-called : goal.returns-in-NoMemory-clause-called
returns-in-NoMemory-clause-called g c =
    let kind = kind_of g.B.Content.number (branch_data g.B.Content.extents g.B.Content.entries g.B.Content.cuts g.B.Content.table) g.B.Content.TELLS in
    let old = g.T.Turns.means c.args.turns.now in
    let new = g.T.Turns.means c.take_turn.new.turns in
    let seen = c.requires.seen in
    has_called old new 1 c.take_turn.ensures.same
    (rotate_nothing kind old new seen.0 c.take_turn.result (g.T.Turns.saw c.take_turn.new.turns) (c.take_turn.ensures.turn seen.0 seen.1) c.requires.nothing)

pub returns-in-NoMemory-clause-no_call : goal.returns-in-NoMemory-clause-no_call
returns-in-NoMemory-clause-no_call g c = λ history saw.
    let kind = kind_of g.B.Content.number (branch_data g.B.Content.extents g.B.Content.entries g.B.Content.cuts g.B.Content.table) g.B.Content.TELLS in
    rotate_no_call kind (g.T.Turns.means c.args.turns.now) (g.T.Turns.means c.take_turn.new.turns) history c.take_turn.result (g.T.Turns.saw c.take_turn.new.turns)
    (c.take_turn.ensures.turn history saw)
