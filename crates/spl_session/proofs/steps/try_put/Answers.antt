use Rattle.std.proofs.Common.{refl}
use Rattle.spl_desk.proofs.Walks.{has_called}
use Rattle.spl_state.specs.View.{branch_data}
use Rattle.spl_desk.specs.Holder.{kind_of}
use Rattle.spl_session.proofs.Tries.{put_call, put_no_call, put_nothing}
use Rattle.spl_session.proofs.steps.try_put.Goals as goal

pub returns-in-Placed-clause-called : goal.returns-in-Placed-clause-called
returns-in-Placed-clause-called g c =
    let kind = kind_of g.B.Content.number (branch_data g.B.Content.extents g.B.Content.entries g.B.Content.cuts g.B.Content.table) g.B.Content.TELLS in
    let old = g.T.Turns.means c.args.turns.now in
    let new = g.T.Turns.means c.take_turn.new.turns in
    let seen = c.requires.seen in
    has_called old new 1 c.take_turn.ensures.same
    (put_nothing kind old new seen.0 c.take_turn.result (g.T.Turns.saw c.take_turn.new.turns) c.args.key.now c.args.message (c.take_turn.ensures.turn seen.0 seen.1) c.requires.nothing)

pub returns-in-Placed-clause-made : goal.returns-in-Placed-clause-made
returns-in-Placed-clause-made g c = λ history saw.
    let kind = kind_of g.B.Content.number (branch_data g.B.Content.extents g.B.Content.entries g.B.Content.cuts g.B.Content.table) g.B.Content.TELLS in
    put_call kind (g.T.Turns.means c.args.turns.now) (g.T.Turns.means c.take_turn.new.turns) history c.take_turn.result (g.T.Turns.saw c.take_turn.new.turns) c.args.key.now c.args.message
    (c.take_turn.ensures.turn history saw) c.in-Placed.place c.in-Placed.is

pub returns-in-MemFull-clause-called : goal.returns-in-MemFull-clause-called
returns-in-MemFull-clause-called g c =
    let kind = kind_of g.B.Content.number (branch_data g.B.Content.extents g.B.Content.entries g.B.Content.cuts g.B.Content.table) g.B.Content.TELLS in
    let old = g.T.Turns.means c.args.turns.now in
    let new = g.T.Turns.means c.take_turn.new.turns in
    let seen = c.requires.seen in
    has_called old new 1 c.take_turn.ensures.same
    (put_nothing kind old new seen.0 c.take_turn.result (g.T.Turns.saw c.take_turn.new.turns) c.args.key.now c.args.message (c.take_turn.ensures.turn seen.0 seen.1) c.requires.nothing)

pub returns-in-MemFull-clause-made : goal.returns-in-MemFull-clause-made
returns-in-MemFull-clause-made g c = λ history saw.
    let kind = kind_of g.B.Content.number (branch_data g.B.Content.extents g.B.Content.entries g.B.Content.cuts g.B.Content.table) g.B.Content.TELLS in
    put_no_call kind (g.T.Turns.means c.args.turns.now) (g.T.Turns.means c.take_turn.new.turns) history c.take_turn.result (g.T.Turns.saw c.take_turn.new.turns) c.args.key.now c.args.message
    (c.take_turn.ensures.turn history saw) (rw c.in-MemFull.is refl)

pub returns-in-NoMemory-clause-called : goal.returns-in-NoMemory-clause-called
returns-in-NoMemory-clause-called g c =
    let kind = kind_of g.B.Content.number (branch_data g.B.Content.extents g.B.Content.entries g.B.Content.cuts g.B.Content.table) g.B.Content.TELLS in
    let old = g.T.Turns.means c.args.turns.now in
    let new = g.T.Turns.means c.take_turn.new.turns in
    let seen = c.requires.seen in
    has_called old new 1 c.take_turn.ensures.same
    (put_nothing kind old new seen.0 c.take_turn.result (g.T.Turns.saw c.take_turn.new.turns) c.args.key.now c.args.message (c.take_turn.ensures.turn seen.0 seen.1) c.requires.nothing)

pub returns-in-NoMemory-clause-made : goal.returns-in-NoMemory-clause-made
returns-in-NoMemory-clause-made g c = λ history saw.
    let kind = kind_of g.B.Content.number (branch_data g.B.Content.extents g.B.Content.entries g.B.Content.cuts g.B.Content.table) g.B.Content.TELLS in
    put_no_call kind (g.T.Turns.means c.args.turns.now) (g.T.Turns.means c.take_turn.new.turns) history c.take_turn.result (g.T.Turns.saw c.take_turn.new.turns) c.args.key.now c.args.message
    (c.take_turn.ensures.turn history saw) (rw c.in-NoMemory.is refl)
