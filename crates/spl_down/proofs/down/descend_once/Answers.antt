use Rattle.std.proofs.Common.{◌<◌, subst, ℕ}
use Rattle.spl_base.specs.declared.TheConstants.{ACTORS}
use Rattle.spl_state.specs.View.{branch_data}
use Rattle.spl_desk.specs.Holder.{kind_of}
use Rattle.spl_down.specs.Descending.{Descended, Waits}
use Rattle.spl_down.proofs.Moving.{move_done, move_may, move_walk}
use Rattle.spl_down.proofs.Seeing.{on_try}
use Rattle.spl_down.proofs.down.descend_once.Given.{Over}
use Rattle.spl_down.proofs.down.descend_once.Goals as goal
use Rattle.spl_down.proofs.down.descend_once.Goals.{After-take_turn}

known : (g : Over) (c : After-take_turn g) → (g.T.Turns.means c.args.turns.now).actor < ACTORS
known g c = subst (λ (n : ℕ). n < ACTORS) c.actor.ensures.value c.actor.ensures.known

pub seen_in-requires : goal.seen_in-requires
seen_in-requires g c =
    let kind = kind_of g.B.Content.number (branch_data g.B.Content.extents g.B.Content.entries g.B.Content.cuts g.B.Content.table) g.B.Content.TELLS in
    let same = c.take_turn.ensures.same in
    move_may kind (g.T.Turns.means c.args.turns.now) (g.T.Turns.means c.take_turn.new.turns) c.args.sight.now c.requires.at c.requires.seen.0 (g.T.Turns.saw c.take_turn.new.turns) (known g c) same.actor same.rule c.requires.inner c.take_turn.result (c.take_turn.ensures.turn c.requires.seen.0 c.requires.seen.1)

pub returns-clause-seen : goal.returns-clause-seen
returns-clause-seen g c = let turn = c.take_turn.ensures.turn c.requires.seen.0 c.requires.seen.1 in (_, turn.saw)

pub returns-clause-moved : goal.returns-clause-moved
returns-clause-moved g c =
    let kind = kind_of g.B.Content.number (branch_data g.B.Content.extents g.B.Content.entries g.B.Content.cuts g.B.Content.table) g.B.Content.TELLS in
    let old = g.T.Turns.means c.args.turns.now in
    let new = g.T.Turns.means c.take_turn.new.turns in
    let same = c.take_turn.ensures.same in
    let before = (goal.at.returns-clause-moved g c).After-take_turn in
    on_try c.take_turn.result c.seen_in.result (Descended kind old new c.args.sight.now) (Waits kind old new c.args.sight.now) c.seen_in.ensures
    (move_done kind old new c.args.sight.now c.requires.at c.requires.seen.0 (g.T.Turns.saw c.take_turn.new.turns) (known g before) same.actor same.rule c.requires.inner c.take_turn.result (c.take_turn.ensures.turn c.requires.seen.0 c.requires.seen.1))

pub returns-clause-walk : goal.returns-clause-walk
returns-clause-walk g c = λ history saw.
    let kind = kind_of g.B.Content.number (branch_data g.B.Content.extents g.B.Content.entries g.B.Content.cuts g.B.Content.table) g.B.Content.TELLS in
    let same = c.take_turn.ensures.same in
    let before = (goal.at.returns-clause-walk g c).After-take_turn in
    move_walk kind (g.T.Turns.means c.args.turns.now) (g.T.Turns.means c.take_turn.new.turns) c.args.sight.now c.requires.at history (g.T.Turns.saw c.take_turn.new.turns) (known g before) same.actor same.rule c.requires.inner c.take_turn.result (c.take_turn.ensures.turn history saw) c.seen_in.result c.seen_in.ensures
