use Rattle.std.proofs.Common.{◌<◌, subst, ℕ}
use Rattle.spl_base.specs.declared.TheConstants.{ACTORS}
use Rattle.spl_state.specs.View.{branch_data}
use Rattle.spl_desk.specs.Holder.{kind_of}
use Rattle.spl_down.proofs.Moving.{end_done, end_nothing, end_walk}
use Rattle.spl_down.proofs.down.end.Given.{Over}
use Rattle.spl_down.proofs.down.end.Goals as goal
use Rattle.spl_down.proofs.down.end.Goals.{After-take_turn}

known : (g : Over) (c : After-take_turn g) → (g.T.Turns.means c.args.turns.now).actor < ACTORS
known g c = subst (λ (n : ℕ). n < ACTORS) c.actor.ensures.value c.actor.ensures.known

pub unreachable-requires : goal.unreachable-requires
unreachable-requires g c =
    let kind = kind_of g.B.Content.number (branch_data g.B.Content.extents g.B.Content.entries g.B.Content.cuts g.B.Content.table) g.B.Content.TELLS in
    let same = c.take_turn.ensures.same in
    let before = (goal.at.unreachable-requires g c).After-take_turn in
    c.in_default.not-Done (end_done kind (g.T.Turns.means c.args.turns.now) (g.T.Turns.means c.take_turn.new.turns) c.args.sight.now c.requires.at c.requires.seen.0 (g.T.Turns.saw c.take_turn.new.turns) (known g before) same.actor same.rule c.take_turn.result (c.take_turn.ensures.turn c.requires.seen.0 c.requires.seen.1))

pub returns-clause-seen : goal.returns-clause-seen
returns-clause-seen g c = let turn = c.take_turn.ensures.turn c.requires.seen.0 c.requires.seen.1 in (_, turn.saw)

pub returns-clause-ended : goal.returns-clause-ended
returns-clause-ended g c =
    let kind = kind_of g.B.Content.number (branch_data g.B.Content.extents g.B.Content.entries g.B.Content.cuts g.B.Content.table) g.B.Content.TELLS in
    let same = c.take_turn.ensures.same in
    let before = (goal.at.returns-clause-ended g c).After-take_turn in
    end_nothing kind (g.T.Turns.means c.args.turns.now) (g.T.Turns.means c.take_turn.new.turns) c.args.sight.now c.requires.at c.requires.seen.0 (g.T.Turns.saw c.take_turn.new.turns) (known g before) same.actor same.rule c.take_turn.result (c.take_turn.ensures.turn c.requires.seen.0 c.requires.seen.1)

pub returns-clause-walk : goal.returns-clause-walk
returns-clause-walk g c = λ history saw.
    let kind = kind_of g.B.Content.number (branch_data g.B.Content.extents g.B.Content.entries g.B.Content.cuts g.B.Content.table) g.B.Content.TELLS in
    let same = c.take_turn.ensures.same in
    let before = (goal.at.returns-clause-walk g c).After-take_turn in
    end_walk kind (g.T.Turns.means c.args.turns.now) (g.T.Turns.means c.take_turn.new.turns) c.args.sight.now c.requires.at history (g.T.Turns.saw c.take_turn.new.turns) (known g before) same.actor same.rule c.take_turn.result (c.take_turn.ensures.turn history saw)
