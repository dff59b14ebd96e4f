use Rattle.std.proofs.Common.{◌+◌}
use Rattle.spl_message.specs.Rule.{newest}
use Rattle.spl_state.specs.View.{branch_data}
use Rattle.spl_core.specs.Standing.{StandsFor}
use Rattle.spl_desk.specs.Holder.{kind_of}
use Rattle.spl_session.proofs.Asks.{late_turn}
use Rattle.spl_session.proofs.tests.Late.make.Goals as goal

pub returns-clause-turn : goal.returns-clause-turn
returns-clause-turn g c = λ history saw.
    let kind = kind_of g.B.Content.number (branch_data g.B.Content.extents g.B.Content.entries g.B.Content.cuts g.B.Content.table) g.B.Content.TELLS in
    late_turn kind c.args.self.now.turns (c.args.self.now.turns + 1) c.args.self.now.alone.core.parts c.take_turn.new.turns.core.parts history (StandsFor newest g.B.Content.TELLS c.take_turn.new.turns.core.parts) c.args.step c.take_turn.result (c.take_turn.ensures.turn history saw)
