use Rattle.spl_turn.proofs.Making.{slot_last, held}
use Rattle.spl_turn.proofs.turn.Turn.hold.Goals as goal

pub slot_mut-slot-requires : goal.slot_mut-slot-requires
slot_mut-slot-requires g c = let may = c.requires.held in
    (c.requires.turn, (may.guarded, slot_last g.V.StandsFor.means c.args.place.now.me may.guarded may.slot))

pub returns-clause-made : goal.returns-clause-made
returns-clause-made g c = let made = c.make.ensures in
    held g.V.StandsFor.means c.args.place.now.me c.slot_mut-slot.result.now c.make.new.slot c.args.number c.args.step
    c.make.result c.requires.held c.slot_mut-slot.ensures.value made.noted made.fixed made.stands
