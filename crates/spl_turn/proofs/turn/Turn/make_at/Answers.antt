use Rattle.spl_turn.proofs.Making.{may_make, may_leave, makes}
use Rattle.spl_turn.proofs.turn.Turn.make_at.Goals as goal

pub hold-reply-requires-clause-held : goal.hold-reply-requires-clause-held
hold-reply-requires-clause-held g c = let asked = c.requires in
    may_make g.V.StandsFor.means c.args.place.now.me c.enter.new.place.me c.args.number c.args.step asked.ready.1
    c.enter.ensures.took asked.number.0 asked.number.1 asked.may

pub leave-requires-clause-held : goal.leave-requires-clause-held
leave-requires-clause-held g c = let asked = c.requires in
    may_leave g.V.StandsFor.means c.args.place.now.me c.enter.new.place.me c.hold-reply.new.place.me c.args.number
    c.args.step c.hold-reply.result asked.ready.0 asked.ready.1 c.enter.ensures.took c.hold-reply.ensures.made
    asked.number.0 asked.number.1 asked.may

pub returns-clause-makes : goal.returns-clause-makes
returns-clause-makes g c = let asked = c.requires in
    makes g.V.StandsFor.means c.args.place.now.me c.enter.new.place.me c.hold-reply.new.place.me c.leave.new.place.me
    c.args.number c.args.step c.hold-reply.result asked.ready.1 c.enter.ensures.took c.hold-reply.ensures.made
    c.leave.ensures.added asked.number.0 asked.number.1 asked.may
