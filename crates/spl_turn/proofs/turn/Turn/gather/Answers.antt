use Rattle.std.proofs.Common.{rules, ◌≡◌, ◌<◌, ◌++◌, ◌∷◌, [], refl, sym, ap, ◌∙◌, subst, ℕ, length, arith}
use Rattle.std.proofs.lemmas.List.{nil_from_length}
use Rattle.spl_turn.specs.Whose.{IsSeatOf}
use Rattle.spl_turn.specs.declared.seat.Seat.{Seat}
use Rattle.spl_turn.proofs.Gathering.{joins}
use Rattle.spl_turn.proofs.Joining.{joins_none, joins_one, joins_all, next_of}
use Rattle.spl_turn.proofs.turn.Turn.gather.Goals as goal

pub join_seat-requires : goal.join_seat-requires
join_seat-requires g c = let j = c.loop-other.invariant.1 in let f = j.so_far in let asked = c.requires.first in let x = c.in-Some.other in
    let first : 0 < c.loop-other.first.me.0.made = subst (λ (n : ℕ). 0 < n) (sym f.made) asked.0 in
    let seats = f.seats in let one = x.rests.one_seat in (
      c.loop-other.invariant.0 ∙ c.requires.turn,
      next_of (IsSeatOf c.args.self.now) _ _ _ _ _ x j c.in-Some.ensures.items c.requires.turns,
      x.rests.bare,
      search rules,
      joins g.V.StandsFor.means _ _ _ _ first (omega (arith, seats)) f.idle (omega (arith, one)) x.rests.idle,
    )

pub returns-clause-all : goal.returns-clause-all
returns-clause-all g c = let none : length c.loop-other.others.items ≡ 0 = search rules in joins_all _ _ _ _ c.loop-other.invariant.1 (nil_from_length _ none)

pub returns-clause-turn : goal.returns-clause-turn
returns-clause-turn g c = c.loop-other.invariant.0

pub loop-other-init : goal.loop-other-init
loop-other-init g c = let first = c.requires.first in (refl, joins_none _ _ first.1 first.2 first.3 first.4)

pub loop-other-preserved : goal.loop-other-preserved
loop-other-preserved g c = (c.join_seat.ensures.0 ∙ c.loop-other.invariant.0, joins_one _ _ _ _ _ _ c.in-Some.other c.loop-other.invariant.1 c.in-Some.ensures.items c.join_seat.ensures.2)
