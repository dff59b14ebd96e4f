use Rattle.std.proofs.Common.{◌∙◌, ℕ, ◌<◌, subst, sym}
use Rattle.std.proofs.lemmas.Bool.{false≢true}
use Rattle.spl_base.specs.declared.TheConstants.{ACTORS}
use Rattle.spl_state.specs.View.{branch_data}
use Rattle.spl_desk.specs.Holder.{kind_of}
use Rattle.spl_flusher.proofs.Raised.{raised_told}
use Rattle.spl_flusher.proofs.tests.raise.Goals as goal
use Rattle.spl_flusher.proofs.tests.raise.Goals.{in-Done, in_default}

pub abandon-requires-clause-seen : goal.abandon-requires-clause-seen
abandon-requires-clause-seen g c =
    let seen = c.requires.seen in
    let one = c.take_turn.ensures.turn seen.0 seen.1 in
    let two = c.take_turn-2.ensures.turn _ one.saw in
    let three = c.take_turn-reply.ensures.turn _ two.saw in
    (_, three.saw)

pub returns-clause-told : goal.returns-clause-told
returns-clause-told g c = λ yes.
    let kind = kind_of g.B.Content.number (branch_data g.B.Content.extents g.B.Content.entries g.B.Content.cuts g.B.Content.table) g.B.Content.TELLS in
    let old = g.T.Turns.means c.take_turn-2.new.turns in
    let new = g.T.Turns.means c.take_turn-reply.new.turns in
    let seen = c.requires.seen in
    let one = c.take_turn.ensures.turn seen.0 seen.1 in
    let two = c.take_turn-2.ensures.turn _ one.saw in
    let known : old.actor < ACTORS = subst (λ (n : ℕ). n < ACTORS) (c.actor.ensures.value ∙ sym (c.take_turn-2.ensures.same.actor ∙ c.take_turn.ensures.same.actor)) c.actor.ensures.known in
    elim c.match-matches.branch [
      | in-Done w ↦ subst (λ (n : ℕ). 1 < n) (sym c.abandon.ensures.told)
          (raised_told kind old new _ c.take_turn-reply.result (g.T.Turns.saw c.take_turn-reply.new.turns) c.take_turn-reply.ensures.same (c.take_turn-reply.ensures.turn _ two.saw) known w.in-Done.is)
      | in_default w ↦ absurd (false≢true (sym w.matches-is ∙ yes))
    ]
