use Rattle.std.proofs.Common.{◌≡◌, [], ◌++◌, refl, sym, subst, ap, append-nil, List, arith}
use Rattle.spl_message.specs.History.{History}
use Rattle.spl_state.specs.View.{branch_data}
use Rattle.spl_core.specs.Standing.{StandsFor, called}
use Rattle.spl_desk.specs.Turn.{MadeTurn, Turn, IsTurn, history_after}
use Rattle.spl_desk.proofs.Walks.{keeps_nothing}
use Rattle.spl_alone.specs.Alone.{only_holder}
use Rattle.spl_alone.proofs.alone.Alone.make.Goals as goal

pub returns-clause-turn : goal.returns-clause-turn
returns-clause-turn g c = λ history stands.
    let rule = g.L.MergeLaw.rule c.args.self.now.core.law in
    let old = c.args.self.now.core.parts in
    let new = c.step-reply.new.self.parts in
    let same = sym (append-nil history) in
    let behind : StandsFor rule g.B.Content.TELLS new ((history ++ []) ++ called 0 c.args.step c.step-reply.result) =
    subst (λ (h : History). StandsFor rule g.B.Content.TELLS new (h ++ called 0 c.args.step c.step-reply.result)) same (c.step-reply.ensures.stands history stands) in
    record {
      turn = record { others = []; before = old; step = c.args.step; reply = c.step-reply.result; after = new };
      step = refl;
      reply = refl;
      after = refl;
      legal = record {
        apart = λ k event below other. omega (arith, below);
        alone = λ is. (refl, refl);
        kept = keeps_nothing rule g.B.Content.TELLS old 0;
        sound = c.steps.ensures.sound;
        stood = subst (λ (h : History). StandsFor rule g.B.Content.TELLS old h) same stands;
        step = c.step-reply.ensures.step;
        after = c.steps-2.ensures.sound;
        stands = behind;
      };
      saw = subst (λ (l : g.row.L.Denot). StandsFor (g.L.MergeLaw.rule l) g.B.Content.TELLS new ((history ++ []) ++ called 0 c.args.step c.step-reply.result)) (sym c.step-reply.ensures.law) behind;
    }
