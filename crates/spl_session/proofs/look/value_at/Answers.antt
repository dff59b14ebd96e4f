use Rattle.std.proofs.Common.{ℕ, ◌+◌, List, ap, subst, ◌∙◌}
use Rattle.spl_message.specs.History.{History}
use Rattle.spl_branch.specs.Reading.{reach_of}
use Rattle.spl_desk.specs.Branches.{branch_kind}
use Rattle.spl_down.specs.Arrivals.{height_in, reach_at}
use Rattle.spl_session.proofs.Ways.{Way}
use Rattle.spl_session.proofs.look.value_at.Given.{Over}
use Rattle.spl_session.proofs.look.value_at.Goals.{After-find}
use Rattle.spl_message.specs.Message.{settle}
use Rattle.spl_message.specs.Rule.{Rule}
use Rattle.spl_message.specs.Table.{chain}
use Rattle.spl_descent.specs.Sights.{rest}
use Rattle.spl_session.specs.Asking.{Folds}
use Rattle.spl_session.proofs.Finding.{settles}
use Rattle.spl_session.proofs.look.value_at.Goals as goal

pub returns-clause-value : goal.returns-clause-value
returns-clause-value g c = λ tells.
    let key = c.args.key.now in
    let old = g.T.Turns.means c.args.desk.now.turns in
    let sight = c.args.sight in
    let all = c.in_ok-all.all in
    let found = subst (λ (r : Rule). Folds r key (chain sight.tables key) c.in_ok-found.found) c.requires.law c.in_ok-found.ensures in
    c.in_ok-settle.ensures.value
    ∙ ap (λ l. settle (g.L.MergeLaw.rule l) key all) c.in_ok-all.ensures.law
    ∙ ap (λ (r : Rule). settle r key all) c.requires.law
    ∙ settles old.rule key all
    ∙ rw c.of.ensures at (c.in_ok-all.ensures.value tells)
    ∙ found (rest old.rule old.at sight.node key)

-- the way down that was found, over the key itself
abbrev way_of : (g : Over) → After-find g → List ℕ → History → Type 0
way_of g c key history =
    let old = g.T.Turns.means c.args.desk.now.turns in
    Way (branch_kind g.P.Seal.Seal.TELLS) g.P.Seal.Seal.TELLS key old history (g.T.Turns.means c.find.new.desk.turns) (g.T.Turns.saw c.find.new.desk.turns)
    (g.P.Port.counts c.args.desk.now.port.now) (g.P.Port.counts c.find.new.desk.port.now) 0 (height_in old.at c.args.sight + 1) 0 (reach_at reach_of key c.args.sight)

pub returns-in_err-all-clause-walk : goal.returns-in_err-all-clause-walk
returns-in_err-all-clause-walk g c = λ history saw.
    let before = (goal.at.returns-in_err-all-clause-walk g c).After-find in
    subst (λ (key : List ℕ). way_of g before key history) c.of.ensures (c.in_err-all.ensures.walk history saw)

pub returns-in_err-settle-clause-walk : goal.returns-in_err-settle-clause-walk
returns-in_err-settle-clause-walk g c = λ history saw.
    let before = (goal.at.returns-in_err-settle-clause-walk g c).After-find in
    subst (λ (key : List ℕ). way_of g before key history) c.of.ensures (c.in_ok-all.ensures.walk history saw)

pub returns-clause-walk : goal.returns-clause-walk
returns-clause-walk g c = λ history saw.
    let before = (goal.at.returns-clause-walk g c).After-find in
    subst (λ (key : List ℕ). way_of g before key history) c.of.ensures (c.in_ok-all.ensures.walk history saw)
