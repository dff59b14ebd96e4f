use Rattle.std.proofs.Common.{◌≡◌, List, ℕ, ap, subst, ◌∙◌}
use Rattle.spl_message.specs.Cell.{Cell}
use Rattle.spl_message.specs.Entries.{message_in}
use Rattle.spl_message.specs.Message.{act_all, settle}
use Rattle.spl_message.specs.Rule.{Rule}
use Rattle.spl_message.specs.Table.{chain}
use Rattle.spl_descent.specs.Sights.{rest}
use Rattle.spl_down.proofs.Fronts.{front_on}
use Rattle.spl_range.specs.Adding.{AddsAt}
use Rattle.spl_range.specs.Pieces.{AreValues}
use Rattle.spl_range.proofs.Gathering.{settled}
use Rattle.spl_range.proofs.Living.{same_values}
use Rattle.spl_range.proofs.gather.pairs_at.Goals as goal

pub is_end-requires : goal.is_end-requires
is_end-requires g c = (front_on c.args.asked.now c.args.sight.span c.in_ok-span.span c.requires.front c.in_ok-span.ensures.front).to

pub returns-clause-values : goal.returns-clause-values
returns-clause-values g c = λ tells.
    let old = g.T.Turns.means c.args.desk.now.turns in
    let sight = c.args.sight in
    let span = c.in_ok-span.span in
    let all = c.gather.new.found.entries in
    let now = c.add_slices.new.found.entries in
    let first = c.new-found.result.entries in
    let low : List ℕ → Cell = λ key. rest old.rule old.at sight.node key in
    let rule : g.L.MergeLaw.rule c.gather.new.desk.law.now ≡ old.rule = ap g.L.MergeLaw.rule c.in_ok-span.ensures.law ∙ c.requires.law in
    let values = subst (λ (r : Rule). AreValues span (λ (key : List ℕ). settle r key (message_in all key)) c.in_ok-pairs.pairs) rule c.in_ok-pairs.ensures in
    same_values span (λ (key : List ℕ). settle old.rule key (message_in all key)) (λ (key : List ℕ). act_all old.rule key (low key) (chain sight.tables key)) c.in_ok-pairs.pairs values
    (λ key inside.
    settled old.rule key (chain sight.tables) first all (low key) c.new-found.ensures.empty now
    (subst (λ (r : Rule). AddsAt r (chain sight.tables) first now key) c.requires.law (c.in_ok-add_slices.ensures key))
    (c.in_ok-span.ensures.value tells key inside))
