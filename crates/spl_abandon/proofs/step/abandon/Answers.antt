use Rattle.std.proofs.Common.{refl, sym, subst}
use Rattle.spl_state.specs.Frame.{IsFramed}
use Rattle.spl_state.specs.Sound.{AreDrafts}
use Rattle.spl_state.specs.View.{branch_data, whole_of}
use Rattle.spl_state.specs.Whole.{Whole}
use Rattle.spl_abandon.specs.Abandoning.{HasAbandoned}
use Rattle.spl_abandon.proofs.Abandons.{left}
use Rattle.spl_abandon.proofs.Ends.{Leaves, leaves, named_first}
use Rattle.spl_abandon.proofs.step.abandon.Given.{Over}
use Rattle.spl_abandon.proofs.step.abandon.Goals as goal
use Rattle.spl_abandon.proofs.step.abandon.Goals.{After-clear}

pub end_names-requires : goal.end_names-requires
end_names-requires g c =
    let data_of = branch_data g.B.Content.extents g.B.Content.entries g.B.Content.cuts g.B.Content.table in
    let rest = left _ c.parts.invariant c.args.actor c.requires.known in
    record { accounted = (rest, named_first g.B.Content.extents data_of (λ branch. refl) _ c.parts.invariant c.args.actor c.requires.known c.parts.inside.refs refl c.at.result.now c.at.ensures.value) }

-- the state before the calls, and the one that they leave
abbrev before : (g : Over) → After-clear g → Whole
before g c = whole_of (branch_data g.B.Content.extents g.B.Content.entries g.B.Content.cuts g.B.Content.table) c.parts.inside

abbrev after : (g : Over) → After-clear g → Whole
after g c =
    whole_of (branch_data g.B.Content.extents g.B.Content.entries g.B.Content.cuts g.B.Content.table)
    (record c.parts.inside { trunk = c.clear_marks.new.trunk; refs = c.end_names.new.refs; pool = c.give_back_all.new.self; holds = c.leave_all.new.self; tables = c.release.new.self; actors = c.clear.new.self })

leaves_it : (g : Over) (c : After-clear g) → Leaves (before g c) (after g c) c.args.actor
leaves_it g c =
    let data_of = branch_data g.B.Content.extents g.B.Content.entries g.B.Content.cuts g.B.Content.table in
    let first = named_first g.B.Content.extents data_of (λ branch. refl) (before g c) c.parts.invariant c.args.actor c.requires.known c.parts.inside.refs refl c.at.result.now c.at.ensures.value in
    let named = c.end_names.ensures.accounted (left (before g c) c.parts.invariant c.args.actor c.requires.known) first in
    leaves g.B.Content.extents data_of (λ branch. refl) (before g c) c.parts.invariant c.args.actor c.requires.known c.parts.inside.refs refl c.end_names.new.refs c.end_names.new.pool _ _ _ _ _ named c.end_names.ensures.branches c.end_names.ensures.granted
    c.clear_marks.ensures c.give_back_all.ensures c.leave_all.ensures.left c.leave_all.ensures.latched c.release.ensures c.clear.ensures

pub invariant_of-parts : goal.invariant_of-parts
invariant_of-parts g c = (leaves_it g (goal.at.invariant_of-parts g c).After-clear).sound

pub returns-clause-done : goal.returns-clause-done
returns-clause-done g c =
    let here = (goal.at.returns-clause-done g c).After-clear in
    subst (λ (old : Whole). HasAbandoned old (after g here) c.args.actor) c.parts.view_is (leaves_it g here).done

pub returns-clause-framed : goal.returns-clause-framed
returns-clause-framed g c = λ rule drafts.
    let here = (goal.at.returns-clause-framed g c).After-clear in
    subst (λ (old : Whole). IsFramed rule g.B.Content.TELLS old (after g here) c.args.actor) c.parts.view_is
    ((leaves_it g here).framed rule g.B.Content.TELLS (λ told. subst (λ (old : Whole). AreDrafts rule old) (sym c.parts.view_is) (drafts told)))
