use Rattle.std.proofs.Common.{rules, ◌≡◌, ℕ, ◌+◌, ◌<◌, ◌≤◌, true, Some, length, refl, sym, subst, ◌∙◌}
use Rattle.std.proofs.lemmas.Option.{same_Some}
use Rattle.spl_node.specs.Node.{live_at}
use Rattle.spl_state.specs.Bounds.{AreBelow}
use Rattle.spl_state.specs.Extents.{mentioned}
use Rattle.spl_state.specs.Frame.{IsFramed}
use Rattle.spl_state.specs.Sound.{AreDrafts}
use Rattle.spl_state.specs.View.{branch_data, whole_of}
use Rattle.spl_state.specs.Whole.{BranchData, Whole, counts}
use Rattle.spl_trunk.specs.Trunk.{node_at}
use Rattle.spl_flush.specs.Flushing.{pivot_to, writes, flushed, AreFew, IsFlushed}
use Rattle.spl_flush.proofs.Leads.{IsReady, is_ready}
use Rattle.spl_flush.proofs.Ends.{Leaves, mark_made, live_stands, few_there, dead_first, leaves}
use Rattle.spl_flush.proofs.step.flush.Given.{Over}
use Rattle.spl_flush.proofs.step.flush.Goals as goal
use Rattle.spl_flush.proofs.step.flush.Goals.{After-is_full, After-pass}

-- what is seen of a branch, and the state before the calls
abbrev data_of : (g : Over) → g.row.B.Denot → BranchData
data_of g = branch_data g.B.Content.extents g.B.Content.entries g.B.Content.cuts g.B.Content.table

abbrev before : (g : Over) → After-is_full g → Whole
before g c = whole_of (data_of g) c.parts.inside

ready : (g : Over) (c : After-is_full g)
    → IsReady (before g c) c.args.actor c.args.parent c.in-Some.pivot c.args.child
ready g c =
    let old = before g c in
    let parent_written : writes old c.args.actor c.args.parent ≡ true = search rules in
    let child_written : writes old c.args.actor c.args.child ≡ true = search rules in
    let exists : c.args.parent < length old.nodes = search rules in
    let found : pivot_to (node_at old.nodes c.args.parent).pivots c.args.child ≡ Some c.in-Some.pivot = search
    rules in
    is_ready old c.args.actor c.args.parent c.in-Some.pivot c.args.child parent_written child_written exists
    found

pub receive-requires-clause-there : goal.receive-requires-clause-there
receive-requires-clause-there g c =
    let is = ready g (goal.at.receive-requires-clause-there g c).After-is_full in
    live_stands g.B.Content.extents (data_of g)
    (λ branch. refl) _ c.parts.invariant c.args.actor c.args.parent c.in-Some.pivot c.args.child is
    c.parts.inside.refs refl

pub receive-requires-clause-few : goal.receive-requires-clause-few
receive-requires-clause-few g c =
    let is = ready g (goal.at.receive-requires-clause-few g c).After-is_full in
    few_there g.B.Content.extents (data_of g)
    (λ branch. refl) _ c.parts.invariant c.args.actor c.args.parent c.in-Some.pivot c.args.child is
    c.parts.inside.refs refl
    (subst (λ (w : Whole). AreFew w) (sym c.parts.view_is) c.requires.few)

pub pass-requires-clause-mark : goal.pass-requires-clause-mark
pass-requires-clause-mark g c =
    let is = ready g (goal.at.pass-requires-clause-mark g c).After-is_full in
    mark_made c.parts.inside.trunk c.parts.invariant.shaped c.args.parent c.in-Some.pivot c.args.child is.led
    c.receive.new.trunk c.receive.ensures.nodes

pub pass-requires-clause-accounted : goal.pass-requires-clause-accounted
pass-requires-clause-accounted g c =
    let is = ready g (goal.at.pass-requires-clause-accounted g c).After-is_full in (
      mentioned (flushed c.parts.inside.trunk c.args.parent c.in-Some.pivot c.args.child)
          c.parts.inside.actors,
      dead_first g.B.Content.extents (data_of g)
          (λ branch. refl) _ c.parts.invariant c.args.actor c.args.parent c.in-Some.pivot c.args.child is
          c.parts.inside.refs refl
          c.receive.new.refs c.receive.ensures.counts c.receive.ensures.branches c.receive.new.trunk
          c.receive.ensures.nodes,
    )

-- the state that the calls leave
abbrev after : (g : Over) → After-pass g → Whole
after g c = whole_of (data_of g) (record c.parts.inside {
  trunk = c.pass.new.trunk;
  refs = c.pass.new.refs;
  pool = c.pass.new.pool;
})

leaves_it : (g : Over) (c : After-pass g)
    → Leaves (whole_of (data_of g) c.parts.inside)
    (after g c) c.args.actor c.args.parent c.in-Some.pivot c.args.child
leaves_it g c =
    let old = whole_of (data_of g) c.parts.inside in
    let is = ready g (goal.at.invariant_of-parts g c).After-is_full in
    let first =
    dead_first g.B.Content.extents (data_of g)
    (λ branch. refl) old c.parts.invariant c.args.actor c.args.parent c.in-Some.pivot c.args.child is
    c.parts.inside.refs refl
    c.receive.new.refs c.receive.ensures.counts c.receive.ensures.branches c.receive.new.trunk
    c.receive.ensures.nodes in
    let short : length (live_at (node_at old.nodes c.args.parent) c.in-Some.pivot) ≤ 32 = search rules in
    let fresh = subst (λ (w : Whole). AreBelow w.nodes w.tables w.counters)
    (sym c.parts.view_is) c.requires.fresh in
    leaves g.B.Content.extents (data_of g)
    (λ branch. refl) old c.parts.invariant c.args.actor c.args.parent c.in-Some.pivot c.args.child is
    c.parts.inside.refs refl
    c.receive.new.refs c.receive.ensures.counts c.receive.ensures.branches c.receive.new.trunk
    c.receive.ensures.nodes
    c.pass.new.refs c.pass.new.pool c.pass.new.trunk
    (c.pass.ensures.accounted (mentioned (flushed old.nodes c.args.parent c.in-Some.pivot c.args.child)
    old.actors) first)
    c.pass.ensures.branches c.pass.ensures.fewer c.pass.ensures.granted
    short c.pass.ensures.nodes (c.pass.ensures.shaped
    (c.receive.ensures.shaped c.parts.invariant.shaped)) fresh

pub invariant_of-parts : goal.invariant_of-parts
invariant_of-parts g c = (leaves_it g c).sound

pub returns-clause-done : goal.returns-clause-done
returns-clause-done g c = λ pivot found done.
    let here = (goal.at.returns-clause-done g c).After-pass in
    let found_here : pivot_to (node_at c.args.parts.now.nodes c.args.parent).pivots c.args.child ≡ Some
    c.in-Some.pivot = search rules in
    subst (λ (i : ℕ). IsFlushed c.args.parts.now (after g here) c.args.parent i c.args.child)
    (same_Some c.in-Some.pivot pivot (sym found_here ∙ found))
    (subst (λ (old : Whole). IsFlushed old (after g here) c.args.parent c.in-Some.pivot c.args.child)
    c.parts.view_is (leaves_it g here).done)

pub returns-clause-named : goal.returns-clause-named
returns-clause-named g c = λ number.
    let here = (goal.at.returns-clause-named g c).After-pass in
    subst (λ (old : Whole). counts (after g here) number ≤ counts old number + 32) c.parts.view_is
    ((leaves_it g here).named number)

pub returns-clause-framed : goal.returns-clause-framed
returns-clause-framed g c = λ rule drafts.
    let here = (goal.at.returns-clause-framed g c).After-pass in
    subst (λ (old : Whole). IsFramed rule g.B.Content.TELLS old (after g here) c.args.actor) c.parts.view_is
    ((leaves_it g here).framed rule g.B.Content.TELLS
    (λ told. subst (λ (old : Whole). AreDrafts rule old) (sym c.parts.view_is) (drafts told)))
