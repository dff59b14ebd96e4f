use Rattle.std.proofs.Common.{rules, ◌≡◌, ℕ, ◌+◌, ◌<◌, ◌≤◌, Bool, false, List, None, length, Some, set, refl, sym, ap, subst, ◌∙◌, arith}
use Rattle.std.specs.Prelude.{All, IsSome, is_some, ◌||◌}
use Rattle.spl_node.specs.Node.{NodeData}
use Rattle.spl_refs.specs.Refs.{branch_at, count_at}
use Rattle.spl_trunk.specs.Trunk.{node_at}
use Rattle.spl_trunk.specs.Tree.{times}
use Rattle.spl_state.specs.declared.job.Run.{Run}
use Rattle.spl_state.specs.declared.job.Job.TheVariants.{Merge}
use Rattle.spl_state.specs.Actor.{actor_in, with_job}
use Rattle.spl_state.specs.Bounds.{AreBelow}
use Rattle.spl_state.specs.Frame.{IsFramed}
use Rattle.spl_state.specs.Sound.{AreDrafts}
use Rattle.spl_state.specs.View.{branch_data, whole_of}
use Rattle.spl_state.specs.Whole.{Whole, counts}
use Rattle.spl_state.proofs.Views.{count_seen}
use Rattle.spl_compact.specs.Starting.{Starts, HasRoom, refusal_at, run_at}
use Rattle.spl_compact.proofs.Begins.{Leaves, leaves, takes_of, worker_is}
use Rattle.spl_compact.proofs.Inputs.{run_stands, all_there}
use Rattle.spl_compact.proofs.begin.start.Given.{Over}
use Rattle.spl_compact.proofs.begin.start.Goals as goal
use Rattle.spl_compact.proofs.begin.start.Goals.{After-as_slice, After-tell}

-- the state before the calls
abbrev before : (g : Over) → After-as_slice g → Whole
before g c = whole_of (branch_data g.B.Content.extents g.B.Content.entries g.B.Content.cuts g.B.Content.table) c.parts.inside

run_is : (g : Over) (c : After-as_slice g) → c.in-Ok.field-0.run ≡ run_at (before g c) c.args.node c.args.first c.args.last
run_is g c = c.in-Ok.ensures.run ∙ ap (λ (w : Whole). run_at w c.args.node c.args.first c.args.last) (sym c.parts.view_is)

inputs_are : (g : Over) (c : After-as_slice g) → c.as_slice.result.now ≡ (run_at (before g c) c.args.node c.args.first c.args.last).inputs
inputs_are g c = c.as_slice.ensures ∙ ap (λ (r : Run). r.inputs) (run_is g c)

pub hold_all-requires-clause-there : goal.hold_all-requires-clause-there
hold_all-requires-clause-there g c =
    let data_of = branch_data g.B.Content.extents g.B.Content.entries g.B.Content.cuts g.B.Content.table in
    let stand = all_there data_of c.parts.inside.refs _ (run_stands (before g c) c.parts.invariant c.args.node c.args.first (c.args.last + 1)) in
    subst (λ (ns : List ℕ). All (λ (n : ℕ). IsSome (branch_at c.parts.inside.refs n)) ns) (sym (inputs_are g c)) stand

pub hold_all-requires-clause-limit : goal.hold_all-requires-clause-limit
hold_all-requires-clause-limit g c = λ number.
    let data_of = branch_data g.B.Content.extents g.B.Content.entries g.B.Content.cuts g.B.Content.table in
    let room = subst (λ (w : Whole). HasRoom w) (sym c.parts.view_is) c.requires.room number in
    let seen = count_seen data_of c.parts.inside.refs number in
    let few = c.in-Ok.ensures.few in
    let long = ap (λ (ns : List ℕ). length ns) c.as_slice.ensures in
    omega arith

abbrev after : (g : Over) → After-tell g → Whole
after g c =
    whole_of (branch_data g.B.Content.extents g.B.Content.entries g.B.Content.cuts g.B.Content.table)
    (record c.parts.inside { trunk = c.set_ticket.new.self; refs = c.hold_all.new.refs; actors = c.tell.new.self; counters = record c.parts.inside.counters { branches = c.parts.inside.counters.branches + 1 } })

idle_of : (descent job : Bool) → descent ≡ false → job ≡ false → (descent || job) ≡ false
idle_of descent job no_way no_work = ap (λ (b : Bool). b || job) no_way ∙ no_work

leaves_it : (g : Over) (c : After-tell g) → Leaves (whole_of (branch_data g.B.Content.extents g.B.Content.entries g.B.Content.cuts g.B.Content.table) c.parts.inside) (after g c) c.args.actor c.args.node c.args.first c.args.last
leaves_it g c =
    let data_of = branch_data g.B.Content.extents g.B.Content.entries g.B.Content.cuts g.B.Content.table in
    let old = whole_of data_of c.parts.inside in
    let node = c.args.node in
    let first = c.args.first in
    let last = c.args.last in
    let no_way : is_some (actor_in c.parts.inside.actors c.args.actor).descent ≡ false = search rules in
    let no_work : is_some (actor_in c.parts.inside.actors c.args.actor).job ≡ false = search rules in
    let is_idle = idle_of _ _ no_way no_work in
    let exists : node < length c.parts.inside.trunk = search rules in
    let found : c.in-Some.found.now ≡ node_at c.parts.inside.trunk node = search rules in
    let none = sym c.refusal.ensures ∙ c.in_default-refusal.is in
    let takes = takes_of _ first last (subst (λ (n : NodeData). refusal_at {B = g.row.B.Denot} n first last ≡ None) found none) in
    let run = c.in-Ok.ensures.run ∙ ap (λ (w : Whole). run_at w node first last) (sym c.parts.view_is) in
    let inputs = c.as_slice.ensures ∙ ap (λ (r : Run). r.inputs) run in
    let held = λ (n : ℕ). c.hold_all.ensures.counts n ∙ ap (λ (ns : List ℕ). count_at c.parts.inside.refs n + times n ns) inputs in
    let few = subst (λ (r : Run). length r.inputs ≤ 768) run c.in-Ok.ensures.few in
    let room = subst (λ (w : Whole). AreBelow w.nodes w.tables w.counters) (sym c.parts.view_is) c.requires.fresh in
    let given : c.set_job.new.self ≡ set c.parts.inside.actors c.args.actor (with_job (actor_in c.parts.inside.actors c.args.actor) (Some (Merge c.parts.inside.counters.branches c.in-Ok.field-0.run))) = c.set_job.ensures in
    let workers = worker_is c.parts.inside.actors c.set_job.new.self c.tell.new.self c.parts.invariant.count c.args.actor node c.requires.known c.parts.inside.counters.branches (run_at old node first last) c.in-Ok.field-0.run run given c.tell.ensures in
    leaves data_of old c.parts.invariant c.args.actor node first last c.requires.known is_idle exists takes c.parts.inside.refs c.hold_all.new.refs refl held c.hold_all.ensures.branches c.set_ticket.new.self c.tell.new.self few room c.set_ticket.ensures.value (c.set_ticket.ensures.shaped c.parts.invariant.shaped) workers

pub invariant_of-parts : goal.invariant_of-parts
invariant_of-parts g c = (leaves_it g (goal.at.invariant_of-parts g c).After-tell).sound

pub returns-clause-done : goal.returns-clause-done
returns-clause-done g c =
    let here = (goal.at.returns-clause-done g c).After-tell in
    subst (λ (w : Whole). Starts w (after g here) c.args.actor c.args.node c.args.first c.args.last) c.parts.view_is (leaves_it g here).done

pub returns-clause-counts : goal.returns-clause-counts
returns-clause-counts g c = λ number.
    let here = (goal.at.returns-clause-counts g c).After-tell in
    subst (λ (w : Whole). counts (after g here) number ≤ counts w number + 768) c.parts.view_is ((leaves_it g here).few number)

pub returns-clause-framed : goal.returns-clause-framed
returns-clause-framed g c = λ rule drafts.
    let here = (goal.at.returns-clause-framed g c).After-tell in
    subst (λ (w : Whole). IsFramed rule g.B.Content.TELLS w (after g here) c.args.actor) c.parts.view_is
    ((leaves_it g here).framed rule g.B.Content.TELLS (λ told. subst (λ (w : Whole). AreDrafts rule w) (sym c.parts.view_is) (drafts told)))
