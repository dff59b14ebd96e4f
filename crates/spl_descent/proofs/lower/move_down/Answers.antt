use Rattle.std.proofs.Common.{List, length, map, refl, sym, ap, subst, ◌∙◌, arith}
use Rattle.std.specs.Prelude.{All}
use Rattle.spl_message.specs.declared.span.Span.{Span}
use Rattle.spl_holds.specs.declared.grip.Grip.{Grip}
use Rattle.spl_holds.specs.declared.grip.Grip.TheVariants.{Free}
use Rattle.spl_holds.specs.Latch.{IsLatched}
use Rattle.spl_holds.specs.Holds.{with_grip}
use Rattle.spl_trunk.specs.Trunk.{node_at}
use Rattle.spl_state.specs.declared.actor.Actor.{Actor}
use Rattle.spl_state.specs.declared.descent.Descent.{Descent}
use Rattle.spl_state.specs.declared.reply.Reply.TheVariants as reply
use Rattle.spl_state.specs.Actors.{StartsInside}
use Rattle.spl_state.specs.View.{branch_data, whole_of}
use Rattle.spl_state.specs.Whole.{Whole}
use Rattle.spl_descent.specs.Descents.{descent_at, moved_down, next_descent}
use Rattle.spl_descent.specs.Sights.{IsRight, IsSightOf, LeadsRight}
use Rattle.spl_descent.proofs.Ends.{descending}
use Rattle.spl_descent.proofs.Arrivals.{child_same, child_is_lower, child_free, starts_in_child, leaf_where, is_high, lower_move}
use Rattle.spl_descent.proofs.Begins.{arrived_where}
use Rattle.spl_descent.proofs.Downs.{if_descent, leaf_answers, again_answers, sight_answers, moved_where, leads_next, right_next}
use Rattle.spl_descent.proofs.Moves.{sound_where, framed_where}
use Rattle.spl_descent.proofs.lower.move_down.Goals as goal

pub child_of-requires-clause-start : goal.child_of-requires-clause-start
child_of-requires-clause-start g c =
    let data_of = branch_data g.B.Content.extents g.B.Content.entries g.B.Content.cuts g.B.Content.table in
    let whole = whole_of data_of c.parts.inside in
    let actor = c.args.actor in
    let descent = c.in-Some.descent in
    let has = sym (ap (λ (a : Actor). a.descent) c.at.ensures.value) ∙ c.in-Some.is in
    (descending whole actor descent c.parts.invariant c.requires has).lies.start

pub returns-in_default-child_of-clause-answer : goal.returns-in_default-child_of-clause-answer
returns-in_default-child_of-clause-answer g c =
    let data_of = branch_data g.B.Content.extents g.B.Content.entries g.B.Content.cuts g.B.Content.table in
    let whole = whole_of data_of c.parts.inside in
    let actor = c.args.actor in
    let descent = c.in-Some.descent in
    let has = sym (ap (λ (a : Actor). a.descent) c.at.ensures.value) ∙ c.in-Some.is in
    leaf_answers g.row.B.Denot whole c.args.parts.now c.parts.view_is actor descent has (leaf_where whole actor descent c.parts.invariant c.requires has (sym c.child_of.ensures ∙ c.in_default-child_of.is))

pub writer-requires : goal.writer-requires
writer-requires g c =
    let data_of = branch_data g.B.Content.extents g.B.Content.entries g.B.Content.cuts g.B.Content.table in
    let whole = whole_of data_of c.parts.inside in
    let actor = c.args.actor in
    let descent = c.in-Some.descent in
    let has = sym (ap (λ (a : Actor). a.descent) c.at.ensures.value) ∙ c.in-Some.is in
    let child = c.in-Some-child_of.child in
    let there = sym c.child_of.ensures ∙ c.in-Some-child_of.is in
    let lower = child_is_lower whole actor descent c.parts.invariant c.requires has child there in
    let exists = lower.exists in
    let nodes = c.parts.invariant.latches in
    omega arith

pub returns-in-Some-writer-clause-answer : goal.returns-in-Some-writer-clause-answer
returns-in-Some-writer-clause-answer g c =
    let data_of = branch_data g.B.Content.extents g.B.Content.entries g.B.Content.cuts g.B.Content.table in
    let whole = whole_of data_of c.parts.inside in
    let actor = c.args.actor in
    let descent = c.in-Some.descent in
    let has = sym (ap (λ (a : Actor). a.descent) c.at.ensures.value) ∙ c.in-Some.is in
    let child = c.in-Some-child_of.child in
    let there = sym c.child_of.ensures ∙ c.in-Some-child_of.is in
    again_answers g.row.B.Denot whole c.args.parts.now c.parts.view_is actor descent has c.writer.result child c.in-Some-writer.by (is_high whole actor descent c.parts.invariant c.requires has child there) (child_same whole actor descent c.parts.invariant c.requires has child there) c.writer.ensures c.in-Some-writer.is

pub sight_at-requires-clause-exists : goal.sight_at-requires-clause-exists
sight_at-requires-clause-exists g c =
    let data_of = branch_data g.B.Content.extents g.B.Content.entries g.B.Content.cuts g.B.Content.table in
    let whole = whole_of data_of c.parts.inside in
    let actor = c.args.actor in
    let descent = c.in-Some.descent in
    let has = sym (ap (λ (a : Actor). a.descent) c.at.ensures.value) ∙ c.in-Some.is in
    let child = c.in-Some-child_of.child in
    let there = sym c.child_of.ensures ∙ c.in-Some-child_of.is in
    let lower = child_is_lower whole actor descent c.parts.invariant c.requires has child there in
    let exists = lower.exists in
    let nodes = ap (λ (w : Whole). length w.nodes) c.parts.view_is in
    omega arith

pub sight_at-requires-clause-start : goal.sight_at-requires-clause-start
sight_at-requires-clause-start g c =
    let data_of = branch_data g.B.Content.extents g.B.Content.entries g.B.Content.cuts g.B.Content.table in
    let whole = whole_of data_of c.parts.inside in
    let actor = c.args.actor in
    let descent = c.in-Some.descent in
    let has = sym (ap (λ (a : Actor). a.descent) c.at.ensures.value) ∙ c.in-Some.is in
    let child = c.in-Some-child_of.child in
    let there = sym c.child_of.ensures ∙ c.in-Some-child_of.is in
    subst (λ (w : Whole). StartsInside (node_at w.nodes child).range descent.span.from) c.parts.view_is (starts_in_child whole actor descent c.parts.invariant c.requires has child there)

pub read-requires-clause-exists : goal.read-requires-clause-exists
read-requires-clause-exists g c =
    let data_of = branch_data g.B.Content.extents g.B.Content.entries g.B.Content.cuts g.B.Content.table in
    let whole = whole_of data_of c.parts.inside in
    let actor = c.args.actor in
    let descent = c.in-Some.descent in
    let has = sym (ap (λ (a : Actor). a.descent) c.at.ensures.value) ∙ c.in-Some.is in
    let child = c.in-Some-child_of.child in
    let there = sym c.child_of.ensures ∙ c.in-Some-child_of.is in
    let lower = child_is_lower whole actor descent c.parts.invariant c.requires has child there in
    let exists = lower.exists in
    let nodes = c.parts.invariant.latches in
    omega arith

pub read-requires-clause-free : goal.read-requires-clause-free
read-requires-clause-free g c =
    let data_of = branch_data g.B.Content.extents g.B.Content.entries g.B.Content.cuts g.B.Content.table in
    let whole = whole_of data_of c.parts.inside in
    let actor = c.args.actor in
    let descent = c.in-Some.descent in
    let has = sym (ap (λ (a : Actor). a.descent) c.at.ensures.value) ∙ c.in-Some.is in
    let child = c.in-Some-child_of.child in
    let there = sym c.child_of.ensures ∙ c.in-Some-child_of.is in
    child_free whole actor descent c.parts.invariant c.requires has child there

pub tell-requires-clause-number : goal.tell-requires-clause-number
tell-requires-clause-number g c =
    let data_of = branch_data g.B.Content.extents g.B.Content.entries g.B.Content.cuts g.B.Content.table in
    let whole = whole_of data_of c.parts.inside in
    let actor = c.args.actor in
    let descent = c.in-Some.descent in
    let has = sym (ap (λ (a : Actor). a.descent) c.at.ensures.value) ∙ c.in-Some.is in
    let child = c.in-Some-child_of.child in
    let there = sym c.child_of.ensures ∙ c.in-Some-child_of.is in
    let lower = child_is_lower whole actor descent c.parts.invariant c.requires has child there in
    let exists = lower.exists in
    let few = c.parts.invariant.shaped.few in
    omega arith

pub invariant_of-parts : goal.invariant_of-parts
invariant_of-parts g c =
    let data_of = branch_data g.B.Content.extents g.B.Content.entries g.B.Content.cuts g.B.Content.table in
    let whole = whole_of data_of c.parts.inside in
    let actor = c.args.actor in
    let descent = c.in-Some.descent in
    let has = sym (ap (λ (a : Actor). a.descent) c.at.ensures.value) ∙ c.in-Some.is in
    let child = c.in-Some-child_of.child in
    let there = sym c.child_of.ensures ∙ c.in-Some-child_of.is in
    let read = rw c.unwrap.ensures at c.read.ensures.ok in
    let left = c.leave.ensures.left ∙ ap (λ (grips : List (List Grip)). with_grip grips actor descent.node Free) read in
    let mine = ap (λ (s : Span). record { place = descent.place; span = s; node = child }) c.in-Ok.ensures.sight.span ∙ ap (λ (w : Whole). descent_at w descent.place descent.span child) (sym c.parts.view_is) in
    let count = c.parts.invariant.count in
    let known = c.requires in
    let set = arrived_where c.parts.inside.actors c.set_descent.new.self c.tell.new.self actor child _ (descent_at whole descent.place descent.span child) (omega arith) mine refl c.set_descent.ensures c.tell.ensures in
    let latched = subst (λ (grips : List (List Grip)). All IsLatched grips) read c.read.ensures.latched in
    let latched_after = subst (λ (grips : List (List Grip)). All IsLatched grips) left c.leave.ensures.latched in
    let move = lower_move whole actor descent c.parts.invariant c.requires has child there latched latched_after in
    sound_where whole c.parts.invariant actor _ _ c.leave.new.self _ c.tell.new.self _ move left set refl

pub returns-in-Ok-clause-answer : goal.returns-in-Ok-clause-answer
returns-in-Ok-clause-answer g c =
    let data_of = branch_data g.B.Content.extents g.B.Content.entries g.B.Content.cuts g.B.Content.table in
    let whole = whole_of data_of c.parts.inside in
    let actor = c.args.actor in
    let descent = c.in-Some.descent in
    let has = sym (ap (λ (a : Actor). a.descent) c.at.ensures.value) ∙ c.in-Some.is in
    let child = c.in-Some-child_of.child in
    let there = sym c.child_of.ensures ∙ c.in-Some-child_of.is in
    sight_answers g.row.B.Denot whole c.args.parts.now c.parts.view_is actor descent has c.writer.result child (reply.Sight c.in-Ok.sight) (is_high whole actor descent c.parts.invariant c.requires has child there) (child_same whole actor descent c.parts.invariant c.requires has child there) c.writer.ensures c.in_default-writer.is tt

pub returns-in-Ok-clause-state : goal.returns-in-Ok-clause-state
returns-in-Ok-clause-state g c =
    let data_of = branch_data g.B.Content.extents g.B.Content.entries g.B.Content.cuts g.B.Content.table in
    let whole = whole_of data_of c.parts.inside in
    let actor = c.args.actor in
    let descent = c.in-Some.descent in
    let has = sym (ap (λ (a : Actor). a.descent) c.at.ensures.value) ∙ c.in-Some.is in
    let child = c.in-Some-child_of.child in
    let there = sym c.child_of.ensures ∙ c.in-Some-child_of.is in
    let read = rw c.unwrap.ensures at c.read.ensures.ok in
    let left = c.leave.ensures.left ∙ ap (λ (grips : List (List Grip)). with_grip grips actor descent.node Free) read in
    let mine = ap (λ (s : Span). record { place = descent.place; span = s; node = child }) c.in-Ok.ensures.sight.span ∙ ap (λ (w : Whole). descent_at w descent.place descent.span child) (sym c.parts.view_is) in
    let count = c.parts.invariant.count in
    let known = c.requires in
    let set = arrived_where c.parts.inside.actors c.set_descent.new.self c.tell.new.self actor child _ (descent_at whole descent.place descent.span child) (omega arith) mine refl c.set_descent.ensures c.tell.ensures in
    moved_where whole actor descent c.parts.invariant c.requires has child there c.leave.new.self c.tell.new.self left set ∙ ap (λ (w : Whole). moved_down w actor) c.parts.view_is

pub returns-in-Ok-clause-leads : goal.returns-in-Ok-clause-leads
returns-in-Ok-clause-leads g c = λ rule tells.
    let data_of = branch_data g.B.Content.extents g.B.Content.entries g.B.Content.cuts g.B.Content.table in
    let whole = whole_of data_of c.parts.inside in
    let actor = c.args.actor in
    let descent = c.in-Some.descent in
    let has = sym (ap (λ (a : Actor). a.descent) c.at.ensures.value) ∙ c.in-Some.is in
    let child = c.in-Some-child_of.child in
    let there = sym c.child_of.ensures ∙ c.in-Some-child_of.is in
    if_descent whole c.args.parts.now actor descent (λ (w : Whole) (d : Descent). LeadsRight rule w d (next_descent w d)) c.parts.view_is has (leads_next whole actor descent c.parts.invariant c.requires has child there rule)

pub returns-in-Ok-clause-right : goal.returns-in-Ok-clause-right
returns-in-Ok-clause-right g c = λ rule tells.
    let data_of = branch_data g.B.Content.extents g.B.Content.entries g.B.Content.cuts g.B.Content.table in
    let whole = whole_of data_of c.parts.inside in
    let actor = c.args.actor in
    let descent = c.in-Some.descent in
    let has = sym (ap (λ (a : Actor). a.descent) c.at.ensures.value) ∙ c.in-Some.is in
    let child = c.in-Some-child_of.child in
    let there = sym c.child_of.ensures ∙ c.in-Some-child_of.is in
    let seen = subst (λ (w : Whole). IsSightOf g.B.Content.number data_of w (descent_at w descent.place descent.span child) c.in-Ok.sight) (sym c.parts.view_is) c.in-Ok.ensures.sight in
    if_descent whole c.args.parts.now actor descent (λ (w : Whole) (d : Descent). IsRight rule w (next_descent w d) (map g.B.Content.table c.in-Ok.sight.branches)) c.parts.view_is has
    (right_next whole actor descent c.parts.invariant c.requires has child there g.B.Content.number g.B.Content.table data_of (λ b. refl) c.in-Ok.sight.branches rule seen.branches)

pub returns-in-Ok-clause-framed : goal.returns-in-Ok-clause-framed
returns-in-Ok-clause-framed g c = λ rule drafts.
    let data_of = branch_data g.B.Content.extents g.B.Content.entries g.B.Content.cuts g.B.Content.table in
    let whole = whole_of data_of c.parts.inside in
    let actor = c.args.actor in
    let descent = c.in-Some.descent in
    let has = sym (ap (λ (a : Actor). a.descent) c.at.ensures.value) ∙ c.in-Some.is in
    let child = c.in-Some-child_of.child in
    let there = sym c.child_of.ensures ∙ c.in-Some-child_of.is in
    let read = rw c.unwrap.ensures at c.read.ensures.ok in
    let left = c.leave.ensures.left ∙ ap (λ (grips : List (List Grip)). with_grip grips actor descent.node Free) read in
    let mine = ap (λ (s : Span). record { place = descent.place; span = s; node = child }) c.in-Ok.ensures.sight.span ∙ ap (λ (w : Whole). descent_at w descent.place descent.span child) (sym c.parts.view_is) in
    let count = c.parts.invariant.count in
    let known = c.requires in
    let set = arrived_where c.parts.inside.actors c.set_descent.new.self c.tell.new.self actor child _ (descent_at whole descent.place descent.span child) (omega arith) mine refl c.set_descent.ensures c.tell.ensures in
    let latched = subst (λ (grips : List (List Grip)). All IsLatched grips) read c.read.ensures.latched in
    let latched_after = subst (λ (grips : List (List Grip)). All IsLatched grips) left c.leave.ensures.latched in
    let move = lower_move whole actor descent c.parts.invariant c.requires has child there latched latched_after in
    framed_where whole c.parts.invariant actor _ _ c.leave.new.self _ c.tell.new.self _ move left set refl _ (sym c.parts.view_is) rule _ drafts
