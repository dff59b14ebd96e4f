use Rattle.std.proofs.Common.{ℕ, ◌<◌, List, map, refl, sym, ap, ap₂, subst, ◌∙◌, arith}
use Rattle.std.specs.Prelude.{All}
use Rattle.spl_message.specs.declared.span.Span.{Span}
use Rattle.spl_holds.specs.declared.grip.Grip.{Grip}
use Rattle.spl_holds.specs.Latch.{IsLatched}
use Rattle.spl_state.specs.View.{branch_data, whole_of}
use Rattle.spl_state.specs.Whole.{Whole}
use Rattle.spl_descent.specs.Descents.{begun, first_descent}
use Rattle.spl_descent.specs.Sights.{IsRight, IsSightOf}
use Rattle.spl_descent.proofs.Arrivals.{begun_move}
use Rattle.spl_descent.proofs.Begins.{rest_where, arrived_where, begun_where, means_at, right_first}
use Rattle.spl_descent.proofs.Moves.{sound_where, framed_where}
use Rattle.spl_descent.proofs.enter.begin.Goals as goal

pub invariant_of-parts : goal.invariant_of-parts
invariant_of-parts g c =
    let data_of = branch_data g.B.Content.extents g.B.Content.entries g.B.Content.cuts g.B.Content.table in
    let whole = whole_of data_of c.parts.inside in
    let actor = c.args.actor in
    let span = c.args.span.now in
    let at_ease = rest_where whole _ actor _ _ c.is_busy.ensures c.state-state.ensures.value (sym c.parts.view_is) c.if-is_busy.false in
    let counters = ap (λ (w : Whole). w.counters) c.parts.view_is in
    let places = ap (λ (w : Whole). w.counters.places) c.parts.view_is in
    let steps = ap (λ (w : Whole). w.counters.steps) c.parts.view_is in
    let below = c.requires.fresh.places in
    let few : c.parts.inside.counters.places < c.parts.inside.counters.steps = omega arith in
    let read = rw c.unwrap.ensures at c.read.ensures.ok in
    let latched = subst (λ (grips : List (List Grip)). All IsLatched grips) read c.read.ensures.latched in
    let move = begun_move whole actor span c.parts.invariant c.requires.known at_ease latched few in
    let sight = c.in-Ok.ensures.sight in
    let mine = ap₂ (λ (p : ℕ) (s : Span). record { place = p; span = s; node = 0 }) sight.place sight.span ∙ ap (λ (w : Whole). first_descent w span) (sym c.parts.view_is) in
    let count = c.parts.invariant.count in
    let known = c.requires.known in
    let set = arrived_where c.parts.inside.actors c.set_descent.new.self c.tell.new.self actor 0 _ (first_descent whole span) (omega arith) mine refl c.set_descent.ensures c.tell.ensures in
    sound_where whole c.parts.invariant actor _ _ c.read.new.self _ c.tell.new.self _ move read set refl

pub returns-in-Ok-clause-state : goal.returns-in-Ok-clause-state
returns-in-Ok-clause-state g c =
    let data_of = branch_data g.B.Content.extents g.B.Content.entries g.B.Content.cuts g.B.Content.table in
    let whole = whole_of data_of c.parts.inside in
    let actor = c.args.actor in
    let span = c.args.span.now in
    let read = rw c.unwrap.ensures at c.read.ensures.ok in
    let sight = c.in-Ok.ensures.sight in
    let mine = ap₂ (λ (p : ℕ) (s : Span). record { place = p; span = s; node = 0 }) sight.place sight.span ∙ ap (λ (w : Whole). first_descent w span) (sym c.parts.view_is) in
    let count = c.parts.invariant.count in
    let known = c.requires.known in
    let set = arrived_where c.parts.inside.actors c.set_descent.new.self c.tell.new.self actor 0 _ (first_descent whole span) (omega arith) mine refl c.set_descent.ensures c.tell.ensures in
    begun_where whole actor span c.read.new.self c.tell.new.self read set ∙ ap (λ (w : Whole). begun w actor span) c.parts.view_is

pub returns-in-Ok-clause-means : goal.returns-in-Ok-clause-means
returns-in-Ok-clause-means g c = λ rule tells.
    means_at c.args.parts.now c.args.actor c.args.span.now rule c.in-Ok.sight.span c.in-Ok.sight.tables c.in-Ok.ensures.sight.span c.in-Ok.ensures.tables

pub returns-in-Ok-clause-right : goal.returns-in-Ok-clause-right
returns-in-Ok-clause-right g c = λ rule tells.
    let data_of = branch_data g.B.Content.extents g.B.Content.entries g.B.Content.cuts g.B.Content.table in
    let whole = whole_of data_of c.parts.inside in
    let span = c.args.span.now in
    let seen = subst (λ (w : Whole). IsSightOf g.B.Content.number data_of w (first_descent w span) c.in-Ok.sight) (sym c.parts.view_is) c.in-Ok.ensures.sight in
    let right = right_first g.B.Content.number g.B.Content.table data_of (λ b. refl) whole c.parts.invariant c.args.actor span c.in-Ok.sight.branches rule c.requires.known seen.branches in
    subst (λ (w : Whole). IsRight rule w (first_descent w span) (map g.B.Content.table c.in-Ok.sight.branches)) c.parts.view_is right

pub returns-in-Ok-clause-framed : goal.returns-in-Ok-clause-framed
returns-in-Ok-clause-framed g c = λ rule drafts.
    let data_of = branch_data g.B.Content.extents g.B.Content.entries g.B.Content.cuts g.B.Content.table in
    let whole = whole_of data_of c.parts.inside in
    let actor = c.args.actor in
    let span = c.args.span.now in
    let at_ease = rest_where whole _ actor _ _ c.is_busy.ensures c.state-state.ensures.value (sym c.parts.view_is) c.if-is_busy.false in
    let places = ap (λ (w : Whole). w.counters.places) c.parts.view_is in
    let steps = ap (λ (w : Whole). w.counters.steps) c.parts.view_is in
    let below = c.requires.fresh.places in
    let few : c.parts.inside.counters.places < c.parts.inside.counters.steps = omega arith in
    let read = rw c.unwrap.ensures at c.read.ensures.ok in
    let latched = subst (λ (grips : List (List Grip)). All IsLatched grips) read c.read.ensures.latched in
    let move = begun_move whole actor span c.parts.invariant c.requires.known at_ease latched few in
    let sight = c.in-Ok.ensures.sight in
    let mine = ap₂ (λ (p : ℕ) (s : Span). record { place = p; span = s; node = 0 }) sight.place sight.span ∙ ap (λ (w : Whole). first_descent w span) (sym c.parts.view_is) in
    let count = c.parts.invariant.count in
    let known = c.requires.known in
    let set = arrived_where c.parts.inside.actors c.set_descent.new.self c.tell.new.self actor 0 _ (first_descent whole span) (omega arith) mine refl c.set_descent.ensures c.tell.ensures in
    framed_where whole c.parts.invariant actor _ _ c.read.new.self _ c.tell.new.self _ move read set refl _ (sym c.parts.view_is) rule _ drafts
