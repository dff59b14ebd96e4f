use Rattle.std.proofs.Common.{rules, ◌≡◌, false, refl, sym, subst, ap, Option}
use Rattle.std.specs.Prelude.{is_some}
use Rattle.spl_state.specs.Actor.{actor_in}
use Rattle.spl_state.specs.Bounds.{AreBelow}
use Rattle.spl_state.specs.Whole.{Whole}
use Rattle.spl_tables.specs.declared.frozen_table.Picked.{Picked}
use Rattle.spl_pack.specs.Picking.{MayPick}
use Rattle.spl_pack.proofs.Picks.{taken_of, idle_of, pick_sound, pick_framed, pick_done, pick_answers, no_pick_framed}
use Rattle.spl_pack.proofs.job.pick_frozen.Goals as goal

pub invariant_of-parts-in-Ok-Some : goal.invariant_of-parts-in-Ok-Some
invariant_of-parts-in-Ok-Some g c =
    let no_way : is_some (actor_in c.parts.inside.actors c.args.actor).descent ≡ false = search rules in
    let no_work : is_some (actor_in c.parts.inside.actors c.args.actor).job ≡ false = search rules in
    let below = subst (λ (w : Whole). AreBelow w.nodes w.tables w.counters) (sym c.parts.view_is) c.requires.fresh in
    let taken = taken_of c.parts.inside.tables c.pick.new.self c.args.actor c.in-Ok-Some.field-0 c.in-Ok-Some.picked (cc) c.in-Ok-Some.ensures.none c.in-Ok-Some.ensures.picked c.in-Ok-Some.ensures.given in
    pick_sound _ c.parts.invariant c.args.actor c.requires.known (idle_of (actor_in c.parts.inside.actors c.args.actor) no_way no_work) c.pick.new.self c.set_job.new.self c.in-Ok-Some.picked taken c.set_job.ensures below

pub returns-in-Err-clause-memory : goal.returns-in-Err-clause-memory
returns-in-Err-clause-memory g c = λ is.
    let no_way : is_some (actor_in c.parts.inside.actors c.args.actor).descent ≡ false = search rules in
    let no_work : is_some (actor_in c.parts.inside.actors c.args.actor).job ≡ false = search rules in
    subst (λ (w : Whole). MayPick w c.args.actor) c.parts.view_is (record { idle = idle_of (actor_in c.parts.inside.actors c.args.actor) no_way no_work; unpicked = c.in-Err.ensures.memory })

pub returns-in-Ok-None-clause-framed : goal.returns-in-Ok-None-clause-framed
returns-in-Ok-None-clause-framed g c = λ rule drafts.
    no_pick_framed _ _ c.parts.view_is c.pick.new.self c.args.actor rule _ drafts
    (c.pick.ensures.unchanged (c.in-Ok-None.ensures.none.0 (ap (λ (o : Option Picked). is_some o) c.in-Ok-None.field-0-is)))

pub returns-in-Ok-Some-clause-answer : goal.returns-in-Ok-Some-clause-answer
returns-in-Ok-Some-clause-answer g c = λ is.
    let no_way : is_some (actor_in c.parts.inside.actors c.args.actor).descent ≡ false = search rules in
    let no_work : is_some (actor_in c.parts.inside.actors c.args.actor).job ≡ false = search rules in
    let taken = taken_of c.parts.inside.tables c.pick.new.self c.args.actor c.in-Ok-Some.field-0 c.in-Ok-Some.picked (cc) c.in-Ok-Some.ensures.none c.in-Ok-Some.ensures.picked c.in-Ok-Some.ensures.given in
    pick_answers _ c.parts.invariant c.args.actor c.requires.known (idle_of (actor_in c.parts.inside.actors c.args.actor) no_way no_work) c.pick.new.self c.set_job.new.self c.in-Ok-Some.picked taken c.set_job.ensures _ c.parts.view_is

pub returns-in-Ok-Some-clause-done : goal.returns-in-Ok-Some-clause-done
returns-in-Ok-Some-clause-done g c = λ position number table first is.
    let no_way : is_some (actor_in c.parts.inside.actors c.args.actor).descent ≡ false = search rules in
    let no_work : is_some (actor_in c.parts.inside.actors c.args.actor).job ≡ false = search rules in
    let taken = taken_of c.parts.inside.tables c.pick.new.self c.args.actor c.in-Ok-Some.field-0 c.in-Ok-Some.picked (cc) c.in-Ok-Some.ensures.none c.in-Ok-Some.ensures.picked c.in-Ok-Some.ensures.given in
    pick_done _ c.parts.invariant c.args.actor c.requires.known (idle_of (actor_in c.parts.inside.actors c.args.actor) no_way no_work) c.pick.new.self c.set_job.new.self c.in-Ok-Some.picked taken c.set_job.ensures _ c.parts.view_is position first

pub returns-in-Ok-Some-clause-refused : goal.returns-in-Ok-Some-clause-refused
returns-in-Ok-Some-clause-refused g c = λ never. absurd (never c.parts.inside.counters.branches c.in-Ok-Some.picked.table refl)

pub returns-in-Ok-Some-clause-framed : goal.returns-in-Ok-Some-clause-framed
returns-in-Ok-Some-clause-framed g c = λ rule drafts.
    let no_way : is_some (actor_in c.parts.inside.actors c.args.actor).descent ≡ false = search rules in
    let no_work : is_some (actor_in c.parts.inside.actors c.args.actor).job ≡ false = search rules in
    let taken = taken_of c.parts.inside.tables c.pick.new.self c.args.actor c.in-Ok-Some.field-0 c.in-Ok-Some.picked (cc) c.in-Ok-Some.ensures.none c.in-Ok-Some.ensures.picked c.in-Ok-Some.ensures.given in
    pick_framed _ c.parts.invariant c.args.actor c.requires.known (idle_of (actor_in c.parts.inside.actors c.args.actor) no_way no_work) c.pick.new.self c.set_job.new.self c.in-Ok-Some.picked taken c.set_job.ensures _ c.parts.view_is rule _ drafts
