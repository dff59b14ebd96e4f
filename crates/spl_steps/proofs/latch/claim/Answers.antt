use Rattle.std.proofs.Common.{rules, arith, ◌≡◌, ◌<◌, length, List, true, false, sym, subst}
use Rattle.std.specs.Prelude.{is_some}
use Rattle.spl_holds.specs.declared.grip.Grip.{Grip}
use Rattle.spl_holds.specs.declared.grip.Grip.TheVariants.{Claim}
use Rattle.spl_holds.specs.Holds.{with_grip}
use Rattle.spl_state.specs.Actor.{actor_in}
use Rattle.spl_steps.proofs.Latches.{none_where, claim_is_no_read, latched_sound, latched_framed, unlatched_sound, unlatched_framed}
use Rattle.spl_steps.proofs.latch.claim.Goals as goal
use Rattle.spl_steps.proofs.latch.claim.Goals.{in-Ok, in-Err}

pub invariant_of-parts : goal.invariant_of-parts
invariant_of-parts g c =
    elim c.match-claim.branch [
      | in-Ok w ↦
          let none : is_some (actor_in c.parts.inside.actors c.args.actor).descent ≡ false = search rules in
          let exists : c.args.node < length c.parts.inside.holds = omega arith in
          latched_sound _ c.claim.new.self c.args.actor c.args.node Claim c.parts.invariant c.requires.known exists claim_is_no_read (none_where _ none) w.in-Ok.ensures.ok c.claim.ensures.latched
      | in-Err w ↦ unlatched_sound _ c.claim.new.self c.parts.invariant w.in-Err.ensures.err
    ]

pub returns-clause-framed : goal.returns-clause-framed
returns-clause-framed g c = λ rule drafts.
    elim c.match-claim.branch [
      | in-Ok w ↦ latched_framed _ _ c.parts.view_is c.claim.new.self c.args.actor rule _ drafts c.args.node Claim w.in-Ok.ensures.ok
      | in-Err w ↦ unlatched_framed _ _ c.parts.view_is c.claim.new.self c.args.actor rule _ drafts w.in-Err.ensures.err
    ]
