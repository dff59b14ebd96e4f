use Rattle.std.proofs.Common.{rules, arith, ◌≡◌, ◌≢◌, ◌<◌, length}
use Rattle.spl_holds.specs.declared.grip.Grip.TheVariants.{Free, Read, Claim, Write}
use Rattle.spl_holds.specs.Holds.{grip_of}
use Rattle.spl_steps.proofs.Latches.{off_way, write_is_no_read, latched_sound, latched_framed, unlatched_sound, unlatched_framed}
use Rattle.spl_steps.proofs.latch.lock.Goals as goal
use Rattle.spl_steps.proofs.latch.lock.Goals.{in-Ok, in-Err}

pub invariant_of-parts : goal.invariant_of-parts
invariant_of-parts g c =
    elim c.match-lock.branch [
      | in-Ok w ↦
          let no_read : grip_of c.parts.inside.holds c.args.actor c.args.node ≢ Read = search rules in
          let no_free : grip_of c.parts.inside.holds c.args.actor c.args.node ≢ Free = search rules in
          let none = off_way _ c.args.actor c.args.node c.parts.invariant c.requires.known no_read no_free in
          let exists : c.args.node < length c.parts.inside.holds = omega arith in
          latched_sound _ c.lock.new.self c.args.actor c.args.node Write c.parts.invariant c.requires.known exists write_is_no_read none w.in-Ok.ensures.ok c.lock.ensures.latched
      | in-Err w ↦ unlatched_sound _ c.lock.new.self c.parts.invariant w.in-Err.ensures.err
    ]

pub returns-clause-framed : goal.returns-clause-framed
returns-clause-framed g c = λ rule drafts.
    elim c.match-lock.branch [
      | in-Ok w ↦ latched_framed _ _ c.parts.view_is c.lock.new.self c.args.actor rule _ drafts c.args.node Write w.in-Ok.ensures.ok
      | in-Err w ↦ unlatched_framed _ _ c.parts.view_is c.lock.new.self c.args.actor rule _ drafts w.in-Err.ensures.err
    ]
