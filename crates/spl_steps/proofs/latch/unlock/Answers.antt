use Rattle.std.proofs.Common.{rules, arith, ◌≡◌, ◌≢◌, ◌<◌, length}
use Rattle.spl_holds.specs.declared.grip.Grip.TheVariants.{Free, Read}
use Rattle.spl_holds.specs.Holds.{grip_of}
use Rattle.spl_steps.proofs.Latches.{off_way, free_is_no_read, latched_sound, latched_framed}
use Rattle.spl_steps.proofs.latch.unlock.Goals as goal

pub invariant_of-parts : goal.invariant_of-parts
invariant_of-parts g c =
    let no_read : grip_of c.parts.inside.holds c.args.actor c.args.node ≢ Read = search rules in
    let no_free : grip_of c.parts.inside.holds c.args.actor c.args.node ≢ Free = search rules in
    let none = off_way _ c.args.actor c.args.node c.parts.invariant c.requires.known no_read no_free in
    let exists : c.args.node < length c.parts.inside.holds = omega arith in
    latched_sound _ c.leave.new.self c.args.actor c.args.node Free c.parts.invariant c.requires.known exists free_is_no_read none c.leave.ensures.left c.leave.ensures.latched

pub returns-clause-framed : goal.returns-clause-framed
returns-clause-framed g c = λ rule drafts. latched_framed _ _ c.parts.view_is c.leave.new.self c.args.actor rule _ drafts c.args.node Free c.leave.ensures.left
