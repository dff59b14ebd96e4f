use Rattle.std.proofs.Common.{rules, ◌≡◌}
use Rattle.spl_steps.proofs.Retired.{running_sound, running_framed}
use Rattle.spl_steps.proofs.callers.retire.Goals as goal

pub invariant_of-parts : goal.invariant_of-parts
invariant_of-parts g c = running_sound _ _ c.parts.invariant
