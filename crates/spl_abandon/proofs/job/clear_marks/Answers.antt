use Rattle.std.proofs.Common.{rules, ◌≡◌, false}
use Rattle.spl_state.specs.Actor.{actor_in}
use Rattle.spl_abandon.specs.Abandoning.{merges}
use Rattle.spl_abandon.proofs.Marks.{unmarked}
use Rattle.spl_abandon.proofs.job.clear_marks.Goals as goal

pub returns-else-merges : goal.returns-else-merges
returns-else-merges c =
    let none : merges (actor_in c.args.actors.now c.args.actor).job ≡ false = search rules in
    unmarked c.args.actor c.args.trunk.now c.args.actors.now c.requires.runs none
