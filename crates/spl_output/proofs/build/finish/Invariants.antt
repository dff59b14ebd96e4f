use Rattle.std.proofs.Common.{◌≡◌, ◌≢◌, ◌^◌, ◌-◌, None}
use Rattle.spl_build.specs.declared.stage.Stage.TheVariants.{Over}
use Rattle.spl_desk.specs.Branches.{branch_kind}
use Rattle.spl_desk.specs.Calls.{MadeFew, NeverFell}
use Rattle.spl_desk.specs.Quiet.{IsQuiet}
use Rattle.spl_output.proofs.Finishing.{HasGrown}
use Rattle.spl_output.proofs.build.finish.Given as goal

abbrev pub invariant-loop-turns : goal.invariant-loop-turns
invariant-loop-turns g l =
    let old = g.T.Turns.means l.initial.turns in
    let now = g.T.Turns.means l.turns in
    record {
      quiet : IsQuiet (branch_kind g.P.Seal.Seal.TELLS) old (g.T.Turns.saw l.initial.turns) now (g.T.Turns.saw l.turns);
      few : MadeFew old now 0;
      ready : g.T.Turns.ready l.turns;
      grown : HasGrown g.P.Seal.Seal.TELLS old now l.initial.builder l.builder;
      stopped : l.builder.stopped ≡ None;
      stage : l.builder.stage ≢ Over;
      counts : NeverFell (g.P.Port.counts l.initial.port) (g.P.Port.counts l.port);
      faults : (g.P.Port.counts l.port).faults ≡ (g.P.Port.counts l.initial.port).faults;
    }

abbrev pub decreases-loop-turns : goal.decreases-loop-turns
decreases-loop-turns g l = 2 ^ 40 - (g.T.Turns.means l.turns).turns
