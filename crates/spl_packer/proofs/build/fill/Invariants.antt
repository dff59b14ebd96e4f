use Rattle.std.proofs.Common.{◌≡◌}
use Rattle.spl_desk.specs.Branches.{branch_kind}
use Rattle.spl_desk.specs.Calls.{MadeFew, NeverFell}
use Rattle.spl_desk.specs.Quiet.{IsQuiet}
use Rattle.spl_packer.specs.Packs.{IsFilling}
use Rattle.spl_packer.proofs.build.fill.Given as goal

abbrev pub invariant-loop-key : goal.invariant-loop-key
invariant-loop-key g l =
    let old = g.T.Turns.means l.initial.turns in
    let now = g.T.Turns.means l.turns in
    record {
      quiet : IsQuiet (branch_kind g.P.Seal.Seal.TELLS) old (g.T.Turns.saw l.initial.turns) now (g.T.Turns.saw l.turns);
      few : MadeFew old now 0;
      ready : g.T.Turns.ready l.turns;
      filling : IsFilling g.P.Seal.Seal.TELLS now l.builder l.picked l.key-iterator;
      port : NeverFell (g.P.Port.counts l.initial.port) (g.P.Port.counts l.port);
      faults : (g.P.Port.counts l.port).faults ≡ (g.P.Port.counts l.initial.port).faults;
    }
