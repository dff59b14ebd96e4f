use Rattle.std.proofs.Common.{◌≡◌, ℕ}
use Rattle.spl_desk.specs.Branches.{branch_kind}
use Rattle.spl_desk.specs.Calls.{MadeFew, NeverFell}
use Rattle.spl_desk.specs.Quiet.{IsQuiet}
use Rattle.spl_streams.specs.Above.{keys_left}
use Rattle.spl_compactor.specs.Compacting.{IsUnderWay}
use Rattle.spl_compactor.proofs.merging.merge_all.Given as goal

abbrev pub invariant-loop : goal.invariant-loop
invariant-loop g l =
    let tells = g.P.Seal.Seal.TELLS in
    let old = g.T.Turns.means l.initial.turns in
    let now = g.T.Turns.means l.turns in
    record {
      quiet : IsQuiet (branch_kind tells) old (g.T.Turns.saw l.initial.turns) now (g.T.Turns.saw l.turns);
      few : MadeFew old now 0;
      ready : g.T.Turns.ready l.turns;
      under_way : (least : ℕ) → IsUnderWay tells old least l.initial.builder l.initial.merged → IsUnderWay tells now least l.builder l.merged;
      port : NeverFell (g.P.Port.counts l.initial.port) (g.P.Port.counts l.port);
      faults : (g.P.Port.counts l.port).faults ≡ (g.P.Port.counts l.initial.port).faults;
    }

abbrev pub decreases-loop : goal.decreases-loop
decreases-loop g l = keys_left l.merged.last
