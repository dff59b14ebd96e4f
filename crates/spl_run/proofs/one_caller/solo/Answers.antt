use Rattle.std.proofs.Common.{◌≡◌, sym, subst, ◌∙◌, ap}
use Rattle.spl_desk.specs.Calls.{NeverFell}
use Rattle.spl_run.proofs.Solos.{has_run}
use Rattle.spl_run.proofs.one_caller.solo.Goals as goal

pub returns-clause-run : goal.returns-clause-run
returns-clause-run g c =
    let rule = g.L.MergeLaw.rule in
    let first : rule c.new.result.core.law ≡ rule c.args.law.now = ap (λ core. rule core.law) c.new.ensures ∙ c.requires.law in
    has_run (rule c.args.law.now) (rule c.new.result.core.law) (rule c.run-ran.new.desk.turns.core.law) g.P.Seal.Seal.TELLS c.args.core.parts c.new.result.core.parts
    (g.P.Port.counts c.args.port.now) (g.P.Port.counts c.run-ran.new.desk.port.now) _ c.run-ran.new.desk.turns.core.parts c.core.result.parts c.run-ran.result.rows.items c.run-ran.result.status
    first (c.run-ran.ensures.called.rule ∙ first)
    (ap (λ core. core.parts) c.new.ensures) (ap (λ core. core.parts) c.core.ensures ∙ ap (λ turns. turns.core.parts) c.leave.ensures.turns)
    (ap g.P.Port.counts (c.port-1.given.1 (sym c.run-ran.ensures.device) ∙ c.leave.ensures.port)) c.run-ran.ensures.walk

pub returns-clause-port : goal.returns-clause-port
returns-clause-port g c =
    subst (λ counts. NeverFell (g.P.Port.counts c.args.port.now) counts) (ap g.P.Port.counts (sym (c.port-1.given.1 (sym c.run-ran.ensures.device) ∙ c.leave.ensures.port))) c.run-ran.ensures.port
