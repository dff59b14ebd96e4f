use Rattle.std.proofs.Common.{List, None, ◌≡◌, refl}
use Rattle.spl_message.specs.History.{History}
use Rattle.spl_branch.specs.Branch.{Branch}
use Rattle.spl_script.specs.declared.lines.Deed.TheVariants.{One}
use Rattle.spl_desk.specs.Branches.{branch_kind}
use Rattle.spl_desk.specs.Turn.{Turn}
use Rattle.spl_run.specs.Run.{Logs, Runs}
use Rattle.spl_run.specs.Status.{cause_of}
use Rattle.spl_run.specs.Turns.{counted}
use Rattle.spl_run.proofs.Calling.{went_as}
use Rattle.spl_run.proofs.Lines.{call_runs}
use Rattle.spl_run.proofs.run.run_line.Goals as goal

pub returns-in-One-clause-runs : goal.returns-in-One-clause-runs
returns-in-One-clause-runs g c =
    let tells = g.P.Seal.Seal.TELLS in
    let old = g.T.Turns.means c.args.desk.now.turns in
    let new = g.T.Turns.means c.run_call.new.desk.turns in
    let before = g.P.Port.counts c.args.desk.now.port.now in
    let after = g.P.Port.counts c.run_call.new.desk.port.now in
    let rows = c.args.rows.now.items in
    let more = c.run_call.new.rows.items in
    let made = c.in-One.call in
    let caller = c.args.line.now.caller in
    let logs : List (Turn Branch) → History → Type 0 = λ turns seen. Logs tells old (counted rows) before after new.turns rows more caller made (λ answer. cause_of answer ≡ None) c.run_call.result turns seen in
    let runs : List (Turn Branch) → History → Type 0 = λ turns seen. Runs old.rule tells before after new.turns rows more (One made) c.run_call.result turns seen in
    rw c.in-One.is
    (went_as (branch_kind tells) old (counted rows) new (g.T.Turns.saw c.run_call.new.desk.turns) logs runs (c.run_call.ensures.logged (counted rows) c.requires.seen)
    (λ turns seen walks says. call_runs old.rule tells old (counted rows) before after new.turns rows more caller made turns seen refl c.requires.first c.requires.caller refl c.requires.going c.run_call.result says))
