use Rattle.std.proofs.Common.{List, Some, ◌≡◌, ◌<◌, ◌+◌, ◌∙◌, sym, subst, arith, take, drop, All, refl, inl, []}
use Rattle.std.proofs.lemmas.List.{take_all}
use Rattle.spl_message.specs.History.{History}
use Rattle.spl_message.specs.Rule.{Rule}
use Rattle.spl_branch.specs.Branch.{Branch}
use Rattle.spl_script.specs.declared.lines.ScriptLine.{ScriptLine}
use Rattle.spl_desk.specs.Branches.{branch_kind}
use Rattle.spl_desk.specs.Turn.{Turn}
use Rattle.spl_desk.specs.Walk.{Went}
use Rattle.spl_desk.proofs.Walks.{went_on}
use Rattle.spl_session.proofs.Stays.{alike_of, called_on, fell_on}
use Rattle.spl_run.specs.Run.{AreGoing, Breaks, Does}
use Rattle.spl_run.specs.Status.{status_of_cause}
use Rattle.spl_run.specs.Turns.{EndsFor, counted}
use Rattle.spl_run.proofs.Calling.{went_as}
use Rattle.spl_run.proofs.Runs.{Ran, line_ran, last_rows, last_ends, all_ran, all_zero, no_cause, split_line, zero_at, take_line}
use Rattle.spl_run.proofs.run.run.Goals as goal

pub run_line-requires-clause-first : goal.run_line-requires-clause-first
run_line-requires-clause-first g c κs within =
    let lines = c.lines-lines.result.now in
    let below : All (λ (line : ScriptLine). line.caller < 1) lines = rw c.lines-lines.ensures.value c.requires.callers in
    zero_at lines c.loop-line.line-index c.line-item.result below c.loop-line-test.true c.line-item.is

pub run_line-requires-clause-going : goal.run_line-requires-clause-going
run_line-requires-clause-going g c κs within = subst (λ (r : Rule). AreGoing r g.P.Seal.Seal.TELLS c.loop-line.rows.items) (sym c.loop-line.invariant.called.rule) c.loop-line.invariant.ran.going

pub run_line-requires-clause-seen : goal.run_line-requires-clause-seen
run_line-requires-clause-seen g c κs within = subst (g.T.Turns.saw c.loop-line.desk.turns) c.loop-line.invariant.walk.says c.loop-line.invariant.walk.saw

pub loop-line-preserved : goal.loop-line-preserved
loop-line-preserved g c =
    let tells = g.P.Seal.Seal.TELLS in
    let kind = branch_kind tells in
    let old = g.T.Turns.means c.args.desk.now.turns in
    let mid = g.T.Turns.means c.loop-line.desk.turns in
    let new = g.T.Turns.means c.run_line.new.desk.turns in
    let between = g.T.Turns.saw c.loop-line.desk.turns in
    let saw = g.T.Turns.saw c.run_line.new.desk.turns in
    let before = g.P.Port.counts c.loop-line.desk.port.now in
    let after = g.P.Port.counts c.run_line.new.desk.port.now in
    let inv = c.loop-line.invariant in
    let lines = c.lines-lines.result.now in
    let line = c.line-item.result in
    let one = inv.walk in
    let two = c.in-Ok.ensures.runs in
    let few = c.run_line.ensures.few in
    let done : List (Turn Branch) → History → Type 0 = λ turns seen. Does mid.rule tells before after new.turns c.loop-line.rows.items c.run_line.new.rows.items line.deed seen in
    let does : Does old.rule tells before after new.turns c.loop-line.rows.items c.run_line.new.rows.items line.deed two.seen =
    subst (λ (r : Rule). Does r tells before after new.turns c.loop-line.rows.items c.run_line.new.rows.items line.deed two.seen) inv.called.rule two.says in
    record {
      called = called_on old mid new inv.called c.run_line.ensures.called;
      few = omega (arith, inv.few, few);
      ready = c.run_line.ensures.ready;
      law = c.run_line.ensures.law ∙ inv.law;
      device = c.run_line.ensures.device ∙ inv.device;
      port = fell_on (g.P.Port.counts c.args.desk.now.port.now) before after inv.port c.run_line.ensures.port;
      ran = subst (λ done. Ran old.rule tells done c.run_line.new.rows.items) (sym (take_line lines c.loop-line.line-index line c.loop-line-test.true c.line-item.is))
          (line_ran old.rule tells before after new.turns c.loop-line.rows.items c.run_line.new.rows.items line (take c.loop-line.line-index lines) two.seen inv.ran does);
      walk = went_on kind old [] mid new between saw (λ turns seen. seen ≡ counted c.loop-line.rows.items) done (λ turns seen. seen ≡ counted c.run_line.new.rows.items) (alike_of old mid inv.called) one
          (subst (λ (h : History). Went kind mid h new saw done) (sym one.says) two)
          (λ more seen walks says. says.seen);
    }

pub returns-in-Err-clause-rows : goal.returns-in-Err-clause-rows
returns-in-Err-clause-rows g c =
    let tells = g.P.Seal.Seal.TELLS in
    let old = g.T.Turns.means c.args.desk.now.turns in
    let new = g.T.Turns.means c.run_line.new.desk.turns in
    let before = g.P.Port.counts c.loop-line.desk.port.now in
    let after = g.P.Port.counts c.run_line.new.desk.port.now in
    let inv = c.loop-line.invariant in
    let lines = c.lines-lines.result.now in
    let line = c.line-item.result in
    let below : All (λ (line : ScriptLine). line.caller < 1) lines = rw c.lines-lines.ensures.value c.requires.callers in
    let two = c.in-Err.ensures.runs in
    let breaks : Breaks old.rule tells before after new.turns c.loop-line.rows.items c.run_line.new.rows.items line.deed c.in-Err.cause two.turns two.seen =
    subst (λ (r : Rule). Breaks r tells before after new.turns c.loop-line.rows.items c.run_line.new.rows.items line.deed c.in-Err.cause two.turns two.seen) inv.called.rule two.says in
    rw (c.status_of.ensures, ← c.lines-lines.ensures.value)
    (last_rows old.rule tells before after new.turns c.loop-line.rows.items c.run_line.new.rows.items line c.in-Err.cause two.turns two.seen breaks (take c.loop-line.line-index lines) inv.ran
    lines (drop (c.loop-line.line-index + 1) lines) (all_zero _ below) (split_line lines c.loop-line.line-index line c.loop-line-test.true c.line-item.is))

pub returns-in-Err-clause-walk : goal.returns-in-Err-clause-walk
returns-in-Err-clause-walk g c =
    let tells = g.P.Seal.Seal.TELLS in
    let kind = branch_kind tells in
    let old = g.T.Turns.means c.args.desk.now.turns in
    let mid = g.T.Turns.means c.loop-line.desk.turns in
    let new = g.T.Turns.means c.run_line.new.desk.turns in
    let between = g.T.Turns.saw c.loop-line.desk.turns in
    let saw = g.T.Turns.saw c.run_line.new.desk.turns in
    let start = g.P.Port.counts c.args.desk.now.port.now in
    let before = g.P.Port.counts c.loop-line.desk.port.now in
    let after = g.P.Port.counts c.run_line.new.desk.port.now in
    let inv = c.loop-line.invariant in
    let line = c.line-item.result in
    let one = inv.walk in
    let rows = c.loop-line.rows.items in
    let more = c.run_line.new.rows.items in
    let breaks : List (Turn Branch) → History → Type 0 = λ turns seen. Breaks mid.rule tells before after new.turns rows more line.deed c.in-Err.cause turns seen in
    rw c.status_of.ensures
    (went_on kind old [] mid new between saw (λ turns seen. seen ≡ counted rows) breaks (λ turns seen. (seen ≡ counted more) × EndsFor tells start after new.turns turns more (status_of_cause (Some c.in-Err.cause))) (alike_of old mid inv.called) one
    (subst (λ (h : History). Went kind mid h new saw breaks) (sym one.says) c.in-Err.ensures.runs)
    (λ later seen walks says. (says.seen, last_ends mid.rule tells before after new.turns rows more line c.in-Err.cause later seen says start one.turns inv.port)))

pub returns-clause-rows : goal.returns-clause-rows
returns-clause-rows g c =
    let old = g.T.Turns.means c.args.desk.now.turns in
    let whole : take c.loop-line.line-index c.lines-lines.result.now ≡ c.args.script.now = take_all _ _ (omega arith) ∙ c.lines-lines.ensures.value in
    all_ran old.rule g.P.Seal.Seal.TELLS c.args.script.now _ (subst (λ done. Ran old.rule g.P.Seal.Seal.TELLS done c.loop-line.rows.items) whole c.loop-line.invariant.ran) (all_zero _ c.requires.callers)

pub returns-clause-walk : goal.returns-clause-walk
returns-clause-walk g c =
    let tells = g.P.Seal.Seal.TELLS in
    let old = g.T.Turns.means c.args.desk.now.turns in
    let now = g.T.Turns.means c.loop-line.desk.turns in
    let before = g.P.Port.counts c.args.desk.now.port.now in
    let after = g.P.Port.counts c.loop-line.desk.port.now in
    let rows = c.loop-line.rows.items in
    went_as (branch_kind tells) old [] now (g.T.Turns.saw c.loop-line.desk.turns) (λ turns seen. seen ≡ counted rows) (λ turns seen. (seen ≡ counted rows) × EndsFor tells before after now.turns turns rows 0) c.loop-line.invariant.walk
    (λ turns seen walks is. (is, inl (no_cause rows c.loop-line.invariant.ran.going.going, inl refl)))
