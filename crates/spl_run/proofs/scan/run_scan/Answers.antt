use Rattle.std.proofs.Common.{◌≡◌, ◌∙◌, ◌++◌, List, Option, Some, sym, subst, arith}
use Rattle.std.specs.Prelude.{Ok, Err}
use Rattle.spl_message.specs.declared.call.Call.TheVariants as call
use Rattle.spl_message.specs.declared.span.Span.{Span}
use Rattle.spl_message.specs.History.{History}
use Rattle.spl_branch.specs.Branch.{Branch}
use Rattle.spl_script.specs.declared.lines.Deed.TheVariants as deed
use Rattle.spl_desk.specs.Branches.{branch_kind}
use Rattle.spl_desk.specs.Turn.{Turn}
use Rattle.spl_desk.specs.Walk.{Went}
use Rattle.spl_desk.proofs.Walks.{went_on}
use Rattle.spl_session.proofs.Stays.{alike_of, called_on, fell_on}
use Rattle.spl_range.specs.Pieces.{IsLeft}
use Rattle.spl_run.specs.Legal.{IfPairs}
use Rattle.spl_run.specs.Run.{Does, Logs, Runs}
use Rattle.spl_run.specs.Turns.{counted}
use Rattle.spl_run.proofs.Calling.{went_as}
use Rattle.spl_run.proofs.Scans.{IsScanned, breaks_longer, breaks_runs, piece_breaks, piece_going, piece_scanned, piece_seen, scan_does}
use Rattle.spl_run.proofs.scan.run_scan.Goals as goal

pub loop-left-preserved : goal.loop-left-preserved
loop-left-preserved g c =
    let tells = g.P.Seal.Seal.TELLS in
    let kind = branch_kind tells in
    let old = g.T.Turns.means c.args.desk.now.turns in
    let mid = g.T.Turns.means c.loop-left.desk.turns in
    let new = g.T.Turns.means c.run_piece.new.desk.turns in
    let between = g.T.Turns.saw c.loop-left.desk.turns in
    let saw = g.T.Turns.saw c.run_piece.new.desk.turns in
    let first = g.P.Port.counts c.args.desk.now.port.now in
    let before = g.P.Port.counts c.loop-left.desk.port.now in
    let after = g.P.Port.counts c.run_piece.new.desk.port.now in
    let start = c.args.rows.now.items in
    let rows = c.loop-left.rows.items in
    let more = c.run_piece.new.rows.items in
    let inv = c.loop-left.invariant in
    let span = c.args.span.now in
    let left = c.in-Some.left in
    let behind = c.run_piece.new.pieces in
    let scanned : IsScanned span start (Some left) rows = subst (λ (l : Option Span). IsScanned span start l rows) (sym c.left.ensures ∙ c.in-Some.is) inv.scanned in
    let one = inv.walk in
    let logs : List (Turn Branch) → History → Type 0 = λ turns seen. Logs tells mid one.seen before after new.turns rows more c.args.caller (call.Piece left) (λ answer. IfPairs answer (λ end. IsLeft left end behind)) (Ok tt) turns seen in
    let two : Went kind mid one.seen new saw logs = c.in_ok-run_piece.ensures.logged one.seen one.saw in
    let turned = c.in_ok-run_piece.ensures.turned in
    record {
      called = called_on old mid new inv.called c.run_piece.ensures.called;
      few = omega (arith, turned);
      ready = c.run_piece.ensures.ready;
      law = c.run_piece.ensures.law ∙ inv.law;
      device = c.run_piece.ensures.device ∙ inv.device;
      pager = c.run_piece.ensures.pager ∙ inv.pager;
      port = fell_on first before after inv.port c.run_piece.ensures.port;
      going = piece_going old.rule tells mid one.seen before after new.turns start rows more span left behind c.args.caller two.turns two.seen one.says c.requires.first inv.going scanned two.says inv.called.rule;
      scanned = piece_scanned old.rule tells mid one.seen before after new.turns start rows more span left behind c.args.caller two.turns two.seen one.says c.requires.first inv.going scanned two.says;
      walk = went_on kind old (counted start) mid new between saw (λ turns seen. seen ≡ counted rows) logs (λ turns seen. seen ≡ counted more) (alike_of old mid inv.called) one two
          (λ later seen walks says.
          piece_seen old.rule tells mid one.seen before after new.turns start rows more span left behind c.args.caller later seen one.says c.requires.first inv.going scanned says (inv.called.actor ∙ c.requires.actor));
    }

pub returns-in_err-run_piece-clause-runs : goal.returns-in_err-run_piece-clause-runs
returns-in_err-run_piece-clause-runs g c =
    let tells = g.P.Seal.Seal.TELLS in
    let kind = branch_kind tells in
    let old = g.T.Turns.means c.args.desk.now.turns in
    let mid = g.T.Turns.means c.loop-left.desk.turns in
    let new = g.T.Turns.means c.run_piece.new.desk.turns in
    let between = g.T.Turns.saw c.loop-left.desk.turns in
    let saw = g.T.Turns.saw c.run_piece.new.desk.turns in
    let first = g.P.Port.counts c.args.desk.now.port.now in
    let before = g.P.Port.counts c.loop-left.desk.port.now in
    let after = g.P.Port.counts c.run_piece.new.desk.port.now in
    let start = c.args.rows.now.items in
    let rows = c.loop-left.rows.items in
    let more = c.run_piece.new.rows.items in
    let inv = c.loop-left.invariant in
    let span = c.args.span.now in
    let left = c.in-Some.left in
    let behind = c.run_piece.new.pieces in
    let scanned : IsScanned span start (Some left) rows = subst (λ (l : Option Span). IsScanned span start l rows) (sym c.left.ensures ∙ c.in-Some.is) inv.scanned in
    let cause = c.in_err-run_piece.field-0.0 in
    let one = inv.walk in
    let logs : List (Turn Branch) → History → Type 0 = λ turns seen. Logs tells mid one.seen before after new.turns rows more c.args.caller (call.Piece left) (λ answer. IfPairs answer (λ end. IsLeft left end behind)) (Err cause) turns seen in
    let two : Went kind mid one.seen new saw logs = c.in_err-run_piece.ensures.logged one.seen one.saw in
    went_on kind old (counted start) mid new between saw (λ turns seen. seen ≡ counted rows) logs (λ turns seen. Runs old.rule tells first after new.turns start more (deed.Scan span) c.from_residual.result turns seen) (alike_of old mid inv.called) one two
    (λ later seen walks says. breaks_runs old.rule tells first after new.turns start more span cause c.from_residual.result (one.turns ++ later) seen c.from_residual.ensures.1
    (breaks_longer old.rule tells first before after new.turns start more span cause one.turns later seen inv.port
    (piece_breaks old.rule tells mid one.seen before after new.turns start rows more span left behind c.args.caller later seen one.says c.requires.first inv.going scanned cause (inv.called.actor ∙ c.requires.actor) says)))

pub returns-clause-runs : goal.returns-clause-runs
returns-clause-runs g c =
    let tells = g.P.Seal.Seal.TELLS in
    let old = g.T.Turns.means c.args.desk.now.turns in
    let mid = g.T.Turns.means c.loop-left.desk.turns in
    let first = g.P.Port.counts c.args.desk.now.port.now in
    let after = g.P.Port.counts c.loop-left.desk.port.now in
    let inv = c.loop-left.invariant in
    went_as (branch_kind tells) old (counted c.args.rows.now.items) mid (g.T.Turns.saw c.loop-left.desk.turns) (λ turns seen. seen ≡ counted c.loop-left.rows.items) (λ turns seen. Does old.rule tells first after mid.turns c.args.rows.now.items c.loop-left.rows.items (deed.Scan c.args.span.now) seen) inv.walk
    (λ turns seen walks is. scan_does old.rule tells first after mid.turns c.args.rows.now.items c.loop-left.rows.items c.args.span.now c.loop-left.pieces seen (sym c.left.ensures ∙ c.in_default.is) inv.scanned inv.going is)
