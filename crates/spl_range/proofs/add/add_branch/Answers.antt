use Rattle.std.proofs.Common.{refl, ap, subst, sym}
use Rattle.std.specs.Prelude.{List, ℕ, Ok, option_to_list}
use Rattle.spl_message.specs.Entries.{AreEntries}
use Rattle.spl_message.specs.Table.{message_at}
use Rattle.spl_branch.specs.Branch.{table_of}
use Rattle.spl_scan.specs.Scan.{Scan, left_of}
use Rattle.spl_streams.specs.Streams.{fresh_scan}
use Rattle.spl_range.specs.Adding.{AddsUnder, ComeTo}
use Rattle.spl_range.specs.Stopping.{HasReadCause}
use Rattle.spl_range.proofs.Adding.{adds_all, fresh_order}
use Rattle.spl_range.proofs.Stops.{if_err_same, read_behind, reads_none}
use Rattle.spl_range.proofs.add.add_branch.Goals as goal

pub loop-scan-init : goal.loop-scan-init
loop-scan-init g c =
    let rule = g.L.MergeLaw.rule c.args.law.now in
    let span = c.args.span.now in
    let branch = c.args.branch.now.value in
    let found = c.args.found.now.entries in
    let fresh = c.in_ok-scan.ensures.scan in
    record {
      branch = ap (λ (s : Scan). s.branch) fresh;
      order = λ tells. subst (λ (s : Scan). AreEntries (left_of s)) (sym fresh) (fresh_order span branch (c.in_ok-scan.ensures.order tells));
      come = λ tells. subst (λ (s : Scan). ComeTo rule (left_of s) found (left_of (fresh_scan span branch)) found) (sym fresh) (λ key cell. refl);
      counts = reads_none (g.P.Port.counts c.args.port.now);
      faults = refl;
    }

pub returns-in_err-add_entry-clause-cause : goal.returns-in_err-add_entry-clause-cause
returns-in_err-add_entry-clause-cause g c =
    let start = g.P.Port.counts c.args.port.now in
    let after = g.P.Port.counts c.add_entry.new.port in
    if_err_same c.from_residual-in_err-add_entry.result c.in_err-add_entry.field-0.0 (HasReadCause g.P.Seal.Seal.TELLS start after) c.from_residual-in_err-add_entry.ensures.1
    (read_behind g.P.Seal.Seal.TELLS start (g.P.Port.counts c.loop-scan.port) after c.in_err-add_entry.field-0.0 c.loop-scan.invariant.counts c.in_err-add_entry.ensures.cause)

pub returns-then-not-branch-clause-told : goal.returns-then-not-branch-clause-told
returns-then-not-branch-clause-told g c = λ tells.
    let rule = g.L.MergeLaw.rule c.args.law.now in
    let span = c.args.span.now in
    let branch = c.args.branch.now.value in
    let first = c.args.found.now.entries in
    let ended = c.in_ok-add_entry.ensures.ended tells (ap Ok c.if-not-branch.true) in
    subst (AddsUnder rule span (λ (key : List ℕ). option_to_list (message_at (table_of branch) key)) first) (sym ended.1)
    (adds_all rule span branch (left_of c.loop-scan.scan) c.loop-scan.found.entries first ended.0 (c.loop-scan.invariant.come tells))
