use Rattle.spl_page.proofs.Scanning.{Scanned}
use Rattle.spl_page.proofs.scan.scan.Given as goal

abbrev pub invariant-loop-index : goal.invariant-loop-index
invariant-loop-index g l =
    Scanned (g.F.Form.entry l.page) g.F.Form.entry_length g.F.Form.entry_key l.bytes l.count l.index l.end l.last l.rising l.starts
