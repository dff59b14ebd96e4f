use Rattle.spl_message.specs.Rule.{newest}
use Rattle.spl_session.proofs.Asks.{ask_first}
use Rattle.spl_scan_bench.proofs.store.empty_store.Goals as goal

pub returns : goal.returns
returns c = rw c.new-2.ensures (ask_first 8192 1 c.in_ok-core.core.parts (Unit {0}) (Unit {0}) c.in_ok-core.ensures.empty (c.in_ok-core.ensures.stands newest) tt tt)
