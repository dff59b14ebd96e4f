use Rattle.std.proofs.Common.{◌≡◌, ◌≤◌, length, take, drop, arith}
use Rattle.std.proofs.lemmas.Grind.{common_steps}
use Rattle.spl_port.proofs.BytesLemmas.{gives_front}
use Rattle.spl_port.proofs.mem_source.MemSourceSource.read.Goals as goal

pub returns-clause-ok : goal.returns-clause-ok
returns-clause-ok c =
    let fits : c.min-given.result ≤ length (drop c.self.inside.cursor c.self.inside.bytes.items) = grind (arith, common_steps) in
    let is : c.copy_from_slice.new.self ≡ take c.min-given.result (drop c.self.inside.cursor c.self.inside.bytes.items) = grind (arith, common_steps) in
    rw (← c.self.view_is) (gives_front _ _ _ _ _ fits is)
