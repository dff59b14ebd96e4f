use Rattle.std.proofs.Common.{◌<◌, ◌-◌, ℕ, List, length, take, drop, arith}
use Rattle.std.proofs.lemmas.Grind.{common_steps}
use Rattle.spl_port.proofs.BytesLemmas.{takes_next}
use Rattle.spl_port.proofs.whole.write_whole.Goals as goal

pub loop-at-preserved : goal.loop-at-preserved
loop-at-preserved g c =
    let piece : List ℕ = take (length c.args.text.now - c.loop-at.at) (drop c.loop-at.at c.args.text.now) in
    let some : 0 < length piece = grind (arith, common_steps) in
    let taken : 0 < c.in_ok-at.field-0 = c.in_ok-at.ensures.some some in
    (grind (arith, common_steps), takes_next _ _ _ _ _ _ c.loop-at.invariant.1 c.in_ok-at.ensures.ok, cc (c.in_ok-at.ensures.ok_count), omega (arith, c.in_ok-at.ensures.count))
