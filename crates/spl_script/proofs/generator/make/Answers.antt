use Rattle.std.proofs.Common.{◌≡◌, ◌+◌, ◌<◌, arith, ap, ◌∙◌, length, length-append}
use Rattle.std.proofs.lemmas.List.Elements.{All-push}
use Rattle.spl_script.specs.declared.lines.ScriptLine.{ScriptLine}
use Rattle.spl_script.specs.Verb.{IsDeed}
use Rattle.spl_script.proofs.Seeds.{one_made}
use Rattle.spl_script.proofs.generator.make.Goals as goal

pub loop-preserved : goal.loop-preserved
loop-preserved c =
    let items = c.in_ok-push.ensures.items in
    let count : length c.push.new.self.items ≡ length c.loop.made.items + 1 = ap length items ∙ length-append c.loop.made.items _ in
    record {
      lines = one_made c.args.lines c.loop.counter c.loop.state c.next_state-state.result c.in_ok-call.call c.loop.made.items _ _ c.loop-test.true c.next_state-state.ensures c.in_ok-call.ensures.value c.loop.invariant.lines items;
      count = omega (arith, count, c.loop.invariant.count);
      deeds = rw items (All-push (λ (line : ScriptLine). IsDeed line.deed) c.loop.made.items _ c.loop.invariant.deeds c.in_ok-call.ensures.deed);
      callers = rw items (All-push (λ (line : ScriptLine). line.caller < 1) c.loop.made.items _ c.loop.invariant.callers (omega arith));
    }
