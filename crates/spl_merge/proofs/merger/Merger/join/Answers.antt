use Rattle.std.proofs.Common.{None, Option, cond, refl, ap}
use Rattle.spl_message.specs.declared.message.Message.{Message}
use Rattle.spl_merge.specs.Merger.{messages_at}
use Rattle.spl_merge.proofs.Joins.{joined_all-none, taken_all}
use Rattle.spl_merge.proofs.merger.Merger.join.Goals as goal

pub loop-newer-init : goal.loop-newer-init
loop-newer-init g c = record {
  joined = ap (λ (found : Option Message). cond c.holds-inside.result found None)
      (joined_all-none (g.L.MergeLaw.rule c.args.law.now) c.args.key.now
      (messages_at c.args.key.now c.args.self.now.heads));
  others = refl;
  wanted = refl;
  least = c.requires.least;
  rest = refl;
}

pub returns-clause-taken : goal.returns-clause-taken
returns-clause-taken g c =
    let loop = c.loop-newer.invariant in
    taken_all c.args.key.now c.args.self.now c.loop-newer.self c.take.new.self c.in_default.ensures.none
    c.in_default.ensures.same loop.others loop.wanted loop.rest
