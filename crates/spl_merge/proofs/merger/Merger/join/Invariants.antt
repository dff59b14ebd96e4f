use Rattle.std.proofs.Common.{◌≡◌, ◌++◌, cond, None, length, IfOk}
use Rattle.spl_message.specs.Message.{combine_all}
use Rattle.spl_merge.specs.Merger.{AreFrom, at_key, messages_at, streams_at, without}
use Rattle.spl_merge.specs.Ranks.{joined_all}
use Rattle.spl_merge.proofs.merger.Merger.join.Given as goal

abbrev pub invariant-loop-newer : goal.invariant-loop-newer
invariant-loop-newer g l = record {
  joined : IfOk l.joined (λ found. cond l.inside (joined_all (g.L.MergeLaw.rule l.law) l.key found
      (messages_at l.key l.self.heads)) found
      ≡ cond l.inside (combine_all (g.L.MergeLaw.rule l.law) l.key (messages_at l.key l.initial.self.heads))
      None);
  others : without l.key l.self.heads ≡ without l.key l.initial.self.heads;
  wanted : l.self.wanted ++ streams_at l.key l.self.heads ≡ l.initial.self.wanted ++ streams_at l.key
      l.initial.self.heads;
  least : AreFrom l.key l.self.heads;
  rest : l.self ≡ record l.initial.self { heads = l.self.heads; wanted = l.self.wanted };
}

abbrev pub decreases-loop-newer : goal.decreases-loop-newer
decreases-loop-newer g l = length (at_key 0 l.key l.self.heads)
