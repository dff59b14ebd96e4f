use Rattle.std.proofs.Common.{◌≡◌, ◌≤◌, None, replicate, vec_capacity}
use Rattle.spl_merge.specs.Merger.{headless}
use Rattle.spl_merge.proofs.merger.Merger.new.Given as goal

abbrev pub invariant-loop-stream : goal.invariant-loop-stream
invariant-loop-stream l = record {
  heads : l.heads.items ≡ replicate l.stream None;
  wanted : l.wanted.items ≡ headless 0 (replicate l.stream None);
  room : l.fn.streams ≤ vec_capacity l.wanted;
}
