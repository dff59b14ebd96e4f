use Rattle.std.proofs.Common.{map, rules}
use Rattle.std.proofs.lemmas.List.Sorted.{answers_always}
use Rattle.spl_report.specs.Merge.{stands_before}
use Rattle.spl_report.proofs.Merging.{merged_in_order, merged_logs}
use Rattle.spl_report.proofs.Order.{is_order}
use Rattle.spl_report.proofs.Places.{in_order_of}
use Rattle.spl_report.proofs.merge.merge_logs.Goals as goal

pub returns : goal.returns
returns c =
    let logs = map (λ log. log.items) c.args.logs.items in
    let rows = c.sort_by.new.self.items in
    let joined = c.in_ok-rows.ensures in
    let compares = answers_always _ _ _ (λ f a r g h. search rules) in
    let sorted = c.in_ok-sort_by.ensures.sorted stands_before is_order compares in
    let stable = c.sort_by.ensures.stable stands_before is_order compares in
    let moved = c.sort_by.ensures.permutation in
    let order = merged_in_order logs rows c.requires sorted (rw joined at stable) in
    record {
      all = rw joined at moved;
      order = order;
      placed = λ placed h. in_order_of placed _ rows order (rw joined at moved) h;
      logs = merged_logs logs rows c.requires order (rw joined at moved);
    }
