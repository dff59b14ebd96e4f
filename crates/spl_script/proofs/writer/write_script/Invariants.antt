use Rattle.std.proofs.Common.{◌≡◌, take, flat_map, All}
use Rattle.spl_script.specs.Writing.{IsWhole, line_text}
use Rattle.spl_script.proofs.writer.write_script.Given as goal

abbrev pub invariant-loop-line : goal.invariant-loop-line
invariant-loop-line l = record {
  text : l.out.items ≡ flat_map line_text (take l.line-index l.lines);
  whole : All IsWhole (take l.line-index l.lines);
}
