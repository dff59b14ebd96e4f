use Rattle.std.proofs.Common.{map, sym, string_bytes, ◌∙◌}
use Rattle.spl_words.proofs.First.{gives_up, goes_on}
use Rattle.spl_words.proofs.words.read_options.Goals as goal

pub returns-in_err-first-clause-value : goal.returns-in_err-first-clause-value
returns-in_err-first-clause-value c =
    c.from_residual.ensures ∙ sym (gives_up c.args.verb c.loop-left.given _ c.loop-left.left.now c.word-item.result c.loop-left.invariant.whole c.in-len1-up.len_at_least c.word-item.is
    (c.in_err-first.ensures.value c.args.verb c.loop-left.given))

pub loop-left-preserved : goal.loop-left-preserved
loop-left-preserved c = record {
  whole = goes_on c.args.verb c.loop-left.given c.in_ok-given.given _ c.loop-left.left.now c.word-item.result c.in_ok-first.first.name.now c.in_ok-first.first.value.now (map string_bytes c.in_ok-first.first.rest.now)
      c.loop-left.invariant.whole c.in-len1-up.len_at_least c.word-item.is (c.in_ok-first.ensures.value c.args.verb c.loop-left.given) (sym c.in_ok-given.ensures.value);
  within = c.in_ok-given.ensures.within;
}
