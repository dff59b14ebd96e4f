use Rattle.std.proofs.Common.{◌≡◌, length, map, string_bytes}
use Rattle.spl_words.specs.Words.{AreWithin, nothing, options_of}
use Rattle.spl_words.proofs.words.read_options.Given as goal

-- what is given so far, with the words that are left, is what all words give
abbrev pub invariant-loop-left : goal.invariant-loop-left
invariant-loop-left l =
    record {
      whole : options_of l.verb (map string_bytes l.words) nothing ≡ options_of l.verb (map string_bytes l.left) l.given;
      within : AreWithin l.given;
    }

abbrev pub decreases-loop-left : goal.decreases-loop-left
decreases-loop-left l = length l.left
