-- A hash that is taken piece by piece is the hash of the whole.
use Rattle.std.proofs.Common.{◌≡◌, ℕ, ◌+◌, ◌<◌, List, [], ◌∷◌, ◌++◌, length, get_or, take, fold, sym, ap, ◌∙◌}
use Rattle.std.proofs.lemmas.List.{flat_map_more, take_more}
use Rattle.std.proofs.lemmas.List.Sums.{fold-append}
use Rattle.spl_message.specs.Fnv.{fnv_of, fnv_step}
use Rattle.spl_report.specs.declared.report.Row.{Row}
use Rattle.spl_report.specs.ReportText.{report_text, row_text}

-- the hash of some bytes, with further bytes behind them
hash_behind : (done more : List ℕ) → fold fnv_step (fnv_of done) more ≡ fnv_of (done ++ more)
unfolding fnv_of
hash_behind done more = sym (fold-append fnv_step 0xcbf29ce484222325 done more)

-- the hash of the rows before a row, with the row's text behind it, is the hash of one row more
pub hash_of_row : (rows : List Row) (at hash more : ℕ) (row : Row) → at < length rows → row ≡ get_or rows at row → hash ≡ fnv_of (report_text (take at rows)) → more ≡ fold fnv_step hash (row_text row) → more ≡ fnv_of (report_text (take (at + 1) rows))
hash_of_row rows at hash more row inside is so_far step =
    step
    ∙ ap (λ (h : ℕ). fold fnv_step h (row_text row)) so_far
    ∙ hash_behind (report_text (take at rows)) (row_text row)
    ∙ ap fnv_of
    (flat_map_more row_text [] (take at rows) row
    ∙ ap (λ (r : Row). report_text (take at rows ++ r ∷ [])) is
    ∙ ap (λ (rs : List Row). report_text rs) (sym (take_more rows at row inside)))
