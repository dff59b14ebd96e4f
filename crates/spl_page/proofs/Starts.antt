-- The entries of a page by the places where they start.
use Rattle.std.proofs.Common.{◌≡◌, ℕ, ◌<◌, List, Option, Some, None, length, get_or, drop, sym, ap, ◌∙◌, arith}
use Rattle.std.specs.List.{slice_get}
use Rattle.std.specs.Option.{option_map}
use Rattle.std.proofs.lemmas.List.{length-map}
use Rattle.std.proofs.lemmas.Option.{slice_get-get_or, slice_get-map}
use Rattle.spl_page.specs.Sound.{AreStarts, entries_of}

same_read : {R : Type 0} (found read : Option R) → Some read ≡ option_map Some found → found ≡ read
same_read None read is = absurd (cc)
same_read (Some entry) read is = cc

module _ {R : Type 0} (row : List ℕ → Option R) (row_length : List ℕ → ℕ) (bytes starts : List ℕ) (are : AreStarts row row_length bytes starts) where
  pub count_is : length starts ≡ length (entries_of row row_length bytes)
  count_is = sym (length-map starts (λ start. row (drop start bytes))) ∙ ap length are.entries ∙ length-map (entries_of row row_length bytes) Some

  pub entry_at : (i start d : ℕ) → i < length (entries_of row row_length bytes) → start ≡ get_or starts i d
      → slice_get (entries_of row row_length bytes) i ≡ row (drop start bytes)
  entry_at i start d within is =
      let there : slice_get starts i ≡ Some start = slice_get-get_or starts i d (omega (arith, count_is)) ∙ ap Some (sym is) in
      same_read (slice_get (entries_of row row_length bytes) i) (row (drop start bytes)) (
      ap (option_map (λ start. row (drop start bytes))) (sym there)
      ∙ sym (slice_get-map (λ start. row (drop start bytes)) starts i)
      ∙ ap (λ (read : List (Option R)). slice_get read i) are.entries
      ∙ slice_get-map Some (entries_of row row_length bytes) i
      )
