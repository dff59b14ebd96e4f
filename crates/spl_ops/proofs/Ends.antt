-- The end of two texts in a row, as it is put together in a room.
use Rattle.std.proofs.Common.{◌≡◌, ℕ, ◌+◌, ◌-◌, ◌≤◌, List, ◌++◌, length, drop, ap, ◌∙◌, arith}
use Rattle.std.proofs.lemmas.List.{length-append, drop-append-le}
use Rattle.spl_ops.specs.Texts.{end_of}

-- of two values only the first is cut
pub cut_first : (older newer : List ℕ) → length newer ≤ 512 →
    end_of (older ++ newer) ≡ drop ((length older + length newer) - 512) older ++ newer
cut_first older newer short =
    ap (λ n. drop (n - 512) (older ++ newer)) (length-append older newer)
    ∙ drop-append-le ((length older + length newer) - 512) older newer (omega arith)
