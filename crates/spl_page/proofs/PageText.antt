-- The bytes of a page that is being written.
use Rattle.std.proofs.Common.{◌≡◌, ℕ, ◌≤◌, ◌<◌, List, ◌++◌, length, take, drop, sym, ap, ◌∙◌, arith}
use Rattle.std.proofs.lemmas.List.{drop-append-le, take_all, drop_all}

-- room for the first bytes has nothing behind it
pub nothing_behind : (bytes room : List ℕ) → length bytes < 16 → length room ≡ 16 → drop 16 room ≡ drop 16 bytes
nothing_behind bytes room short len = drop_all 16 room (omega arith) ∙ sym (drop_all 16 bytes (omega arith))

-- the entries and zeros stand behind the first bytes
pub behind_front : (bytes filled zeros : List ℕ) → 16 ≤ length bytes → length bytes ≤ 4096 → filled ≡ take 4096 bytes ++ zeros
    → drop 16 filled ≡ drop 16 bytes ++ zeros
behind_front bytes filled zeros begun fits is =
    ap (drop 16) (is ∙ ap (λ (t : List ℕ). t ++ zeros) (take_all 4096 bytes fits)) ∙ drop-append-le 16 bytes zeros begun
