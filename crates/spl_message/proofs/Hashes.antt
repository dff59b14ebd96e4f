-- A hash fits 64 bits.
use Rattle.std.proofs.Common.{ℕ, ◌^◌, ◌<◌, List, [], ◌∷◌, fold, arith}
use Rattle.spl_message.specs.Fnv.{fnv_step, fnv_of}

fold_below : (bytes : List ℕ) (hash : ℕ) → hash < 2 ^ 64 → fold fnv_step hash bytes < 2 ^ 64
fold_below [] hash below = below
fold_below (byte ∷ bytes) hash below = fold_below bytes (fnv_step hash byte) (omega arith)

pub fnv_below : (bytes : List ℕ) → fnv_of bytes < 2 ^ 64
unfolding fnv_of
fnv_below bytes = fold_below bytes 0xcbf29ce484222325 (omega arith)
