-- What reads and writes do to the bytes that a stream tells.
use Rattle.std.specs.Prelude.{◌≡◌, ℕ, List, ◌++◌, Option, length, take, ◌<◌, ◌≤◌}
use Rattle.std.specs.Option.{option_map}

-- the source gave these bytes, which it had at the front; one that tells nothing goes on to tell nothing
abbrev pub Gives : Option (List ℕ) → Option (List ℕ) → List ℕ → Type 0
Gives before after given = before ≡ option_map (λ rest. given ++ rest) after

-- the sink took these bytes behind what it held; one that tells nothing goes on to tell nothing
abbrev pub Takes : Option (List ℕ) → Option (List ℕ) → List ℕ → Type 0
Takes before after taken = after ≡ option_map (λ bytes. bytes ++ taken) before

-- the sink took the first bytes of the text, and not all of them
abbrev pub TakesPart : Option (List ℕ) → Option (List ℕ) → List ℕ → Type 0
TakesPart before after text = (n : ℕ) × (n < length text) × Takes before after (take n text)

-- the source gave some bytes, at most so many, which nobody has now
abbrev pub Loses : Option (List ℕ) → Option (List ℕ) → ℕ → Type 0
Loses before after limit = (lost : List ℕ) × (length lost ≤ limit) × Gives before after lost
