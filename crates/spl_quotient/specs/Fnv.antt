-- The fingerprints that are cut from the hashes of keys.
pub use Rattle.spl_message.specs.Fnv.{fnv_of}
use Rattle.std.specs.Prelude.{ℕ, ◌-◌, ◌/◌, ◌^◌, List}

-- the top q + 12 bits of a hash
abbrev pub print_of : ℕ → ℕ → ℕ
print_of q hash = hash / 2 ^ (52 - q)

-- the top q + 12 bits of the key's hash
unfoldable pub fingerprint_of : ℕ → List ℕ → ℕ
fingerprint_of q key = print_of q (fnv_of key)
