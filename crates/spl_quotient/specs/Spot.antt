-- Where a fingerprint lies.
use Rattle.std.specs.Prelude.{ℕ, ◌+◌, ◌*◌, ◌%◌, ◌^◌}
use Rattle.spl_quotient.specs.declared.prints.TheConstants.{SCATTER}

-- the number whose quotient and remainder stand for the fingerprint in a table of 2 ^ q slots: an odd multiple, so that
-- no two fingerprints have the same, and those that follow each other lie far apart
unfoldable pub spot_of : ℕ → ℕ → ℕ
spot_of q print = print * SCATTER % 2 ^ (q + 12)
