-- What a call says of its success, and of its failure.
use Rattle.std.proofs.Common.{◌≡◌, sym}
use Rattle.std.specs.Prelude.{true, false, Result, Ok, Err, is_err, IsOk, OnOk, OnErr}
use Rattle.std.proofs.lemmas.Bool.{false≢true}

module _ {A E : Type 0} where
  pub where_done : (result : Result A E) (P : Type 0) → is_err result ≡ false → OnOk result P → P
  where_done (Ok value) P done holds = holds
  where_done (Err error) P done holds = absurd (false≢true (sym done))

  pub where_failed : (result : Result A E) (P : Type 0) → is_err result ≡ true → OnErr result P → P
  where_failed (Ok value) P failed holds = absurd (false≢true failed)
  where_failed (Err error) P failed holds = holds

  pub where_ok : (result : Result A E) (P : Type 0) → IsOk result → OnOk result P → P
  where_ok (Ok value) P done holds = holds
  where_ok (Err error) P done holds = absurd (false≢true done)
