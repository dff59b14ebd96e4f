-- What reads of a blurred port give.
use Rattle.std.specs.Prelude.{ℕ, ◌<◌, ◌==◌, if◌then◌else◌, List, [], ◌∷◌, All, replicate, slice_set}
use Rattle.spl_port.specs.Counts.{Counts}
use Rattle.spl_port.specs.declared.blur.Blur.{Blur}
use Rattle.spl_port.specs.declared.blur.Blur.TheVariants.{Zeros, Patch}

-- the places that are set lie within a page
abbrev pub IsBlur : Blur → Type 0
IsBlur Zeros = Unit {0}
IsBlur (Patch page patches) = All (λ patch. patch.0 < 4096) patches

-- the page with these bytes set, the first one first
abbrev pub patched_page : List (ℕ × ℕ) → List ℕ → List ℕ
patched_page [] page = page
patched_page (patch ∷ patches) page = patched_page patches (slice_set page patch.0 patch.1)

-- what a read of the page gives, which has these bytes
abbrev pub blurred_page : Blur → ℕ → List ℕ → List ℕ
blurred_page Zeros page bytes = replicate 4096 0
blurred_page (Patch at patches) page bytes = if at == page then patched_page patches bytes else bytes

-- what a blurred port is in a clause: its counts, and what it gives
pub record BlurState : Type 0 where
  pub counts : Counts
  pub blur : Blur
