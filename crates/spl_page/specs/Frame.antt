-- The first 16 bytes of a page: the kind, the format, how many entries there are, and the page's and the branch's number.
use Rattle.std.specs.Prelude.{ℕ, Bool, not, ◌==◌, ◌&&◌, if◌then◌else◌, List, ◌∷◌, ◌++◌, slice_index, Option, Some, None}
use Rattle.std.specs.List.{list_all}
use Rattle.byteorder.specs.Endian.{big_bytes}
use Rattle.spl_port.specs.declared.at.At.{At}
use Rattle.spl_port.specs.declared.damaged.Why.{Why}
use Rattle.spl_port.specs.declared.damaged.Why.TheVariants.{Kind, Number, Count, Order, Rest}
use Rattle.spl_port.specs.Page.{number_at, row_count}

-- the first reason against the first bytes of a page of this kind for the place
abbrev pub head_fault : ℕ → At → List ℕ → Option Why
head_fault kind at bytes =
    if not (slice_index bytes 0 == kind && slice_index bytes 1 == 1) then Some Kind
    else (if not (number_at 4 4 bytes == at.page && number_at 8 8 bytes == at.branch) then Some Number
    else (if row_count bytes == 0 then Some Count else None))

-- the first reason against entries that are there, whose keys rise or do not, with these bytes behind them
abbrev pub found_fault : Bool → List ℕ → Option Why
found_fault rising rest = if not rising then Some Order else (if not (list_all (λ byte. byte == 0) rest) then Some Rest else None)

-- the first bytes of a page of this kind for the place, with so many entries
abbrev pub head_text : ℕ → ℕ → At → List ℕ
head_text kind count at = kind ∷ 1 ∷ (big_bytes 2 count ++ (big_bytes 4 at.page ++ big_bytes 8 at.branch))
