-- A branch whose seals tell their pages tells its table.
use Rattle.std.proofs.Common.{◌≡◌, zero, suc, Bool, true, List, [], ◌∷◌, map, sym, ap, ◌∙◌}
use Rattle.std.specs.Option.{is_some}
use Rattle.spl_port.specs.Seal.{Sealed}
use Rattle.spl_branch.specs.Pages.{AreTold}

pub are_told : {S : Type 0} (means : S → Sealed) (tells : Bool) (seals : List S) → ((seal : S) → is_some (means seal).told ≡ tells) → tells ≡ true → AreTold (map means seals)
are_told means tells [] law true-is j part at = absurd cc
are_told means tells (seal ∷ seals) law true-is zero part at =
    let same : means seal ≡ part = cc in
    ap (λ p. is_some p.told) (sym same) ∙ law seal ∙ true-is
are_told means tells (seal ∷ seals) law true-is (suc j) part at = are_told means tells seals law true-is j part at
