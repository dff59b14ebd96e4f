-- Bundles that are worth merging by themselves.
use Rattle.std.specs.Prelude.{ℕ, ◌-◌, Bool, true, false, nat_le, ◌&&◌, if◌then◌else◌, List, length, Option, Some, None, is_none, slice_get}
use Rattle.spl_state.specs.declared.view.BundleView.{BundleView}

-- the bundle names two branches or more, and nobody merges it
abbrev pub is_wide : BundleView → Bool
is_wide bundle = nat_le 2 bundle.branches && is_none bundle.ticket

abbrev pub is_wide_from : ℕ → BundleView → Bool
is_wide_from mark bundle = nat_le mark bundle.number && (nat_le 2 bundle.branches && is_none bundle.ticket)

-- the last bundle
abbrev pub newest : List BundleView → Option BundleView
newest bundles = slice_get bundles (length bundles - 1)

-- the number of the bundle, where that is wide
abbrev pub wide_number : Option BundleView → Option ℕ
wide_number None = None
wide_number (Some bundle) = if is_wide bundle then Some bundle.number else None
