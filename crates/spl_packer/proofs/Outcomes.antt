-- What the parts of the job leave, as what the whole leaves.
use Rattle.std.proofs.Common.{◌≡◌, ℕ, List, Some, subst}
use Rattle.std.specs.Prelude.{Result, Ok, Err}
use Rattle.spl_desk.specs.Holder.{Holder}
use Rattle.spl_desk.specs.declared.fault.CallFault.{CallFault}
use Rattle.spl_job.specs.declared.steps.Picked.{Picked}
use Rattle.spl_job.specs.Merging.{IsHoldingOn}
use Rattle.spl_packer.specs.declared.packed.Packed.{Packed}
use Rattle.spl_packer.specs.declared.packed.Packed.TheVariants.{Done, Nothing, NeedsFlush, NotOldest}
use Rattle.spl_packer.specs.Packs.{AfterHang, AfterPack, AfterTry, HasPicked, packs}

-- a survey leaves what was picked
pub picked_on : (holder : Holder) (picked : Picked) (memtable told : ℕ) (extents : List ℕ) → IsHoldingOn holder (packs picked memtable told extents) → HasPicked holder picked extents
picked_on holder picked memtable told extents on = (memtable, on.0, on.2)

pub hang_of_try : (holder : Holder) (packed : Packed) → AfterTry holder (Ok (Some packed)) → AfterHang holder (Ok packed)
hang_of_try holder Done after = after
hang_of_try holder Nothing after = after
hang_of_try holder NeedsFlush after = after
hang_of_try holder NotOldest after = after

pub pack_of_hang : (holder : Holder) (r : Result Packed CallFault) → AfterHang holder r → AfterPack holder r
pack_of_hang holder (Ok Done) after = after
pack_of_hang holder (Ok Nothing) after = absurd after
pack_of_hang holder (Ok NeedsFlush) after = after
pack_of_hang holder (Ok NotOldest) after = after
pack_of_hang holder (Err _) after = after

-- with a picked memtable there was one
pub hang_not_nothing : (holder : Holder) (r : Result Packed CallFault) → AfterHang holder r → r ≡ Ok Nothing → ⊥
hang_not_nothing holder r after is = subst (λ (x : Result Packed CallFault). AfterHang holder x) is after
