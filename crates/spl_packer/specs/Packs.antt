-- What an actor has while it packs a memtable, from the pick until its branch hangs at the root.
use Rattle.std.specs.Prelude.{◌≡◌, ◌≢◌, ℕ, Bool, true, false, List, [], ◌∷◌, ◌++◌, length, Option, Some, None, Result, Ok, Err, IfSome}
use Rattle.spl_message.specs.Entries.{Entries, AreEntries}
use Rattle.spl_message.specs.Key.{is_below}
use Rattle.spl_branch.specs.Branch.{Branch, table_of}
use Rattle.spl_build.specs.Builder.{Building, added}
use Rattle.spl_build.specs.declared.stage.Stage.TheVariants.{Adding}
use Rattle.spl_holds.specs.declared.grip.Grip.{Grip}
use Rattle.spl_holds.specs.declared.grip.Grip.TheVariants.{Free}
use Rattle.spl_state.specs.declared.job.Job.TheVariants.{Pack}
use Rattle.spl_desk.specs.Calls.{MayCall}
use Rattle.spl_desk.specs.Holder.{Holder}
use Rattle.spl_desk.specs.declared.fault.CallFault.{CallFault}
use Rattle.spl_job.specs.declared.steps.Picked.{Picked}
use Rattle.spl_job.specs.Holding.{Holding, IsBranchOf, IsHolding, first_holding}
use Rattle.spl_packer.specs.declared.packed.Packed.{Packed}
use Rattle.spl_packer.specs.declared.packed.Packed.TheVariants.{Done, Nothing, NeedsFlush, NotOldest}

-- the job packs the picked table, and these extents were granted for its branch
abbrev pub packs : Picked → ℕ → ℕ → List ℕ → Holding
packs picked memtable told extents = record (first_holding (Pack picked.number memtable) (picked.table ∷ []) told) { extents = extents }

-- the actor packs what it picked, and has these extents for its branch
abbrev pub HasPicked : Holder → Picked → List ℕ → Type 0
HasPicked holder picked extents = (memtable told : ℕ) × IsHolding holder (packs picked memtable told extents)

-- the key is below that of the first entry
abbrev pub IsBefore : Option (List ℕ) → Entries → Type 0
IsBefore last [] = Unit {0}
IsBefore last (entry ∷ entries) = IfSome last (λ key. is_below key entry.0 ≡ true)

-- what the picked table has was added up to the entries that are left, in the extents that the actor was granted
pub record IsFilling (tells : Bool) (holder : Holder) (builder : Building) (picked : Picked) (left : Entries) : Type 0 where
  pub done : Entries
  pub parts : picked.table.messages ≡ done ++ left
  pub order : AreEntries left
  pub before : IsBefore builder.last left
  pub number : builder.number ≡ picked.number
  pub entries : builder.entries ≡ length done
  pub stage : builder.stage ≡ Adding
  pub stopped : builder.stopped ≡ None
  pub has : HasPicked holder picked builder.extents
  pub told : tells ≡ true → added builder ≡ done

-- the actor packs, has nothing of the trunk, and the branch is the one that its job asks for
pub record IsBuilt (tells : Bool) (holder : Holder) (branch : Branch) : Type 0 where
  pub holding : Holding
  pub number : ℕ
  pub memtable : ℕ
  pub is : IsHolding holder holding
  pub job : holding.job ≡ Some (Pack number memtable)
  pub free : (node : ℕ) → holding.grips node ≡ Free
  pub asked : IsBranchOf holder.rule holding tells branch.number branch.extents (table_of branch)

-- the actor packs, its branch is published, and of the trunk it has at most this grip on the root
pub record IsToHang (holder : Holder) (root : Grip) : Type 0 where
  pub holding : Holding
  pub number : ℕ
  pub memtable : ℕ
  pub is : IsHolding holder holding
  pub job : holding.job ≡ Some (Pack number memtable)
  pub published : holding.published ≡ true
  pub extents : holding.extents ≡ []
  pub root_is : holding.grips 0 ≡ root
  pub elsewhere : (node : ℕ) → node ≢ 0 → holding.grips node ≡ Free

-- what a try to hang the branch leaves: where it has to be made again, what was there
abbrev pub AfterTry : Holder → Result (Option Packed) CallFault → Type 0
AfterTry holder (Ok None) = IsToHang holder Free
AfterTry holder (Ok (Some Done)) = MayCall holder
AfterTry holder (Ok (Some Nothing)) = ⊥
AfterTry holder (Ok (Some NeedsFlush)) = Unit {0}
AfterTry holder (Ok (Some NotOldest)) = Unit {0}
AfterTry holder (Err _) = Unit {0}

-- the branch hangs at the root, and the actor has nothing; or it does not
abbrev pub AfterHang : Holder → Result Packed CallFault → Type 0
AfterHang holder (Ok Done) = MayCall holder
AfterHang holder (Ok Nothing) = ⊥
AfterHang holder (Ok NeedsFlush) = Unit {0}
AfterHang holder (Ok NotOldest) = Unit {0}
AfterHang holder (Err _) = Unit {0}

-- where the job is over the actor has nothing
abbrev pub AfterPack : Holder → Result Packed CallFault → Type 0
AfterPack holder (Ok Done) = MayCall holder
AfterPack holder (Ok Nothing) = MayCall holder
AfterPack holder (Ok NeedsFlush) = Unit {0}
AfterPack holder (Ok NotOldest) = Unit {0}
AfterPack holder (Err _) = Unit {0}

-- nothing of the job is left to be given back
abbrev pub is_over : Packed → Bool
is_over Done = true
is_over Nothing = true
is_over NeedsFlush = false
is_over NotOldest = false
