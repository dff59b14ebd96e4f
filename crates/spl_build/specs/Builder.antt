-- A builder of a branch, as contracts see it.
use Rattle.std.specs.Prelude.{◌≡◌, ℕ, ◌+◌, ◌-◌, ◌*◌, ◌^◌, ◌<◌, ◌≤◌, ◌⊎◌, Bool, true, ◌↔◌, List, [], ◌∷◌, ◌++◌, length, map, Contains, Option, Some, None}
use Rattle.spl_message.specs.declared.message.Message.{Message}
use Rattle.spl_message.specs.Entries.{Entries}
use Rattle.spl_message.specs.Table.{as_table}
use Rattle.spl_port.specs.Counts.{Shown}
use Rattle.spl_port.specs.Seal.{Sealed}
use Rattle.spl_quotient.specs.Exponent.{IsExponent}
use Rattle.spl_quotient.specs.Filter.{Filter}
use Rattle.spl_message.specs.Fnv.{fnv_of}
use Rattle.spl_quotient.specs.Fnv.{print_of}
use Rattle.spl_page.specs.LeafPage.{leaf_entry_length}
use Rattle.spl_page.specs.Tables.{leaf_table, table_length}
use Rattle.spl_branch.specs.Branch.{Branch, IsBranch, leaf_entries, table_of}
use Rattle.spl_branch.specs.Pages.{AreParts, kinds_of, page_total, shown_pages}
use Rattle.spl_build.specs.declared.answer.Finish.{Finish}
use Rattle.spl_build.specs.declared.answer.Finish.TheVariants.{Needs as Waiting, Empty, Built}
use Rattle.spl_build.specs.declared.fault.BuildFault.{BuildFault}
use Rattle.spl_build.specs.declared.stage.Stage.{Stage}
use Rattle.spl_build.specs.declared.stage.Stage.TheVariants.{Adding, Finishing, Over}
use Rattle.spl_build.specs.Cuts.{cuts_with}
use Rattle.spl_build.specs.Work.{IsAdding, IsFinishing, WorkState}
use Rattle.spl_build.specs.Pyramid.{IsPyramid}
use Rattle.spl_build.specs.Written.{IsFull, next_place}

-- its number, the extents that were handed in, the parts that are written, the leaf page that is begun, how many keys were added,
-- their hashes, where the branch may be cut, the last key, how many written pages have no parent, its stage, and what stopped it
pub record Building : Type 0 where
  pub number : ℕ
  pub extents : List ℕ
  pub parts : List Sealed
  pub begun : Entries
  pub entries : ℕ
  pub hashes : List ℕ
  pub cuts : List (List ℕ)
  pub last : Option (List ℕ)
  pub roots : ℕ
  pub stage : Stage
  pub stopped : Option BuildFault

-- what contracts see of its work
abbrev pub building : WorkState → Stage → Option BuildFault → Building
building work stage stopped = record {
  number = work.written.number;
  extents = work.written.extents;
  parts = work.written.parts;
  begun = work.begun;
  entries = length work.hashes;
  hashes = work.hashes;
  cuts = work.cuts;
  last = work.last;
  roots = length work.levels.waiting + length work.levels.above;
  stage = stage;
  stopped = stopped;
}

-- what holds of its work while nothing stopped it
abbrev pub IsBuilding : WorkState → Stage → Option BuildFault → Type 0
IsBuilding work stage (Some _) = Unit {0}
IsBuilding work Adding None = IsAdding work
IsBuilding work Finishing None = IsFinishing work
IsBuilding work Over None = Unit {0}

-- what was added, where pages are told
abbrev pub added : Building → Entries
added builder = leaf_entries (shown_pages builder.parts) ++ builder.begun

-- the entry fits into the leaf page that is begun: it stands there, and the written pages stay
pub record GoesIn (old new : Building) (key : List ℕ) (message : Message) : Type 0 where
  pub begun : new.begun ≡ old.begun ++ (key, message) ∷ []
  pub parts : new.parts ≡ old.parts
  pub roots : new.roots ≡ old.roots

-- the page that is written next
abbrev pub next_leaf : Building → List ℕ → Shown
next_leaf builder bytes =
    record { at = next_place (record { number = builder.number; extents = builder.extents; parts = builder.parts }) true; bytes = bytes }

-- one page more is written, a leaf page, which holds what was begun. The parts lie in the handed-in extents, in their order.
pub record WritesLeaf (tells : Bool) (old new : Building) : Type 0 where
  pub parts : AreParts new.number new.extents new.parts
  pub kinds : kinds_of new.parts ≡ kinds_of old.parts ++ true ∷ []
  pub roots : new.roots ≡ old.roots + 1
  pub told : tells ≡ true → (bytes : List ℕ) × (leaf_table bytes ≡ old.begun) × (shown_pages new.parts ≡ shown_pages old.parts ++ next_leaf old bytes ∷ [])

-- the key was added with its message, behind the others
pub record Adds (tells : Bool) (old new : Building) (key : List ℕ) (message : Message) : Type 0 where
  pub number : new.number ≡ old.number
  pub extents : new.extents ≡ old.extents
  pub entries : new.entries ≡ old.entries + 1
  pub hashes : new.hashes ≡ old.hashes ++ fnv_of key ∷ []
  pub last : new.last ≡ Some key
  pub page : table_length old.begun + leaf_entry_length key message ≤ 4096 → GoesIn old new key message
  pub next : 4096 < table_length old.begun + leaf_entry_length key message → (new.begun ≡ (key, message) ∷ []) × WritesLeaf tells old new
  pub cuts : new.cuts ≡ cuts_with old.cuts old.entries key
  pub stage : new.stage ≡ old.stage
  pub stopped : new.stopped ≡ None
  pub table : tells ≡ true → added new ≡ added old ++ (key, message) ∷ []

-- a page waits to be written
abbrev pub Waits : Building → Type 0
Waits builder = (0 < length builder.begun) ⊎ (1 < builder.roots)

-- what was added stays
pub record Keeps (tells : Bool) (old new : Building) : Type 0 where
  pub number : new.number ≡ old.number
  pub extents : new.extents ≡ old.extents
  pub entries : new.entries ≡ old.entries
  pub hashes : new.hashes ≡ old.hashes
  pub cuts : new.cuts ≡ old.cuts
  pub last : new.last ≡ old.last
  pub table : tells ≡ true → added new ≡ added old

-- a page waits, and has no extent; no key may come any more, and what was added stays
pub record Needs (tells : Bool) (old new : Building) : Type 0 where
  pub full : IsFull new.extents new.parts
  pub parts : AreParts new.number new.extents new.parts
  pub waits : Waits new
  pub kept : Keeps tells old new
  pub stage : new.stage ≡ Finishing
  pub stopped : new.stopped ≡ None

-- the filter is that of the keys with these hashes
pub record IsFilterOf (hashes : List ℕ) (filter : Filter) : Type 0 where
  pub exponent : IsExponent (length hashes) filter.q
  pub prints : (print : ℕ) → Contains filter.prints print ↔ Contains (map (print_of filter.q) hashes) print

-- There are at most 816 keys a leaf page. A single leaf page is the whole branch; else packed index pages stand over the leaf pages, level
-- by level up to one root, so that one level more needs 59 times as many leaf pages.
pub record IsCompact (branch : Branch) : Type 0 where
  pub keys : branch.entries ≤ 816 * branch.leaves
  pub levels : IsPyramid branch.leaves (branch.levels - 1) 1 (page_total branch.parts - 1)
  pub one : (branch.levels ≡ 1) ↔ (branch.leaves ≡ 1)
  pub many : 1 < branch.levels → 59 ^ (branch.levels - 2) < branch.leaves

-- the branch is that of what was added, in the extents that were handed in
pub record Builds (tells : Bool) (old : Building) (branch : Branch) : Type 0 where
  pub number : branch.number ≡ old.number
  pub extents : branch.extents ≡ old.extents
  pub entries : branch.entries ≡ old.entries
  pub cuts : branch.cuts ≡ old.cuts
  pub filter : IsFilterOf old.hashes branch.filter
  pub sound : IsBranch branch
  pub compact : IsCompact branch
  pub table : tells ≡ true → table_of branch ≡ as_table (added old)

-- the key does not fit into the leaf page that is begun, and the next page has no extent left
abbrev pub HasNoRoom : Building → List ℕ → Message → Type 0
HasNoRoom builder key message = (4096 < table_length builder.begun + leaf_entry_length key message) × IsFull builder.extents builder.parts

-- a fact on the branch that was built
abbrev pub IfBuilt : {S : Type 0} → Finish S → (Branch → Type 0) → Type 0
IfBuilt Waiting fact = Unit {0}
IfBuilt Empty fact = Unit {0}
IfBuilt (Built branch) fact = fact branch
