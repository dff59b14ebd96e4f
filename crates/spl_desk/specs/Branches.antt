-- How the branches of a core are seen where they lie on a device.
use Rattle.std.specs.Prelude.{Bool}
use Rattle.spl_branch.specs.Branch.{Branch, table_of}
use Rattle.spl_state.specs.View.{branch_data}
use Rattle.spl_desk.specs.Holder.{BranchKind, kind_of}

-- by their numbers and what they hold, where devices tell their pages and where they don't
abbrev pub branch_kind : Bool → BranchKind Branch
branch_kind tells = kind_of (λ branch. branch.number) (branch_data (λ branch. branch.extents) (λ branch. branch.entries) (λ branch. branch.cuts) table_of) tells
