-- How the state lies in its parts.
use Rattle.std.specs.Prelude.{ℕ, List, map}
use Rattle.spl_message.specs.Table.{Table}
use Rattle.spl_state.specs.declared.parts.Parts.TheInside.{Inside}
use Rattle.spl_state.specs.Whole.{BranchData, Whole}

module _ {B : Type 0} where
  -- what is seen of a branch
  abbrev pub branch_data : (B → List ℕ) → (B → ℕ) → (B → List (List ℕ)) → (B → Table) → B → BranchData
  branch_data extents entries cuts table branch =
      record { extents = extents branch; entries = entries branch; cuts = cuts branch; table = table branch }

  -- the parts as plain data
  abbrev pub whole_of : (B → BranchData) → Inside B → Whole
  whole_of data_of parts = record {
    nodes = parts.trunk;
    refs = map (λ entry. (entry.0, (entry.1.0, data_of entry.1.1))) parts.refs;
    owners = parts.pool;
    grips = parts.holds;
    tables = parts.tables;
    actors = parts.actors;
    counters = parts.counters;
  }
