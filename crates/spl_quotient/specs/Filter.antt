-- What a contract sees of a filter: its exponent, and which fingerprints it admits.
use Rattle.std.specs.Prelude.{◌≡◌, ℕ, ◌^◌, ◌≤◌, List, length}
use Rattle.spl_quotient.specs.Table.{prints_in, IsLaid}
use Rattle.spl_quotient.specs.declared.filter.Filter.TheInside.{Inside}

-- the fingerprints have q + 12 bits; they stand in order, each once
pub record Filter : Type 0 where
  pub q : ℕ
  pub prints : List ℕ

-- the filter that a table of 2 ^ q slots makes
abbrev pub shown : Inside → Filter
shown inside = record { q = inside.q; prints = prints_in inside.q inside.table }

-- what holds of the fields
pub record IsSound (inside : Inside) : Type 0 where
  pub least : 6 ≤ inside.q
  pub most : inside.q ≤ 52
  pub count : length inside.table.slots ≡ 2 ^ inside.q
  pub laid : IsLaid inside.table.slots
