-- What a source over a reader of std is in a clause.
use Rattle.std.specs.Prelude.{None}
use Rattle.spl_port.specs.Streams.{Input}
use Rattle.spl_port.specs.declared.std_source.StdSource.{StdSource}

abbrev pub reader_of : {X : Type 0} → StdSource X → X
reader_of source = source.reader

-- it tells nothing of what the reader has
abbrev pub input_of : {X : Type 0} → StdSource X → Input
input_of source = record { left = None; faults = source.faults; late = source.late }
