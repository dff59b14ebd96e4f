-- What a sink over a writer of std is in a clause.
use Rattle.std.specs.Prelude.{None}
use Rattle.spl_port.specs.Streams.{Output}
use Rattle.spl_port.specs.declared.std_sink.StdSink.{StdSink}

abbrev pub writer_of : {X : Type 0} → StdSink X → X
writer_of sink = sink.writer

-- it tells nothing of what the writer holds
abbrev pub output_of : {X : Type 0} → StdSink X → Output
output_of sink = record { held = None; faults = sink.faults; writes = sink.writes }
