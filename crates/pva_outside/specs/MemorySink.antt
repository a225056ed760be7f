-- What a sink in memory holds.
use Rattle.std.specs.Prelude.{ℕ, List}
use Rattle.pva_outside.specs.declared.sink.MemorySink.{MemorySink}

-- the bytes that it took
abbrev pub sink_bytes : MemorySink → List ℕ
sink_bytes s = s.bytes.items

-- the number of the last call, counted from 1
abbrev pub sink_calls : MemorySink → ℕ
sink_calls s = s.calls

-- how often it failed
abbrev pub sink_faults : MemorySink → ℕ
sink_faults s = s.faults

-- the numbers of the calls that fail
abbrev pub failing_calls : MemorySink → List ℕ
failing_calls s = s.failing.items
