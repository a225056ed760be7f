-- What is known of a sink over a writer.
use Rattle.std.specs.Prelude.{List, ℕ, Option}
use Rattle.pva_outside.specs.declared.sink.StreamSink.{StreamSink}

-- the bytes that its writer tells: those of the system tell none
abbrev pub stream_bytes : {W : Type 0} → (W → Option (List ℕ)) → StreamSink W → Option (List ℕ)
stream_bytes contents s = contents s.writer

-- how often it failed
abbrev pub stream_faults : {W : Type 0} → StreamSink W → ℕ
stream_faults s = s.faults
