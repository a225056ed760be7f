-- What is known of a port over a writer: it tells no drives, and the lines that its writer got where the writer does.
use Rattle.std.specs.Prelude.{ℕ, List, [], ◌∷◌, ◌++◌, Option, None}
use Rattle.pva_outside.specs.Ports.{PortView}
use Rattle.pva_outside.specs.declared.port.WriterPort.{WriterPort}

abbrev pub writer_port : {W : Type 0} → WriterPort W → PortView
writer_port p = record { faults = p.faults; drives = None }

-- with a count of 0
abbrev pub new_writer_port : PortView
new_writer_port = record { faults = 0; drives = None }

-- the bytes that its writer tells: those of the system tell none
abbrev pub lines_told : {W : Type 0} → (W → Option (List ℕ)) → WriterPort W → Option (List ℕ)
lines_told contents p = contents p.writer

-- a text and a line feed
abbrev pub line : List ℕ → List ℕ
line text = text ++ 10 ∷ []
