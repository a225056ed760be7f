-- What an error of the system is to the call that met it.
use Rattle.std.specs.declared.io.ErrorKind.{ErrorKind}
use Rattle.std.specs.declared.io.ErrorKind.TheVariants.{WouldBlock, Interrupted, OutOfMemory}
use Rattle.pva_outside.specs.declared.refusal.Refusal.{Refusal}
use Rattle.pva_outside.specs.declared.refusal.Refusal.TheVariants as refusals

-- A call that would block or was interrupted may be made again. Want of memory is no failure of the stream.
abbrev pub refusal_of_kind : ErrorKind → Refusal
refusal_of_kind WouldBlock = refusals.Idle
refusal_of_kind Interrupted = refusals.Idle
refusal_of_kind OutOfMemory = refusals.NoMemory
refusal_of_kind _ = refusals.Fault
