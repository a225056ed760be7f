-- What an error means to the accept that met it.
use Rattle.std.specs.Prelude.{ℕ, ℤ, Bool, true, false, ◌||◌, ◌==◌, if◌then◌else◌, Option, None, Some, unsigned_abs}
use Rattle.std.specs.declared.io.ErrorKind.{ErrorKind}
use Rattle.std.specs.declared.io.ErrorKind.TheVariants.{ConnectionAborted, ConnectionReset, TimedOut, PermissionDenied, NetworkDown, NetworkUnreachable, HostUnreachable}
use Rattle.pva_outside.specs.Refusal.{refusal_of_kind}
use Rattle.pva_outside.specs.declared.refusal.Refusal.{Refusal}
use Rattle.pva_outside.specs.declared.refusal.Refusal.TheVariants as refusals

-- an error of one connection, which came and went
abbrev pub is_of_connection : ErrorKind → Bool
is_of_connection ConnectionAborted = true
is_of_connection ConnectionReset = true
is_of_connection TimedOut = true
is_of_connection PermissionDenied = true
is_of_connection NetworkDown = true
is_of_connection NetworkUnreachable = true
is_of_connection HostUnreachable = true
is_of_connection _ = false

-- Linux's numbers of a want of descriptors or buffers: ENFILE, EMFILE, ENOBUFS
abbrev pub is_want : ℕ → Bool
is_want n = (n == 23) || ((n == 24) || (n == 105))

-- and of what was wrong with a connection's network: ENONET, EPROTO, ENOPROTOOPT, EOPNOTSUPP, EHOSTDOWN (accept(2),
-- "Error handling")
abbrev pub is_of_network : ℕ → Bool
is_of_network n = (n == 64) || ((n == 71) || ((n == 92) || ((n == 95) || (n == 112))))

abbrev pub has_passed : Option ℤ → Bool
has_passed None = false
has_passed (Some code) = is_want (unsigned_abs code) || is_of_network (unsigned_abs code)

-- Errors of one connection, and wants that pass, are no fault of the listener. All others are as elsewhere.
abbrev pub refusal_at_accept : ErrorKind → Option ℤ → Refusal
refusal_at_accept kind code =
    if is_of_connection kind then refusals.Idle else if has_passed code then refusals.Idle else refusal_of_kind kind
