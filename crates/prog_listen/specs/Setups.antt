-- What a server of many clients tells of itself.
use Rattle.std.specs.Prelude.{◌≡◌, ℕ, ℤ, List, ◌++◌, Option, None, Some, IfSome}
use Rattle.std.specs.Int.{w32, w64, cast_unsigned, to_be_bytes}
use Rattle.pva_outside.specs.declared.peer.Peer.{Peer}
use Rattle.pva_search.specs.declared.setup.Setup.{Setup}
use Rattle.prog_listen.specs.declared.asked.Listening.{Listening}

-- the seconds and the nanoseconds of a moment, each with its highest byte first: 12 bytes
abbrev pub guid_at : ℤ × ℕ → List ℕ
guid_at moment = to_be_bytes w64 (cast_unsigned w64 moment.0) ++ to_be_bytes w32 moment.1

-- The GUID that was asked for; where none was, that of the moment at which the clock stands, where it tells it.
abbrev pub IsGuid : Option (List ℕ) → Option (ℤ × ℕ) → List ℕ → Type 0
IsGuid (Some asked) told guid = guid ≡ asked
IsGuid None told guid = IfSome told (λ moment. guid ≡ guid_at moment)

-- What a server tells of itself whose listener is bound at this port.
pub record IsSetup (asked : Listening) (told : Option (ℤ × ℕ)) (port : ℕ) (setup : Setup) : Type 0 where
  pub guid_is : IsGuid asked.guid told setup.guid
  pub port_is : setup.port ≡ port
  pub order_is : setup.order ≡ asked.order

-- where searches come to: the address of the listener, and a port of their own
abbrev pub searches_at : Listening → Peer
searches_at asked = record { address = asked.at.address; port = asked.udp }
