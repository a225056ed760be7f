-- What is known of datagrams in memory.
use Rattle.std.specs.Prelude.{◌≡◌, ◌⊎◌, ℕ, List, [], ◌∷◌, length, take, map, min, Option, None, Some}
use Rattle.pva_outside.specs.MemoryBindings.{memory_bindings, no_bindings}
use Rattle.pva_outside.specs.Told.{and_one}
use Rattle.pva_outside.specs.Traffic.{DatagramsView, Traffic, Got, Nothing, Tried}
use Rattle.pva_outside.specs.declared.datagrams.DatagramStep.{DatagramStep}
use Rattle.pva_outside.specs.declared.datagrams.DatagramStep.TheVariants as receives
use Rattle.pva_outside.specs.declared.memory_calls.MemoryCalls.{MemoryCalls}
use Rattle.pva_outside.specs.declared.memory_datagrams.Datagram.{Datagram}
use Rattle.pva_outside.specs.declared.memory_datagrams.MemoryDatagrams.{MemoryDatagrams}
use Rattle.pva_outside.specs.declared.memory_datagrams.MemoryTraffic.{MemoryTraffic}
use Rattle.pva_outside.specs.declared.memory_datagrams.MemoryTraffic.TheVariants as kept
use Rattle.pva_outside.specs.declared.peer.Peer.{Peer}

abbrev pub traffic_of : MemoryTraffic → Traffic
traffic_of (kept.Got bytes from) = Got bytes.items from
traffic_of kept.Nothing = Nothing
traffic_of (kept.Tried bytes to) = Tried bytes.items to

abbrev pub memory_datagrams : MemoryDatagrams → DatagramsView
memory_datagrams d = record {
  faults = d.faults;
  idles = d.idles;
  bindings = Some (memory_bindings d.bindings);
  traffic = Some (map traffic_of d.traffic.items);
}

-- before the first call
abbrev pub new_datagrams : DatagramsView
new_datagrams = record { faults = 0; idles = 0; bindings = Some no_bindings; traffic = Some [] }

-- the same, with one receive or send more
abbrev pub and_traffic : DatagramsView → Traffic → DatagramsView
and_traffic old one = record old { traffic = and_one old.traffic one }

-- what the next receives meet
abbrev pub datagrams_coming : MemoryDatagrams → List (Option Datagram)
datagrams_coming d = d.coming.items

abbrev pub datagrams_calls : MemoryDatagrams → MemoryCalls
datagrams_calls d = d.calls

-- The buffer begins with as much of the datagram as it holds.
pub record IsCopied (datagram : Datagram) (n : ℕ) (from : Peer) (buffer : List ℕ) : Type 0 where
  pub all : n ≡ min (length datagram.bytes.items) (length buffer)
  pub bytes : take n buffer ≡ take n datagram.bytes.items
  pub from_is : from ≡ datagram.from

-- A receive that has memory and doesn't fail meets the first of what comes.
abbrev pub IsMet : List (Option Datagram) → List (Option Datagram) → DatagramStep → List ℕ → Type 0
IsMet coming after (receives.Got n from) buffer =
    (datagram : Datagram) × (coming ≡ Some datagram ∷ after) × IsCopied datagram n from buffer
IsMet coming after receives.Idle buffer = (coming ≡ None ∷ after) ⊎ ((coming ≡ []) × (after ≡ []))
IsMet coming after receives.Failed buffer = after ≡ coming
IsMet coming after receives.NoMemory buffer = after ≡ coming
