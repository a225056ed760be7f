-- What the steps of a finder do.
use Rattle.std.specs.Prelude.{◌≡◌, ◌<◌, ◌≤◌, ℕ, ◌+◌, ◌-◌, true, if◌then◌else◌, List, [], ◌∷◌, length, slice_set, Option, Some, get_or}
use Rattle.std.specs.List.{flat_map}
use Rattle.pva_wire.specs.declared.order.Order.TheVariants.{Little}
use Rattle.pva_outside.specs.declared.peer.Peer.{Peer}
use Rattle.pva_search.specs.Fields.{Field, byte, short, word, bytes, texts, canonical_channel}
use Rattle.pva_search.specs.Messages.{tcp, zero_address}
use Rattle.pva_search.specs.Finding.{is_open, open_in, channels_of, longest, most}
use Rattle.pva_search.specs.declared.finder.Taken.{Taken}

-- what a finder's fields tell
pub record CanTake (names : List (List ℕ)) (servers : List (Option Peer)) (next : ℕ) : Type 0 where
  pub few : length names ≤ 64
  pub short : (i : ℕ) → length (get_or names i []) ≤ longest
  pub each : length servers ≡ length names
  pub within : next ≤ length names

-- the items before the channels
abbrev pub asking_head : ℕ → ℕ → List Field
asking_head sequence port =
    word sequence ∷ byte 128 ∷ bytes (0 ∷ 0 ∷ 0 ∷ []) ∷ bytes zero_address ∷ short port ∷ texts (tcp ∷ []) ∷ []

-- what these names take in a datagram
abbrev pub channel_bytes : List (List ℕ) → List ℕ → List ℕ
channel_bytes names numbers = flat_map (canonical_channel Little) (channels_of names numbers)

-- what a datagram takes without its names
abbrev pub head_size : ℕ
head_size = 41

-- The open names up to a position, as many as a datagram takes.
pub record IsTaken (names : List (List ℕ)) (servers : List (Option Peer)) (next : ℕ) (taken : Taken) : Type 0 where
  pub from : next ≤ taken.end
  pub within : taken.end ≤ length names
  pub count : taken.count ≡ length (open_in servers next (taken.end - next))
  pub fits : head_size + length (channel_bytes names (open_in servers next (taken.end - next))) ≤ most
  pub open_at : taken.end < length names → is_open servers taken.end ≡ true
  pub full : taken.end < length names
      → most < head_size + length (channel_bytes names (open_in servers next (taken.end - next)))
      + 5 + length (get_or names taken.end [])

-- the servers after a number that is named
abbrev pub given_at : ℕ → Peer → List (Option Peer) → List (Option Peer)
given_at i server servers = if is_open servers i then slice_set servers i (Some server) else servers
