-- What a finder knows, and how it goes on.
use Rattle.std.specs.Prelude.{◌≡◌, ◌<◌, ◌≤◌, ℕ, suc, ◌+◌, ◌-◌, ◌%◌, ◌^◌, Bool, true, false, ◌&&◌, ◌==◌, nat_lt, if◌then◌else◌, List, [], ◌∷◌, ◌++◌, length, map, replicate, get_or, Option, Some, None, is_none, Result, Ok, Err}
use Rattle.std.specs.List.{filter, list_any, range_with_len}
use Rattle.pva_wire.specs.declared.order.Order.TheVariants.{Little}
use Rattle.pva_wire.specs.declared.order.Order.{Order}
use Rattle.pva_outside.specs.declared.peer.Peer.{Peer}
use Rattle.pva_search.specs.Messages.{Search, Response, search_bytes, tcp, zero_address}
use Rattle.pva_search.specs.Answers.{is_zero}

pub record Finding : Type 0 where
  -- the names that are searched; the number of a name is its position
  pub names : List (List ℕ)
  -- the server of each, once it is found
  pub servers : List (Option Peer)
  -- the names before this position have had their turn in this round
  pub next : ℕ
  -- the number of the next datagram
  pub sequence : ℕ
  -- how many rounds are still to come
  pub rounds : ℕ

-- the server of a name; none for a number that is no position
abbrev pub server_at : List (Option Peer) → ℕ → Option Peer
server_at servers i = get_or servers i None

-- whether a number is that of a name which isn't found
abbrev pub is_open : List (Option Peer) → ℕ → Bool
is_open servers i = nat_lt i (length servers) && is_none (server_at servers i)

-- the open names among n, from a position on
abbrev pub open_in : List (Option Peer) → ℕ → ℕ → List ℕ
open_in servers from n = filter (is_open servers) (range_with_len from n)

-- the names that are open and haven't been asked in this round, in order
abbrev pub unasked : Finding → List ℕ
unasked f = open_in f.servers f.next (length f.names - f.next)

-- the most bytes of a datagram
abbrev pub most : ℕ
most = 1400

-- the greatest length of a name
abbrev pub longest : ℕ
longest = 200

pub record IsFinding (f : Finding) : Type 0 where
  pub some : 1 ≤ length f.names
  pub few : length f.names ≤ 64
  pub short : (i : ℕ) → length (get_or f.names i []) ≤ longest
  pub each : length f.servers ≡ length f.names
  pub within : f.next ≤ length f.names

-- the state at the start: nothing is found, and no name was asked
abbrev pub opening : List (List ℕ) → ℕ → Finding
opening names rounds =
    record { names = names; servers = replicate (length names) None; next = 0; sequence = 0; rounds = rounds - 1 }

-- names with their numbers
abbrev pub channels_of : List (List ℕ) → List ℕ → List (ℕ × List ℕ)
channels_of names numbers = map (λ i. (i, get_or names i [])) numbers

-- The search for these names: it asks no server to answer that knows none of them, and servers to answer to this port.
abbrev pub asks_for : ℕ → ℕ → List (ℕ × List ℕ) → Search
asks_for sequence port channels =
    record {
      head = record { sequence = sequence; flags = 128; address = zero_address; port = port };
      protocols = tcp ∷ [];
      channels = channels;
    }

abbrev pub ask_bytes : Finding → ℕ → List ℕ → List ℕ
ask_bytes f port numbers = search_bytes Little (asks_for f.sequence port (channels_of f.names numbers))

-- one name more would be too long for a datagram
abbrev pub IsFull : Finding → ℕ → List ℕ → List ℕ → Type 0
IsFull f port taken [] = Unit {0}
IsFull f port taken (i ∷ others) = most < length (ask_bytes f port (taken ++ i ∷ []))

-- A datagram asks for the first of the names that are open and unasked: at least one, and as many as it takes.
pub record Asked (old new : Finding) (port : ℕ) (written : List ℕ) : Type 0 where
  pub taken : List ℕ
  pub others : List ℕ
  pub divided : unasked old ≡ taken ++ others
  pub some : 0 < length taken
  pub spelled : written ≡ ask_bytes old port taken
  pub fits : length (ask_bytes old port taken) ≤ most
  pub full : IsFull old port taken others
  -- the others are still unasked, and nothing else has changed but the number of datagrams
  pub left : unasked new ≡ others
  pub kept : new ≡ record old { next = new.next; sequence = (old.sequence + 1) % 2 ^ 32 }

-- What a call of ask gave: None exactly where every open name was asked in this round.
abbrev pub Asks : {E X : Type 0} → (X → List ℕ) → Finding → Finding → ℕ → Result (Option X) E → Type 0
Asks view old new port (Ok (Some x)) = Asked old new port (view x)
Asks view old new port (Ok None) = (unasked old ≡ []) × (new ≡ old)
Asks view old new port (Err e) = (0 < length (unasked old)) × (new ≡ old)

-- a server, where the name is among those of a response and isn't found
abbrev pub given : Bool → Peer → Option Peer → Option Peer
given true server None = Some server
given named server s = s

-- the servers from a position on, after a response that names these
abbrev pub given_from : ℕ → List ℕ → Peer → List (Option Peer) → List (Option Peer)
given_from i named server [] = []
given_from i named server (s ∷ servers) =
    given (list_any (λ j. j == i) named) server s ∷ given_from (suc i) named server servers

-- the server that a response tells: its address, or the sender's where that is zero, and its port
abbrev pub server_of : Peer → Response → Peer
server_of from r = record { address = if is_zero r.address then from.address else r.address; port = r.port }

-- whether a response tells anything new
abbrev pub tells : Finding → Response → Bool
tells f r = r.found && list_any (is_open f.servers) r.instances

-- the state after a response
abbrev pub heard : Finding → Peer → Response → Finding
heard f from r = if r.found then record f { servers = given_from 0 r.instances (server_of from r) f.servers } else f

-- What hearing a datagram tells and changes.
abbrev pub Hears : Finding → Finding → Peer → Bool → Option (Order × Response) → Type 0
Hears old new from result None = (result ≡ false) × (new ≡ old)
Hears old new from result (Some r) = (result ≡ tells old r.1) × (new ≡ heard old from r.1)

-- The next round, where there is one.
abbrev pub turned : Finding → Finding
turned f = if f.rounds == 0 then f else record f { next = 0; rounds = f.rounds - 1 }
