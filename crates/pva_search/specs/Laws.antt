-- What holds between datagrams and the messages that they are.
use Rattle.std.specs.Prelude.{◌≡◌, ◌<◌, ◌^◌, ◌==◌, ℕ, Bool, true, List, [], length, get_or, if◌then◌else◌, Some}
use Rattle.std.specs.List.{list_any}
use Rattle.std.specs.Str.{IsUtf8}
use Rattle.pva_wire.specs.declared.order.Order.{Order}
use Rattle.pva_wire.specs.declared.order.Order.TheVariants.{Little}
use Rattle.pva_wire.specs.Spelling.{IsBytes}
use Rattle.pva_outside.specs.declared.peer.Peer.{Peer}
use Rattle.pva_search.specs.declared.setup.Setup.{Setup}
use Rattle.pva_search.specs.Messages.{Search, Response, search_fields, response_fields, search_command, response_command}
use Rattle.pva_search.specs.Grammar.{IsSpelled}
use Rattle.pva_search.specs.Reading.{search_in, response_in}
use Rattle.pva_search.specs.Answers.{answer_of}
use Rattle.pva_search.specs.Finding.{Finding, IsFinding, Asked, tells, heard, server_at}

-- A datagram that spells a search, and maybe more after its items, is read as it.
abbrev pub SearchIsRead : Type 0
SearchIsRead = (datagram : List ℕ) (order : Order) (unused : List ℕ) (s : Search)
    → length unused ≡ 3 → length s.head.address ≡ 16
    → IsSpelled search_command datagram order (search_fields unused s) → search_in datagram ≡ Some (order, s)

-- A datagram that is read as a search spells it.
abbrev pub SearchIsSpelled : Type 0
SearchIsSpelled = (datagram : List ℕ) (order : Order) (s : Search) → IsBytes datagram
    → search_in datagram ≡ Some (order, s)
    → (unused : List ℕ) × (length unused ≡ 3) × (length s.head.address ≡ 16)
    × IsSpelled search_command datagram order (search_fields unused s)

-- The same of a response.
abbrev pub ResponseIsRead : Type 0
ResponseIsRead = (datagram : List ℕ) (order : Order) (r : Response) → length r.guid ≡ 12 → length r.address ≡ 16
    → IsSpelled response_command datagram order (response_fields r) → response_in datagram ≡ Some (order, r)

abbrev pub ResponseIsSpelled : Type 0
ResponseIsSpelled = (datagram : List ℕ) (order : Order) (r : Response) → IsBytes datagram
    → response_in datagram ≡ Some (order, r)
    → (length r.guid ≡ 12) × (length r.address ≡ 16) × IsSpelled response_command datagram order (response_fields r)

-- A server answers a datagram at the port that it asks for, and the finder that hears the answer has the server for the
-- name with this number.
pub record Finds (f : Finding) (written : List ℕ) (port i : ℕ) (setup : Setup) (client server : Peer)
    (known : List ℕ → Bool) : Type 0 where
  pub reply : List ℕ
  pub answered : answer_of known setup client written
      ≡ Some (reply, record { address = client.address; port = if port == 0 then client.port else port })
  pub response : Response
  pub heard_as : response_in reply ≡ Some (Little, response)
  pub new : tells f response ≡ true
  pub found : server_at (heard f server response).servers i
      ≡ Some (record { address = server.address; port = setup.port })

-- Every search that a finder writes is answered by each server that knows one of its names, and finds that server.
abbrev pub SearchFinds : Type 0
SearchFinds = (f after : Finding) (port : ℕ) (written : List ℕ) (asked : Asked f after port written)
    (i : ℕ) (setup : Setup) (client server : Peer) (known : List ℕ → Bool)
    → IsFinding f → f.sequence < 2 ^ 32 → port < 2 ^ 16 → ((j : ℕ) → IsUtf8 (get_or f.names j []))
    → length setup.guid ≡ 12 → setup.port < 2 ^ 16
    → list_any (λ j. j == i) asked.taken ≡ true → known (get_or f.names i []) ≡ true
    → Finds f written port i setup client server known
