-- The messages that servers are found by, each as its list of items, and the datagrams that carry them (pvAccess
-- Protocol Specification, "searchRequest", "searchResponse" and "beacon").
use Rattle.std.specs.Prelude.{ℕ, Bool, true, false, List, [], ◌∷◌}
use Rattle.pva_wire.specs.declared.order.Order.{Order}
use Rattle.pva_frames.specs.Spelling.{frame_bytes}
use Rattle.pva_search.specs.Fields.{Field, byte, short, word, bytes, text, texts, instances, channels, canonical}
use Rattle.pva_search.specs.declared.setup.Setup.{Setup}
use Rattle.pva_search.specs.declared.search.Head.{Head}

-- A search begins with its head: a number that its response has too, flags (bit 0: a response is wanted also where no
-- name is known), the 16 bytes of the address that a response goes to (zero: the sender's), and the port there (0: the
-- sender's).
pub record Search : Type 0 where
  pub head : Head
  -- what the searcher speaks; none: everything
  pub protocols : List (List ℕ)
  -- the channels that are searched, each with a number that a response names it by
  pub channels : List (ℕ × List ℕ)

-- Three bytes of it mean nothing.
abbrev pub search_fields : List ℕ → Search → List Field
search_fields unused s =
    word s.head.sequence ∷ byte s.head.flags ∷ bytes unused ∷ bytes s.head.address ∷ short s.head.port
    ∷ texts s.protocols ∷ channels s.channels ∷ []

pub record Response : Type 0 where
  -- the 12 bytes that tell servers apart
  pub guid : List ℕ
  -- that of the search
  pub sequence : ℕ
  -- the 16 bytes of the server's address; zero: the sender's
  pub address : List ℕ
  pub port : ℕ
  pub protocol : List ℕ
  pub found : Bool
  -- the numbers of the channels that the server has
  pub instances : List ℕ

abbrev pub flag : Bool → ℕ
flag false = 0
flag true = 1

abbrev pub response_fields : Response → List Field
response_fields r =
    bytes r.guid ∷ word r.sequence ∷ bytes r.address ∷ short r.port ∷ text r.protocol ∷ byte (flag r.found)
    ∷ instances r.instances ∷ []

-- "tcp"
abbrev pub tcp : List ℕ
tcp = 116 ∷ 99 ∷ 112 ∷ []

-- the address that stands for the sender's
abbrev pub zero_address : List ℕ
zero_address = 0 ∷ 0 ∷ 0 ∷ 0 ∷ 0 ∷ 0 ∷ 0 ∷ 0 ∷ 0 ∷ 0 ∷ 0 ∷ 0 ∷ 0 ∷ 0 ∷ 0 ∷ 0 ∷ []

-- A beacon has flags that mean nothing, a count of the beacons and one of the changes of the server, and no server
-- status: the null description.
abbrev pub beacon_fields : Setup → ℕ → ℕ → List Field
beacon_fields setup sequence changes =
    bytes setup.guid ∷ byte 0 ∷ byte sequence ∷ short changes ∷ bytes zero_address ∷ short setup.port ∷ text tcp
    ∷ byte 255 ∷ []

abbrev pub beacon_command : ℕ
beacon_command = 0

abbrev pub search_command : ℕ
search_command = 3

abbrev pub response_command : ℕ
response_command = 4

-- One whole message, sent by a server or not.
abbrev pub datagram : Order → Bool → ℕ → List Field → List ℕ
datagram order server command fields = frame_bytes order server 0 command (canonical order fields)

abbrev pub search_bytes : Order → Search → List ℕ
search_bytes order s = datagram order false search_command (search_fields (0 ∷ 0 ∷ 0 ∷ []) s)

abbrev pub response_bytes : Order → Response → List ℕ
response_bytes order r = datagram order true response_command (response_fields r)

abbrev pub beacon_bytes : Setup → ℕ → ℕ → List ℕ
beacon_bytes setup sequence changes =
    datagram setup.order true beacon_command (beacon_fields setup sequence changes)
