-- What a server answers a search with.
use Rattle.std.specs.Prelude.{◌≡◌, ℕ, Bool, not, ◌&&◌, ◌||◌, ◌==◌, if◌then◌else◌, List, [], ◌∷◌, length, map, take, bit_and, Option, Some, None, option_map, IsSome, Result, Ok, Err}
use Rattle.std.specs.List.{filter, list_any}
use Rattle.std.specs.Str.{IsUtf8, bytes_eq}
use Rattle.std.specs.Fn.{FnReturnsAt}
use denote.Param.Members.{Shared}
use denote.Ref.{Bor}
use Rattle.pva_wire.specs.declared.order.Order.{Order}
use Rattle.pva_outside.specs.declared.peer.Peer.{Peer}
use Rattle.pva_search.specs.Messages.{Search, Response, response_bytes, tcp, zero_address}
use Rattle.pva_search.specs.Reading.{search_in}
use Rattle.pva_search.specs.declared.setup.Setup.{Setup}

-- the IPv4 address 0.0.0.0, as IPv6 maps it
abbrev pub no_ipv4_address : List ℕ
no_ipv4_address = 0 ∷ 0 ∷ 0 ∷ 0 ∷ 0 ∷ 0 ∷ 0 ∷ 0 ∷ 0 ∷ 0 ∷ 255 ∷ 255 ∷ 0 ∷ 0 ∷ 0 ∷ 0 ∷ []

-- zero, of IPv6 or of IPv4, which stands for the sender's address
abbrev pub is_zero : List ℕ → Bool
is_zero address = bytes_eq address zero_address || bytes_eq address no_ipv4_address

-- an IPv4 address, as IPv6 maps it: ten bytes of zero, and two of 255 (RFC 4291, section 2.5.5.2)
abbrev pub is_mapped : List ℕ → Bool
is_mapped address = bytes_eq (0 ∷ 0 ∷ 0 ∷ 0 ∷ 0 ∷ 0 ∷ 0 ∷ 0 ∷ 0 ∷ 0 ∷ 255 ∷ 255 ∷ []) (take 12 address)

-- nothing stands in a list
abbrev pub is_empty : {A : Type 0} → List A → Bool
is_empty xs = length xs == 0

-- whether the searcher speaks TCP: it says so, or names no protocol
abbrev pub names_tcp : List (List ℕ) → Bool
names_tcp protocols = list_any (λ t. bytes_eq t tcp) protocols

abbrev pub speaks_tcp : List (List ℕ) → Bool
speaks_tcp protocols = is_empty protocols || names_tcp protocols

-- whether a response is wanted also where no name is known
abbrev pub is_required : ℕ → Bool
is_required flags = bit_and flags 1 == 1

-- the numbers of the channels whose names are known, in order
abbrev pub known_of : (List ℕ → Bool) → List (ℕ × List ℕ) → List ℕ
known_of known channels = map (λ c. c.0) (filter (λ c. known c.1) channels)

-- the response of this server, with these channels
abbrev pub response_of : Setup → ℕ → List ℕ → Response
response_of setup sequence found =
    record {
      guid = setup.guid;
      sequence = sequence;
      address = zero_address;
      port = setup.port;
      protocol = tcp;
      found = not (is_empty found);
      instances = found;
    }

-- where it goes: to the address and the port that the search gives, or the sender's where it gives none
abbrev pub goes_to : Peer → Search → Peer
goes_to from s =
    record {
      address = if is_zero s.head.address then from.address else s.head.address;
      port = if s.head.port == 0 then from.port else s.head.port;
    }

-- whether a server may answer a search: where the response can go, and over what it serves
abbrev pub is_for : Search → Bool
is_for s = (is_zero s.head.address || is_mapped s.head.address) && speaks_tcp s.protocols

-- whether a response is wanted: some names are known, or it is wanted in any case
abbrev pub is_wanted : ℕ → List ℕ → Bool
is_wanted flags found = not (is_empty found) || is_required flags

-- the response to a search where these channels are known, in the order of the search, and where it goes
abbrev pub reply_to : Setup → Peer → Order → Search → List ℕ → Option (List ℕ × Peer)
reply_to setup from order s found =
    if is_for s && is_wanted s.head.flags found
    then Some (response_bytes order (response_of setup s.head.sequence found), goes_to from s)
    else None

-- the answer to a datagram, where these names are known
abbrev pub answer_to : (List ℕ → Bool) → Setup → Peer → Option (Order × Search) → Option (List ℕ × Peer)
answer_to known setup from None = None
answer_to known setup from (Some s) = reply_to setup from s.0 s.1 (known_of known s.1.channels)

abbrev pub answer_of : (List ℕ → Bool) → Setup → Peer → List ℕ → Option (List ℕ × Peer)
answer_of known setup from datagram = answer_to known setup from (search_in datagram)

-- the most bytes of a UDP datagram over IPv4 (RFC 768, RFC 791)
abbrev pub udp_most : ℕ
udp_most = 65507

-- each call of f at a text answers what this test says of the text
abbrev pub Tells : {F : Type 0} → Shared F (Bor (List ℕ) × Unit {0}) Bool → F → (List ℕ → Bool) → Type 0
Tells g f test = (text : List ℕ) (r : Bool) → IsUtf8 text → FnReturnsAt g f text r → r ≡ test text

-- What a call gave, seen by view, is this. Memory is taken only where it is something.
abbrev pub Gave : {X Y E : Type 0} → (X → Y) → Result (Option X) E → Option Y → Type 0
Gave view (Ok x) y = option_map view x ≡ y
Gave view (Err e) y = IsSome y
