-- What the words of the command line say of the network.
use Rattle.std.specs.Prelude.{◌≡◌, ℕ, ◌==◌, List, [], ◌∷◌, length, get_or, Option, None, Some}
use Rattle.std.specs.List.{slice_split}
use Rattle.pva_outside.specs.declared.peer.Peer.{Peer}
use Rattle.prog_source.specs.Words.{IsCount, IsCountOr}
use Rattle.prog_client.specs.declared.networking.Route.{Route}
use Rattle.prog_client.specs.declared.networking.Route.TheVariants.{Known, Sought}

-- an IPv4 address, as IPv6 maps it (RFC 4291, section 2.5.5.2)
abbrev pub ipv4 : ℕ → ℕ → ℕ → ℕ → List ℕ
ipv4 a b c d =
    0 ∷ 0 ∷ 0 ∷ 0 ∷ 0 ∷ 0 ∷ 0 ∷ 0 ∷ 0 ∷ 0 ∷ 255 ∷ 255 ∷ a ∷ b ∷ c ∷ d ∷ []

-- Four numbers of 0 to 255 name an address.
pub record IsIpv4 (first second third fourth : List ℕ) (address : List ℕ) : Type 0 where
  pub a : ℕ
  pub b : ℕ
  pub c : ℕ
  pub d : ℕ
  pub a_is : IsCount first 0 255 a
  pub b_is : IsCount second 0 255 b
  pub c_is : IsCount third 0 255 c
  pub d_is : IsCount fourth 0 255 d
  pub address_is : address ≡ ipv4 a b c d

pub record IsHost (parts : List (List ℕ)) (address : List ℕ) : Type 0 where
  pub four : length parts ≡ 4
  pub each : IsIpv4 (get_or parts 0 []) (get_or parts 1 []) (get_or parts 2 []) (get_or parts 3 []) address

-- what stands between the colons of a text, and between its dots

abbrev pub colon_parts : List ℕ → List (List ℕ)
colon_parts text = slice_split (λ c. c == 58) text

abbrev pub dot_parts : List ℕ → List (List ℕ)
dot_parts text = slice_split (λ c. c == 46) text

-- Two texts of the forms A.B.C.D and PORT name this address and port.
pub record AreEnds (host port : List ℕ) (peer : Peer) : Type 0 where
  pub host_is : IsHost (dot_parts host) peer.address
  pub port_is : IsCount port 0 65535 peer.port

-- A text of the form A.B.C.D:PORT names them.
pub record IsAddress (text : List ℕ) (peer : Peer) : Type 0 where
  pub two : length (colon_parts text) ≡ 2
  pub ends : AreEnds (get_or (colon_parts text) 0 []) (get_or (colon_parts text) 1 []) peer

abbrev pub IsAddressOr : Option (List ℕ) → Peer → Peer → Type 0
IsAddressOr None otherwise peer = peer ≡ otherwise
IsAddressOr (Some text) otherwise peer = IsAddress text peer

-- where searches go unless the words say otherwise: this machine, at the port of searches (pvAccess Protocol
-- Specification, "Channel Discovery")
abbrev pub this_machine : Peer
this_machine = record { address = ipv4 127 0 0 1; port = 5076 }

-- A server that is named isn't searched for.
abbrev pub IsRoute : Option (List ℕ) → Peer → ℕ → Route → Type 0
IsRoute None to rounds route = route ≡ Sought to rounds
IsRoute (Some text) to rounds route = (server : Peer) × IsAddress text server × (route ≡ Known server)

-- The options for the server, for where searches go and for their rounds ask for this route. Each is of its form, also
-- where it has no effect.
pub record RouteIs (server search rounds : Option (List ℕ)) (route : Route) : Type 0 where
  pub to : Peer
  pub count : ℕ
  pub to_is : IsAddressOr search this_machine to
  pub count_is : IsCountOr rounds 1 2147483647 3 count
  pub route_is : IsRoute server to count route
