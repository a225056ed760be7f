-- Addresses in words, of the form A.B.C.D:PORT.
use Rattle.std.specs.Prelude.{◌≡◌, ◌⊎◌, ℕ, ◌≤◌, List, [], ◌∷◌, ◌++◌}
use Rattle.std.specs.Fmt.{decimal}
use Rattle.pva_outside.specs.declared.peer.Peer.{Peer}

-- an IPv4 address, as IPv6 maps it (RFC 4291, section 2.5.5.2)
abbrev pub ipv4 : ℕ → ℕ → ℕ → ℕ → List ℕ
ipv4 a b c d =
    0 ∷ 0 ∷ 0 ∷ 0 ∷ 0 ∷ 0 ∷ 0 ∷ 0 ∷ 0 ∷ 0 ∷ 255 ∷ 255 ∷ a ∷ b ∷ c ∷ d ∷ []

-- the text of an address and a port: four numbers with dots between them, a colon, and the port. All are in decimal
-- digits, without a sign or a zero in front.
abbrev pub address_text : ℕ → ℕ → ℕ → ℕ → ℕ → List ℕ
address_text a b c d port =
    decimal a ++ 46 ∷ (decimal b ++ 46 ∷ (decimal c ++ 46 ∷ (decimal d ++ 58 ∷ decimal port)))

-- The text names this address and port.
pub record IsAddress (text : List ℕ) (peer : Peer) : Type 0 where
  pub a : ℕ
  pub b : ℕ
  pub c : ℕ
  pub d : ℕ
  pub a_few : a ≤ 255
  pub b_few : b ≤ 255
  pub c_few : c ≤ 255
  pub d_few : d ≤ 255
  pub port_few : peer.port ≤ 65535
  pub text_is : text ≡ address_text a b c d peer.port
  pub address_is : peer.address ≡ ipv4 a b c d

-- a dot or a colon
abbrev pub IsMark : ℕ → Type 0
IsMark mark = (mark ≡ 46) ⊎ (mark ≡ 58)

-- A text begins with a number of 0 to 255 and this mark, and goes on so.
pub record BeginsWith (text : List ℕ) (mark number : ℕ) (rest : List ℕ) : Type 0 where
  pub few : number ≤ 255
  pub text_is : text ≡ decimal number ++ mark ∷ rest
