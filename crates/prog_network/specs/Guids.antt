-- GUIDs in words: the 12 bytes that tell one server from all others (pvAccess Protocol Specification, "beacon").
use Rattle.std.specs.Prelude.{◌≡◌, List, ℕ, Ok}
use Rattle.hex.specs.Hex.{decode_sized}

-- The text is the 24 hexadecimal digits of these 12 bytes, of either case.
abbrev pub IsGuid : List ℕ → List ℕ → Type 0
IsGuid text guid = decode_sized text 12 ≡ Ok guid
