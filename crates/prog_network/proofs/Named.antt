-- A text names one GUID.
use Rattle.std.proofs.Common.{◌≡◌, List, ℕ, Result, Ok, Err, sym, ◌∙◌, ap}
use Rattle.hex.specs.declared.error.FromHexError.{FromHexError}
use Rattle.prog_network.specs.Guids.{IsGuid}

ok_or : List ℕ → Result (List ℕ) FromHexError → List ℕ
ok_or other (Ok bytes) = bytes
ok_or other (Err e) = other

pub one_guid : (text a b : List ℕ) → IsGuid text a → IsGuid text b → a ≡ b
unfolding ok_or
one_guid text a b p q = ap (ok_or a) (sym p ∙ q)
