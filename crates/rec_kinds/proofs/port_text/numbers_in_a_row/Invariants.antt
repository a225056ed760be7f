use Rattle.std.proofs.Common.{◌≡◌, take, map, string_bytes}
use Rattle.std.specs.Fmt.{signed_decimal}
use Rattle.rec_kinds.specs.Texts.{with_spaces}
use Rattle.rec_kinds.proofs.port_text.numbers_in_a_row.Given as goal

abbrev pub invariant-loop-place : goal.invariant-loop-place
invariant-loop-place l = string_bytes l.text ≡ with_spaces (map signed_decimal (take l.place l.numbers))
