use Rattle.std.proofs.Common.{◌≡◌, take, string_bytes}
use Rattle.rec_kinds.specs.Texts.{with_spaces}
use Rattle.rec_kinds.proofs.port_text.texts_in_a_row.Given as goal

abbrev pub invariant-loop-place : goal.invariant-loop-place
invariant-loop-place l = string_bytes l.text ≡ with_spaces (take l.place l.texts)
