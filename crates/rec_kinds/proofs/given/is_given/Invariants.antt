use Rattle.std.proofs.Common.{◌≡◌, drop}
use Rattle.std.specs.Option.{is_some}
use Rattle.rec_kinds.specs.Given.{text_of}
use Rattle.rec_kinds.proofs.given.is_given.Given as goal

abbrev pub invariant-loop-field : goal.invariant-loop-field
invariant-loop-field l = is_some (text_of (drop l.field-index l.fields) l.name) ≡ is_some (text_of l.fields l.name)
