use Rattle.std.proofs.Common.{◌≡◌, drop}
use Rattle.db_load.specs.Forms.{is_given}
use Rattle.db_load.proofs.records.is_given.Given as goal

abbrev pub invariant-loop-field : goal.invariant-loop-field
invariant-loop-field l = is_given l.name (drop l.field-index l.fields) ≡ is_given l.name l.fields
