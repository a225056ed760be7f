use Rattle.std.proofs.Common.{◌≡◌, drop}
use Rattle.std.specs.Option.{option_or, option_copied}
use Rattle.rec_kinds.specs.Given.{text_of}
use Rattle.db_links.proofs.fields.last_text.Given as goal

abbrev pub invariant-loop-field : goal.invariant-loop-field
invariant-loop-field l = option_or (text_of (drop l.field-index l.fields) l.name) (option_copied l.last) ≡ text_of l.fields l.name
