use Rattle.std.proofs.Common.{◌≡◌, map, take}
use Rattle.pvd_type.specs.Numbers.{path_of}
use Rattle.cli_session.specs.Seen.{path_seen}
use Rattle.cli_session.proofs.structures.fields_of.Given as goal

abbrev pub invariant-loop-field : goal.invariant-loop-field
invariant-loop-field l = map path_seen l.paths.items ≡ map path_of (take l.field-index l.fields)
