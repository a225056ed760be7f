use Rattle.std.proofs.Common.{◌≡◌, drop, map, string_bytes}
use Rattle.std.specs.List.{fold}
use Rattle.acf_rules.specs.Forms.{with_name, once}
use Rattle.acf_rules.proofs.groups.set_of.Given as goal

abbrev pub invariant-loop-name : goal.invariant-loop-name
invariant-loop-name l = fold with_name (map string_bytes l.set.keys) (drop l.name-index l.names) ≡ once l.names
