use Rattle.std.proofs.Common.{◌≡◌, false, map, drop, ◌++◌}
use Rattle.std.specs.List.{flat_map, list_any}
use Rattle.cli_session.specs.Seen.{path_seen, paths_seen}
use Rattle.cli_session.specs.Structures.{behind, is_end}
use Rattle.cli_session.proofs.structures.below.Given as goal

abbrev pub invariant-loop-path : goal.invariant-loop-path
invariant-loop-path l = record {
  rest : paths_seen l.found.items ++ flat_map (behind l.name) (map path_seen (drop l.path-index l.paths)) ≡ flat_map (behind l.name) (map path_seen l.paths);
  go_on : list_any is_end (paths_seen l.found.items) ≡ false;
}
