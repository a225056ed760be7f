use Rattle.std.proofs.Common.{◌≡◌, ◌++◌, ◌+◌, ◌-◌, ◌*◌, [], map, drop}
use Rattle.pvd_type.specs.View.{member_view, names_of}
use Rattle.cli_session.specs.Seen.{path_seen, paths_seen}
use Rattle.cli_session.specs.Structures.{members_by}
use Rattle.cli_session.proofs.Building.{head_of, child}
use Rattle.cli_session.proofs.structures.+chosen.Given as goal

abbrev pub decreases-chosen : goal.decreases-chosen
decreases-chosen l = 2 * l.depth

abbrev pub decreases-chosen_member : goal.decreases-chosen_member
decreases-chosen_member l = 2 * l.depth + 1

abbrev pub invariant-chosen-loop-path : goal.invariant-chosen-loop-path
invariant-chosen-loop-path l =
    map member_view l.members.items ++ members_by (child (l.depth - 1) (paths_seen l.paths)) (names_of l.members.items) (map (head_of path_seen) (drop l.path-index l.paths))
    ≡ members_by (child (l.depth - 1) (paths_seen l.paths)) [] (map (head_of path_seen) l.paths)
