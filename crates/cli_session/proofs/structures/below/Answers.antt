use Rattle.std.proofs.Common.{◌≡◌, ◌∷◌, ◌++◌, [], map, true, get_or, ap, ◌∙◌}
use Rattle.std.proofs.lemmas.List.{map-append, get_or_default}
use Rattle.std.specs.Option.{option_copied}
use Rattle.std.specs.Str.{bytes_eq}
use Rattle.pvd_type.specs.Numbers.{path_of, path_after}
use Rattle.cli_session.specs.Seen.{path_seen, paths_seen}
use Rattle.cli_session.proofs.Building.{went_on, goes_on, path_has_a_name, not_not}
use Rattle.cli_session.proofs.structures.below.Goals as goal

pub loop-path-preserved : goal.loop-path-preserved
loop-path-preserved c =
    let name = c.args.name.now in
    let paths = c.args.paths.now in
    let i = c.loop-path.path-index in
    let p = get_or paths i c.args.name in
    let first = c.split_path.result.0.now in
    let rest = path_of c.in-Some.rest.now in
    let found = paths_seen c.loop-path.found.items in
    let first_is : path_seen p ≡ first ∷ path_after (option_copied c.split_path.result.1) =
    ap path_seen (get_or_default paths i c.args.name (record { ref_ptr = (0, 0); now = [] }) c.loop-path-test.true) ∙ c.split_path.ensures in
    let is : path_seen p ≡ first ∷ rest = first_is ∙ ap (λ o. first ∷ path_after (option_copied o)) c.in-Some.is in
    let here : get_or paths i p ≡ p = get_or_default paths i p c.args.name c.loop-path-test.true in
    let same : bytes_eq first name ≡ true = not_not (bytes_eq first name) c.if-ne.ensures in
    let more : paths_seen c.push.new.self.items ≡ found ++ rest ∷ [] = ap paths_seen (c.in_ok-push.ensures {u = tt}).items ∙ map-append path_seen c.loop-path.found.items (c.in-Some.rest ∷ []) in
    record {
      rest = went_on path_seen name paths i p found first rest c.loop-path-test.true here is same c.loop-path.invariant.rest (paths_seen c.push.new.self.items) more;
      go_on = goes_on path_seen name paths i p found first rest c.loop-path-test.true here is same c.loop-path.invariant.rest (paths_seen c.push.new.self.items) more c.loop-path.invariant.go_on (path_has_a_name c.in-Some.rest.now);
    }
