use Rattle.std.proofs.Common.{◌≡◌, ◌∷◌, ◌++◌, ◌-◌, [], suc, map, false, drop, get_or, ap, sym, ◌∙◌, arith, rules}
use Rattle.std.proofs.lemmas.List.{map-append, append-nil, get_or_default, drop_all}
use Rattle.pvd_type.specs.Check.{contains}
use Rattle.pvd_type.specs.View.{member_view, names_of, fields_of}
use Rattle.pvd_type.specs.declared.shape.Member.{Member}
use Rattle.cli_session.specs.Seen.{path_seen, paths_seen}
use Rattle.cli_session.specs.Structures.{members_by, first_name, chosen}
use Rattle.cli_session.proofs.Building.{head_of, child, named_first, level_is}
use Rattle.cli_session.proofs.structures.+chosen.Goals as goal

pub chosen-loop-path-preserved : goal.chosen-loop-path-preserved
chosen-loop-path-preserved t c =
    let paths = c.args.paths.now in
    let i = c.loop-path.path-index in
    let p = get_or paths i (record { ref_ptr = (0, 0); now = [] }) in
    let name = c.in_ok-name.name in
    let members = c.loop-path.members.items in
    let m = c.in_ok-chosen_member.field-0 in
    let added = (c.in_ok-push.ensures {u = tt}).items in
    let below = child (c.args.depth - 1) (paths_seen paths) in
    let here : get_or paths i p ≡ p = get_or_default paths i p _ c.loop-path-test.true in
    let named : head_of path_seen p ≡ name = ap first_name c.split_path.ensures ∙ sym (c.in_ok-name.ensures {u = tt}) in
    let fresh : contains name (names_of members) ≡ false = search rules in
    let after : map member_view c.push.new.self.items ≡ map member_view members ++ (name, below name) ∷ [] =
    ap (map member_view) added ∙ map-append member_view members (m ∷ []) ∙ ap (λ x. map member_view members ++ x ∷ []) (c.in_ok-chosen_member.ensures {u = tt}).member in
    let known : names_of c.push.new.self.items ≡ names_of members ++ name ∷ [] =
    ap names_of added ∙ map-append (λ (x : Member). x.name) members (m ∷ []) ∙ ap (λ x. names_of members ++ x ∷ []) (c.in_ok-chosen_member.ensures {u = tt}).name in
    named_first path_seen below paths i p name (map member_view members) (names_of members) c.loop-path-test.true here named (members_by below [] (map (head_of path_seen) paths)) c.loop-path.invariant
    (map member_view c.push.new.self.items) (names_of c.push.new.self.items) fresh after known

pub chosen-returns : goal.chosen-returns
chosen-returns t c =
    let paths = c.args.paths.now in
    let members = c.loop-path.members.items in
    let below = child (c.args.depth - 1) (paths_seen paths) in
    let deeper : suc (c.args.depth - 1) ≡ c.args.depth = omega arith in
    let none : drop c.loop-path.path-index paths ≡ [] = drop_all c.loop-path.path-index paths c.loop-path-test.false in
    ap fields_of
    (sym (append-nil (map member_view members)) ∙ ap (λ r. map member_view members ++ members_by below (names_of members) (map (head_of path_seen) r)) (sym none)
    ∙ c.loop-path.invariant)
    ∙ level_is path_seen (c.args.depth - 1) paths ∙ ap (λ n. chosen n (paths_seen paths)) deeper
