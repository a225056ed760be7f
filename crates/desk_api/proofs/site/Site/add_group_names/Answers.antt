use Rattle.std.specs.Prelude.{ℕ, List, ◌++◌, ◌∷◌, [], map, take}
use Rattle.std.proofs.Common.{sym, ◌∙◌, ap, append_assoc}
use Rattle.desk_api.proofs.Telling.{name_of, next_named}
use Rattle.desk_api.proofs.site.Site.add_group_names.Goals as goal

pub loop-number-preserved : goal.loop-number-preserved
loop-number-preserved c =
    let groups = c.args.self.now.groups in
    let old = c.args.names.now.items in
    let n = c.loop-number.number in
    let name = c.group_name.result.now in
    (c.in_ok-push.ensures {u = tt}).items ∙ (λ i. c.loop-number.invariant i ++ (c.in_ok-of.ensures {u = tt}) i ∷ [])
    ∙ append_assoc old (map name_of (take n groups)) (name ∷ [])
    ∙ ap (λ (l : List (List ℕ)). old ++ l) (sym (next_named groups n name c.group_name.ensures))
