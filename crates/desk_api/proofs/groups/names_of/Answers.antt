use Rattle.std.specs.Prelude.{◌≡◌, ℕ, List, ◌++◌, ◌∷◌, [], map, take, Some, slice_get, option_map}
use Rattle.std.proofs.Common.{sym, ◌∙◌, ap, subst, false}
use Rattle.std.proofs.lemmas.List.{take-map, map-append}
use Rattle.std.proofs.lemmas.Option.{slice_get-map}
use Rattle.group_view.specs.Groups.{GroupData}
use Rattle.desk_api.proofs.Naming.{distinct_before}
use Rattle.desk_api.proofs.Stating.{next_taken, there}
use Rattle.desk_api.specs.Grouping.{is_one_of}
use Rattle.desk_api.proofs.groups.names_of.Goals as goal

pub add_name-requires : goal.add_name-requires
add_name-requires c =
    let groups = c.args.groups.now in
    let i = c.loop-group.group-index in
    let at = there groups i c.group-item.result c.loop-group-test.true c.group-item.is in
    let name : slice_get (map (λ (g : GroupData). g.name) groups) i ≡ Some c.group-item.result.name = slice_get-map (λ (g : GroupData). g.name) groups i ∙ ap (option_map (λ (g : GroupData). g.name)) at in
    subst (λ (x : List (List ℕ) × List ℕ). is_one_of x.0 x.1 ≡ false)
    (λ j. ((take-map (λ (g : GroupData). g.name) i groups ∙ sym c.loop-group.invariant) j, sym c.name.ensures j))
    (distinct_before (map (λ (g : GroupData). g.name) groups) i c.group-item.result.name c.requires name)

pub loop-group-preserved : goal.loop-group-preserved
loop-group-preserved c =
    let groups = c.args.groups.now in
    let i = c.loop-group.group-index in
    let at = there groups i c.group-item.result c.loop-group-test.true c.group-item.is in
    (c.in_ok-add_name.ensures {u = tt})
    ∙ (λ j. c.loop-group.invariant j ++ c.name.ensures j ∷ [])
    ∙ sym (map-append (λ (g : GroupData). g.name) (take i groups) (c.group-item.result ∷ []))
    ∙ ap (map (λ (g : GroupData). g.name)) (sym (next_taken groups i c.group-item.result at))
