use Rattle.std.proofs.Common.{◌≡◌, ◌∙◌, ap, sym, cond, true, false, Some, List, ℕ}
use Rattle.std.specs.Str.{bytes_eq}
use Rattle.std.proofs.lemmas.Map.Text.{btree_map_updates_str}
use Rattle.pvd_type.specs.View.{shape_view}
use Rattle.pvd_request.specs.Selection.{is_options}
use Rattle.pvd_request.specs.Said.{said_in}
use Rattle.pvd_request.proofs.Naming.{passed_over, looked_at, map_chosen}
use Rattle.pvd_request.proofs.said.add.Goals as goal

pub returns-then-is_options : goal.returns-then-is_options
returns-then-is_options c = λ name.
    let m = c.args.member.now in
    let options : is_options m.name ≡ true = sym c.is_options.ensures ∙ c.if-is_options.true in
    passed_over (bytes_eq m.name name) (is_options m.name) (Some (shape_view m.shape)) (said_in c.args.said.now name) options

pub returns : goal.returns
returns c = λ name.
    let m = c.args.member.now in
    let old = said_in c.args.said.now name in
    let other : is_options m.name ≡ false = sym c.is_options.ensures ∙ c.if-is_options.false in
    let updates = btree_map_updates_str c.as_str.result.now c.args.said.now c.insert.new.self _ c.in_ok-insert.ensures.updates name in
    map_chosen (bytes_eq c.as_str.result.now name) _ _ _ updates
    ∙ ap (λ (bs : List ℕ). cond (bytes_eq bs name) (Some (shape_view m.shape)) old) c.as_str.ensures.text
    ∙ looked_at (bytes_eq m.name name) (is_options m.name) (Some (shape_view m.shape)) old other
