use Rattle.std.proofs.Common.{◌≡◌, ◌-◌, suc, length, ◌++◌, ◌∷◌, [], ◌∙◌, sym, ap, arith, rules}
use Rattle.std.specs.Prelude.{set}
use Rattle.std.proofs.lemmas.List.{length-append}
use Rattle.pvd_type.specs.Tree.{Tree}
use Rattle.pvd_type.specs.View.{shape_view, members_view}
use Rattle.pvd_type.specs.Numbers.{numbered, numbered_fields, sizes_of}
use Rattle.pvd_type.specs.declared.shape.Node.{out-Node}
use Rattle.pvd_type.proofs.At.{lone_size}
use Rattle.pvd_type.proofs.Shapes.{unentered}
use Rattle.pvd_type.proofs.Walks.{struct_is}
use Rattle.pvd_type.proofs.Sizes.{length-sizes_of, size_set}
use Rattle.pvd_type.proofs.pv_type.+measure.Goals as goal

pub measure-returns-in_ok-measure_members : goal.measure-returns-in_ok-measure_members
measure-returns-in_ok-measure_members t c =
    let old = c.args.sizes.now.items in
    let inside = numbered_fields (members_view (out-Node c.in-Struct.node.value).members.items) in
    let new = c.measure_members.new.sizes.items in
    let place : c.len-place.result ≡ length old = search rules in
    let made : new ≡ (old ++ 1 ∷ []) ++ sizes_of inside = search rules in
    let size : c.len.result - c.len-place.result ≡ suc (length inside) =
    omega (arith, place, ap length made, length-append (old ++ 1 ∷ []) (sizes_of inside), length-append old (1 ∷ []), length-sizes_of inside, c.len.ensures) in
    let is = ap shape_view c.in-Struct.is ∙ struct_is c.in-Struct.node in
    (λ i. set (made i) (place i) (size i)) ∙ size_set old (sizes_of inside) 1 (suc (length inside)) ∙ ap (λ (x : Tree). old ++ sizes_of (numbered x)) (sym is)

pub measure-returns-in_default : goal.measure-returns-in_default
measure-returns-in_default t c =
    c.in_ok-push.ensures.items
    ∙ ap (λ xs. c.args.sizes.now.items ++ xs) (sym (lone_size (shape_view c.args.shape.now) (unentered c.args.shape.now c.in_default.not-Struct)))
