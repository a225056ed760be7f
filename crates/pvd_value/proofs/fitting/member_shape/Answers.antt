use Rattle.std.proofs.Common.{◌∙◌, sym, ap, Some}
use Rattle.pvd_type.specs.declared.shape.Member.{Member}
use Rattle.pvd_type.specs.View.{shape_view}
use Rattle.pvd_value.proofs.Rows.{member_within, member_past}
use Rattle.pvd_value.proofs.fitting.member_shape.Goals as goal

pub returns-in-Some : goal.returns-in-Some
returns-in-Some c =
    let ms = c.args.members.now in
    let m = c.in-Some.member.now in
    let got = c.in-Some.ensures.lookup.3 in
    ap (λ (x : Member). Some (shape_view x.shape)) (got.1 m) ∙ sym (member_within ms c.args.place m got.0)

pub returns-in-None : goal.returns-in-None
returns-in-None c = sym (member_past c.args.members.now c.args.place c.in-None.ensures.lookup.3)
