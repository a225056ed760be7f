use Rattle.std.proofs.Common.{◌≡◌, ◌∙◌, ◌+◌, ◌-◌, ◌<◌, sym, ap, drop, length, get_or, nat_cmp, option_map, arith, rules}
use Rattle.std.proofs.Math.ListN.{drop_of_length-le}
use Rattle.std.specs.Cmp.Lexicographic.{slice_cmp}
use Rattle.std.specs.Map.{lookup}
use Rattle.std.specs.BTreeMap.{is_at}
use Rattle.pvd_type.specs.View.{shape_view, members_view}
use Rattle.pvd_request.specs.Selection.{said_of}
use Rattle.pvd_request.proofs.Naming.{said_from}
use Rattle.pvd_request.proofs.said.by_name.Goals as goal

pub loop-i-init : goal.loop-i-init
loop-i-init c = λ name.
    let ms = c.args.members.now in
    ap (λ es. option_map (λ s. shape_view s.now) (lookup (is_at (λ k. slice_cmp nat_cmp name k.now)) es)) c.new-said.ensures.empty
    ∙ ap (λ rest. said_of name (members_view rest)) (sym (drop_of_length-le ms (omega arith)))

pub loop-i-preserved : goal.loop-i-preserved
loop-i-preserved c = λ name.
    let ms = c.args.members.now in
    let i = c.loop-i.i - 1 in
    let m = c.index-members-i.result in
    let within : i < length ms = omega arith in
    let here : get_or ms i m ≡ m = search rules in
    let after : i + 1 ≡ c.loop-i.i = omega arith in
    c.in_ok-add.ensures name
    ∙ said_from ms i m name _ within here (c.loop-i.invariant name ∙ ap (λ k. said_of name (members_view (drop k ms))) (sym after))

pub returns : goal.returns
returns c = λ name.
    let none : c.loop-i.i ≡ 0 = omega arith in
    c.loop-i.invariant name ∙ ap (λ k. said_of name (members_view (drop k c.args.members.now))) none
