use Rattle.std.proofs.Common.{◌≡◌, ◌+◌, length, get_or, drop, ◌∙◌, sym, ap, arith, rules, refl, false}
use Rattle.std.proofs.lemmas.List.{length-append, length-drop}
use Rattle.pvd_type.specs.View.{shape_view, members_view}
use Rattle.std.specs.Str.{bytes_eq}
use Rattle.std.specs.Option.{option_copied}
use Rattle.pvd_type.specs.Tree.{field}
use Rattle.pvd_type.specs.Numbers.{number_of, number_among, path_after, numbered, numbered_fields}
use Rattle.pvd_type.proofs.At.{pathless}
use Rattle.pvd_type.proofs.Shapes.{unentered}
use Rattle.pvd_type.proofs.Walks.{members_from}
use Rattle.pvd_type.proofs.Sizes.{measured_first}
use Rattle.pvd_type.proofs.pv_type.+find.Goals as goal

pub find_among-returns-in-None-clause-within : goal.find_among-returns-in-None-clause-within
find_among-returns-in-None-clause-within t c =
    let ms = c.args.members.now in
    let i = c.loop-member.member-index in
    let m = c.member-item.result in
    let here : get_or ms i m ≡ m = search rules in
    let rest = members_from ms i m c.loop-member-test.true here in
    let left = numbered_fields (members_view (drop (i + 1) ms)) in
    let total = rw rest at c.loop-member.invariant.total in
    let measures = measured_first c.loop-member.sizes.now (shape_view m.shape) left (rw rest at c.loop-member.invariant.measured) in
    omega (arith, total, length-append (numbered (shape_view m.shape)) left, measures.some_number)

pub find_among-overflow_add-number : goal.find_among-overflow_add-number
find_among-overflow_add-number t c =
    let ms = c.args.members.now in
    let i = c.loop-member.member-index in
    let m = c.member-item.result in
    let here : get_or ms i m ≡ m = search rules in
    let rest = members_from ms i m c.loop-member-test.true here in
    let left = numbered_fields (members_view (drop (i + 1) ms)) in
    let measures = measured_first c.loop-member.sizes.now (shape_view m.shape) left (rw rest at c.loop-member.invariant.measured) in
    omega (arith, measures.size, measures.within, c.split_size-size.ensures.size, c.loop-member.invariant.few)

pub find_among-loop-member-preserved : goal.find_among-loop-member-preserved
find_among-loop-member-preserved t c =
    let ms = c.args.members.now in
    let i = c.loop-member.member-index in
    let m = c.member-item.result in
    let here : get_or ms i m ≡ m = search rules in
    let rest = members_from ms i m c.loop-member-test.true here in
    let left = numbered_fields (members_view (drop (i + 1) ms)) in
    let sizes = c.loop-member.sizes.now in
    let measures = measured_first sizes (shape_view m.shape) left (rw rest at c.loop-member.invariant.measured) in
    let size : c.split_size-size.result.0 ≡ length (numbered (shape_view m.shape)) = c.split_size-size.ensures.size ∙ measures.size in
    let after : c.split_size-size.result.1.now ≡ drop (length (numbered (shape_view m.shape))) sizes = rw (c.split_size-size.ensures.after, measures.size) refl in
    let path = path_after (option_copied c.args.rest) in
    let other : bytes_eq c.args.name.now m.name ≡ false = search rules in
    let step : number_among c.loop-member.number c.args.name.now path (field m.name (shape_view m.shape) (members_view (drop (i + 1) ms))) ≡ number_among (c.loop-member.number + length (numbered (shape_view m.shape))) c.args.name.now path (members_view (drop (i + 1) ms)) = rw other refl in
    record {
      same = rw size (sym step ∙ (rw rest at c.loop-member.invariant.same));
      total = omega (arith, size, (rw rest at c.loop-member.invariant.total), length-append (numbered (shape_view m.shape)) left);
      measured = rw after measures.after;
      few = omega (arith, size, ap length after, length-drop (length (numbered (shape_view m.shape))) sizes, measures.within, c.loop-member.invariant.few);
    }

pub find-returns-in_default : goal.find-returns-in_default
find-returns-in_default t c = record {
  number = sym (ap (λ names. number_of names (shape_view c.args.shape.now)) c.split_path.ensures
      ∙ pathless (shape_view c.args.shape.now) c.split_path.result.0.now (path_after (option_copied c.split_path.result.1)) (unentered c.args.shape.now c.in_default.not-Struct));
  within = tt;
}
