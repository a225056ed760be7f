use Rattle.std.proofs.Common.{◌≡◌, ◌∙◌, ◌+◌, ◌≤◌, ℕ, Bool, Option, List, ◌∷◌, sym, ap, fold, option_map, length, get_or, drop, rules, arith}
use Rattle.std.specs.FinSet as set
use Rattle.std.proofs.lemmas.List.{length-append}
use Rattle.pvd_type.specs.Tree.{Tree}
use Rattle.pvd_type.specs.View.{shape_view, members_view}
use Rattle.pvd_type.specs.Numbers.{numbered, numbered_fields}
use Rattle.pvd_type.proofs.Counts.{nodes_within}
use Rattle.pvd_type.proofs.Shapes.{unentered}
use Rattle.pvd_type.proofs.Sizes.{measured_first}
use Rattle.pvd_type.proofs.Walks.{members_from}
use Rattle.pvd_request.specs.Selection.{some_tree, selects, one_selects, leaves_where, leaves_among}
use Rattle.pvd_request.specs.Said.{said_in}
use Rattle.pvd_request.proofs.Paths.{unsaid, said_whole, nothing_below, leaves_from_member}
use Rattle.pvd_request.proofs.selecting.+select.Goals as goal

pub select-returns-in_default : goal.select-returns-in_default
select-returns-in_default t c =
    let said : Option Tree = option_map (λ s. shape_view s.now) c.args.said in
    ap (fold set.insert c.args.found.now) (sym (unsaid c.args.number (shape_view c.args.shape.now) said (ap (option_map (λ s. shape_view s.now)) c.in_default.is)))

pub select-returns : goal.select-returns
select-returns t c =
    let said : Option Tree = option_map (λ s. shape_view s.now) c.args.said in
    let r = shape_view c.in-Some.said.now in
    let fs = members_view c.members_in-said.result.now in
    c.in_ok-take_all.ensures.leaves
    ∙ ap (fold set.insert c.args.found.now) (said_whole c.args.number (shape_view c.args.shape.now) said r fs
    (ap (option_map (λ s. shape_view s.now)) c.in-Some.is) c.members_in-said.ensures (sym c.name_fields.ensures ∙ c.if-name_fields.false))

pub select_below-returns-in_default : goal.select_below-returns-in_default
select_below-returns-in_default t c =
    ap (fold set.insert c.args.found.now)
    (sym (nothing_below (members_view c.args.said.now) c.args.number (shape_view c.args.shape.now) (unentered c.args.shape.now c.in_default.not-Struct)))

pub select_among-select-requires : goal.select_among-select-requires
select_among-select-requires t c =
    let ms = c.args.members.now in
    let i = c.loop-member.member-index in
    let m = c.member-item.result in
    let here : get_or ms i m ≡ m = search rules in
    let rest = members_from ms i m c.loop-member-test.true here in
    let left = numbered_fields (members_view (drop (i + 1) ms)) in
    let measures = measured_first c.loop-member.sizes.now (shape_view m.shape) left (rw rest at c.loop-member.invariant.measured) in (
      omega (arith, nodes_within ms i m c.loop-member-test.true here, c.decreases),
      (
        measures.here,
        omega (arith, c.requires.few, (rw rest at c.loop-member.invariant.total), length-append (numbered (shape_view m.shape)) left),
      ),
    )

pub select_among-overflow_add-number : goal.select_among-overflow_add-number
select_among-overflow_add-number t c =
    let ms = c.args.members.now in
    let i = c.loop-member.member-index in
    let m = c.member-item.result in
    let here : get_or ms i m ≡ m = search rules in
    let rest = members_from ms i m c.loop-member-test.true here in
    let left = numbered_fields (members_view (drop (i + 1) ms)) in
    let measures = measured_first c.loop-member.sizes.now (shape_view m.shape) left (rw rest at c.loop-member.invariant.measured) in
    let small : c.loop-member.number + c.split_size-size.result.0 ≤ 65536 =
    omega (arith, c.split_size-size.ensures.size, measures.size, c.requires.few, (rw rest at c.loop-member.invariant.total), length-append (numbered (shape_view m.shape)) left) in
    search rules

pub select_among-loop-member-preserved : goal.select_among-loop-member-preserved
select_among-loop-member-preserved t c =
    let ms = c.args.members.now in
    let i = c.loop-member.member-index in
    let m = c.member-item.result in
    let here : get_or ms i m ≡ m = search rules in
    let within = c.loop-member-test.true in
    let rest = members_from ms i m within here in
    let after = members_view (drop (i + 1) ms) in
    let number = c.loop-member.number in
    let shape = shape_view m.shape in
    let measures = measured_first c.loop-member.sizes.now shape (numbered_fields after) (rw rest at c.loop-member.invariant.measured) in
    let size : c.split_size-size.result.0 ≡ length (numbered shape) = c.split_size-size.ensures.size ∙ measures.size in
    let passes : List (List ℕ) → Bool = one_selects (members_view c.args.said.now) in
    let said = c.said_of-part.ensures ∙ ap (said_in c.in_ok-said.said) c.as_str.ensures.text ∙ c.in_ok-said.ensures m.name in
    let selected : c.select.new.found ≡ fold set.insert c.loop-member.found (leaves_where (λ path. passes (m.name ∷ path)) number shape) =
    c.in_ok-select.ensures ∙ ap (λ (o : Option Tree). fold set.insert c.loop-member.found (leaves_where (λ path. some_tree (selects path) o) number shape)) said in
    record {
      same = (λ j. fold set.insert (selected j) (leaves_among passes (number + size j) after))
          ∙ sym (leaves_from_member passes ms i m within here c.loop-member.found number)
          ∙ c.loop-member.invariant.same;
      total = omega (arith, size, (rw rest at c.loop-member.invariant.total), length-append (numbered shape) (numbered_fields after));
      measured = rw (c.split_size-size.ensures.after, measures.size) measures.after;
    }
