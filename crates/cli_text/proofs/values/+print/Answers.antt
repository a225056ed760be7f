use Rattle.std.proofs.Common.{◌≡◌, ◌∙◌, ◌+◌, ◌<◌, ◌≤◌, ◌++◌, ◌∷◌, [], ℕ, List, refl, sym, ap, append-nil, min, length, get_or, drop, rules, arith}
use Rattle.std.proofs.lemmas.Result.{on_ok_weaker}
use Rattle.pvd_type.specs.Tree.{Tree}
use Rattle.pvd_type.specs.declared.shape.Member.{Member}
use Rattle.pvd_type.specs.View.{shape_view, members_view}
use Rattle.pvd_value.specs.View.{view, row_view}
use Rattle.cli_text.specs.Texts.{named, chosen, led, text_of, member_texts}
use Rattle.cli_text.proofs.Led.{led_step, led_done, in_name}
use Rattle.cli_text.proofs.Pieces.{chosen_within, chosen_past, members_past, members_text_from}
use Rattle.cli_text.proofs.values.+print.Goals as goal

pub print_members-loop-i-preserved : goal.print_members-loop-i-preserved
print_members-loop-i-preserved t c =
    let vs = c.args.values.now in
    let ms = c.args.members.now in
    let i = c.loop-i.i in
    let v = c.index-values-i.result in
    let m = c.index-members-i.result in
    let few : i < min (length vs) (length ms) = search rules in
    let in_vs : i < length vs = omega (arith, few) in
    let in_ms : i < length ms = omega (arith, few) in
    let at_v : get_or vs i v ≡ v = search rules in
    let at_m : get_or ms i m ≡ m = search rules in
    let next = members_text_from vs ms i v m in_vs in_ms at_v at_m in
    let t = text_of (view v) (shape_view m.shape) in
    let old = c.extend_from_slice.new.self.items in
    let new = c.print_value.new.out.items in
    let printed = in_name old c.print_name.new.out.items new m.name t 61 (c.in_ok-print_name.ensures {u = tt}) (c.in_ok-print_value.ensures {u = tt}) in
    led_step c.loop-i.out.items old new c.loop-i.front.now (named m.name 61 t)
    (c.args.out.now.items ++ led [] (member_texts (row_view vs) (members_view ms))) (44 ∷ 32 ∷ []) (member_texts (row_view (drop (i + 1) vs)) (members_view (drop (i + 1) ms)))
    c.in_ok-extend_from_slice.ensures.items printed refl (rw next at c.loop-i.invariant)

pub print_members-returns : goal.print_members-returns
print_members-returns t c =
    let vs = c.args.values.now in
    let ms = c.args.members.now in
    let past : min (length vs) (length ms) ≤ c.loop-i.i = search rules in
    led_done c.loop-i.out.items c.loop-i.front.now (c.args.out.now.items ++ led [] (member_texts (row_view vs) (members_view ms)))
    (member_texts (row_view (drop c.loop-i.i vs)) (members_view (drop c.loop-i.i ms))) (members_past vs ms c.loop-i.i past) c.loop-i.invariant

pub print_chosen-returns-in_ok-print_name-in-Some : goal.print_chosen-returns-in_ok-print_name-in-Some
print_chosen-returns-in_ok-print_name-in-Some t c =
    let ms = c.args.members.now in
    let m = c.in-Some.member.now in
    let got = c.in-Some.ensures.lookup.3 in
    let f : Tree → List ℕ = text_of (view c.args.inner.now) in
    let old = c.args.out.now.items in
    let new = c.print_value.new.out.items in
    let is : chosen c.args.place f (members_view ms) ≡ named m.name 58 (f (shape_view m.shape)) =
    chosen_within ms c.args.place f m got.0 ∙ ap (λ (x : Member). named x.name 58 (f (shape_view x.shape))) (sym (got.1 m)) in
    on_ok_weaker c.print_value.result
    (λ (h : new ≡ c.print_name.new.out.items ++ f (shape_view m.shape)). in_name old c.print_name.new.out.items new m.name (f (shape_view m.shape)) 58 (c.in_ok-print_name-in-Some.ensures {u = tt}) h ∙ ap (λ (s : List ℕ). old ++ s) (sym is))
    c.print_value.ensures

pub print_chosen-returns-in-None : goal.print_chosen-returns-in-None
print_chosen-returns-in-None t c =
    sym (append-nil c.args.out.now.items) ∙ ap (λ (s : List ℕ). c.args.out.now.items ++ s) (sym (chosen_past c.args.members.now c.args.place (text_of (view c.args.inner.now)) c.in-None.ensures.lookup.3))
