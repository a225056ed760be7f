use Rattle.std.proofs.Common.{◌≡◌, ◌∙◌, ◌++◌, ◌+◌, ◌<◌, ◌≤◌, ◌∷◌, [], ℕ, List, sym, ap, subst, min, length, get_or, drop, rules, arith}
use Rattle.std.proofs.Math.ListN.{drop_of_length-le}
use Rattle.std.proofs.lemmas.Result.{on_ok_weaker}
use Rattle.pva_wire.specs.Spelling.{IsSize, canonical_size}
use Rattle.pvd_type.specs.declared.shape.Scalar.{Scalar}
use Rattle.pvd_type.specs.declared.shape.Scalar.TheVariants.{Text}
use Rattle.pvd_type.specs.Tree as tree
use Rattle.pvd_type.specs.Tree.{Tree, leaf, bound_text, plain, struct, union, variant}
use Rattle.pvd_type.specs.View.{node_view, members_view, shape_view}
use Rattle.pvd_value.specs.View.{view, row_view, optional_view, carried_view}
use Rattle.pvd_value.proofs.Rows.{row_from, members_from}
use Rattle.pvd_codec.specs.Grammar.{row_length}
use Rattle.pvd_codec.specs.Written.{canonical_value, canonical_row, canonical_elements, CanValue, CanElements}
use Rattle.pvd_codec.proofs.Growing.{begins_on, begins_written}
use Rattle.pvd_codec.proofs.Elements.{on_err, optional_count, carried_count, row_past, can_past, list_done, value_done, all_done, bound_shape, bound_is, can_bound}
use Rattle.pvd_codec.proofs.writing.+put.Goals as goal

pub put-returns-in-BoundText-clause-written : goal.put-returns-in-BoundText-clause-written
put-returns-in-BoundText-clause-written t c =
    let o = c.args.order in
    let v = view c.args.value.now in
    let old = c.args.out.now.items in
    let new = c.write_single-in-BoundText.new.out.items in
    let bound = c.in-BoundText.field-0 in
    let is : shape_view c.args.shape.now ≡ leaf (bound_text bound) = ap shape_view c.in-BoundText.is ∙ bound_shape bound in
    on_ok_weaker c.write_single-in-BoundText.result
    (λ (h : (s : Scalar) → new ≡ old ++ canonical_value o v (leaf (plain s))). h Text ∙ ap (λ (b : List ℕ). old ++ b) (bound_is o Text bound v ∙ ap (λ (x : Tree). canonical_value o v x) (sym is)))
    c.write_single-in-BoundText.ensures.written

pub put-returns-in-BoundText-clause-can : goal.put-returns-in-BoundText-clause-can
put-returns-in-BoundText-clause-can t c =
    let v = view c.args.value.now in
    let bound = c.in-BoundText.field-0 in
    let is : shape_view c.args.shape.now ≡ leaf (bound_text bound) = ap shape_view c.in-BoundText.is ∙ bound_shape bound in
    on_ok_weaker {Q = CanValue v (shape_view c.args.shape.now)} c.write_single-in-BoundText.result
    (λ (h : (s : Scalar) → CanValue v (leaf (plain s))). subst (λ (x : Tree). CanValue v x) (sym is) (can_bound Text bound v (h Text)))
    c.write_single-in-BoundText.ensures.can

pub put_row-returns-in_err-put-clause-begins : goal.put_row-returns-in_err-put-clause-begins
put_row-returns-in_err-put-clause-begins t c = on_err c.from_residual.result (begins_on _ _ _ c.loop-i.invariant.begins c.in_err-put.ensures.begins)

pub put_row-loop-i-preserved : goal.put_row-loop-i-preserved
put_row-loop-i-preserved t c =
    let vs = c.args.values.now in
    let ms = c.args.members.now in
    let i = c.loop-i.i in
    let v = c.index-values-i.result in
    let m = c.index-members-i.result in
    let few : i < min (length vs) (length ms) = search rules in
    let in_vs : i < length vs = omega (arith, few) in
    let in_ms : i < length ms = omega (arith, few) in
    let at_v : get_or vs i v ≡ v = search rules in
    let at_m : get_or ms i m ≡ m = search rules in
    let rest_v = row_from vs i v in_vs at_v in
    let rest_m = members_from ms i m in_ms at_m in
    let one = canonical_value c.args.order (view v) (shape_view m.shape) in
    let rest = canonical_row c.args.order (row_view (drop (i + 1) vs)) (members_view (drop (i + 1) ms)) in
    let all = c.args.out.now.items ++ canonical_row c.args.order (row_view vs) (members_view ms) in
    record {
      written = value_done c.loop-i.out.items c.put.new.out.items one rest all c.in_ok-put.ensures.written (rw (rest_v, rest_m) at c.loop-i.invariant.written);
      can = λ h. (rw (rest_v, rest_m) at c.loop-i.invariant.can) (c.in_ok-put.ensures.can, h);
      begins = begins_on _ _ _ c.loop-i.invariant.begins (begins_written c.loop-i.out.items c.put.new.out.items one c.in_ok-put.ensures.written);
    }

pub put_row-returns-clause-written : goal.put_row-returns-clause-written
put_row-returns-clause-written t c =
    let vs = c.args.values.now in
    let ms = c.args.members.now in
    let past : min (length vs) (length ms) ≤ c.loop-i.i = search rules in
    let over = row_past c.args.order vs ms c.loop-i.i past in
    all_done c.loop-i.out.items (canonical_row c.args.order (row_view (drop c.loop-i.i vs)) (members_view (drop c.loop-i.i ms))) _ over c.loop-i.invariant.written

pub put_row-returns-clause-can : goal.put_row-returns-clause-can
put_row-returns-clause-can t c =
    let vs = c.args.values.now in
    let ms = c.args.members.now in
    let past : min (length vs) (length ms) ≤ c.loop-i.i = search rules in
    c.loop-i.invariant.can (can_past vs ms c.loop-i.i past)

pub put_structs-returns-in_err-put_struct-clause-begins : goal.put_structs-returns-in_err-put_struct-clause-begins
put_structs-returns-in_err-put_struct-clause-begins t c =
    on_err c.from_residual-in_err-put_struct.result
    (begins_on _ _ _ (begins_on _ _ _ c.elements.invariant.begins (begins_written c.elements.out.items c.push-in-elements.new.self.items (1 ∷ []) c.in_ok-push-2.ensures.items)) c.in_err-put_struct.ensures.begins)

pub put_structs-returns-clause-written : goal.put_structs-returns-clause-written
put_structs-returns-clause-written t c =
    let o = c.args.order in
    let vs = c.args.values.now in
    let i = c.elements.value-index in
    let t = (tree.node struct (node_view c.args.node.now).0 (node_view c.args.node.now).1) in
    let none = ap (λ xs. canonical_elements o (optional_view xs) t) (drop_of_length-le vs c.elements-test.false) in
    let size : c.write_count.new.out.items ≡ c.args.out.now.items ++ canonical_size o (row_length (optional_view vs)) = c.in_ok-write_count.ensures.written ∙ ap (λ (n : ℕ). c.args.out.now.items ++ canonical_size o n) (sym (optional_count vs)) in
    list_done c.elements.out.items c.args.out.now.items c.write_count.new.out.items (canonical_size o (row_length (optional_view vs))) (canonical_elements o (optional_view vs) t) (canonical_elements o (optional_view (drop i vs)) t) none c.elements.invariant.written size

pub put_structs-returns-clause-can : goal.put_structs-returns-clause-can
put_structs-returns-clause-can t c =
    let vs = c.args.values.now in
    let i = c.elements.value-index in
    let t = (tree.node struct (node_view c.args.node.now).0 (node_view c.args.node.now).1) in
    let none = drop_of_length-le vs c.elements-test.false in
    (subst (λ (n : ℕ). IsSize n) (sym (optional_count vs)) c.in_ok-write_count.ensures.can, c.elements.invariant.can (subst (λ xs. CanElements (optional_view xs) t) (sym none) tt))

pub put_unions-returns-in_err-put_union-clause-begins : goal.put_unions-returns-in_err-put_union-clause-begins
put_unions-returns-in_err-put_union-clause-begins t c =
    on_err c.from_residual-in_err-put_union.result
    (begins_on _ _ _ (begins_on _ _ _ c.elements.invariant.begins (begins_written c.elements.out.items c.push-in-elements.new.self.items (1 ∷ []) c.in_ok-push-2.ensures.items)) c.in_err-put_union.ensures.begins)

pub put_unions-returns-clause-written : goal.put_unions-returns-clause-written
put_unions-returns-clause-written t c =
    let o = c.args.order in
    let vs = c.args.values.now in
    let i = c.elements.value-index in
    let t = (tree.node union (node_view c.args.node.now).0 (node_view c.args.node.now).1) in
    let none = ap (λ xs. canonical_elements o (optional_view xs) t) (drop_of_length-le vs c.elements-test.false) in
    let size : c.write_count.new.out.items ≡ c.args.out.now.items ++ canonical_size o (row_length (optional_view vs)) = c.in_ok-write_count.ensures.written ∙ ap (λ (n : ℕ). c.args.out.now.items ++ canonical_size o n) (sym (optional_count vs)) in
    list_done c.elements.out.items c.args.out.now.items c.write_count.new.out.items (canonical_size o (row_length (optional_view vs))) (canonical_elements o (optional_view vs) t) (canonical_elements o (optional_view (drop i vs)) t) none c.elements.invariant.written size

pub put_unions-returns-clause-can : goal.put_unions-returns-clause-can
put_unions-returns-clause-can t c =
    let vs = c.args.values.now in
    let i = c.elements.value-index in
    let t = (tree.node union (node_view c.args.node.now).0 (node_view c.args.node.now).1) in
    let none = drop_of_length-le vs c.elements-test.false in
    (subst (λ (n : ℕ). IsSize n) (sym (optional_count vs)) c.in_ok-write_count.ensures.can, c.elements.invariant.can (subst (λ xs. CanElements (optional_view xs) t) (sym none) tt))

pub put_variants-returns-in_err-put_carried-clause-begins : goal.put_variants-returns-in_err-put_carried-clause-begins
put_variants-returns-in_err-put_carried-clause-begins t c =
    on_err c.from_residual-in_err-put_carried.result
    (begins_on _ _ _ (begins_on _ _ _ c.elements.invariant.begins (begins_written c.elements.out.items c.push-in-elements.new.self.items (1 ∷ []) c.in_ok-push-2.ensures.items)) c.in_err-put_carried.ensures.begins)

pub put_variants-returns-clause-written : goal.put_variants-returns-clause-written
put_variants-returns-clause-written t c =
    let o = c.args.order in
    let vs = c.args.values.now in
    let i = c.elements.value-index in
    let t = (leaf variant) in
    let none = ap (λ xs. canonical_elements o (carried_view xs) t) (drop_of_length-le vs c.elements-test.false) in
    let size : c.write_count.new.out.items ≡ c.args.out.now.items ++ canonical_size o (row_length (carried_view vs)) = c.in_ok-write_count.ensures.written ∙ ap (λ (n : ℕ). c.args.out.now.items ++ canonical_size o n) (sym (carried_count vs)) in
    list_done c.elements.out.items c.args.out.now.items c.write_count.new.out.items (canonical_size o (row_length (carried_view vs))) (canonical_elements o (carried_view vs) t) (canonical_elements o (carried_view (drop i vs)) t) none c.elements.invariant.written size

pub put_variants-returns-clause-can : goal.put_variants-returns-clause-can
put_variants-returns-clause-can t c =
    let vs = c.args.values.now in
    let i = c.elements.value-index in
    let t = (leaf variant) in
    let none = drop_of_length-le vs c.elements-test.false in
    (subst (λ (n : ℕ). IsSize n) (sym (carried_count vs)) c.in_ok-write_count.ensures.can, c.elements.invariant.can (subst (λ xs. CanElements (carried_view xs) t) (sym none) tt))
