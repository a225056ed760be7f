use Rattle.std.proofs.Common.{◌≡◌, ◌∙◌, ◌+◌, ◌<◌, ◌≤◌, ◌++◌, ℕ, Bool, List, ap, sym, length, get_or, drop, rules, arith}
use Rattle.std.specs.FinSet as set
use Rattle.std.proofs.lemmas.List.{length-append}
use Rattle.pvd_type.specs.Tree.{Tree}
use Rattle.pvd_type.specs.View.{shape_view, members_view}
use Rattle.pvd_type.specs.Numbers.{numbered, numbered_fields}
use Rattle.pvd_type.proofs.At.{lone}
use Rattle.pvd_type.proofs.Shapes.{unentered}
use Rattle.pvd_type.proofs.Counts.{nodes_within}
use Rattle.pvd_value.specs.View.{view, row_view}
use Rattle.pvd_value.proofs.Rows.{row_from, members_from, rows_split, rows_length, rows_over}
use Rattle.pvd_codec.specs.Written.{canonical_marked, canonical_marked_row}
use Rattle.pvd_codec.proofs.Growing.{begins_on, begins_written}
use Rattle.pvd_codec.proofs.Elements.{on_err, value_done, all_done}
use Rattle.pvd_codec.proofs.Unentered.{leaf_written, leaf_can}
use Rattle.pvd_codec.proofs.parts_writing.+part.Goals as goal

pub put_marked_row-put_marked-requires : goal.put_marked_row-put_marked-requires
put_marked_row-put_marked-requires t c =
    let vs = c.args.values.now in
    let ms = c.args.members.now in
    let i = c.loop-i.i in
    let m = c.index-members-i.result in
    let v = c.index-values-i.result in
    let in_ms : i < length ms = c.loop-i-test.true in
    let at_m : get_or ms i m ≡ m = search rules in
    let in_vs : i < length vs = omega (arith, rows_length 16 vs ms c.requires.fits, in_ms) in
    let at_v : get_or vs i v ≡ v = search rules in
    let fit = rows_split 16 vs ms i v m in_vs in_ms at_v at_m c.loop-i.invariant.fits in
    let rest_m = members_from ms i m in_ms at_m in
    let left = numbered_fields (members_view (drop (i + 1) ms)) in
    let few : c.loop-i.next + length (numbered (shape_view m.shape)) ≤ 4096 =
    omega (arith, c.requires.few, rw rest_m at c.loop-i.invariant.total, length-append (numbered (shape_view m.shape)) left) in
    (omega (arith, nodes_within ms i m in_ms at_m, c.decreases), (fit.0, few))

pub put_marked_row-returns-in_err-next-clause-begins : goal.put_marked_row-returns-in_err-next-clause-begins
put_marked_row-returns-in_err-next-clause-begins t c = on_err c.from_residual.result (begins_on _ _ _ c.loop-i.invariant.begins c.in_err-next.ensures.begins)

pub put_marked_row-loop-i-preserved : goal.put_marked_row-loop-i-preserved
put_marked_row-loop-i-preserved t c =
    let vs = c.args.values.now in
    let ms = c.args.members.now in
    let i = c.loop-i.i in
    let m = c.index-members-i.result in
    let v = c.index-values-i.result in
    let in_ms : i < length ms = c.loop-i-test.true in
    let at_m : get_or ms i m ≡ m = search rules in
    let in_vs : i < length vs = omega (arith, rows_length 16 vs ms c.requires.fits, in_ms) in
    let at_v : get_or vs i v ≡ v = search rules in
    let fit = rows_split 16 vs ms i v m in_vs in_ms at_v at_m c.loop-i.invariant.fits in
    let rest_m = members_from ms i m in_ms at_m in
    let rest_v = row_from vs i v in_vs at_v in
    let left = numbered_fields (members_view (drop (i + 1) ms)) in
    let marked : ℕ → Bool = set.contains c.args.mask.now in
    let o = c.args.order in
    let next = c.in_ok-next.ensures.next in
    let one = canonical_marked o marked c.loop-i.next (view v) (shape_view m.shape) in
    let rest = canonical_marked_row o marked c.in_ok-next.next (row_view (drop (i + 1) vs)) (members_view (drop (i + 1) ms)) in
    let all = c.args.out.now.items ++ canonical_marked_row o marked c.args.number (row_view vs) (members_view ms) in
    record {
      written = value_done c.loop-i.out.items c.put_marked.new.out.items one rest all c.in_ok-next.ensures.written (rw (rest_v, rest_m, ← next) at c.loop-i.invariant.written);
      can = λ h. (rw (rest_v, rest_m, ← next) at c.loop-i.invariant.can) (c.in_ok-next.ensures.can, h);
      begins = begins_on _ _ _ c.loop-i.invariant.begins (begins_written c.loop-i.out.items c.put_marked.new.out.items one c.in_ok-next.ensures.written);
      total = omega (arith, next, rw rest_m at c.loop-i.invariant.total, length-append (numbered (shape_view m.shape)) left);
      fits = fit.1;
    }

pub put_marked_row-returns-clause-written : goal.put_marked_row-returns-clause-written
put_marked_row-returns-clause-written t c =
    let vs = c.args.values.now in
    let ms = c.args.members.now in
    let i = c.loop-i.i in
    let over = rows_over vs ms i (rows_length 16 vs ms c.requires.fits) c.loop-i-test.false in
    let marked : ℕ → Bool = set.contains c.args.mask.now in
    let rest = canonical_marked_row c.args.order marked c.loop-i.next (row_view (drop i vs)) (members_view (drop i ms)) in
    all_done c.loop-i.out.items rest _ (λ j. canonical_marked_row c.args.order marked c.loop-i.next (over.0 j) (over.1 j)) c.loop-i.invariant.written

pub put_marked-returns-in_ok-put_leaf-in_default : goal.put_marked-returns-in_ok-put_leaf-in_default
put_marked-returns-in_ok-put_leaf-in_default t c =
    let tree = shape_view c.args.shape.now in
    let marked : ℕ → Bool = set.contains c.args.mask.now in
    let alone = unentered c.args.shape.now c.in_default.not-Struct in
    record {
      written = (rw c.contains.ensures at c.in_ok-put_leaf-in_default.ensures.written) ∙ ap (λ (b : List ℕ). c.args.out.now.items ++ b) (sym (leaf_written c.args.order marked c.args.number (view c.args.value.now) tree alone));
      can = leaf_can marked c.args.number (view c.args.value.now) tree alone (rw c.contains.ensures at c.in_ok-put_leaf-in_default.ensures.can);
      next = sym (ap (λ (ts : List Tree). c.args.number + length ts) (lone tree alone));
      begins = tt;
    }
