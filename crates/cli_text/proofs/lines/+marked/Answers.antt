use Rattle.std.proofs.Common.{◌≡◌, ◌∙◌, ◌+◌, ◌*◌, ◌<◌, ◌≤◌, ◌++◌, ℕ, Bool, List, refl, ap, sym, length, get_or, drop, rules, arith}
use Rattle.std.specs.FinSet as set
use Rattle.std.proofs.lemmas.List.{length-append}
use Rattle.pvd_type.specs.Tree.{Tree, node, struct}
use Rattle.pvd_type.specs.View.{shape_view, members_view}
use Rattle.pvd_type.specs.Numbers.{numbered, numbered_fields, nodes, nodes_in}
use Rattle.pvd_type.specs.declared.shape.Member.{Member}
use Rattle.pvd_type.specs.declared.shape.Node.{Node, out-Node}
use Rattle.pvd_type.proofs.At.{lone}
use Rattle.pvd_type.proofs.Walks.{struct_is}
use Rattle.pvd_value.proofs.Slots.{row_of_struct}
use Rattle.pvd_value.specs.Fits.{fits_of}
use Rattle.pvd_type.proofs.Shapes.{unentered}
use Rattle.pvd_type.proofs.Counts.{nodes_within}
use Rattle.pvd_value.specs.View.{view, row_view}
use Rattle.pvd_value.proofs.Rows.{row_from, members_from, rows_split, rows_length, rows_over}
use Rattle.cli_text.specs.Lines.{path_to, lines_of, lines_among}
use Rattle.cli_text.proofs.LineParts.{leaf_lines, one_more, none_more}
use Rattle.cli_text.proofs.lines.+marked.Goals as goal

pub print_row-print_member-requires : goal.print_row-print_member-requires
print_row-print_member-requires t c =
    let vs = c.args.values.now in
    let ms = c.args.members.now in
    let i = c.loop-i.i in
    let m = c.index-members-i.result in
    let v = c.index-values-i.result in
    let in_ms : i < length ms = c.loop-i-test.true in
    let at_m : get_or ms i m ≡ m = search rules in
    let in_vs : i < length vs = omega (arith, rows_length 16 vs ms c.requires.fits, in_ms) in
    let at_v : get_or vs i v ≡ v = search rules in
    let fit = rows_split 16 vs ms i v m in_vs in_ms at_v at_m c.loop-i.invariant.fits in
    let rest_m = members_from ms i m in_ms at_m in
    let left = numbered_fields (members_view (drop (i + 1) ms)) in
    let few : c.loop-i.next + length (numbered (shape_view m.shape)) ≤ 4096 =
    omega (arith, c.requires.few, rw rest_m at c.loop-i.invariant.total, length-append (numbered (shape_view m.shape)) left) in
    (omega (arith, nodes_within ms i m in_ms at_m, c.decreases), (fit.0, few))

pub print_row-loop-i-preserved : goal.print_row-loop-i-preserved
print_row-loop-i-preserved t c =
    let vs = c.args.values.now in
    let ms = c.args.members.now in
    let i = c.loop-i.i in
    let m = c.index-members-i.result in
    let v = c.index-values-i.result in
    let in_ms : i < length ms = c.loop-i-test.true in
    let at_m : get_or ms i m ≡ m = search rules in
    let in_vs : i < length vs = omega (arith, rows_length 16 vs ms c.requires.fits, in_ms) in
    let at_v : get_or vs i v ≡ v = search rules in
    let fit = rows_split 16 vs ms i v m in_vs in_ms at_v at_m c.loop-i.invariant.fits in
    let rest_m = members_from ms i m in_ms at_m in
    let rest_v = row_from vs i v in_vs at_v in
    let left = numbered_fields (members_view (drop (i + 1) ms)) in
    let marked : ℕ → Bool = set.contains c.args.mask.now in
    let over : ℕ → Bool = set.contains c.args.overrun.now in
    let here : List ℕ = c.args.path.now.items in
    let next = c.in_ok-next.ensures.next in
    let one = lines_of marked over c.loop-i.next (path_to here m.name) (shape_view m.shape) (view v) in
    let rest = lines_among marked over c.in_ok-next.next here (members_view (drop (i + 1) ms)) (row_view (drop (i + 1) vs)) in
    let all = c.args.out.now.items ++ lines_among marked over c.args.number here (members_view ms) (row_view vs) in
    let printed : c.print_member.new.out.items ≡ c.loop-i.out.items ++ one =
    c.in_ok-next.ensures.lines ∙ ap (λ (p : List ℕ). c.loop-i.out.items ++ lines_of marked over c.loop-i.next (path_to p m.name) (shape_view m.shape) (view v)) c.loop-i.invariant.path in
    record {
      lines = one_more c.loop-i.out.items c.print_member.new.out.items one rest all printed (rw (rest_v, rest_m, ← next) at c.loop-i.invariant.lines);
      path = c.in_ok-next.ensures.path ∙ c.loop-i.invariant.path;
      total = omega (arith, next, rw rest_m at c.loop-i.invariant.total, length-append (numbered (shape_view m.shape)) left);
      fits = fit.1;
    }

pub print_row-returns-clause-lines : goal.print_row-returns-clause-lines
print_row-returns-clause-lines t c =
    let vs = c.args.values.now in
    let ms = c.args.members.now in
    let i = c.loop-i.i in
    let past = rows_over vs ms i (rows_length 16 vs ms c.requires.fits) c.loop-i-test.false in
    let marked : ℕ → Bool = set.contains c.args.mask.now in
    let over : ℕ → Bool = set.contains c.args.overrun.now in
    let here : List ℕ = c.args.path.now.items in
    let rest = lines_among marked over c.loop-i.next here (members_view (drop i ms)) (row_view (drop i vs)) in
    none_more c.loop-i.out.items rest _ (λ j. lines_among marked over c.loop-i.next here (past.1 j) (past.0 j)) c.loop-i.invariant.lines

pub print_marked-returns-in_ok-print_leaf-in_default : goal.print_marked-returns-in_ok-print_leaf-in_default
print_marked-returns-in_ok-print_leaf-in_default t c =
    let tree = shape_view c.args.shape.now in
    let marked : ℕ → Bool = set.contains c.args.mask.now in
    let over : ℕ → Bool = set.contains c.args.overrun.now in
    let alone = unentered c.args.shape.now c.in_default.not-Struct in
    let here : List ℕ = c.args.path.now.items in
    record {
      lines = (rw (c.contains-marked.ensures, c.contains-lost.ensures, c.deref-in_default.ensures.value) at (c.in_ok-print_leaf-in_default.ensures {u = tt}))
          ∙ ap (λ (b : List ℕ). c.args.out.now.items ++ b) (sym (leaf_lines marked over c.args.number here tree (view c.args.value.now) alone));
      path = refl;
      next = sym (ap (λ (ts : List Tree). c.args.number + length ts) (lone tree alone));
    }

pub print_marked-print_row-requires : goal.print_marked-print_row-requires
print_marked-print_row-requires t c =
    let n = out-Node c.in-Struct.node.value in
    let listed : c.deref-in-Struct.result.now ≡ n.members.items = c.deref-in-Struct.ensures.value ∙ ap (λ (x : Node). (out-Node x).members.items) c.deref.ensures in
    let fs = members_view n.members.items in
    let is : shape_view c.args.shape.now ≡ node struct n.id fs = ap shape_view c.in-Struct.is ∙ struct_is c.in-Struct.node in
    let value = view c.args.value.now in
    let fits = row_of_struct 16 value n.id fs (ap (fits_of 16 value) (sym is) ∙ c.requires.fits) in
    let fewer : 3 * nodes_in (members_view c.deref-in-Struct.result.now) + 2 < 3 * nodes (shape_view c.args.shape.now) =
    omega (arith, ap nodes is, ap (λ (xs : List Member). nodes_in (members_view xs)) listed) in
    let few : c.args.number + 1 + length (numbered_fields (members_view c.deref-in-Struct.result.now)) ≤ 4096 =
    omega (arith, c.requires.few, ap (λ (x : Tree). length (numbered x)) is, ap (λ (xs : List Member). length (numbered_fields (members_view xs))) listed) in
    (omega (arith, fewer, c.decreases), (rw (c.members.ensures, listed) fits, few))

pub print_row-bounds-values-i : goal.print_row-bounds-values-i
print_row-bounds-values-i t c = omega (arith, rows_length 16 c.args.values.now c.args.members.now c.requires.fits, c.loop-i-test.true)
