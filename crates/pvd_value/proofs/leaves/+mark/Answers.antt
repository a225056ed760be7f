use Rattle.std.proofs.Common.{◌≡◌, ◌∙◌, ◌+◌, ◌++◌, ◌||◌, ℕ, Bool, false, List, refl, sym, ap, fold, length, get_or, drop, rules, arith}
use Rattle.std.specs.FinSet as set
use Rattle.std.proofs.lemmas.List.{length-append}
use Rattle.std.proofs.lemmas.List.Sums.{fold-append}
use Rattle.pvd_type.specs.Tree.{Tree, leaf, node}
use Rattle.pvd_type.specs.View.{shape_view, members_view}
use Rattle.pvd_type.specs.Numbers.{numbered, numbered_fields, sizes_of}
use Rattle.pvd_type.proofs.Shapes.{unentered}
use Rattle.pvd_type.proofs.Sizes.{measured_first}
use Rattle.pvd_value.specs.Leaves.{leaves_under, leaves_among}
use Rattle.pvd_value.proofs.Rows.{members_from}
use Rattle.pvd_value.proofs.Slots.{lone_under}
use Rattle.pvd_value.proofs.Unmarked.{under_none}
use Rattle.pvd_value.proofs.leaves.+mark.Goals as goal

pub mark-returns-in_default : goal.mark-returns-in_default
mark-returns-in_default t c =
    let tree = shape_view c.args.shape.now in
    let is = unentered c.args.shape.now c.in_default.not-Struct in
    let marked : ℕ → Bool = set.contains c.args.bits.now in
    rw (lone_under marked c.args.inside c.args.number tree is, ← c.contains.ensures) c.mark_leaf.ensures

first_size : (t : Tree) (rest : List ℕ) → get_or (sizes_of (numbered t) ++ rest) 0 0 ≡ length (numbered t)
first_size (leaf l) rest = refl
first_size (node k id fs) rest = refl

pub mark-returns-then-misses : goal.mark-returns-then-misses
mark-returns-then-misses t c =
    let tree = shape_view c.args.shape.now in
    let marked : ℕ → Bool = set.contains c.args.bits.now in
    let size : get_or c.args.sizes.now 0 0 ≡ length (numbered tree) = ap (λ (xs : List ℕ). get_or xs 0 0) c.requires.sizes.front ∙ first_size tree c.requires.sizes.rest in
    let unmarked : (c.args.inside || marked c.args.number) ≡ false = ap (λ (b : Bool). c.args.inside || b) (sym c.contains.ensures) ∙ c.if-not-marked.true in
    let none = under_none marked c.args.inside c.args.number tree unmarked (λ k from to. c.misses.ensures.none c.if-misses.true k from (omega (arith, to, size))) in
    sym (ap (λ (ns : List ℕ). fold set.insert c.args.found.now ns) none)

pub mark_members-loop-member-preserved : goal.mark_members-loop-member-preserved
mark_members-loop-member-preserved t c =
    let ms = c.args.members.now in
    let i = c.loop-member.member-index in
    let m = c.member-item.result in
    let here : get_or ms i m ≡ m = search rules in
    let rest = members_from ms i m c.loop-member-test.true here in
    let left = numbered_fields (members_view (drop (i + 1) ms)) in
    let measures = measured_first c.loop-member.sizes.now (shape_view m.shape) left (rw rest at c.loop-member.invariant.measured) in
    let size : c.split_size-size.result.0 ≡ length (numbered (shape_view m.shape)) = c.split_size-size.ensures.size ∙ measures.size in
    let marked : ℕ → Bool = set.contains c.args.bits.now in
    let mine = leaves_under marked c.args.inside c.loop-member.next (shape_view m.shape) in
    let others = λ (k : ℕ). leaves_among marked c.args.inside (c.loop-member.next + k) (members_view (drop (i + 1) ms)) in
    record {
      same = (λ j. fold set.insert (c.in_ok-mark.ensures j) (others (size j)))
          ∙ sym (fold-append set.insert c.loop-member.found mine (others (length (numbered (shape_view m.shape))))) ∙ (rw rest at c.loop-member.invariant.same);
      total = omega (arith, size, rw rest at c.loop-member.invariant.total, length-append (numbered (shape_view m.shape)) left);
      measured = rw (c.split_size-size.ensures.after, measures.size) measures.after;
    }
