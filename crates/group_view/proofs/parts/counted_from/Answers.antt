use Rattle.std.proofs.Common.{◌≡◌, ◌+◌, ◌≤◌, ◌&&◌, ◌||◌, ℕ, eqb, ltb, ap, ◌∙◌, rules, arith}
use Rattle.std.specs.FinSet as fin
use Rattle.group_view.proofs.Parting.{counted_none, counted_more}
use Rattle.group_view.proofs.parts.counted_from.Goals as goal

pub loop-k-init : goal.loop-k-init
loop-k-init c = record { counted = counted_none c.args.mask.now c.args.start c.new-marked.result c.new-marked.ensures; within = omega arith }

pub overflow_add-start : goal.overflow_add-start
overflow_add-start c =
    let few : c.args.start + c.loop-k.k ≤ 4096 = omega (arith, c.requires, c.loop-k-test.true) in
    search rules

pub loop-k-preserved : goal.loop-k-preserved
loop-k-preserved c =
    let mask = c.args.mask.now in
    let start = c.args.start in
    let k = c.loop-k.k in record {
      counted = λ q.
          c.in_ok-add_marked.ensures q
          ∙ ap (λ b. b || (eqb q k && fin.contains mask (start + k))) (c.loop-k.invariant.counted q)
          ∙ counted_more mask start k q;
      within = omega (arith, c.loop-k-test.true);
    }

pub returns : goal.returns
returns c = λ q.
    let same : c.loop-k.k ≡ c.args.count = omega (arith, c.loop-k.invariant.within, c.loop-k-test.false) in
    c.loop-k.invariant.counted q ∙ ap (λ (n : ℕ). ltb q n && fin.contains c.args.mask.now (c.args.start + q)) same
