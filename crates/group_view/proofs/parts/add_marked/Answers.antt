use Rattle.std.proofs.Common.{◌&&◌, ◌||◌, eqb, ap, ◌∙◌}
use Rattle.std.specs.FinSet as fin
use Rattle.std.specs.FinSet.{FinSet}
use Rattle.std.specs.Ordering.{nat_cmp}
use Rattle.pvd_type.proofs.Sets.{in_insert}
use Rattle.group_view.proofs.Parting.{or_marked, or_unmarked, on_ok}
use Rattle.group_view.proofs.parts.add_marked.Goals as goal

pub returns-then-contains : goal.returns-then-contains
returns-then-contains c =
    let old = c.args.marked.now in
    let k = c.args.number in
    on_ok c.insert.result (λ is q.
    ap (λ (s : FinSet nat_cmp). fin.contains s q) is ∙ in_insert old k q ∙ or_marked (eqb q k) (fin.contains old q)
    ∙ ap (λ m. fin.contains old q || (eqb q k && m)) (c.if-contains.ensures {u = tt})) c.insert.ensures.ok

pub returns : goal.returns
returns c = λ q.
    let old = c.args.marked.now in
    let k = c.args.number in
    or_unmarked (eqb q k) (fin.contains old q) ∙ ap (λ m. fin.contains old q || (eqb q k && m)) (c.if-contains.ensures {u = tt})
