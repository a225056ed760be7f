use Rattle.std.proofs.Common.{sym, ap, ◌∙◌}
use Rattle.std.proofs.lemmas.Bool.{and_parts}
use Rattle.std.specs.Cmp.{nat_cmp_total}
use Rattle.std.specs.FinSet.{contains, contains-intersection}
use Rattle.desk_tests.proofs.monitors.leaves_of.Goals as goal

pub returns : goal.returns
returns c n marked =
    let both = sym (contains-intersection nat_cmp_total _ _ n) ∙ ap (λ s. contains s n) (sym c.meet.ensures) ∙ marked in
    ap (λ s. contains s n) (sym (c.in_ok-leaves.ensures {u = tt})) ∙ (and_parts _ _ both).1
