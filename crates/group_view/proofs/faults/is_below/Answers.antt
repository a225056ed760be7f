use Rattle.std.proofs.Common.{sym, ◌∙◌}
use Rattle.group_view.proofs.Misplacing.{cut_here, cut_later}
use Rattle.group_view.proofs.faults.is_below.Goals as goal

pub returns-then-is_cut : goal.returns-then-is_cut
returns-then-is_cut c = λ names knows.
    cut_here names c.args.name.now c.loop-place.place _ c.loop-place-test.true (sym (c.is_cut.ensures names knows) ∙ c.if-is_cut.true) (c.loop-place.invariant names knows)

pub loop-place-preserved : goal.loop-place-preserved
loop-place-preserved c = λ names knows.
    cut_later names c.args.name.now c.loop-place.place _ c.loop-place-test.true (sym (c.is_cut.ensures names knows) ∙ c.if-is_cut.false) (c.loop-place.invariant names knows)
