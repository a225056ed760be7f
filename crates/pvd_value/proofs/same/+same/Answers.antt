use Rattle.std.proofs.Common.{sym}
use Rattle.pvd_value.proofs.Rows.{rows_differ, optional_differ, carried_differ}
use Rattle.pvd_value.proofs.same.+same.Goals as goal

pub same_rows-returns-then-a-b : goal.same_rows-returns-then-a-b
same_rows-returns-then-a-b t c = sym (rows_differ c.args.a.now c.args.b.now c.if-a-b.true)

pub same_optional-returns-then-a-b : goal.same_optional-returns-then-a-b
same_optional-returns-then-a-b t c = sym (optional_differ c.args.a.now c.args.b.now c.if-a-b.true)

pub same_variants-returns-then-a-b : goal.same_variants-returns-then-a-b
same_variants-returns-then-a-b t c = sym (carried_differ c.args.a.now c.args.b.now c.if-a-b.true)
