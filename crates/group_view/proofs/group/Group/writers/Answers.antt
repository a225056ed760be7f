use Rattle.std.proofs.Common.{◌≡◌, ◌≤◌, length, sym, ap, ◌∙◌, subst, arith}
use Rattle.std.specs.List.{AllByRecursion}
use Rattle.group_view.specs.Groups.{GroupData, IsLinkOf}
use Rattle.group_view.specs.Puts.{writers, IsWritten}
use Rattle.group_view.specs.Types.{group_tree}
use Rattle.group_view.proofs.Keeping.{writers_written, writers_linked, writers_few}
use Rattle.group_view.proofs.group.Group.writers.Goals as goal

pub returns-clause-leaves : goal.returns-clause-leaves
returns-clause-leaves c =
    let g = c.args.self.now in
    let mine = c.deref.ensures.value ∙ subst (λ (g : GroupData). c.self.inside.writers.items ≡ writers g) c.self.view_is c.self.invariant.0.writers_are in
    subst (AllByRecursion (λ w. IsWritten (group_tree g) w.link w.writing)) (sym mine) (writers_written g)

pub returns-clause-over : goal.returns-clause-over
returns-clause-over c = λ configs over.
    let g = c.args.self.now in
    let mine = c.deref.ensures.value ∙ subst (λ (g : GroupData). c.self.inside.writers.items ≡ writers g) c.self.view_is c.self.invariant.0.writers_are in
    subst (AllByRecursion (λ w. IsLinkOf configs w.link)) (sym mine) (writers_linked configs g over)

pub returns-clause-few : goal.returns-clause-few
returns-clause-few c =
    let g = c.args.self.now in
    let mine = c.deref.ensures.value ∙ subst (λ (g : GroupData). c.self.inside.writers.items ≡ writers g) c.self.view_is c.self.invariant.0.writers_are in
    let long = ap length mine in
    let few : length g.members ≤ 256 = subst (λ (g : GroupData). length g.members ≤ 256) c.self.view_is c.self.invariant.0.members_few in
    omega (arith, long, few, writers_few g)
