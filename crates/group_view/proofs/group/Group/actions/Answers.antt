use Rattle.std.proofs.Common.{◌≡◌, ◌==◌, ◌≤◌, length, false, sym, ◌∙◌, subst, arith}
use Rattle.std.proofs.lemmas.Bool.{false≢true, eq-eqb}
use Rattle.std.proofs.lemmas.Bool.Decides.{Decides-eqb}
use Rattle.std.specs.Vec.{vec_len}
use Rattle.pvd_value.specs.View.{view}
use Rattle.group_view.specs.Puts.{done_by_all, writers, Refuses}
use Rattle.group_view.specs.Types.{group_tree}
use Rattle.group_view.proofs.Putting.{actions_are, actions_few, none_writable, refused_as}
use Rattle.group_view.proofs.group.Group.actions.Goals as goal

pub returns-in-Err-clause-refusal : goal.returns-in-Err-clause-refusal
returns-in-Err-clause-refusal c =
    let g = c.args.self.now in
    let value = view c.args.value.now in
    let mask = c.args.mask.now in
    let told : done_by_all c.type_of.result.now value mask c.writers.result.now ≡ done_by_all (group_tree g) value mask (writers g) =
    λ i. done_by_all (c.type_of.ensures i) value mask (c.writers.ensures.writers i) in
    refused_as g value mask c.in-Err.answer (subst (λ r. Refuses r c.in-Err.answer) told c.in-Err.ensures.refusal)

pub returns-then-is_empty-clause-refusal : goal.returns-then-is_empty-clause-refusal
returns-then-is_empty-clause-refusal c =
    let g = c.args.self.now in
    let value = view c.args.value.now in
    let mask = c.args.mask.now in
    let told : done_by_all c.type_of.result.now value mask c.writers.result.now ≡ done_by_all (group_tree g) value mask (writers g) =
    λ i. done_by_all (c.type_of.ensures i) value mask (c.writers.ensures.writers i) in
    let none : vec_len c.in-Ok.actions ≡ 0 = (Decides-eqb (vec_len c.in-Ok.actions) 0).0 (sym c.is_empty.ensures ∙ c.if-is_empty.true) in
    none_writable g value mask c.in-Ok.actions.items (sym told ∙ c.in-Ok.ensures.actions) (omega (arith, none, c.in-Ok.actions.ok))

pub returns-clause-actions : goal.returns-clause-actions
returns-clause-actions c =
    let g = c.args.self.now in
    let value = view c.args.value.now in
    let mask = c.args.mask.now in
    let told : done_by_all c.type_of.result.now value mask c.writers.result.now ≡ done_by_all (group_tree g) value mask (writers g) =
    λ i. done_by_all (c.type_of.ensures i) value mask (c.writers.ensures.writers i) in
    let some : (vec_len c.in-Ok.actions == 0) ≡ false = sym c.is_empty.ensures ∙ c.if-is_empty.false in
    actions_are g value mask c.in-Ok.actions.items (sym told ∙ c.in-Ok.ensures.actions)
    (λ none. false≢true (sym some ∙ eq-eqb (vec_len c.in-Ok.actions) 0 (omega (arith, none, c.in-Ok.actions.ok))))

pub returns-clause-may : goal.returns-clause-may
returns-clause-may c = λ configs over. c.in-Ok.ensures.may configs (c.writers.ensures.over configs over)

pub returns-clause-few : goal.returns-clause-few
returns-clause-few c =
    let each = actions_few c.type_of.result.now (view c.args.value.now) c.args.mask.now c.writers.result.now c.in-Ok.actions.items c.in-Ok.ensures.actions in
    omega (arith, each, c.writers.ensures.few)
