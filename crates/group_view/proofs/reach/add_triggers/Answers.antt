use Rattle.std.proofs.Common.{◌≡◌, ◌++◌, ℕ, cond, eqb, Some, [], sym, ap, ◌∙◌}
use Rattle.std.specs.BTreeMap.{get_by}
use Rattle.std.specs.Ordering.{nat_cmp}
use Rattle.pvd_type.proofs.Sets.{by_cmp}
use Rattle.group_view.specs.Leaves.{is_about, numbers_at}
use Rattle.group_view.proofs.Reaching.{triggers_added}
use Rattle.group_view.proofs.reach.add_triggers.Goals as goal

pub returns : goal.returns
returns c = λ rec.
    let mine : ℕ = c.rec-rec.result in
    let trigger = c.args.member.now.def.trigger in
    let taken = c.take_numbers-numbers.new.found in
    let numbers = c.extend_from_slice.new.self in
    let grown = c.in_ok-extend_from_slice.ensures.items ∙ (λ i. c.take_numbers-numbers.ensures.numbers i ++ c.as_slice.ensures i) in
    let about : eqb mine rec ≡ is_about rec c.args.member.now.link = ap (λ (r : ℕ). eqb r rec) c.rec-rec.ensures ∙ sym (ap (is_about rec) c.in-Some.is) in
    triggers_added mine rec trigger c.args.found.now taken (get_by (nat_cmp rec) c.insert.new.self) numbers
    (c.in_ok-insert.ensures.updates.0 rec ∙ (λ j. cond (by_cmp mine rec j) (Some numbers) (get_by (nat_cmp rec) taken))) grown (c.take_numbers-numbers.ensures.others rec)
    ∙ ap (λ b. numbers_at c.args.found.now rec ++ cond b trigger []) about
