use Rattle.std.proofs.Common.{◌≡◌, ◌<◌, ◌+◌, ◌++◌, ◌∷◌, [], ℕ, List, length, get_or, take, drop, subst, ◌∙◌, sym, rules}
use Rattle.pvd_type.specs.Siblings.{knows}
use Rattle.std.proofs.lemmas.Result.{err_from_is_err_and}
use Rattle.pvd_type.specs.View.{shape_view, members_view, names_of}
use Rattle.pvd_type.proofs.Walks.{bad_below, goes_on, members_from, names_to}
use Rattle.pvd_type.proofs.checking.+check.Goals as goal

pub check_members-returns-in_err-count-clause-checks : goal.check_members-returns-in_err-count-clause-checks
check_members-returns-in_err-count-clause-checks t c =
    let ms = c.args.members.now in
    let i = c.loop-i.i in
    let m = c.index-members-i.result in
    let within : i < length ms = search rules in
    let here : get_or ms i m ≡ m = search rules in
    let rest = members_from ms i m within here in
    let bad = bad_below c.loop-i.count c.args.level (names_of (take i ms)) m.name (shape_view m.shape) (members_view (drop (i + 1) ms)) c.in_err-count.field-0.0 c.in_ok-check_label.ensures.ok c.in_err-count.ensures.checks in
    let p = err_from_is_err_and c.from_residual-in_err-count.result c.from_residual-in_err-count.ensures.1 in
    rw (p.1, p.2) (sym c.loop-i.invariant.fault ∙ rw rest bad)

pub check_members-loop-i-preserved : goal.check_members-loop-i-preserved
check_members-loop-i-preserved t c =
    let ms = c.args.members.now in
    let i = c.loop-i.i in
    let m = c.index-members-i.result in
    let within : i < length ms = search rules in
    let here : get_or ms i m ≡ m = search rules in
    let rest = members_from ms i m within here in
    let names = names_to ms i m within here in
    let step = goes_on c.loop-i.count c.args.level (names_of (take i ms)) m.name (shape_view m.shape) (members_view (drop (i + 1) ms)) c.in_ok-count.count c.in_ok-check_label.ensures.ok c.in_ok-count.ensures.checks in
    let text : c.as_bytes.result.now ≡ m.name = search rules in
    record {
      few = c.in_ok-count.ensures.few;
      known = rw names (subst (λ (n : List ℕ). knows c.add-twice.new.self (names_of (take i ms) ++ n ∷ [])) text c.add-twice.ensures.known);
      fault = rw names (sym step.0 ∙ (rw rest at c.loop-i.invariant.fault));
      total = rw names (sym step.1 ∙ (rw rest at c.loop-i.invariant.total));
    }
