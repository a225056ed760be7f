use Rattle.std.proofs.Common.{◌≡◌, ◌<◌, ◌+◌, Some, None, length, get_or, take, drop, ◌∙◌, sym, rules}
use Rattle.std.proofs.lemmas.Result.{err_from_is_err_and}
use Rattle.pvd_type.specs.View.{shape_view, members_view, names_of}
use Rattle.pvd_type.specs.Check.{Label}
use Rattle.pvd_type.proofs.Walks.{bad_label, bad_below, goes_on, members_from, names_to}
use Rattle.pvd_desc.proofs.Places.{stands}
use Rattle.pvd_desc.proofs.standing.+standing.Goals as goal

pub members_stand-returns-in_err-may_stand-clause-checks : goal.members_stand-returns-in_err-may_stand-clause-checks
members_stand-returns-in_err-may_stand-clause-checks t c =
    let ms = c.args.members.now in
    let i = c.loop-i.i in
    let m = c.index-members-i.result in
    let within : i < length ms = search rules in
    let here : get_or ms i m ≡ m = search rules in
    let rest = members_from ms i m within here in
    let label : Label = record { name = m.name; before = names_of (take i ms) } in
    let named = rw rest at c.loop-i.invariant.named in
    let fault = c.in_err-may_stand.field-0.0 in
    let bad = bad_label c.loop-i.count c.args.level (names_of (take i ms)) m.name (shape_view m.shape) (members_view (drop (i + 1) ms)) fault
    (stands c.loop-i.count c.args.level label (Some fault) named.0 c.in_err-may_stand.ensures.fault) in
    let p = err_from_is_err_and c.from_residual.result c.from_residual.ensures.1 in
    rw (p.1, p.2) (sym c.loop-i.invariant.fault ∙ rw rest bad)

pub members_stand-returns-in_err-count-clause-checks : goal.members_stand-returns-in_err-count-clause-checks
members_stand-returns-in_err-count-clause-checks t c =
    let ms = c.args.members.now in
    let i = c.loop-i.i in
    let m = c.index-members-i.result in
    let within : i < length ms = search rules in
    let here : get_or ms i m ≡ m = search rules in
    let rest = members_from ms i m within here in
    let label : Label = record { name = m.name; before = names_of (take i ms) } in
    let named = rw rest at c.loop-i.invariant.named in
    let good = stands c.loop-i.count c.args.level label None named.0 c.in_ok-may_stand.ensures.ok in
    let bad = bad_below c.loop-i.count c.args.level (names_of (take i ms)) m.name (shape_view m.shape) (members_view (drop (i + 1) ms)) c.in_err-count.field-0.0 good c.in_err-count.ensures.checks in
    let p = err_from_is_err_and c.from_residual-in_err-count.result c.from_residual-in_err-count.ensures.1 in
    rw (p.1, p.2) (sym c.loop-i.invariant.fault ∙ rw rest bad)

pub members_stand-loop-i-preserved : goal.members_stand-loop-i-preserved
members_stand-loop-i-preserved t c =
    let ms = c.args.members.now in
    let i = c.loop-i.i in
    let m = c.index-members-i.result in
    let within : i < length ms = search rules in
    let here : get_or ms i m ≡ m = search rules in
    let rest = members_from ms i m within here in
    let names = names_to ms i m within here in
    let label : Label = record { name = m.name; before = names_of (take i ms) } in
    let named = rw rest at c.loop-i.invariant.named in
    let good = stands c.loop-i.count c.args.level label None named.0 c.in_ok-may_stand.ensures.ok in
    let step = goes_on c.loop-i.count c.args.level (names_of (take i ms)) m.name (shape_view m.shape) (members_view (drop (i + 1) ms)) c.in_ok-count.count good c.in_ok-count.ensures.checks in
    record {
      few = c.in_ok-count.ensures.few;
      named = rw names named.2;
      fault = rw names (sym step.0 ∙ (rw rest at c.loop-i.invariant.fault));
      total = rw names (sym step.1 ∙ (rw rest at c.loop-i.invariant.total));
    }
