use Rattle.std.proofs.Common.{◌≡◌, ◌∙◌, ◌+◌, ◌<◌, ◌&&◌, Bool, sym, ap, length, get_or, drop, rules}
use Rattle.pvd_type.specs.View.{members_view}
use Rattle.pvd_value.specs.View.{row_view}
use Rattle.pvd_value.specs.Fits.{row_fits}
use Rattle.pvd_value.proofs.Rows.{unequal_rows, row_from, members_from}
use Rattle.pvd_value.proofs.fitting.+fits.Goals as goal

pub row_fits-returns-then-values-members : goal.row_fits-returns-then-values-members
row_fits-returns-then-values-members t c = sym (unequal_rows c.args.left c.args.values.now c.args.members.now c.if-values-members.true)

pub row_fits-loop-i-preserved : goal.row_fits-loop-i-preserved
row_fits-loop-i-preserved t c =
    let vs = c.args.values.now in
    let ms = c.args.members.now in
    let i = c.loop-i.i in
    let v = c.index-values-i.result in
    let m = c.index-members-i.result in
    let in_vs : i < length vs = search rules in
    let in_ms : i < length ms = search rules in
    let at_v : get_or vs i v ≡ v = search rules in
    let at_m : get_or ms i m ≡ m = search rules in
    let rest_v = row_from vs i v in_vs at_v in
    let rest_m = members_from ms i m in_ms at_m in
    let rest = row_fits c.args.left (row_view (drop (i + 1) vs)) (members_view (drop (i + 1) ms)) in
    let step = ap (λ (b : Bool). b && rest) (sym c.if-not-fits_at.ensures) in
    sym step ∙ (rw (rest_v, rest_m) at c.loop-i.invariant)

pub row_fits-returns-then-not-fits_at : goal.row_fits-returns-then-not-fits_at
row_fits-returns-then-not-fits_at t c =
    let vs = c.args.values.now in
    let ms = c.args.members.now in
    let i = c.loop-i.i in
    let v = c.index-values-i.result in
    let m = c.index-members-i.result in
    let in_vs : i < length vs = search rules in
    let in_ms : i < length ms = search rules in
    let at_v : get_or vs i v ≡ v = search rules in
    let at_m : get_or ms i m ≡ m = search rules in
    let rest_v = row_from vs i v in_vs at_v in
    let rest_m = members_from ms i m in_ms at_m in
    let rest = row_fits c.args.left (row_view (drop (i + 1) vs)) (members_view (drop (i + 1) ms)) in
    let step = ap (λ (b : Bool). b && rest) c.if-not-fits_at.ensures in
    step ∙ (rw (rest_v, rest_m) at c.loop-i.invariant)
