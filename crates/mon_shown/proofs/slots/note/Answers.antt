use Rattle.std.proofs.Common.{◌≡◌, ◌∙◌, ℕ, false, length, take, get_or, ap, arith, subst}
use Rattle.std.specs.Prelude.{◌↔◌}
use Rattle.std.proofs.Math.Seq.{take-length}
use Rattle.std.proofs.lemmas.Option.{slice_get-get_or}
use Rattle.std.specs.Ordering.{nat_cmp}
use Rattle.std.specs.FinSet.{FinSet, empty, intersection}
use Rattle.mon_shown.proofs.Listing.{noting_starts, noting_step, noted_within, noted_all}
use Rattle.mon_shown.proofs.slots.note.Goals as goal

pub loop-rec-init : goal.loop-rec-init
loop-rec-init g c = noting_starts (g.V.Views.shows c.args.views.now c.args.channel) c.args.requested.now c.args.index.now c.args.slot c.triggering-recs.result.now c.requires.free

pub loop-rec-preserved : goal.loop-rec-preserved
loop-rec-preserved g c =
    let shown = g.V.Views.shows c.args.views.now c.args.channel in
    let mask = c.args.requested.now in
    let recs = c.triggering-recs.result.now in
    let i = c.loop-rec.rec-index in
    noting_step shown mask c.args.index.now c.loop-rec.index c.add_if.new.index c.args.slot recs i (get_or recs i 0) (slice_get-get_or recs i 0 c.loop-rec-test.true) c.loop-rec.invariant c.meets-wanted.result
    (subst (λ (t : FinSet nat_cmp). (c.meets-wanted.result ≡ false) ↔ (intersection t mask ≡ empty)) c.triggers.ensures c.meets-wanted.ensures)
    (c.in_ok-add_if.ensures {u = tt}).ok

pub returns-in_err-add_if-clause-others : goal.returns-in_err-add_if-clause-others
returns-in_err-add_if-clause-others g c = λ r s ne. (c.in_err-add_if.ensures {u = tt}).err r s ∙ c.loop-rec.invariant.others r s ne

pub returns-in_err-add_if-clause-within : goal.returns-in_err-add_if-clause-within
returns-in_err-add_if-clause-within g c = λ r none.
    (c.in_err-add_if.ensures {u = tt}).err r c.args.slot
    ∙ noted_within (g.V.Views.shows c.args.views.now c.args.channel) c.args.requested.now c.args.index.now c.loop-rec.index c.args.slot c.triggering-recs.result.now c.loop-rec.rec-index c.loop-rec.invariant r none

pub returns-clause-ok : goal.returns-clause-ok
returns-clause-ok g c =
    let recs = c.triggering-recs.result.now in
    let end : c.loop-rec.rec-index ≡ length recs = omega (arith, c.loop-rec-test.false, c.loop-rec.auto.rec-index-end) in
    noted_all (g.V.Views.shows c.args.views.now c.args.channel) c.args.requested.now c.args.index.now c.loop-rec.index c.args.slot recs c.loop-rec.rec-index c.loop-rec.invariant
    (ap (λ (n : ℕ). take n recs) end ∙ take-length recs) c.triggering-recs.ensures

pub returns-clause-within : goal.returns-clause-within
returns-clause-within g c =
    noted_within (g.V.Views.shows c.args.views.now c.args.channel) c.args.requested.now c.args.index.now c.loop-rec.index c.args.slot c.triggering-recs.result.now c.loop-rec.rec-index c.loop-rec.invariant
