use Rattle.std.proofs.Common.{◌≡◌, ◌∙◌, ℕ, length, take, get_or, ap, arith}
use Rattle.std.proofs.Math.Seq.{take-length}
use Rattle.std.proofs.lemmas.Option.{slice_get-get_or}
use Rattle.mon_shown.proofs.Listing.{forgetting_starts, forgetting_step, forgotten_all}
use Rattle.mon_shown.proofs.slots.forget.Goals as goal

pub loop-rec-init : goal.loop-rec-init
loop-rec-init g c = forgetting_starts c.args.index.now c.args.slot c.triggering-recs.result.now

pub loop-rec-preserved : goal.loop-rec-preserved
loop-rec-preserved g c =
    let recs = c.triggering-recs.result.now in
    let i = c.loop-rec.rec-index in
    forgetting_step c.args.index.now c.loop-rec.index c.remove.new.self c.args.slot recs i (get_or recs i 0) (slice_get-get_or recs i 0 c.loop-rec-test.true) c.loop-rec.invariant c.remove.ensures

pub returns-clause-gone : goal.returns-clause-gone
returns-clause-gone g c =
    let recs = c.triggering-recs.result.now in
    let end : c.loop-rec.rec-index ≡ length recs = omega (arith, c.loop-rec-test.false, c.loop-rec.auto.rec-index-end) in
    forgotten_all (g.V.Views.shows c.args.views.now c.args.channel) c.args.index.now c.loop-rec.index c.args.slot recs c.loop-rec.rec-index c.loop-rec.invariant
    (ap (λ (n : ℕ). take n recs) end ∙ take-length recs) c.triggering-recs.ensures c.requires.within
