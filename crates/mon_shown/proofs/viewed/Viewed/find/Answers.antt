use Rattle.std.proofs.Common.{length, refl, arith}
use Rattle.std.proofs.lemmas.Option.{slice_get_read}
use Rattle.mon_shown.proofs.Viewing.{serves}
use Rattle.mon_shown.proofs.viewed.Viewed.find.Goals as goal

pub returns-then-serves : goal.returns-then-serves
returns-then-serves g c = λ states are.
    let views = c.args.self.now.views in
    let seen = c.index-seen.result.now in
    serves (g.V.Views.shows c.args.views.now) states views.items are c.loop-at.at seen c.args.channel c.args.mask.now
    (slice_get_read views.items (length views.items) c.loop-at.at seen refl (omega (arith, c.loop-at-test.true, c.len-at-end.ensures, views.ok)) c.index-seen.ensures)
    (c.serves.ensures.channel c.if-serves.true) (c.serves.ensures.leaves c.if-serves.true)
