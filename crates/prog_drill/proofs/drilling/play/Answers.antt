use Rattle.srv_stream.specs.Views.{view_of}
use Rattle.prog_drill.proofs.Totalling.{on_played, starts_holding, starts_on_site}
use Rattle.prog_drill.proofs.drilling.play.Goals as goal

pub feed_all-requires-clause-site : goal.feed_all-requires-clause-site
feed_all-requires-clause-site g c = starts_on_site _ (view_of c.in-Ok.serving) _ c.in-Ok.ensures

pub feed_all-requires-clause-holds : goal.feed_all-requires-clause-holds
feed_all-requires-clause-holds g c = starts_holding _ (view_of c.in-Ok.serving) _ c.in-Ok.ensures

pub returns : goal.returns
returns g c = on_played _ _ (view_of c.in-Ok.serving) c.args.bytes.now c.feed_all.result c.in-Ok.ensures c.feed_all.ensures
