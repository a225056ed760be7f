use Rattle.std.proofs.Common.{◌∙◌, ℤ, SFits, w64, ap, to_z-of_z, rules}
use Rattle.journal_core.specs.Moments.{Moment}
use Rattle.srv_stream.specs.Views.{view_of}
use Rattle.srv_stream.proofs.Feeding.{feeds_told, told_is}
use Rattle.cli_within.proofs.server_end.feed.Goals as goal

pub feed-requires-clause-site : goal.feed-requires-clause-site
feed-requires-clause-site g c = c.requires.ready.site

pub feed-requires-clause-holds : goal.feed-requires-clause-holds
feed-requires-clause-holds g c = c.requires.ready.holds

pub returns-clause-feeds : goal.returns-clause-feeds
returns-clause-feeds g c =
    let fits : SFits w64 c.now-seconds.result.0 = search rules in
    let told = g.C.Clock.moment c.args.clock.now in
    let moment : Moment = c.new.result in
    let is = c.new.ensures ∙ ap (λ (z : ℤ). let m : Moment = record { seconds = z; nanoseconds = c.now-seconds.result.1 } in m) (to_z-of_z fits) in
    feeds_told (g.D.Desk.seat c.args.desk.now) (g.D.Desk.seat c.feed.new.desk) told moment (view_of c.args.serving.now) (view_of c.feed.new.self) c.args.piece.now c.feed.result
    (told_is told moment c.now-seconds.result.0 c.now-seconds.result.1 is c.now-seconds.ensures.moment) c.feed.ensures.feeds
