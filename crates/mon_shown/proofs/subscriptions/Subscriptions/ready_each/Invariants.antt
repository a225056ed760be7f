use Rattle.std.proofs.Common.{◌≤◌}
use Rattle.mon_shown.specs.Viewing.{AreViews}
use Rattle.mon_shown.proofs.Taking.{IsMaking}
use Rattle.mon_shown.proofs.subscriptions.Subscriptions.ready_each.Given as goal

abbrev pub invariant-loop-turn : goal.invariant-loop-turn
invariant-loop-turn g l = record {
  at : l._turn ≤ l.start;
  few : l.start ≤ 1024;
  viewed : AreViews (g.V.Views.shows l.views) l.states l.viewed.views.items;
  making : IsMaking (g.V.Views.shows l.views) l.states l.entry l.self l.start l.made.readies.items;
}
