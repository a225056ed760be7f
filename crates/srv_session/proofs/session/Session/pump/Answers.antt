use Rattle.std.proofs.Common.{◌≡◌, ℕ, ◌+◌, ◌<◌, ◌≤◌, Bool, List, [], ◌∷◌, drop, length, true, refl, sym, ◌∙◌, ap, subst, arith}
use Rattle.desk_api.specs.declared.mark.Seat.{Seat}
use Rattle.srv_session.specs.Views.{state_of, output_of, show}
use Rattle.srv_session.specs.Rising.{is_rising}
use Rattle.srv_session.proofs.Kept.{are_living, pumped_living}
use Rattle.srv_session.proofs.Pops.{Going, going_first, going_next, going_failed, failed_living, gone, rising_drop, next_id, none_behind}
use Rattle.srv_session.proofs.Rising.{due_listed}
use Rattle.srv_session.proofs.session.Session.pump.Goals as goal

pub loop-i-init : goal.loop-i-init
loop-i-init g c = record {
  going =
      going_first (g.D.Desk.seat c.args.desk.now) (state_of c.args.self.now) (output_of c.args.self.now) c.args.self.now.monitors.items c.has_legal_history.ensures c.requires.site c.requires.holds
      (sym (due_listed c.args.self.now.table.asks c.args.self.now.monitors.items c.args.self.now.rising c.args.self.now.listed));
  monitors = refl;
}

pub index-req-requires : goal.index-req-requires
index-req-requires g c =
    omega (arith, ap (λ (l : List ℕ). length l) c.loop-i.invariant.monitors, c.loop-i-test.true, c.len-count.ensures, c.args.self.now.monitors.ok, c.loop-i.self.monitors.ok)

pub pop_due-requires-clause-site : goal.pop_due-requires-clause-site
pop_due-requires-clause-site g c = c.loop-i.invariant.going.on_site

pub pop_due-requires-clause-holds : goal.pop_due-requires-clause-holds
pop_due-requires-clause-holds g c = c.loop-i.invariant.going.holds

pub loop-i-preserved : goal.loop-i-preserved
loop-i-preserved g c =
    let first = c.args.self.now.monitors.items in
    let lt : c.loop-i.i < length first = omega (arith, c.loop-i-test.true, c.len-count.ensures, c.args.self.now.monitors.ok) in
    record {
      going =
          going_next (g.D.Desk.seat c.args.desk.now) (state_of c.args.self.now) (output_of c.args.self.now) (g.D.Desk.seat c.loop-i.desk) (g.D.Desk.seat c.pop_due.new.desk) c.loop-i.self c.pop_due.new.self (drop c.loop-i.i first)
          c.loop-i.sent c.loop-i.invariant.going c.index-req.result.now (drop (c.loop-i.i + 1) first) (next_id c.loop-i.self.monitors.items first c.loop-i.invariant.monitors c.loop-i.i c.index-req.result.now c.index-req.ensures lt)
          (rising_drop c.loop-i.i first c.args.self.now.rising) c.in-Ok.more (c.in-Ok.ensures {u = tt});
      monitors = (c.in-Ok.ensures {u = tt}).monitors ∙ c.loop-i.invariant.monitors;
    }

pub returns-in_default-clause-pumps : goal.returns-in_default-clause-pumps
returns-in_default-clause-pumps g c =
    going_failed (g.D.Desk.seat c.args.desk.now) (state_of c.args.self.now) (output_of c.args.self.now) (g.D.Desk.seat c.loop-i.desk) (g.D.Desk.seat c.pop_due.new.desk) c.loop-i.self c.pop_due.new.self
    (drop c.loop-i.i c.args.self.now.monitors.items) c.loop-i.sent c.loop-i.invariant.going c.index-req.result.now (drop (c.loop-i.i + 1) c.args.self.now.monitors.items)
    (next_id c.loop-i.self.monitors.items c.args.self.now.monitors.items c.loop-i.invariant.monitors c.loop-i.i c.index-req.result.now c.index-req.ensures (omega (arith, c.loop-i-test.true, c.len-count.ensures, c.args.self.now.monitors.ok)))
    (rising_drop c.loop-i.i c.args.self.now.monitors.items c.args.self.now.rising) _ c.in_default.ensures

pub returns-in_default-clause-living : goal.returns-in_default-clause-living
returns-in_default-clause-living g c =
    failed_living (g.D.Desk.seat c.args.desk.now) (state_of c.args.self.now) (output_of c.args.self.now) (g.D.Desk.seat c.loop-i.desk) (g.D.Desk.seat c.pop_due.new.desk) c.loop-i.self c.pop_due.new.self
    (drop c.loop-i.i c.args.self.now.monitors.items) c.loop-i.sent c.loop-i.invariant.going c.index-req.result.now (drop (c.loop-i.i + 1) c.args.self.now.monitors.items)
    (next_id c.loop-i.self.monitors.items c.args.self.now.monitors.items c.loop-i.invariant.monitors c.loop-i.i c.index-req.result.now c.index-req.ensures (omega (arith, c.loop-i-test.true, c.len-count.ensures, c.args.self.now.monitors.ok)))
    (rising_drop c.loop-i.i c.args.self.now.monitors.items c.args.self.now.rising) _ c.in_default.ensures c.requires.holds

pub returns-clause-pumps : goal.returns-clause-pumps
returns-clause-pumps g c =
    gone (g.D.Desk.seat c.args.desk.now) (state_of c.args.self.now) (output_of c.args.self.now) (g.D.Desk.seat c.loop-i.desk) (state_of c.loop-i.self) (output_of c.loop-i.self) c.loop-i.sent
    (subst (λ (ids : List ℕ). Going (g.D.Desk.seat c.args.desk.now) (state_of c.args.self.now) (output_of c.args.self.now) (g.D.Desk.seat c.loop-i.desk) (state_of c.loop-i.self) (output_of c.loop-i.self) ids c.loop-i.sent)
    (none_behind c.loop-i.i c.args.self.now.monitors.items (omega (arith, c.loop-i-test.false, c.len-count.ensures, c.args.self.now.monitors.ok)))
    c.loop-i.invariant.going)

pub returns-clause-site : goal.returns-clause-site
returns-clause-site g c = c.loop-i.invariant.going.on_site

pub returns-clause-holds : goal.returns-clause-holds
returns-clause-holds g c = c.loop-i.invariant.going.holds

pub returns-clause-living : goal.returns-clause-living
returns-clause-living g c = are_living (g.D.Desk.seat c.loop-i.desk).log (state_of c.loop-i.self) c.loop-i.invariant.going.holds
