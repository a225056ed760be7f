use Rattle.std.proofs.Common.{rules, ◌≡◌, ◌+◌, ◌<◌, refl, sym, ap, ◌∙◌, subst, arith, get_or, length, [], ◌∷◌, length-append, map}
use mathlib.Core.List.{map-append}
use Rattle.hall_core.specs.Meanings.{Among}
use Rattle.histories.specs.History.{Every}
use Rattle.hall_locks.specs.Hall.{WasShown}
use Rattle.hall_locks.specs.Hands.{Taking}
use Rattle.hall_locks.proofs.CellByCell.{takes_one, may_take, carries_all}
use Rattle.hall_locks.proofs.hall.Hall.take_all.Goals as goal

pub take-x-requires-clause-inside : goal.take-x-requires-clause-inside
take-x-requires-clause-inside g c = subst (Every (λ n. n < c.args.self.now.count)) c.requires.bound c.requires.inside

pub take-x-requires-clause-may : goal.take-x-requires-clause-may
take-x-requires-clause-may g c = let may = may_take c.args.seat.now.me c.loop-i.seat.me g.B.Footprint.bound c.args.footprint.now c.args.self.now.count c.loop-i.i (map g.T.Law.meaning.shows c.loop-i.cells.items) c.loop-i-test.true c.requires.bound c.requires.rests.hub c.loop-i.invariant.2 in search (rules, may)

pub loop-i-preserved : goal.loop-i-preserved
loop-i-preserved g c = (
  c.take-x.ensures.own.0 ∙ c.loop-i.invariant.0,
  c.take-x.ensures.own.1 ∙ c.loop-i.invariant.1,
  subst (λ l. Taking c.args.seat.now.me c.take-x.new.seat.me g.B.Footprint.bound c.args.footprint.now c.args.self.now.count (c.loop-i.i + 1) l) (sym (ap (map g.T.Law.meaning.shows) c.push_reserved.ensures.items ∙ map-append g.T.Law.meaning.shows c.loop-i.cells.items (c.take-x.result ∷ [])))
      (takes_one c.args.seat.now.me c.loop-i.seat.me c.take-x.new.seat.me g.B.Footprint.bound c.args.footprint.now c.args.self.now.count c.loop-i.i (c.loop-i.i + 1) (map g.T.Law.meaning.shows c.loop-i.cells.items) (get_or c.args.footprint.now c.loop-i.i 0) (g.T.Law.meaning.shows c.take-x.result)
      c.loop-i-test.true refl (omega arith) (subst (λ l. Among (get_or c.args.footprint.now c.loop-i.i 0) l) c.requires.bound (c.loop-i.i, c.loop-i-test.true, refl)) c.take-x.ensures.taken c.loop-i.invariant.2),
  ap length c.push_reserved.ensures.items ∙ (length-append c.loop-i.cells.items (c.take-x.result ∷ []) ∙ ap (λ n. n + 1) c.loop-i.invariant.3),
  c.push_reserved.ensures.capacity ∙ c.loop-i.invariant.4,
  subst (λ l. Every (WasShown g.T.Law.meaning c.args.seat.now.me.0.seen.base) l) (sym (ap (λ m. m.0.cells) c.take-x.ensures.taken))
      (subst (λ h. WasShown g.T.Law.meaning h.base (get_or c.args.footprint.now c.loop-i.i 0, g.T.Law.meaning.shows c.take-x.result)) (ap (λ v. v.seen) c.loop-i.invariant.2.same) c.take-x.ensures.was, c.loop-i.invariant.5),
)

pub returns-clause-own : goal.returns-clause-own
returns-clause-own g c = (c.loop-i.invariant.0, c.loop-i.invariant.1)

pub returns-clause-carries : goal.returns-clause-carries
returns-clause-carries g c = let e : c.loop-i.i ≡ length c.args.footprint.now = search rules in carries_all c.args.seat.now.me c.loop-i.seat.me g.B.Footprint.bound c.args.footprint.now c.args.self.now.count c.loop-i.i (map g.T.Law.meaning.shows c.loop-i.cells.items) e c.requires.rests c.loop-i.invariant.2

pub returns-clause-values : goal.returns-clause-values
returns-clause-values g c = c.loop-i.invariant.2.values

pub returns-clause-many : goal.returns-clause-many
returns-clause-many g c = let e : c.loop-i.i ≡ length c.args.footprint.now = search rules in c.loop-i.invariant.3 ∙ e

pub returns-clause-same : goal.returns-clause-same
returns-clause-same g c = c.loop-i.invariant.2.same

pub returns-clause-was : goal.returns-clause-was
returns-clause-was g c = c.loop-i.invariant.5
