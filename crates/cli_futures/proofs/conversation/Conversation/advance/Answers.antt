use Rattle.std.proofs.Common.{◌∙◌, refl}
use Rattle.cli_futures.specs.Taking.{client_view}
use Rattle.cli_futures.proofs.Conversing.{conversing_stop, ends_on, ran_none, ran_on, ran_so, rested_on, rested_so, stop_ends, with_taken}
use Rattle.cli_futures.proofs.conversation.Conversation.advance.Goals as goal

pub turns-init : goal.turns-init
turns-init g c = record { going = λ ask begin told h. h; ran = ran_none (g.L.Link.wire c.args.self.now.link) c.args.self.now.idles; patience = refl }

pub turns-preserved : goal.turns-preserved
turns-preserved g c = record {
  going = λ ask begin told h.
      let x = c.turns.invariant.going ask begin told h in
      let y = c.in-Waits.ensures.hears ask x.read x.written told x.taken in
      c.in-Ok.ensures.turns ask begin told (with_taken x told (client_view c.next_told.new.self) y.0) y.1;
  ran = ran_on c.turns.invariant.ran (ran_so (g.L.Link.wire c.turns.self.link) (g.L.Link.wire c.turn.new.self.link) c.turns.self.idles c.turn.new.self.idles c.in-Ok.moved c.if-moved.true c.in-Ok.ensures.idles);
  patience = c.in-Ok.ensures.patience ∙ c.turns.invariant.patience;
}

pub returns-in-Ok-clause-advances : goal.returns-in-Ok-clause-advances
returns-in-Ok-clause-advances g c = λ ask begin told h.
    let x = c.turns.invariant.going ask begin told h in
    let y = c.in-Waits.ensures.hears ask x.read x.written told x.taken in
    c.in-Ok.ensures.turns ask begin told (with_taken x told (client_view c.next_told.new.self) y.0) y.1

pub returns-in-Ok-clause-idles : goal.returns-in-Ok-clause-idles
returns-in-Ok-clause-idles g c =
    rested_on c.turns.invariant.ran (rested_so (g.L.Link.wire c.turns.self.link) (g.L.Link.wire c.turn.new.self.link) c.turns.self.idles c.turn.new.self.idles c.in-Ok.moved c.if-moved.false c.in-Ok.ensures.idles)

pub returns-in-Err-clause-advances : goal.returns-in-Err-clause-advances
returns-in-Err-clause-advances g c = λ ask begin told h.
    let x = c.turns.invariant.going ask begin told h in
    let y = c.in-Waits.ensures.hears ask x.read x.written told x.taken in
    c.in-Err.ensures.turns ask begin told (with_taken x told (client_view c.next_told.new.self) y.0) y.1

pub returns-in-Err-clause-idles : goal.returns-in-Err-clause-idles
returns-in-Err-clause-idles g c = ends_on _ (g.L.Link.wire c.turns.self.link) (g.L.Link.wire c.turn.new.self.link) _ c.turns.self.idles c.in-Err.end c.turns.invariant.ran c.in-Err.ensures.idles

pub returns-in-Told-clause-advances : goal.returns-in-Told-clause-advances
returns-in-Told-clause-advances g c = λ ask begin told h.
    let x = c.turns.invariant.going ask begin told h in
    with_taken x _ (client_view c.next_told.new.self) (c.in-Told.ensures.hears ask x.read x.written told x.taken)

pub returns-in-Ended-clause-advances : goal.returns-in-Ended-clause-advances
returns-in-Ended-clause-advances g c = λ ask begin told h.
    let x = c.turns.invariant.going ask begin told h in
    conversing_stop x c.turns.self.patience c.in-Ended.end (c.in-Ended.ensures.hears ask x.read x.written told x.taken)

pub returns-in-Ended-clause-idles : goal.returns-in-Ended-clause-idles
returns-in-Ended-clause-idles g c = stop_ends (g.L.Link.wire c.args.self.now.link) (g.L.Link.wire c.turns.self.link) c.args.self.now.idles c.in-Ended.end c.in-Ended.ensures.stops
