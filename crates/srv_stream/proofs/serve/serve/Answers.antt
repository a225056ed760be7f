use Rattle.std.proofs.Common.{false, None, sym, subst, arith}
use Rattle.srv_stream.specs.Streams.{moment_told, View}
use Rattle.srv_stream.specs.Views.{view_of}
use Rattle.srv_stream.proofs.Going.{Standing}
use Rattle.srv_stream.proofs.GoingOn.{going_living}
use Rattle.srv_stream.proofs.Turns.{standing_start, idling, open_on_site, open_holds, pump_on_site, pump_holds, pumped_on, pumped_less, pump_ended, one_to_pump, most_to_pump, none_to_pump, ending, end_due, wrote_on, unwritten_living, write_ended, write_fault, read_on, read_ended, read_fault, all_ended, all_faultless, all_spent, told_so, fault_told}
use Rattle.srv_stream.proofs.serve.serve.Goals as goal

pub turns-init : goal.turns-init
turns-init g c =
    let old = g.D.Desk.seat c.args.desk.now in
    let wire = g.L.Link.wire c.args.link.now in
    let told = moment_told (g.C.Clock.moment c.args.clock.now) in record {
      within = omega arith;
      standing = subst (λ (v : View). Standing old old wire wire told c.args.order v None false 0) (sym c.requires) (standing_start old wire told c.args.order c.has_legal_history.ensures);
    }

-- A write.

pub write_some-requires : goal.write_some-requires
write_some-requires g c = c.in-Write.ensures.0

pub turns-smaller-in-Ok : goal.turns-smaller-in-Ok
turns-smaller-in-Ok g c = let most = most_to_pump (view_of c.write_some.new.serving).pending c.turns.pumped in omega (arith, most, c.in-Write.ensures.1)

pub turns-preserved-in-Ok : goal.turns-preserved-in-Ok
turns-preserved-in-Ok g c = record {
  within = omega (arith, c.in-Write.ensures.1);
  standing = wrote_on (g.L.Link.wire c.write_some.new.link) (view_of c.write_some.new.serving) c.turns.invariant.standing c.in-Ok.ensures;
}

pub end-requires : goal.end-requires
end-requires g c = unwritten_living (g.L.Link.wire c.write_some.new.link) (view_of c.write_some.new.serving) c.in-Err.ended c.turns.invariant.standing c.in-Err.ensures

pub returns-in-Err-clause-served : goal.returns-in-Err-clause-served
returns-in-Err-clause-served g c =
    told_so c.end.result c.in-Err.ended c.end.ensures.ended
    (write_ended c.args.turns (g.L.Link.wire c.write_some.new.link) (view_of c.write_some.new.serving) c.in-Err.ended c.turns.invariant.standing c.end.ensures.finished c.in-Write.ensures.0 c.in-Err.ensures)

pub returns-in-Err-clause-fault : goal.returns-in-Err-clause-fault
returns-in-Err-clause-fault g c =
    fault_told g.L.Link.wire c.args.link.now c.write_some.new.link c.end.result c.in-Err.ended c.end.ensures.ended
    (write_fault g.L.Link.wire c.args.link.now c.turns.link c.write_some.new.link (view_of c.turns.serving) (view_of c.write_some.new.serving) c.in-Err.ended c.turns.invariant.standing.going.faults c.in-Err.ensures)

-- A pump.

pub pump-requires-clause-site : goal.pump-requires-clause-site
pump-requires-clause-site g c = pump_on_site c.turns.invariant.standing c.in-Pump.ensures.may

pub pump-requires-clause-holds : goal.pump-requires-clause-holds
pump-requires-clause-holds g c = pump_holds c.turns.invariant.standing c.in-Pump.ensures.may

pub turns-smaller-in-Ok-pump : goal.turns-smaller-in-Ok-pump
turns-smaller-in-Ok-pump g c =
    let w = view_of c.pump.new.self in
    let x = c.in-Ok-pump.ensures in
    let some = pumped_less c.turns.invariant.standing c.in-Pump.ensures.may w c.in-Ok-pump.more x.pumps x.stream in
    let before = one_to_pump (view_of c.turns.serving).pending c.turns.pumped c.in-Pump.ensures.written c.in-Pump.ensures.pumped_is in
    let after = none_to_pump w.pending c.in-Ok-pump.more some in omega (arith, before, after)

pub turns-preserved-in-Ok-pump : goal.turns-preserved-in-Ok-pump
turns-preserved-in-Ok-pump g c = let x = c.in-Ok-pump.ensures in record {
  within = c.turns.invariant.within;
  standing = pumped_on c.turns.invariant.standing c.in-Pump.ensures.may (view_of c.pump.new.self) c.in-Ok-pump.more x.pumps x.stream;
}

pub end-requires-in-Err-pump : goal.end-requires-in-Err-pump
end-requires-in-Err-pump g c = c.in-Err-pump.ensures.living

pub returns-in-Err-pump-clause-served : goal.returns-in-Err-pump-clause-served
returns-in-Err-pump-clause-served g c =
    told_so c.end-in-Err-pump.result _ c.end-in-Err-pump.ensures.ended
    (pump_ended c.turns.invariant.standing c.in-Pump.ensures.may (view_of c.pump.new.self) c.args.turns c.in-Err-pump.ensures.pumps c.end-in-Err-pump.ensures.finished)

-- A read.

pub read_some-requires-clause-site : goal.read_some-requires-clause-site
read_some-requires-clause-site g c = open_on_site c.turns.invariant.standing c.in-Read.ensures.0.over_is

pub read_some-requires-clause-holds : goal.read_some-requires-clause-holds
read_some-requires-clause-holds g c = open_holds c.turns.invariant.standing c.in-Read.ensures.0.over_is

pub turns-smaller : goal.turns-smaller
turns-smaller g c = let most = most_to_pump (view_of c.read_some.new.serving).pending false in omega (arith, most, c.in-Read.ensures.1)

pub turns-preserved : goal.turns-preserved
turns-preserved g c =
    let x = c.in-Read.ensures.0 in record {
      within = omega (arith, c.in-Read.ensures.1);
      standing = read_on (idling c.turns.invariant.standing x) (g.L.Link.wire c.read_some.new.link) (g.D.Desk.seat c.read_some.new.desk) (view_of c.read_some.new.serving) c.in-Ok-read_some.found c.in-Ok-read_some.ensures.reads;
    }

pub end-requires-in-Err-read_some : goal.end-requires-in-Err-read_some
end-requires-in-Err-read_some g c = c.in-Err-read_some.ensures.living

pub returns-in-Err-read_some-clause-served : goal.returns-in-Err-read_some-clause-served
returns-in-Err-read_some-clause-served g c =
    told_so c.end-in-Err-read_some.result c.in-Err-read_some.ended c.end-in-Err-read_some.ensures.ended
    (read_ended (idling c.turns.invariant.standing c.in-Read.ensures.0) (g.L.Link.wire c.read_some.new.link) (g.D.Desk.seat c.read_some.new.desk) (view_of c.read_some.new.serving) c.end-in-Err-read_some.ensures.finished c.args.turns
    c.in-Err-read_some.ended c.in-Err-read_some.ensures.reads)

pub returns-in-Err-read_some-clause-fault : goal.returns-in-Err-read_some-clause-fault
returns-in-Err-read_some-clause-fault g c =
    fault_told g.L.Link.wire c.args.link.now c.read_some.new.link c.end-in-Err-read_some.result c.in-Err-read_some.ended c.end-in-Err-read_some.ensures.ended
    (read_fault g.L.Link.wire c.args.link.now c.turns.link c.read_some.new.link (g.D.Desk.seat c.turns.desk) (g.D.Desk.seat c.read_some.new.desk) (moment_told (g.C.Clock.moment c.args.clock.now)) (view_of c.turns.serving) (view_of c.read_some.new.serving)
    c.in-Err-read_some.ended c.turns.invariant.standing.going.faults c.in-Err-read_some.ensures.reads)

-- The end.

pub end-requires-in-End : goal.end-requires-in-End
end-requires-in-End g c = going_living c.turns.invariant.standing.going

pub returns-in-End-clause-served : goal.returns-in-End-clause-served
returns-in-End-clause-served g c =
    let x = c.in-End.ensures in
    told_so c.end-in-End.result c.in-End.ended c.end-in-End.ensures.ended
    (all_ended c.args.turns c.in-End.ended (ending c.in-End.ended c.turns.invariant.standing x.over_is) (end_due (view_of c.turns.serving).pending c.turns.over c.turns.pumped c.in-End.ended x) c.end-in-End.ensures.finished)

pub returns-in-End-clause-fault : goal.returns-in-End-clause-fault
returns-in-End-clause-fault g c =
    fault_told g.L.Link.wire c.args.link.now c.turns.link c.end-in-End.result c.in-End.ended c.end-in-End.ensures.ended
    (all_faultless g.L.Link.wire c.args.link.now c.turns.link c.in-End.ended (ending c.in-End.ended c.turns.invariant.standing c.in-End.ensures.over_is))

pub end-requires-in-Spent : goal.end-requires-in-Spent
end-requires-in-Spent g c = going_living c.turns.invariant.standing.going

pub returns-in-Spent-clause-served : goal.returns-in-Spent-clause-served
returns-in-Spent-clause-served g c =
    told_so c.end-in-Spent.result _ c.end-in-Spent.ensures.ended
    (all_spent c.args.turns c.turns.invariant.standing (omega (arith, c.in-Spent.ensures.0, c.turns.invariant.within)) c.in-Spent.ensures.1 c.end-in-Spent.ensures.finished)
