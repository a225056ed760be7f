use Rattle.std.proofs.Common.{◌≡◌, length, inl, inr, refl, arith}
use Rattle.srv_stream.specs.Streams.{moment_told}
use Rattle.srv_stream.specs.Views.{view_of}
use Rattle.srv_session.proofs.Kept.{are_living}
use Rattle.srv_stream.proofs.Turns.{piece_read, end_read}
use Rattle.srv_stream.proofs.serve.read_some.Goals as goal

pub returns-in-Got-clause-reads : goal.returns-in-Got-clause-reads
returns-in-Got-clause-reads g c =
    let size : length c.read.new.buffer ≡ 4096 = c.read.auto.buffer in
    piece_read (g.D.Desk.seat c.args.desk.now) (g.D.Desk.seat c.feed.new.desk) (g.L.Link.wire c.args.link.now) (g.L.Link.wire c.read.new.self) (moment_told (g.C.Clock.moment c.args.clock.now)) (view_of c.args.serving.now) (view_of c.feed.new.serving)
    (record { count = c.in-Got.count; buffer = c.read.new.buffer; gave = c.in-Got.ensures.step; small = omega (arith, size) }) c.feed.result c.over_by.result c.over_by.ensures c.feed.ensures.feeds

pub returns-in-End-clause-reads : goal.returns-in-End-clause-reads
returns-in-End-clause-reads g c =
    end_read (g.D.Desk.seat c.args.desk.now) (g.L.Link.wire c.args.link.now) (g.L.Link.wire c.read.new.self) (moment_told (g.C.Clock.moment c.args.clock.now)) (view_of c.args.serving.now)
    c.rest.result c.ended_inside.result c.ended_inside.ensures c.rest.ensures c.in-End.ensures.step

pub returns-in-Idle-clause-reads : goal.returns-in-Idle-clause-reads
returns-in-Idle-clause-reads g c = inr (record { idled = c.in-Idle.ensures.step; untouched = record { seat = refl; view = refl } })

pub returns-in-Failed-clause-reads : goal.returns-in-Failed-clause-reads
returns-in-Failed-clause-reads g c = record { failed = c.in-Failed.ensures.step; untouched = record { seat = refl; view = refl } }

pub returns-in-NoMemory-clause-reads : goal.returns-in-NoMemory-clause-reads
returns-in-NoMemory-clause-reads g c = inl (record { unchanged = c.in-NoMemory.ensures.step; untouched = record { seat = refl; view = refl } })

pub returns-in-End-clause-living : goal.returns-in-End-clause-living
returns-in-End-clause-living g c = are_living (g.D.Desk.seat c.args.desk.now).log (view_of c.args.serving.now).state c.requires.holds

pub returns-in-Idle-clause-living : goal.returns-in-Idle-clause-living
returns-in-Idle-clause-living g c = are_living (g.D.Desk.seat c.args.desk.now).log (view_of c.args.serving.now).state c.requires.holds

pub returns-in-Failed-clause-living : goal.returns-in-Failed-clause-living
returns-in-Failed-clause-living g c = are_living (g.D.Desk.seat c.args.desk.now).log (view_of c.args.serving.now).state c.requires.holds

pub returns-in-NoMemory-clause-living : goal.returns-in-NoMemory-clause-living
returns-in-NoMemory-clause-living g c = are_living (g.D.Desk.seat c.args.desk.now).log (view_of c.args.serving.now).state c.requires.holds
