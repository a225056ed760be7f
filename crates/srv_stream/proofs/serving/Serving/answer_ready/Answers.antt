use Rattle.std.proofs.Common.{[], Some, refl}
use Rattle.pva_frames.specs.Assembled.{Gave}
use Rattle.srv_stream.specs.Streams.{View}
use Rattle.srv_stream.specs.Views.{view_of}
use Rattle.srv_stream.proofs.Passing.{passed_nothing}
use Rattle.srv_stream.proofs.Answering.{ready_answered, ready_err, ready_without}
use Rattle.srv_stream.proofs.Feeding.{passed_on_site, passed_holds, passed_living}
use Rattle.srv_stream.proofs.serving.Serving.answer_ready.Goals as goal

pub events-init : goal.events-init
events-init g c = passed_nothing (g.D.Desk.seat c.args.desk.now) (Some c.args.moment) (view_of c.args.self.now) c.has_legal_history.ensures c.args.self.now.sound

pub answer-requires-clause-site : goal.answer-requires-clause-site
answer-requires-clause-site g c = passed_on_site c.events.invariant c.requires.site

pub answer-requires-clause-holds : goal.answer-requires-clause-holds
answer-requires-clause-holds g c = passed_holds c.events.invariant c.requires.holds

pub events-preserved : goal.events-preserved
events-preserved g c =
    let v1 : View = record (view_of c.events.self) { stream = c.next.new.self } in
    let x : Gave c.events.self.stream c.next.new.self c.in-Event.event = rw c.in-Event.is at c.in-Ok.ensures in
    ready_answered c.events.invariant v1 (view_of c.answer.new.self) c.in-Event.event x.first x.left refl refl c.in-Ok-answer.ensures.answers

pub returns-in-Err-answer-clause-feeds : goal.returns-in-Err-answer-clause-feeds
returns-in-Err-answer-clause-feeds g c =
    let v1 : View = record (view_of c.events.self) { stream = c.next.new.self } in
    let x : Gave c.events.self.stream c.next.new.self c.in-Event.event = rw c.in-Event.is at c.in-Ok.ensures in
    ready_err c.events.invariant (g.D.Desk.seat c.answer.new.desk) v1 (view_of c.answer.new.self) [] c.in-Event.event c.in-Err-answer.ended x.first refl refl c.in-Err-answer.ensures.answers

pub returns-in-More-clause-site : goal.returns-in-More-clause-site
returns-in-More-clause-site g c = passed_on_site c.events.invariant c.requires.site

pub returns-in-More-clause-holds : goal.returns-in-More-clause-holds
returns-in-More-clause-holds g c = passed_holds c.events.invariant c.requires.holds

pub returns-in-More-clause-living : goal.returns-in-More-clause-living
returns-in-More-clause-living g c = passed_living c.events.invariant c.requires.holds

pub returns-in-Fault-clause-living : goal.returns-in-Fault-clause-living
returns-in-Fault-clause-living g c = passed_living c.events.invariant c.requires.holds

pub returns-in-Err-clause-living : goal.returns-in-Err-clause-living
returns-in-Err-clause-living g c = passed_living c.events.invariant c.requires.holds

pub returns-in-Err-clause-feeds : goal.returns-in-Err-clause-feeds
returns-in-Err-clause-feeds g c =
    ready_without c.events.invariant (record (view_of c.events.self) { stream = c.next.new.self }) [] refl refl
