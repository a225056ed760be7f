use Rattle.std.proofs.Common.{ℕ, List, Ok, Err, sym, ◌∙◌, ap, subst}
use Rattle.pva_frames.specs.declared.event.Event.{Event}
use Rattle.pva_frames.specs.declared.event.Event.TheVariants.{Message, Control}
use Rattle.srv_stream.specs.Streams.{AnsweredEvent, PartOfEvent, AnswersEvent}
use Rattle.srv_session.specs.Views.{show}
use Rattle.srv_stream.specs.Views.{view_of}
use Rattle.srv_session.specs.declared.stop.SessionStop.TheVariants as stops
use Rattle.srv_session.proofs.Kept.{handled_holds, handled_living}
use Rattle.srv_stream.proofs.Answering.{answered, control_answers}
use Rattle.srv_stream.proofs.Feeding.{handled_on_site}
use Rattle.srv_stream.proofs.serving.Serving.answer.Goals as goal

pub returns-in-Ok-clause-answers : goal.returns-in-Ok-clause-answers
returns-in-Ok-clause-answers g c =
    let seat = g.D.Desk.seat c.args.desk.now in
    let old = show seat c.args.self.now.session in
    let new = show seat c.handle_control.new.self in
    subst (λ (e : Event). AnsweredEvent seat seat c.args.moment (view_of c.args.self.now) (view_of record { session = c.handle_control.new.self; stream = c.args.self.now.stream; sound = c.args.self.now.sound }) e) (sym c.in-Control.is)
    (answered old new c.args.moment (Control c.in-Control.command c.in-Control.number) c.args.self.now.stream (c.in-Ok.ensures seat c.has_legal_history.ensures c.args.moment))

pub returns-in-Ok-clause-site : goal.returns-in-Ok-clause-site
returns-in-Ok-clause-site g c =
    let seat = g.D.Desk.seat c.args.desk.now in
    handled_on_site {old = show seat c.args.self.now.session} {new = show seat c.handle_control.new.self} (Control c.in-Control.command c.in-Control.number) (c.in-Ok.ensures seat c.has_legal_history.ensures c.args.moment) c.requires.site

pub returns-in-Ok-clause-holds : goal.returns-in-Ok-clause-holds
returns-in-Ok-clause-holds g c =
    let seat = g.D.Desk.seat c.args.desk.now in
    handled_holds (show seat c.args.self.now.session) (show seat c.handle_control.new.self) c.args.moment (Control c.in-Control.command c.in-Control.number) (Ok tt)
    (c.in-Ok.ensures seat c.has_legal_history.ensures c.args.moment) c.requires.holds

pub returns-in-Ok-clause-living : goal.returns-in-Ok-clause-living
returns-in-Ok-clause-living g c =
    let seat = g.D.Desk.seat c.args.desk.now in
    handled_living (show seat c.args.self.now.session) (show seat c.handle_control.new.self) c.args.moment (Control c.in-Control.command c.in-Control.number) (Ok tt)
    (c.in-Ok.ensures seat c.has_legal_history.ensures c.args.moment) c.requires.holds

pub returns-in-Err-clause-living : goal.returns-in-Err-clause-living
returns-in-Err-clause-living g c =
    let seat = g.D.Desk.seat c.args.desk.now in
    handled_living (show seat c.args.self.now.session) (show seat c.handle_control.new.self) c.args.moment (Control c.in-Control.command c.in-Control.number) (Err stops.NoMemory)
    (c.in-Err.ensures seat c.has_legal_history.ensures c.args.moment) c.requires.holds

pub returns-in-Err-clause-answers : goal.returns-in-Err-clause-answers
returns-in-Err-clause-answers g c =
    let seat = g.D.Desk.seat c.args.desk.now in
    let old = show seat c.args.self.now.session in
    let new = show seat c.handle_control.new.self in
    subst (λ (e : Event). PartOfEvent seat seat c.args.moment (view_of c.args.self.now) (view_of record { session = c.handle_control.new.self; stream = c.args.self.now.stream; sound = c.args.self.now.sound }) e) (sym c.in-Control.is)
    (control_answers old new c.args.moment (Control c.in-Control.command c.in-Control.number) c.args.self.now.stream _ (c.in-Err.ensures seat c.has_legal_history.ensures c.args.moment))

pub returns-in-Message-clause-answers : goal.returns-in-Message-clause-answers
returns-in-Message-clause-answers g c =
    let m = c.in-Message.whole in
    let same = ap (λ (p : List ℕ). Message (record { order = m.order; command = m.command; payload = p; place = m.place })) c.as_slice.ensures ∙ sym c.in-Message.is in
    subst (λ (e : Event). AnswersEvent (g.D.Desk.seat c.args.desk.now) (g.D.Desk.seat c.answer_message.new.desk) c.args.moment (view_of c.args.self.now) (view_of c.answer_message.new.self) e c.answer_message.result) same c.answer_message.ensures.answers
