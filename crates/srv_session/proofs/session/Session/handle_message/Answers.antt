use Rattle.pva_frames.specs.LentView.{whole_of}
use Rattle.pva_frames.specs.declared.event.Event.TheVariants.{Message}
use Rattle.srv_session.specs.Views.{show}
use Rattle.srv_session.proofs.Heeding.{handled_on_site}
use Rattle.srv_session.proofs.Kept.{handled_holds, handled_living}
use Rattle.srv_session.proofs.session.Session.handle_message.Goals as goal

pub returns-clause-handles : goal.returns-clause-handles
returns-clause-handles g c = c.answer_message.ensures

pub returns-clause-site : goal.returns-clause-site
returns-clause-site g c =
    handled_on_site (show (g.D.Desk.seat c.args.desk.now) c.args.self.now) (show (g.D.Desk.seat c.answer_message.new.desk) c.answer_message.new.self) c.args.moment (Message (whole_of c.args.message.now)) c.answer_message.result
    c.answer_message.ensures c.requires.site

pub returns-clause-holds : goal.returns-clause-holds
returns-clause-holds g c =
    handled_holds (show (g.D.Desk.seat c.args.desk.now) c.args.self.now) (show (g.D.Desk.seat c.answer_message.new.desk) c.answer_message.new.self) c.args.moment (Message (whole_of c.args.message.now)) c.answer_message.result
    c.answer_message.ensures c.requires.holds

pub returns-clause-living : goal.returns-clause-living
returns-clause-living g c =
    handled_living (show (g.D.Desk.seat c.args.desk.now) c.args.self.now) (show (g.D.Desk.seat c.answer_message.new.desk) c.answer_message.new.self) c.args.moment (Message (whole_of c.args.message.now)) c.answer_message.result
    c.answer_message.ensures c.requires.holds
