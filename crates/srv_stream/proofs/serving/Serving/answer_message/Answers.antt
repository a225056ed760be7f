use Rattle.pva_frames.specs.LentView.{whole_of}
use Rattle.pva_frames.specs.declared.event.Event.TheVariants.{Message}
use Rattle.srv_session.specs.Views.{show}
use Rattle.srv_stream.proofs.Answering.{answered}
use Rattle.srv_stream.proofs.serving.Serving.answer_message.Goals as goal

pub returns-in-Ok-clause-answers : goal.returns-in-Ok-clause-answers
returns-in-Ok-clause-answers g c =
    answered (show (g.D.Desk.seat c.args.desk.now) c.args.self.now.session) (show (g.D.Desk.seat c.handle_message.new.desk) c.handle_message.new.self)
    c.args.moment (Message (whole_of c.args.message.now)) c.args.self.now.stream c.in-Ok.ensures.handles
