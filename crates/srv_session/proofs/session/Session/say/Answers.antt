use Rattle.pva_messages.specs.Views.{reply_view}
use Rattle.srv_session.proofs.Sayable.{added_reply}
use Rattle.srv_session.proofs.session.Session.say.Goals as goal

pub returns-clause-ok : goal.returns-clause-ok
returns-clause-ok c =
    added_reply c.args.self.now.sent c.args.self.now.output.items c.write_to_client-written.new.out.items _ (reply_view c.args.reply) c.write_to_client-written.result c.args.self.now.within c.requires.2
    c.write_to_client-written.ensures.ok c.write_to_client-written.ensures.spelled
