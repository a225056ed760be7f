use Rattle.std.proofs.Common.{◌≡◌, ◌++◌, true, ℕ, List, sym, subst}
use Rattle.std.specs.Prelude.{OnOk}
use Rattle.std.proofs.lemmas.List.{append-nil}
use Rattle.pva_frames.specs.Spelling.{message_bytes}
use Rattle.pva_messages.specs.Replies as reply
use Rattle.srv_session.specs.Replies.{said}
use Rattle.srv_session.specs.Tasks.{echo}
use Rattle.srv_session.specs.Views.{state_of, output_of}
use Rattle.srv_session.proofs.Rows.{on_ok, says_this, said_one}
use Rattle.srv_session.proofs.Sayable.{and_this}
use Rattle.srv_session.proofs.Slots.{still, on_err}
use Rattle.srv_session.proofs.session.Session.echo.Goals as goal

pub returns : goal.returns
returns c seat legal moment =
    said_one seat moment (state_of c.args.self.now) (state_of c.say_bytes.new.self) (output_of c.args.self.now) (output_of c.say_bytes.new.self) (echo c.args.payload.now) c.say_bytes.result (said (reply.echo c.args.payload.now)) legal
    (says_this _) (on_ok c.say_bytes.result c.say_bytes.ensures.state) (and_this _ _ c.say_bytes.result ((tt, (tt, tt), (tt, tt)), tt) (subst (λ (p : List ℕ). OnOk c.say_bytes.result (output_of c.say_bytes.new.self ≡ output_of c.args.self.now ++ message_bytes c.args.self.now.order true 2 p c.args.self.now.segment)) (sym (append-nil c.args.payload.now)) c.say_bytes.ensures.ok))
    c.say_bytes.ensures.err (on_err c.say_bytes.result (still c.say_bytes.ensures.state))
