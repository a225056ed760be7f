use Rattle.std.proofs.Common.{◌≡◌, ◌++◌}
use Rattle.std.proofs.lemmas.Result.{on_ok_weaker}
use Rattle.pva_messages.specs.Replies as reply
use Rattle.srv_session.specs.Replies.{IsSayable, said, spelled}
use Rattle.srv_session.specs.Views.{state_of, output_of}
use Rattle.srv_session.proofs.Replying.{greeted}
use Rattle.srv_session.proofs.session.Session.greet.Goals as goal

pub returns-clause-output : goal.returns-clause-output
returns-clause-output c =
    let s = state_of c.args.self.now in
    let m = state_of c.say_control.new.self in
    let second = output_of c.say_control.new.self in
    let last = output_of c.say.new.self in
    on_ok_weaker c.say.result
    (λ (more : (last ≡ second ++ spelled m.order m.segment (said (reply.validation 65536 32767 c.in_ok-methods.methods.items))) × IsSayable (said (reply.validation 65536 32767 c.in_ok-methods.methods.items))).
    greeted s m c.in_ok-methods.methods.items (output_of c.args.self.now) second last c.say_control.ensures.state (c.in_ok-say_control.ensures {u = tt}).ok.0 more.0 (c.in_ok-methods.ensures {u = tt}))
    c.say.ensures.ok
