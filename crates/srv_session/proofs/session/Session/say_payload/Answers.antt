use Rattle.std.proofs.Common.{◌≡◌, ℕ, true, List, ◌++◌, refl, subst}
use Rattle.std.specs.Prelude.{OnOk}
use Rattle.pva_frames.specs.Spelling.{message_bytes}
use Rattle.pva_messages.specs.Rows.{byte_of}
use Rattle.srv_session.proofs.Replying.{added, left_out}
use Rattle.srv_session.proofs.session.Session.say_payload.Goals as goal

pub returns-clause-state : goal.returns-clause-state
returns-clause-state c = refl

pub returns-clause-ok : goal.returns-clause-ok
returns-clause-ok c =
    let before = c.args.self.now.output.items in
    let after = c.write_message.new.out.items in
    let bytes : ℕ → List ℕ → List ℕ = λ (n : ℕ) (p : List ℕ). message_bytes c.args.self.now.order true n p c.args.self.now.segment in
    added c.args.self.now.sent before after (bytes (byte_of c.args.command) c.args.self.now.payload.items) c.write_message.result c.args.self.now.within
    (subst (λ (p : List ℕ). OnOk c.write_message.result (after ≡ before ++ bytes (byte_of c.args.command) p)) c.deref.ensures.value
    (subst (λ (n : ℕ). OnOk c.write_message.result (after ≡ before ++ bytes n c.deref.result.now)) c.byte.ensures c.write_message.ensures.ok))

pub returns-clause-err : goal.returns-clause-err
returns-clause-err c = left_out c.args.self.now.sent c.args.self.now.output.items c.write_message.new.out.items c.write_message.result c.write_message.ensures.err
