use Rattle.std.proofs.Common.{◌≡◌, ◌++◌, ℕ, List, sym, ◌∙◌, ap}
use Rattle.std.specs.Prelude.{codes}
use Rattle.srv_session.specs.Replies.{refused}
use Rattle.srv_session.specs.Tasks.{refuse}
use Rattle.srv_session.specs.Views.{show}
use Rattle.srv_session.proofs.Rows.{as_task}
use Rattle.srv_session.proofs.session.Session.refuse_option.Goals as goal

pub returns : goal.returns
returns c seat legal moment =
    let text : c.deref.result.now ≡ codes "bad option " ++ c.args.option.now =
    c.deref.ensures ∙ (c.in_ok-push_str-2.ensures {u = tt}).bytes
    ∙ ap (λ (xs : List ℕ). xs ++ c.as_str.result.now) ((c.in_ok-push_str.ensures {u = tt}).bytes ∙ ap (λ (xs : List ℕ). xs ++ codes "bad option ") c.new-text.ensures.bytes)
    ∙ ap (λ (xs : List ℕ). codes "bad option " ++ xs) c.as_str.ensures.text in
    as_task (show seat c.args.self.now) (show seat c.refuse.new.self) moment (refuse (refused c.args.kind c.args.req c.args.sub c.deref.result.now)) _ c.refuse.result
    (ap (λ (xs : List ℕ). refuse (refused c.args.kind c.args.req c.args.sub xs)) (sym text)) (c.refuse.ensures seat legal moment)
