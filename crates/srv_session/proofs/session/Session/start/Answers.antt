use Rattle.std.proofs.Common.{ℕ, List, ◌++◌, sym, ◌∙◌, ap, subst}
use Rattle.srv_session.specs.Calls.{IsOf}
use Rattle.srv_session.specs.Replies.{spelled_all, greetings}
use Rattle.srv_session.specs.State.{State}
use Rattle.srv_session.specs.Views.{state_of}
use Rattle.srv_session.proofs.OnSite.{opening_on_site}
use Rattle.srv_session.proofs.session.Session.start.Goals as goal

pub returns-clause-output : goal.returns-clause-output
returns-clause-output c =
    let silent = c.in_ok-session.ensures {u = tt} in
    let s = state_of c.in_ok-session.session in
    (c.in_ok-greet.ensures {u = tt}).output
    ∙ ap (λ (o : List ℕ). o ++ spelled_all s.order s.segment greetings) silent.output
    ∙ ap (λ (z : State). spelled_all z.order z.segment greetings) silent.state

pub returns-clause-site : goal.returns-clause-site
returns-clause-site c site =
    subst (λ (z : State). IsOf site z) (sym ((c.in_ok-greet.ensures {u = tt}).state ∙ (c.in_ok-session.ensures {u = tt}).state))
    (opening_on_site site c.args.order)
