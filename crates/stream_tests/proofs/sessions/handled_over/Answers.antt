use Rattle.std.proofs.Common.{◌≡◌, List, sym, ◌∙◌, subst}
use Rattle.pva_wire.specs.declared.order.Order.{Order}
use Rattle.desk_api.specs.declared.history.SiteData.{SiteData}
use Rattle.desk_api.specs.declared.mark.Mark.{Mark}
use Rattle.srv_session.specs.Calls.{Holds, IsOf}
use Rattle.srv_session.specs.State.{State, opening}
use Rattle.srv_session.proofs.Kept.{opening_holds}
use Rattle.stream_tests.proofs.sessions.handled_over.Goals as goal

-- what is written of a session changes nothing of which sites it may serve, and it has no subscription yet

carried : (site : SiteData) (old new : State) → new ≡ old → ((any : SiteData) → IsOf any old) → IsOf site new
carried site old new same ok = subst (λ (s : State). IsOf site s) (sym same) (ok site)

held : (log : List Mark) (order : Order) (new : State) → new ≡ opening order → Holds log new
held log order new is = subst (λ (s : State). Holds log s) (sym is) (opening_holds log order)

pub handle-answer-requires-clause-site : goal.handle-answer-requires-clause-site
handle-answer-requires-clause-site c = carried _ _ _ c.took.ensures.state c.in_ok-session.ensures.site

pub handle-answer-requires-clause-holds : goal.handle-answer-requires-clause-holds
handle-answer-requires-clause-holds c = held _ _ _ (c.took.ensures.state ∙ c.in_ok-session.ensures.state)
