use Rattle.std.proofs.Common.{Some, None, sym, ◌∙◌, ap}
use Rattle.std.proofs.lemmas.Option.{none-some}
use Rattle.std.specs.FinMap.{get, get-empty}
use Rattle.std.specs.Ordering.{nat_cmp}
use Rattle.srv_session.specs.Rising.{is_rising}
use Rattle.srv_session.proofs.session.Session.silent.Goals as goal

pub invariant_of-result-clause-rising : goal.invariant_of-result-clause-rising
invariant_of-result-clause-rising c = ap is_rising c.new-3.ensures.items

pub invariant_of-result-clause-listed : goal.invariant_of-result-clause-listed
invariant_of-result-clause-listed c req ask here some =
    absurd (none-some ask (sym (get-empty nat_cmp req) ∙ ap (λ t. get t.asks req) (sym (c.in_ok-new.ensures {u = tt})) ∙ here))
