use Rattle.std.proofs.Common.{Option, List, ℕ, ◌≡◌, true, sym, ◌∙◌, subst}
use Rattle.desk_api.specs.Calls.{Calls}
use Rattle.desk_api.specs.declared.sub.Sub.{Sub}
use Rattle.srv_session.specs.State.{slot_of_sub}
use Rattle.srv_session.specs.Calls.{AreLiving}
use Rattle.srv_session.specs.Rising.{AreListed, is_rising, without_id}
use Rattle.srv_session.specs.Rows.{AreEndingsOf}
use Rattle.srv_session.proofs.Ending.{ends_none, ends_one}
use Rattle.srv_session.proofs.Rising.{listed_unlisted, rising_filter}
use Rattle.srv_session.proofs.session.Session.end_taken.Goals as goal

pub returns-in_default-clause-calls : goal.returns-in_default-clause-calls
returns-in_default-clause-calls g c =
    let seat = g.D.Desk.seat c.args.desk.now in
    subst (λ (o : Option Sub). Calls seat seat (AreEndingsOf (slot_of_sub o))) (sym c.in_default.is ∙ c.subscription_of.ensures) (ends_none seat c.has_legal_history.ensures)

pub unlist-requires : goal.unlist-requires
unlist-requires g c = c.args.self.now.rising

pub unsubscribe-requires : goal.unsubscribe-requires
unsubscribe-requires g c =
    (subst (λ (o : Option Sub). AreLiving (g.D.Desk.seat c.args.desk.now).log (slot_of_sub o)) (sym c.subscription_of.ensures ∙ c.in-Some.is) c.requires.living).0.0

pub invariant_of-self : goal.invariant_of-self
invariant_of-self g c =
    let ids = c.args.self.now.monitors.items in
    record {
      some = c.args.self.now.some;
      within = c.args.self.now.within;
      rising = subst (λ (l : List ℕ). is_rising l ≡ true) (sym c.unlist.ensures) (rising_filter _ ids c.args.self.now.rising);
      listed = subst (λ (l : List ℕ). AreListed l c.args.self.now.table.asks) (sym c.unlist.ensures) (listed_unlisted ids c.args.self.now.table.asks c.args.req c.requires.gone c.args.self.now.listed);
    }

pub returns-clause-calls : goal.returns-clause-calls
returns-clause-calls g c =
    let here = g.D.Desk.seat c.args.desk.now in
    let there = g.D.Desk.seat c.unsubscribe.new.self in
    subst (λ (o : Option Sub). Calls here there (AreEndingsOf (slot_of_sub o))) (sym c.in-Some.is ∙ c.subscription_of.ensures) (ends_one here there c.in-Some.sub.slot c.unsubscribe.ensures.calls)
