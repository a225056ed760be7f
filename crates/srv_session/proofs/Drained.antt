-- A session whose pump found nothing unread is drained.
use Rattle.std.proofs.Common.{◌≡◌, ◌==◌, ◌||◌, ℕ, Bool, true, false, cond, List, [], ◌∷◌, ◌++◌, Option, None, Some, refl, sym, ◌∙◌, ap, subst, arith, inl, inr}
use Rattle.std.specs.FinMap.{get as at, keys}
use Rattle.std.specs.List.{filter}
use Rattle.std.proofs.lemmas.Bool.{false≢true}
use Rattle.std.proofs.lemmas.Bool.Decides.{nat_tests}
use Rattle.mon_queue.specs.declared.update.Update.{Update}
use Rattle.desk_api.specs.declared.history.SiteData.{SiteData}
use Rattle.desk_api.specs.declared.mark.Mark.{Mark}
use Rattle.srv_session.specs.State.{State, Requests, Asked, is_due, due}
use Rattle.srv_session.specs.Replies.{Sent}
use Rattle.srv_session.specs.Steps.{Step, hears, pops, PopRow, IsPopOf, update_sent, after_pop, AreSteps, state_after, last_pop, IsEmptyPop, IsDrained, events_of}
use Rattle.srv_session.specs.Calls.{ArePopsOf, is_some_sent, sends}
use Rattle.srv_session.proofs.Owning.{Has, has_key}
use Rattle.srv_session.proofs.Steps.{after_append}

pub last_append : (req : ℕ) (o : Option (List Mark)) (xs ys : List Step) → last_pop req o (xs ++ ys) ≡ last_pop req (last_pop req o xs) ys
last_append req o [] ys = refl
last_append req o (hears e marks sent ∷ xs) ys = last_append req None xs ys
last_append req o (pops r marks sent ∷ xs) ys = last_append req (cond (r == req) (Some marks) o) xs ys

-- A pop that sent nothing found nothing unread, and changed nothing.
record IsQuiet (s : State) (req : ℕ) (marks : List Mark) : Type 0 where
  state : after_pop s req marks ≡ s
  empty : IsEmptyPop (Some marks)

quiet : (site : SiteData) (s : State) (req : ℕ) (marks : List Mark) (sent : List Sent) → PopRow site s req marks sent → is_some_sent sent ≡ false → IsQuiet s req marks
quiet site s req marks sent p none = by_update p.update p.is_pop p.sent_is
  where
    by_update : (update : Option Update) → IsPopOf s req p.channel update marks → sent ≡ update_sent site req p.channel update → IsQuiet s req marks
    by_update None u said = record {
      state = ap (after_pop s req) u.marks_are;
      empty = subst (λ (ms : List Mark). IsEmptyPop (Some ms)) (sym u.marks_are) tt;
    }
    by_update (Some update) u said = absurd (false≢true (sym none ∙ ap is_some_sent said))

no_either : (a b : Bool) → (a || b) ≡ false → (a ≡ false) × (b ≡ false)
no_either true b is = absurd (false≢true (sym is))
no_either false b is = (refl, is)

-- Each of these requests was popped, and all of the pops were quiet.
record AreQuiet (site : SiteData) (s : State) (reqs : List ℕ) (xs : List Step) : Type 0 where
  state : state_after site s xs ≡ s
  stays : (req : ℕ) (o : Option (List Mark)) → IsEmptyPop o → IsEmptyPop (last_pop req o xs)
  each : (req : ℕ) (o : Option (List Mark)) → Has req reqs → IsEmptyPop (last_pop req o xs)

empty_by : (b : Bool) (marks : List Mark) (o : Option (List Mark)) → IsEmptyPop (Some marks) → IsEmptyPop o → IsEmptyPop (cond b (Some marks) o)
empty_by true marks o p q = p
empty_by false marks o p q = q

are_quiet : (site : SiteData) (s : State) (reqs : List ℕ) (xs : List Step) → ArePopsOf reqs xs → AreSteps site s xs → sends xs ≡ false → AreQuiet site s reqs xs
are_quiet site s [] [] are rules none = record { state = refl; stays = λ req o p. p; each = λ req o h. absurd h }
are_quiet site s [] (x ∷ xs) are rules none = absurd are
are_quiet site s (r ∷ reqs) [] are rules none = absurd are
are_quiet site s (r ∷ reqs) (hears e marks sent ∷ xs) are rules none = absurd are
are_quiet site s (r ∷ reqs) (pops req marks sent ∷ xs) are rules none =
    let parts = no_either (is_some_sent sent) (sends xs) none in
    let q = quiet site s req marks sent rules.0.0 parts.0 in
    let rest = are_quiet site s reqs xs are.1 (subst (λ (z : State). AreSteps site z xs) q.state rules.1) parts.1 in
    record {
      state = ap (λ (z : State). state_after site z xs) q.state ∙ rest.state;
      stays = λ k o p. rest.stays k (cond (req == k) (Some marks) o) (empty_by (req == k) marks o q.empty p);
      each = λ k o h. first q rest k o h;
    }
  where
    first : IsQuiet s req marks → AreQuiet site s reqs xs → (k : ℕ) (o : Option (List Mark)) → Has k (r ∷ reqs) → IsEmptyPop (last_pop k (cond (req == k) (Some marks) o) xs)
    first q rest k o (inl same) =
        let here : req ≡ k = are.0 ∙ same in
        let test : (req == k) ≡ true = grind (arith, nat_tests) in
        rest.stays k (cond (req == k) (Some marks) o) (subst (λ (b : Bool). IsEmptyPop (cond b (Some marks) o)) (sym test) q.empty)
    first q rest k o (inr h) = rest.each k (cond (req == k) (Some marks) o) h

-- Pops are no events.

pub popped_events : (reqs : List ℕ) (xs : List Step) → ArePopsOf reqs xs → events_of xs ≡ []
popped_events [] [] are = refl
popped_events [] (x ∷ xs) are = absurd are
popped_events (r ∷ reqs) [] are = absurd are
popped_events (r ∷ reqs) (hears e marks sent ∷ xs) are = absurd are
popped_events (r ∷ reqs) (pops req marks sent ∷ xs) are = popped_events reqs xs are.1

-- Which requests are due.

has_filter : (test : ℕ → Bool) (n : ℕ) (xs : List ℕ) → Has n xs → test n ≡ true → Has n (filter test xs)
has_filter test n [] h is = absurd h
has_filter test n (x ∷ xs) (inl same) is = by_test (test x) (ap test same ∙ is)
  where
    by_test : (b : Bool) → b ≡ true → Has n (cond b (x ∷ filter test xs) (filter test xs))
    by_test true e = inl same
    by_test false e = absurd (false≢true e)
has_filter test n (x ∷ xs) (inr h) is = by_test (test x) (has_filter test n xs h is)
  where
    by_test : (b : Bool) → Has n (filter test xs) → Has n (cond b (x ∷ filter test xs) (filter test xs))
    by_test true rest = inr rest
    by_test false rest = rest

pub is_among_due : (requests : Requests) (req : ℕ) → is_due (at requests req) ≡ true → Has req (due requests)
is_among_due requests req is = by_place (at requests req) refl is
  where
    by_place : (o : Option Asked) → at requests req ≡ o → is_due o ≡ true → Has req (due requests)
    by_place None here e = absurd (false≢true e)
    by_place (Some ask) here e = has_filter (λ k. is_due (at requests k)) req (keys requests) (has_key requests req ask here) is

pub pumped_dry : (site : SiteData) (s : State) (steps pumped : List Step) → ArePopsOf (due (state_after site s steps).requests) pumped → AreSteps site (state_after site s steps) pumped → sends pumped ≡ false
    → IsDrained site s (steps ++ pumped)
pumped_dry site s steps pumped are rules none req is =
    let here = state_after site s steps in
    let q = are_quiet site here (due here.requests) pumped are rules none in
    let same : state_after site s (steps ++ pumped) ≡ here = after_append site s steps pumped ∙ q.state in
    let among = is_among_due here.requests req (sym (ap (λ (z : State). is_due (at z.requests req)) same) ∙ is) in
    subst IsEmptyPop (sym (last_append req None steps pumped)) (q.each req (last_pop req None steps) among)
