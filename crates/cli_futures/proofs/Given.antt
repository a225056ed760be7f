-- The reports of an exchange, one after another.
use Rattle.std.proofs.Common.{◌≡◌, ℕ, List, [], ◌∷◌, ◌++◌, map, Option, None, Some, IsSome, refl, sym, ◌∙◌, ap, subst, append_assoc}
use Rattle.std.proofs.lemmas.List.{append-nil}
use Rattle.futures.specs.Runs.{After, Within}
use Rattle.histories.specs.History.{IsPrefixOf}
use Rattle.pva_outside.specs.Wire.{Wire}
use Rattle.cli_session.specs.Seen.{report_view, reports_view}
use Rattle.cli_session.specs.Steps.{Told}
use Rattle.cli_session.specs.declared.ask.Ask.{Ask}
use Rattle.cli_session.specs.declared.report.Report.{Report}
use Rattle.cli_futures.specs.Exchanging.{HasCause, HasExchanged}
use Rattle.cli_futures.specs.Taking.{IsStopped, told_to}
use Rattle.cli_futures.specs.Turning.{Advances, EndsBy, IsGoing, Rested}
use Rattle.cli_futures.specs.Updating.{AreFirstOf, Follows, GivesMore, GivesNext, GivesNone, HasGiven, HasStopped, HasWaited, StandsAt, StandsBy, StopsBy, Yields}
use Rattle.cli_futures.specs.declared.conversation.Conversation.{Conversation}
use Rattle.cli_futures.specs.declared.end.ExchangeEnd.{ExchangeEnd}
use Rattle.cli_futures.specs.declared.end.ExchangeEnd.TheVariants as ends
use Rattle.cli_futures.specs.declared.end.Patience.{Patience}
use Rattle.cli_futures.specs.declared.end.Step.TheVariants as steps
use Rattle.cli_futures.specs.declared.updates.Updates.{Updates}
use Rattle.cli_futures.proofs.Taken.{told_front}

same_front : {xs ys : List Told} → xs ≡ ys → IsPrefixOf xs ys
same_front {xs} {ys} is = record { rest = []; whole = sym is ∙ sym (append-nil xs) }

-- what was told in an exchange that ended are the first of what is told to the bytes that were read
front_cause : (ask : Ask) (p : Patience) (begin end : Wire) (read written : List ℕ) (told : List Told) (e : ExchangeEnd) → HasCause ask p begin end read written told e → IsPrefixOf told (told_to ask read)
front_cause ask p begin end read written told ends.Done x = same_front x.exchanged.told
front_cause ask p begin end read written told ends.EarlyEnd x = same_front x.exchanged.told
front_cause ask p begin end read written told ends.LinkFault x = same_front x.exchanged.told
front_cause ask p begin end read written told (ends.IdleLimit n) x = same_front x.exchanged.told
front_cause ask p begin end read written told (ends.Spent n) x = same_front x.exchanged.told
front_cause ask p begin end read written told (ends.Frame fault) x = same_front x.stopped.all
front_cause ask p begin end read written told (ends.Client fault) x = same_front x.stopped.all
front_cause ask p begin end read written told ends.NoMemory x = x.stopped

module _ {L : Type 0} (wire : L → Wire) where
  first_by : (ask : Ask) (begin : Wire) (told : List Told) (c : Conversation L) (o : Option ExchangeEnd) → StandsBy wire ask begin told c o → AreFirstOf ask begin told
  first_by ask begin told c None h = record { read = h.read; rest = (wire c.link).left; taken = h.moves.taken; front = told_front h.taken }
  first_by ask begin told c (Some end) h = record { read = h.read; rest = (wire c.link).left; taken = h.moves.taken; front = front_cause ask c.patience begin (wire c.link) h.read h.written told end h.cause }

  -- It went on, and this was told.
  pub record WentOn (old new : Updates L) (more : List Told) : Type 0 where
    pub keeps : (ask : Ask) (begin : Wire) (told : List Told) → StandsAt wire ask begin told old → StandsAt wire ask begin (told ++ more) new
    pub patience : new.conversation.patience ≡ old.conversation.patience

  going_as : (u : Updates L) → u.end ≡ None → (ask : Ask) (begin : Wire) (told : List Told) → StandsAt wire ask begin told u → IsGoing wire ask begin told u.conversation
  going_as u none ask begin told h = subst (λ (o : Option ExchangeEnd). StandsBy wire ask begin told u.conversation o) none h

  stands_as : (u : Updates L) (o : Option ExchangeEnd) → u.end ≡ o → (ask : Ask) (begin : Wire) (told : List Told) → StandsBy wire ask begin told u.conversation o → StandsAt wire ask begin told u
  stands_as u o is ask begin told h = subst (λ (z : Option ExchangeEnd). StandsBy wire ask begin told u.conversation z) (sym is) h

  module _ (old new : Updates L) (none : old.end ≡ None) (same : new.conversation.patience ≡ old.conversation.patience) where
    pub went_told : (r : Report) → new.end ≡ None → Advances wire old.conversation new.conversation (steps.Told r) → WentOn old new (report_view r ∷ [])
    went_told r still adv = record {
      keeps = λ ask begin told h. stands_as new None still ask begin (told ++ report_view r ∷ []) (adv ask begin told (going_as old none ask begin told h));
      patience = same;
    }

    pub went_waits : new.end ≡ None → Advances wire old.conversation new.conversation steps.Waits → WentOn old new []
    went_waits still adv = record {
      keeps = λ ask begin told h. subst (λ (l : List Told). StandsAt wire ask begin l new) (sym (append-nil told)) (stands_as new None still ask begin told (adv ask begin told (going_as old none ask begin told h)));
      patience = same;
    }

    pub went_ended : (end : ExchangeEnd) → new.end ≡ Some end → Advances wire old.conversation new.conversation (steps.Ended end) → WentOn old new []
    went_ended end is adv = record {
      keeps = λ ask begin told h. subst (λ (l : List Told). StandsAt wire ask begin l new) (sym (append-nil told)) (stands_as new (Some end) is ask begin told (adv ask begin told (going_as old none ask begin told h)));
      patience = same;
    }

  pub went_nothing : (u : Updates L) → WentOn u u []
  went_nothing u = record { keeps = λ ask begin told h. subst (λ (l : List Told). StandsAt wire ask begin l u) (sym (append-nil told)) h; patience = refl }

  -- what the stream's clauses say of it
  module _ {old new : Updates L} {more : List Told} (w : WentOn old new more) where
    pub gives_more : GivesMore wire old new more
    gives_more ask idle turns begin told h = record { stands = w.keeps ask begin told h.stands; patience = w.patience ∙ h.patience }

  module _ {old new : Updates L} (w : WentOn old new []) where
    keeps_none : (ask : Ask) (begin : Wire) (told : List Told) → StandsAt wire ask begin told old → StandsAt wire ask begin told new
    keeps_none ask begin told h = subst (λ (l : List Told). StandsAt wire ask begin l new) (append-nil told) (w.keeps ask begin told h)

    pub gives_none : GivesNone wire old new
    gives_none ask idle turns begin told h = record { stands = keeps_none ask begin told h.stands; patience = w.patience ∙ h.patience }

    pub yields_within : Within (Yields wire old) (Yields wire new)
    yields_within xs last y ask begin told h = y ask begin told (keeps_none ask begin told h)

  module _ {old new : Updates L} (r : Report) (w : WentOn old new (report_view r ∷ [])) where
    pub yields_next : Yields wire old [] (Some r)
    yields_next ask begin told h = first_by ask begin (told ++ report_view r ∷ []) new.conversation new.end (w.keeps ask begin told h)

    pub yields_after : After (Yields wire old) r (Yields wire new)
    yields_after xs last y ask begin told h =
        subst (AreFirstOf ask begin) (append_assoc told (report_view r ∷ []) (map report_view xs ++ reports_view last)) (y ask begin (told ++ report_view r ∷ []) (w.keeps ask begin told h))

  pub yields_end : (u : Updates L) → Yields wire u [] None
  yields_end u ask begin told h = subst (AreFirstOf ask begin) (sym (append-nil told)) (first_by ask begin told u.conversation u.end h)

  -- the stream is handed back
  pub ended_as : (u : Updates L) (end : ExchangeEnd) (link : L) → u.end ≡ Some end → link ≡ u.conversation.link
      → (ask : Ask) (idle turns : ℕ) (begin : Wire) (told : List Told) → HasGiven wire ask idle turns begin told u → HasExchanged ask (record { idle = idle; turns = turns }) begin (wire link) told end
  ended_as u end link is over ask idle turns begin told h =
      let ended : HasExchanged ask u.conversation.patience begin (wire u.conversation.link) told end = subst (λ (o : Option ExchangeEnd). StandsBy wire ask begin told u.conversation o) is h.stands in
      let here : HasExchanged ask u.conversation.patience begin (wire link) told end = subst (λ (l : L). HasExchanged ask u.conversation.patience begin (wire l) told end) (sym over) ended in
      subst (λ (p : Patience). HasExchanged ask p begin (wire link) told end) h.patience here

  pub stops_by : (old new : Updates L) (end : ExchangeEnd) → old.end ≡ None → new.end ≡ Some end → EndsBy (wire old.conversation.link) (wire new.conversation.link) old.conversation.idles end → StopsBy wire old new old.end new.end
  stops_by old new end none is e = subst (λ (o : Option ExchangeEnd). StopsBy wire old new o new.end) (sym none) (subst (StopsBy wire old new None) (sym is) e)

  -- it had ended before
  pub stopped_before : (u : Updates L) (end : ExchangeEnd) → u.end ≡ Some end → HasStopped wire u u
  stopped_before u end is = record {
    none = gives_none (went_nothing u);
    ended = subst (λ (o : Option ExchangeEnd). IsSome o) (sym is) refl;
    limit = subst (λ (o : Option ExchangeEnd). StopsBy wire u u o u.end) (sym is) tt;
  }

  -- what follows a poll, and what follows a pending one
  pub follows_as : (old new : Updates L) (o : Option Report) → GivesNext wire old new o → Follows wire old new o
  follows_as old new (Some r) x = x
  follows_as old new None x = (x.none, x.ended)

  pub follows_on : (a b c : Updates L) (o : Option Report) → GivesNone wire a b → Follows wire b c o → Follows wire a c o
  follows_on a b c (Some r) none x = λ ask idle turns begin told h. x ask idle turns begin told (none ask idle turns begin told h)
  follows_on a b c None none x = ((λ ask idle turns begin told h. x.0 ask idle turns begin told (none ask idle turns begin told h)), x.1)
