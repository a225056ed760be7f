-- The course of an exchange: at each turn the server answers what its client asks, and the client takes the answer.
use Rattle.std.proofs.Common.{◌≡◌, ℕ, suc, Bool, true, false, cond, List, [], ◌∷◌, ◌++◌, length, map, Option, None, Some, Result, Ok, Err, refl, sym, ap, subst, ◌∙◌, arith, inl, inr}
use Rattle.std.proofs.lemmas.List.{append-nil}
use Rattle.std.specs.Prelude.{◌⊎◌}
use Rattle.std.specs.FinMap.{get as at}
use Rattle.pva_wire.specs.declared.order.Order.{Order}
use Rattle.pva_frames.specs.declared.event.Event.{Event}
use Rattle.pva_frames.specs.declared.event.Whole.{Whole}
use Rattle.pvd_codec.specs.Written.{CanEach}
use Rattle.pva_messages.specs.Laws.{IsWritable, IsReplyWritable, request_payload}
use Rattle.pva_messages.specs.Replies.{Reply}
use Rattle.pva_messages.specs.Requests as requests
use Rattle.pva_messages.specs.Requests.{Request, request_command}
use Rattle.desk_api.specs.declared.history.SiteData.{SiteData}
use Rattle.desk_api.specs.declared.mark.Mark.{Mark}
use Rattle.desk_api.specs.declared.mark.Mark.TheVariants.{Popped}
use Rattle.srv_session.specs.Replies as replies
use Rattle.srv_session.specs.State as server
use Rattle.srv_session.specs.State.{is_on}
use Rattle.srv_session.specs.Steps.{Step, hears, pops, IsAnswer, AreSteps, after_hearing, after_pop, events_of, marks_of, state_after}
use Rattle.srv_session.specs.Tasks.{Hearing, asks, destroy_request, pass_over, heard}
use Rattle.srv_stream.specs.Streams.{stop_at, stop_of}
use Rattle.cli_session.specs.Messages.{Sent, Written, written, said, end_of}
use Rattle.cli_session.specs.State.{State}
use Rattle.cli_session.specs.Steps.{Told, Taken, Run, quietly, going_on, written_of, step, step_at, run}
use Rattle.cli_text.specs.declared.fault.PutText.{PutText}
use Rattle.cli_session.specs.declared.ask.Ask.{Ask}
use Rattle.cli_session.specs.declared.fault.ClientFault.{ClientFault}
use Rattle.cli_session.specs.declared.fault.ClientFault.TheVariants as faults
use Rattle.cli_session.specs.declared.turn.Turn.{Turn}
use Rattle.cli_within.specs.Ends.{ending_of}
use Rattle.cli_within.specs.declared.stop.Ending.{Ending}
use Rattle.cli_within.proofs.ClientTurns.{reply_event, run_one, nothing_told, nothing_sent}
use Rattle.cli_within.proofs.Said.{AreRequests, AreReplies, IsReply, IsRequest, speak, spoken}
use Rattle.cli_within.proofs.ServerTurns.{NoneDue, not_popped, event_of, hears_it, heard_now}

-- no fault but that of words that give no value
abbrev pub IsWordsOnly : Option ClientFault → Type 0
IsWordsOnly None = Unit {0}
IsWordsOnly (Some (faults.Words text)) = Unit {0}
IsWordsOnly (Some other) = ⊥

abbrev pub HasEnded : List Told → Type 0
HasEnded told = (end : Ending) × (ending_of told ≡ Some end)

-- behind its end an operation has no fault
pub nothing_wrong : (ask : Ask) (c : State) (es : List Event) → c.turns ≡ [] → (run ask c es).fault ≡ None
nothing_wrong ask c [] none = refl
nothing_wrong ask c (e ∷ es) none =
    ap (λ (r : Run). r.fault) (run_one ask c e es (quietly c) (ap (λ (ts : List Turn). step_at ask c ts e) none)) ∙ nothing_wrong ask c es none

-- no message is left for this event
pub none_further : (es : List Event) (e : Event) → AreRequests (es ++ e ∷ []) [] → ⊥
none_further [] e h = h
none_further (x ∷ es) e h = h

-- The end of a request alone.
abbrev pub IsEnd : Written → Type 0
IsEnd w = (sid : ℕ) × ((req : ℕ) × (w.sent ≡ said (requests.destroy_request sid req)))

pub ends_only : (order : Order) (segment sid : ℕ) (req : Option ℕ) → CanEach IsEnd (map (written order segment) (map said (end_of sid req)))
ends_only order segment sid None = tt
ends_only order segment sid (Some req) = ((sid, (req, refl)), tt)

pop_validated : (s : server.State) (req : ℕ) (marks : List Mark) → s.validated ≡ true → (after_pop s req marks).validated ≡ true
pop_validated s req [] now = now
pop_validated s req (Popped place slot (Some update) ∷ []) now = now
pop_validated s req (Popped place slot (Some update) ∷ m ∷ ms) now = now
pop_validated s req (Popped place slot None ∷ ms) now = now
pop_validated s req (m ∷ ms) now = now

module _ (site : SiteData) where
  -- it is heard as such, or passed over
  record HeardEnd (s : server.State) (e : Event) : Type 0 where
    fine : stop_of site s e ≡ None
    kept : (marks : List Mark) → (after_hearing site s (heard site s e) marks).validated ≡ true

  abbrev end_hearing : server.State → ℕ → Bool → Hearing
  end_hearing s req b = asks (cond b (destroy_request req) pass_over) s.types

  heard_end_as : (s : server.State) (e : Event) (order : Order) (place sid req : ℕ) → s.validated ≡ true → e ≡ event_of order place (requests.destroy_request sid req) → (b : Bool)
      → heard site s (event_of order place (requests.destroy_request sid req)) ≡ end_hearing s req b → HeardEnd s e
  heard_end_as s e order place sid req now is true h = record {
    fine =
        ap (stop_of site s) is
        ∙ ap (stop_at (record { order = order; command = request_command (requests.destroy_request sid req); payload = request_payload order (requests.destroy_request sid req); place = place })) h;
    kept = λ marks. ap (λ (x : Event). (after_hearing site s (heard site s x) marks).validated) is ∙ ap (λ (x : Hearing). (after_hearing site s x marks).validated) h ∙ now;
  }
  heard_end_as s e order place sid req now is false h = record {
    fine =
        ap (stop_of site s) is
        ∙ ap (stop_at (record { order = order; command = request_command (requests.destroy_request sid req); payload = request_payload order (requests.destroy_request sid req); place = place })) h;
    kept = λ marks. ap (λ (x : Event). (after_hearing site s (heard site s x) marks).validated) is ∙ ap (λ (x : Hearing). (after_hearing site s x marks).validated) h ∙ now;
  }

  by_end : (s : server.State) (e : Event) (order : Order) (place sid req : ℕ) → s.validated ≡ true → e ≡ event_of order place (requests.destroy_request sid req) → IsWritable (requests.destroy_request sid req) → HeardEnd s e
  by_end s e order place sid req now is can =
      heard_end_as s e order place sid req now is (is_on sid (at s.requests req))
      (hears_it site s order place (requests.destroy_request sid req) (heard_now s (request_command (requests.destroy_request sid req)) now) can)

  heard_end : (s : server.State) (e : Event) (w : Written) → s.validated ≡ true → IsEnd w → IsRequest w.order w.sent e → HeardEnd s e
  heard_end s e w now end is =
      let k = subst (λ (x : Sent). IsRequest w.order x e) end.1.1 is in
      by_end s e w.order k.0 end.0 end.1.0 now k.1 k.2

  -- where only ends are left, each event has an answer
  pub ends_heard : (xs : List Step) (s : server.State) (ws : List Written) (e : Event) → s.validated ≡ true → CanEach IsEnd ws → AreRequests (events_of xs ++ e ∷ []) ws → stop_of site (state_after site s xs) e ≡ None
  ends_heard [] s [] e now ends h = absurd h
  ends_heard [] s (w ∷ ws) e now ends h = (heard_end s e w now ends.0 h.0).fine
  ends_heard (pops req marks sent ∷ xs) s ws e now ends h = ends_heard xs (after_pop s req marks) ws e (pop_validated s req marks now) ends h
  ends_heard (hears f marks sent ∷ xs) s [] e now ends h = absurd h
  ends_heard (hears f marks sent ∷ xs) s (w ∷ ws) e now ends h = ends_heard xs (after_hearing site s (heard site s f) marks) ws e ((heard_end s f w now ends.0 h.0).kept marks) ends.1 h.1

-- A client and a server: these were sent and are not heard yet, and of what these steps say the client takes these events.
pub record Unbroken (ask : Ask) (site : SiteData) (c : State) (s : server.State) (ws : List Written) (steps : List Step) (es : List Event) : Type 0 where
  pub rules : AreSteps site s steps
  pub heard_of : AreRequests (events_of steps) (ws ++ (run ask c es).sent)
  pub told_of : AreReplies es (spoken site s steps)

-- What may stand at the end of a course beside an operation that has ended, of the server's state there, the marks and what was
-- told.
abbrev pub Standing : Type 1
Standing = server.State → List Mark → List Told → Type 0

module _ (ask : Ask) (site : SiteData) (More : Standing) where
  -- an operation that has ended, words that give no value, or that
  abbrev pub Rests : server.State → List Mark → List Told → Option ClientFault → Type 0
  Rests z marks told fault = HasEnded told ⊎ ((fault ≡ None → ⊥) ⊎ More z marks told)

  -- Of a client and a server, with these messages under way: the client takes all that it hears, but for words that give no
  -- value. Once it has heard all that was said, the server has an answer to what it hears next; and if it was heard too, the
  -- operation has ended.
  pub record Goes (c : State) (s : server.State) (ws : List Written) (steps : List Step) (es : List Event) : Type 0 where
    pub fault : IsWordsOnly (run ask c es).fault
    pub rests : length es ≡ length (spoken site s steps) → length (events_of steps) ≡ length (ws ++ (run ask c es).sent) → Rests (state_after site s steps) (marks_of steps) (run ask c es).told (run ask c es).fault
    pub ahead : length es ≡ length (spoken site s steps) → (e : Event) → AreRequests (events_of steps ++ e ∷ []) (ws ++ (run ask c es).sent) → stop_of site (state_after site s steps) e ≡ None

  abbrev pub AllGo : State → server.State → List Written → Type 0
  AllGo c s ws = (steps : List Step) (es : List Event) → Unbroken ask site c s ws steps es → Goes c s ws steps es

  -- the operation goes on behind a reply, or it is the last
  pub record IsLast (t : Taken) (s : server.State) : Type 0 where
    pub over : t.state.turns ≡ []
    pub ended : HasEnded t.told
    pub ends : CanEach IsEnd (written_of t)
    pub now : s.validated ≡ true

  abbrev pub GoesOn : Result Taken ClientFault → server.State → Type 0
  GoesOn (Ok t) s = ((t.told ≡ []) × AllGo t.state s (written_of t)) ⊎ IsLast t s
  GoesOn (Err (faults.Words text)) s = Unit {0}
  GoesOn (Err other) s = ⊥

  -- The one reply that a server gives, and what its client makes of it.
  pub record Reacts (c : State) (s : server.State) (hearing : Hearing) (marks : List Mark) (sent : List replies.Sent) : Type 0 where
    pub reply : Reply
    pub sent_is : sent ≡ replies.said reply ∷ []
    pub taken : Result Taken ClientFault
    pub takes : (place : ℕ) → IsReplyWritable reply → step ask c (reply_event s.order place reply) ≡ taken
    pub on : GoesOn taken (after_hearing site s hearing marks)
    pub keeps : (z : server.State) (ms : List Mark) (told : List Told) → More z ms told → More z (marks ++ ms) told

  module _ (c : State) (s : server.State) (order : Order) (segment : ℕ) (m : Request) (hearing : Hearing) (none : NoneDue s) (fine : (w : Whole) → stop_at w hearing ≡ None)
      (hears_so : (place : ℕ) → IsWritable m → heard site s (event_of order place m) ≡ hearing) (reacts : (marks : List Mark) (sent : List replies.Sent) → IsAnswer site s hearing marks sent → Reacts c s hearing marks sent) where
    abbrev w0 : Written
    w0 = written order segment (said m)

    -- nothing was heard yet
    at_first : Goes c s (w0 ∷ []) [] []
    at_first = record {
      fault = tt;
      rests = λ taken heard_. absurd (omega (arith, heard_));
      ahead = λ taken e h.
          let k = h.0 in
          ap (stop_of site s) k.1 ∙ ap (stop_at (record { order = order; command = request_command m; payload = request_payload order m; place = k.0 })) (hears_so k.0 k.2) ∙ fine (record { order = order; command = request_command m; payload = request_payload order m; place = k.0 });
    }

    module _ (f : Event) (marks : List Mark) (sent : List replies.Sent) (xs : List Step) (same : heard site s f ≡ hearing) (k : Reacts c s hearing marks sent) where
      abbrev next : server.State
      next = after_hearing site s hearing marks

      abbrev all : List Step
      all = hears f marks sent ∷ xs

      next_is : after_hearing site s (heard site s f) marks ≡ next
      next_is = ap (λ (h : Hearing). after_hearing site s h marks) same

      end_is : state_after site s all ≡ state_after site next xs
      end_is = ap (λ (n : server.State). state_after site n xs) next_is

      said_is : length (spoken site s all) ≡ suc (length (spoken site next xs))
      said_is =
          ap (λ (n : server.State). length (speak s.order s.segment sent ++ spoken site n xs)) next_is
          ∙ ap (λ (ys : List replies.Sent). length (speak s.order s.segment ys ++ spoken site next xs)) k.sent_is

      -- the client has not heard the answer yet
      unheard : Goes c s (w0 ∷ []) all []
      unheard = record {
        fault = tt;
        rests = λ taken heard_. absurd (omega (arith, taken, said_is));
        ahead = λ taken e h. absurd (omega (arith, taken, said_is));
      }

      module _ (e : Event) (es : List Event) (first : IsReply s.order (replies.said k.reply) e) (rules : AreSteps site next xs) (told : AreReplies es (spoken site next xs)) (heard_of : AreRequests (events_of xs) (run ask c (e ∷ es)).sent) where
        step_is : step ask c e ≡ k.taken
        step_is = ap (step ask c) first.1 ∙ k.takes first.0 first.2

        abbrev This : Type 0
        This = Goes c s (w0 ∷ []) all (e ∷ es)

        quietly_on : (t : Taken) → step ask c e ≡ Ok t → t.told ≡ [] → AllGo t.state next (written_of t) → This
        quietly_on t is quiet goes =
            let runs = run_one ask c e es t is in
            let told_is : (run ask c (e ∷ es)).told ≡ (run ask t.state es).told = ap (λ (r : Run). r.told) runs ∙ ap (λ (ts : List Told). ts ++ (run ask t.state es).told) quiet in
            let sent_is : (run ask c (e ∷ es)).sent ≡ written_of t ++ (run ask t.state es).sent = ap (λ (r : Run). r.sent) runs in
            let fault_is : (run ask c (e ∷ es)).fault ≡ (run ask t.state es).fault = ap (λ (r : Run). r.fault) runs in
            let g = goes xs es (record { rules = rules; heard_of = subst (AreRequests (events_of xs)) sent_is heard_of; told_of = told }) in
            record {
              fault = subst IsWordsOnly (sym fault_is) g.fault;
              rests = λ taken heard_.
                  let taken_later : length es ≡ length (spoken site next xs) = omega (arith, taken, said_is) in
                  let sent_len = ap (λ (ws : List Written). length ws) sent_is in
                  let heard_later : length (events_of xs) ≡ length (written_of t ++ (run ask t.state es).sent) = omega (arith, heard_, sent_len) in
                  rests_on (run ask t.state es).told (run ask t.state es).fault told_is fault_is (g.rests taken_later heard_later);
              ahead = λ taken x h.
                  let taken_later : length es ≡ length (spoken site next xs) = omega (arith, taken, said_is) in
                  ap (λ (z : server.State). stop_of site z x) end_is ∙ g.ahead taken_later x (subst (AreRequests (events_of xs ++ x ∷ [])) sent_is h.1);
            }
          where
            rests_on : (ts : List Told) (o : Option ClientFault) → (run ask c (e ∷ es)).told ≡ ts → (run ask c (e ∷ es)).fault ≡ o → Rests (state_after site next xs) (marks_of xs) ts o
                → Rests (state_after site s all) (marks_of all) (run ask c (e ∷ es)).told (run ask c (e ∷ es)).fault
            rests_on ts o told_is fault_is (inl ended) = inl (ended.0, ap ending_of told_is ∙ ended.1)
            rests_on ts o told_is fault_is (inr (inl wrong)) = inr (inl (λ none_. wrong (sym fault_is ∙ none_)))
            rests_on ts o told_is fault_is (inr (inr more)) =
                inr (inr (subst (λ (z : server.State). More z (marks_of all) (run ask c (e ∷ es)).told) (sym end_is) (subst (More (state_after site next xs) (marks_of all)) (sym told_is) (k.keeps (state_after site next xs) (marks_of xs) ts more))))

        last_of : (t : Taken) → step ask c e ≡ Ok t → IsLast t next → This
        last_of t is l =
            let runs = run_one ask c e es t is in
            let told_is : (run ask c (e ∷ es)).told ≡ t.told =
            ap (λ (r : Run). r.told) runs ∙ ap (λ (ts : List Told). t.told ++ ts) (nothing_told ask t.state es l.over) ∙ append-nil t.told in
            let sent_is : (run ask c (e ∷ es)).sent ≡ written_of t =
            ap (λ (r : Run). r.sent) runs ∙ ap (λ (ws : List Written). written_of t ++ ws) (nothing_sent ask t.state es l.over) ∙ append-nil (written_of t) in
            let fault_is : (run ask c (e ∷ es)).fault ≡ None = ap (λ (r : Run). r.fault) runs ∙ nothing_wrong ask t.state es l.over in
            record {
              fault = subst IsWordsOnly (sym fault_is) tt;
              rests = λ taken heard_. inl (l.ended.0, ap ending_of told_is ∙ l.ended.1);
              ahead = λ taken x h. ap (λ (z : server.State). stop_of site z x) end_is ∙ ends_heard site xs next (written_of t) x l.now l.ends (subst (AreRequests (events_of xs ++ x ∷ [])) sent_is h.1);
            }

        wrong_words : (text : PutText) → step ask c e ≡ Err (faults.Words text) → This
        wrong_words text is =
            let stops : run ask c (e ∷ es) ≡ record { state = c; told = []; sent = []; fault = Some (faults.Words text) } = ap (λ (r : Result Taken ClientFault). going_on c r (λ u. run ask u es)) is in
            record {
              fault = subst (λ (r : Run). IsWordsOnly r.fault) (sym stops) tt;
              rests = λ taken heard_. inr (inl (λ none_. let clash : Some (faults.Words text) ≡ None = sym (ap (λ (r : Run). r.fault) stops) ∙ none_ in absurd cc));
              ahead = λ taken x h. absurd (none_further (events_of xs) x (subst (λ (r : Run). AreRequests (events_of xs ++ x ∷ []) r.sent) stops h.1));
            }

        answered_by : (r : Result Taken ClientFault) → step ask c e ≡ r → GoesOn r next → This
        answered_by (Ok t) is (inl on) = quietly_on t is on.0 on.1
        answered_by (Ok t) is (inr l) = last_of t is l
        answered_by (Err (faults.Words text)) is on = wrong_words text is
        answered_by (Err other) is on = absurd on

        pub heard_answer : This
        heard_answer = answered_by k.taken step_is k.on

    -- one turn
    pub turn_goes : AllGo c s (w0 ∷ [])
    turn_goes [] [] stand = at_first
    turn_goes [] (e ∷ es) stand = absurd stand.told_of
    turn_goes (pops req marks sent ∷ xs) es stand = absurd (not_popped site s req marks sent none stand.rules.0.0)
    turn_goes (hears f marks sent ∷ xs) es stand = by es stand
      where
        same : (es : List Event) → Unbroken ask site c s (w0 ∷ []) (hears f marks sent ∷ xs) es → heard site s f ≡ hearing
        same es stand = let h = stand.heard_of.0 in ap (heard site s) h.1 ∙ hears_so h.0 h.2

        reacts_so : (es : List Event) → Unbroken ask site c s (w0 ∷ []) (hears f marks sent ∷ xs) es → Reacts c s hearing marks sent
        reacts_so es stand = reacts marks sent (subst (λ (h : Hearing). IsAnswer site s h marks sent) (same es stand) stand.rules.0.0)

        by : (es : List Event) → Unbroken ask site c s (w0 ∷ []) (hears f marks sent ∷ xs) es → Goes c s (w0 ∷ []) (hears f marks sent ∷ xs) es
        by [] stand = unheard f marks sent xs (same [] stand) (reacts_so [] stand)
        by (e ∷ es) stand =
            let k = reacts_so (e ∷ es) stand in
            let is = same (e ∷ es) stand in
            let nexts = next_is f marks sent xs is k in
            let told_next = subst (λ (n : server.State). AreReplies (e ∷ es) (speak s.order s.segment sent ++ spoken site n xs)) nexts stand.told_of in
            let told : AreReplies (e ∷ es) (speak s.order s.segment (replies.said k.reply ∷ []) ++ spoken site (after_hearing site s hearing marks) xs) =
            subst (λ (ys : List replies.Sent). AreReplies (e ∷ es) (speak s.order s.segment ys ++ spoken site (after_hearing site s hearing marks) xs)) k.sent_is told_next in
            heard_answer f marks sent xs is k e es told.0 (subst (λ (n : server.State). AreSteps site n xs) nexts stand.rules.1) told.1 stand.heard_of.1

  -- A message that is heard without an answer.
  pub silent_goes : (c : State) (s : server.State) (order : Order) (segment : ℕ) (m : Request) (hearing : Hearing) (later : List Written) → NoneDue s → ((w : Whole) → stop_at w hearing ≡ None)
      → ((place : ℕ) → IsWritable m → heard site s (event_of order place m) ≡ hearing)
      → ((marks : List Mark) (sent : List replies.Sent) → IsAnswer site s hearing marks sent → (sent ≡ []) × (((z : server.State) (ms : List Mark) (told : List Told) → More z ms told → More z (marks ++ ms) told) × AllGo c (after_hearing site s hearing marks) later))
      → AllGo c s (written order segment (said m) ∷ later)
  silent_goes c s order segment m hearing later none fine hears_so on [] [] stand = record {
    fault = tt;
    rests = λ taken heard_. absurd (omega (arith, heard_));
    ahead = λ taken e h.
        let k = h.0 in
        ap (stop_of site s) k.1 ∙ ap (stop_at (record { order = order; command = request_command m; payload = request_payload order m; place = k.0 })) (hears_so k.0 k.2) ∙ fine (record { order = order; command = request_command m; payload = request_payload order m; place = k.0 });
  }
  silent_goes c s order segment m hearing later none fine hears_so on [] (e ∷ es) stand = absurd stand.told_of
  silent_goes c s order segment m hearing later none fine hears_so on (pops req marks sent ∷ xs) es stand = absurd (not_popped site s req marks sent none stand.rules.0.0)
  silent_goes c s order segment m hearing later none fine hears_so on (hears f marks sent ∷ xs) es stand =
      let h = stand.heard_of.0 in
      let same : heard site s f ≡ hearing = ap (heard site s) h.1 ∙ hears_so h.0 h.2 in
      let next_is = ap (λ (x : Hearing). after_hearing site s x marks) same in
      let k = on marks sent (subst (λ (x : Hearing). IsAnswer site s x marks sent) same stand.rules.0.0) in
      let next = after_hearing site s hearing marks in
      let end_is : state_after site s (hears f marks sent ∷ xs) ≡ state_after site next xs = ap (λ (n : server.State). state_after site n xs) next_is in
      let said_is : length (spoken site s (hears f marks sent ∷ xs)) ≡ length (spoken site next xs) =
      ap (λ (n : server.State). length (speak s.order s.segment sent ++ spoken site n xs)) next_is ∙ ap (λ (ys : List replies.Sent). length (speak s.order s.segment ys ++ spoken site next xs)) k.0 in
      let told_next = subst (λ (n : server.State). AreReplies es (speak s.order s.segment sent ++ spoken site n xs)) next_is stand.told_of in
      let g = k.1.1 xs es (record {
        rules = subst (λ (n : server.State). AreSteps site n xs) next_is stand.rules.1;
        heard_of = stand.heard_of.1;
        told_of = subst (λ (ys : List replies.Sent). AreReplies es (speak s.order s.segment ys ++ spoken site next xs)) k.0 told_next;
      }) in
      record {
        fault = g.fault;
        rests = λ taken heard_.
            rests_on f marks xs (run ask c es).told (run ask c es).fault next k.1.0 end_is (g.rests (omega (arith, taken, said_is)) (omega (arith, heard_)));
        ahead = λ taken x reqs. ap (λ (z : server.State). stop_of site z x) end_is ∙ g.ahead (omega (arith, taken, said_is)) x reqs.1;
      }
    where
      rests_on : (f : Event) (marks : List Mark) (xs : List Step) (told : List Told) (o : Option ClientFault) (next : server.State) → ((z : server.State) (ms : List Mark) (ts : List Told) → More z ms ts → More z (marks ++ ms) ts)
          → state_after site s (hears f marks sent ∷ xs) ≡ state_after site next xs → Rests (state_after site next xs) (marks_of xs) told o → Rests (state_after site s (hears f marks sent ∷ xs)) (marks ++ marks_of xs) told o
      rests_on f marks xs told o next keeps end_is (inl ended) = inl ended
      rests_on f marks xs told o next keeps end_is (inr (inl wrong)) = inr (inl wrong)
      rests_on f marks xs told o next keeps end_is (inr (inr more)) = inr (inr (subst (λ (z : server.State). More z (marks ++ marks_of xs) told) (sym end_is) (keeps (state_after site next xs) (marks_of xs) told more)))
