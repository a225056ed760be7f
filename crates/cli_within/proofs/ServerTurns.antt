-- One turn of a server: what it makes of the next message of a client.
use Rattle.std.proofs.Common.{◌≡◌, ◌≢◌, ℕ, Bool, true, false, cond, List, [], ◌∷◌, ◌++◌, Option, None, Some, refl, sym, ap, subst, ◌∙◌, inl, inr}
use Rattle.std.proofs.lemmas.List.{append-nil}
use Rattle.std.specs.Prelude.{◌⊎◌}
use Rattle.std.specs.FinMap.{get as at, remove}
use Rattle.pva_wire.specs.declared.order.Order.{Order}
use Rattle.pva_frames.specs.declared.event.Whole.{Whole}
use Rattle.pva_frames.specs.declared.event.Event.{Event}
use Rattle.pva_frames.specs.declared.event.Event.TheVariants.{Message}
use Rattle.pva_messages.proofs.ReadBack.{request_back}
use Rattle.pva_messages.specs.Laws.{IsWritable, request_payload, received}
use Rattle.pva_messages.specs.Reading.{request_at}
use Rattle.pva_messages.specs.Requests as requests
use Rattle.pva_messages.specs.Requests.{Request, request_command}
use Rattle.mon_queue.specs.declared.update.Update.{Update}
use Rattle.desk_api.specs.declared.channel.Channel.{Channel}
use Rattle.desk_api.specs.declared.history.SiteData.{SiteData}
use Rattle.desk_api.specs.declared.mark.Mark.{Mark}
use Rattle.srv_session.proofs.Tables.{same_or_not, got_removed, got_left}
use Rattle.srv_session.specs.Replies.{Sent}
use Rattle.srv_session.specs.Rows.{AreEndingsOf}
use Rattle.srv_session.specs.State.{State, Asked, is_due, is_on, slot_of}
use Rattle.srv_session.specs.Steps.{Step, hears, pops, IsAnswer, IsPopOf, PartOf, PopRow, IsStep, after_hearing, after_step, events_of, marks_of}
use Rattle.srv_session.specs.Tasks.{Hearing, asks, pass_over, destroy_request, is_heard, heard, heard_read, heard_message}
use Rattle.cli_session.specs.Messages.{Written, written, said}
use Rattle.cli_within.proofs.Broken.{AreMade, broken_silent}
use Rattle.cli_within.proofs.Said.{AreRequests, AreReplies, speak, spoken}

-- no request is a monitor
abbrev pub HasNoSubs : State → Type 0
HasNoSubs s = (req : ℕ) (ask : Asked) → at s.requests req ≡ Some ask → ask.sub ≡ None

-- no monitor may be sent an update
abbrev pub NoneDue : State → Type 0
NoneDue s = (req : ℕ) → is_due (at s.requests req) ≡ false

unsubscribed : (o : Option Asked) → ((ask : Asked) → o ≡ Some ask → ask.sub ≡ None) → is_due o ≡ false
unsubscribed None none = refl
unsubscribed (Some ask) none = rw (none ask refl) refl

pub none_due : (s : State) → HasNoSubs s → NoneDue s
none_due s none req = unsubscribed (at s.requests req) (none req)

pub no_slot : (o : Option Asked) → ((ask : Asked) → o ≡ Some ask → ask.sub ≡ None) → slot_of o ≡ []
no_slot None none = refl
no_slot (Some ask) none = rw (none ask refl) refl

not_due : (s : State) (req : ℕ) (channel : Channel) (update : Option Update) (marks : List Mark) → NoneDue s → IsPopOf s req channel update marks → ⊥
not_due s req channel update marks none pop =
    let here = pop.is_due.here in
    let due = pop.is_due.due in
    let no = none req in
    let clash : false ≡ true = sym no ∙ ap is_due here ∙ due in
    absurd cc

pub not_popped : (site : SiteData) (s : State) (req : ℕ) (marks : List Mark) (sent : List Sent) → NoneDue s → PopRow site s req marks sent → ⊥
not_popped site s req marks sent none row = not_due s req row.channel row.update marks none row.is_pop

-- nor can a pop have broken off
no_pop : (site : SiteData) (s : State) (req : ℕ) (marks : List Mark) (sent : List Sent) (xs : List Step) → NoneDue s → AreMade site s (pops req marks sent ∷ xs) → ⊥
no_pop site s req marks sent xs none (inl made) = not_popped site s req marks sent none made.0.0
no_pop site s req marks sent xs none (inr (last, broken)) = not_due s req broken.1.0 (Some broken.1.1) marks none broken.1.2

-- a message, wherever it stands
abbrev pub event_of : Order → ℕ → Request → Event
event_of order place m = Message (record { order = order; command = request_command m; payload = request_payload order m; place = place })

-- it is read as the message that was said
pub hears_it : (site : SiteData) (s : State) (order : Order) (place : ℕ) (m : Request) → is_heard s (request_command m) ≡ true → IsWritable m
    → heard site s (event_of order place m) ≡ heard_message site s (record { order = order; command = request_command m; payload = request_payload order m; place = place }) s.types (received m)
hears_it site s order place m now can =
    let w : Whole = record { order = order; command = request_command m; payload = request_payload order m; place = place } in
    ap (λ (b : Bool). cond b (heard_read site s w (request_at order None (request_command m) (request_payload order m, s.types))) (asks pass_over s.types)) now
    ∙ ap (heard_read site s w) (request_back order s.types m can)

-- behind a validation every message is heard
pub heard_now : (s : State) (command : ℕ) → s.validated ≡ true → is_heard s command ≡ true
heard_now s command now = rw now refl

-- The server took its next message: its marks, what it said, and its later steps.
pub record Answered (site : SiteData) (s : State) (hearing : Hearing) (ws : List Written) (steps : List Step) (es : List Event) : Type 0 where
  pub marks : List Mark
  pub sent : List Sent
  pub later : List Step
  pub answer : IsAnswer site s hearing marks sent
  pub rules : AreMade site (after_hearing site s hearing marks) later
  pub heard : AreRequests (events_of later) ws
  pub told : AreReplies es (speak s.order s.segment sent ++ spoken site (after_hearing site s hearing marks) later)
  pub marks_are : marks_of steps ≡ marks ++ marks_of later

module _ (site : SiteData) (s : State) (order : Order) (segment : ℕ) (m : Request) (hearing : Hearing) (none : NoneDue s) (is : (place : ℕ) → IsWritable m → heard site s (event_of order place m) ≡ hearing) where
  took : (e : Event) (marks : List Mark) (sent : List Sent) (xs : List Step) (ws : List Written) (es : List Event) → IsStep site s (hears e marks sent) × AreMade site (after_step site s (hears e marks sent)) xs → AreRequests (e ∷ events_of xs) (written order segment (said m) ∷ ws)
      → AreReplies es (spoken site s (hears e marks sent ∷ xs)) → Answered site s hearing ws (hears e marks sent ∷ xs) es
  took e marks sent xs ws es rules heard told =
      let same : Rattle.srv_session.specs.Tasks.heard site s e ≡ hearing = ap (Rattle.srv_session.specs.Tasks.heard site s) heard.0.1 ∙ is heard.0.0 heard.0.2 in
      record {
        marks = marks;
        sent = sent;
        later = xs;
        answer = subst (λ (h : Hearing). IsAnswer site s h marks sent) same rules.0.0;
        rules = subst (λ (h : Hearing). AreMade site (after_hearing site s h marks) xs) same rules.1;
        heard = heard.1;
        told = subst (λ (h : Hearing). AreReplies es (speak s.order s.segment sent ++ spoken site (after_hearing site s h marks) xs)) same told;
        marks_are = refl;
      }

  -- it says what its client took, and so has heard the message
  pub server_turn : (steps : List Step) (ws : List Written) (e : Event) (es : List Event) → AreMade site s steps → AreRequests (events_of steps) (written order segment (said m) ∷ ws) → AreReplies (e ∷ es) (spoken site s steps)
      → Answered site s hearing ws steps (e ∷ es)
  server_turn [] ws e es rules heard told = absurd told
  server_turn (pops req marks sent ∷ xs) ws e es rules heard told = absurd (no_pop site s req marks sent xs none rules)
  server_turn (hears f marks sent ∷ xs) ws e es (inl rules) heard told = took f marks sent xs ws (e ∷ es) rules heard told
  server_turn (hears f marks sent ∷ xs) ws e es (inr (last, broken)) heard told = absurd (broken_silent site s (hears f marks sent) xs e es last broken told)

  -- it may not have heard it yet, or broke off in it
  pub maybe_turn : (steps : List Step) (ws : List Written) → AreMade site s steps → AreRequests (events_of steps) (written order segment (said m) ∷ ws) → (PartOf site s hearing (marks_of steps) ⊎ (steps ≡ [])) ⊎ Answered site s hearing ws steps []
  maybe_turn [] ws rules heard = inl (inr refl)
  maybe_turn (pops req marks sent ∷ xs) ws rules heard = absurd (no_pop site s req marks sent xs none rules)
  maybe_turn (hears f marks sent ∷ xs) ws (inl rules) heard = inr (took f marks sent xs ws [] rules heard tt)
  maybe_turn (hears f marks sent ∷ xs) ws (inr (last, broken)) heard =
      let same : Rattle.srv_session.specs.Tasks.heard site s f ≡ hearing = ap (Rattle.srv_session.specs.Tasks.heard site s) heard.0.1 ∙ is heard.0.0 heard.0.2 in
      let marks_are : marks ≡ marks ++ marks_of xs = sym (ap (λ (ys : List Step). marks ++ marks_of ys) last ∙ append-nil marks) in
      inl (inl (subst (PartOf site s hearing) marks_are (subst (λ (h : Hearing). PartOf site s h marks) same broken.1)))

-- no message is left, and there are no marks
pub none_left : (site : SiteData) (s : State) (steps : List Step) → NoneDue s → AreMade site s steps → AreRequests (events_of steps) [] → marks_of steps ≡ []
none_left site s [] none rules heard = refl
none_left site s (pops req marks sent ∷ xs) none rules heard = absurd (no_pop site s req marks sent xs none rules)
none_left site s (hears e marks sent ∷ xs) none rules heard = absurd heard

pub no_endings : (slots : List ℕ) (marks : List Mark) → slots ≡ [] → AreEndingsOf slots marks → marks ≡ []
no_endings [] [] e h = refl
no_endings [] (m ∷ marks) e h = absurd h
no_endings (x ∷ slots) marks e h = absurd cc

-- a request that is no monitor ends without a mark
pub removed_no_subs : (s : State) (req : ℕ) → HasNoSubs s → HasNoSubs (record s { requests = remove s.requests req })
removed_no_subs s req none q ask is = by (same_or_not q req)
  where
    by : (q ≡ req) ⊎ (q ≢ req) → ask.sub ≡ None
    by (inl same) = let gone : None ≡ Some ask = sym (got_removed s.requests req) ∙ ap (at (remove s.requests req)) (sym same) ∙ is in absurd cc
    by (inr apart) = none q ask (sym (got_left s.requests req q apart) ∙ is)

module _ (site : SiteData) (s : State) (order : Order) (segment sid req : ℕ) (none : HasNoSubs s) (now : s.validated ≡ true) where
  abbrev ending : Bool → Hearing
  ending b = asks (cond b (destroy_request req) pass_over) s.types

  quietly : (b : Bool) (ws : List Written) (steps : List Step) → ws ≡ [] → Answered site s (ending b) ws steps [] → marks_of steps ≡ []
  quietly true ws steps all a =
      let marks : a.marks ≡ [] = no_endings (slot_of (at s.requests req)) a.marks (no_slot (at s.requests req) (none req)) a.answer.endings in
      let rest : marks_of a.later ≡ [] =
      none_left site (record s { requests = remove s.requests req }) a.later (none_due (record s { requests = remove s.requests req }) (removed_no_subs s req none)) a.rules (subst (AreRequests (events_of a.later)) all a.heard) in
      a.marks_are ∙ (λ i. marks i ++ rest i)
  quietly false ws steps all a =
      let rest : marks_of a.later ≡ [] = none_left site s a.later (none_due s none) a.rules (subst (AreRequests (events_of a.later)) all a.heard) in
      a.marks_are ∙ (λ i. a.answer.marks_are i ++ rest i)

  -- in a row without marks there is no part of any
  no_part : (b : Bool) (marks : List Mark) → PartOf site s (ending b) marks → marks ≡ []
  no_part true marks part = part
  no_part false marks part = part

  -- the last message of a client ends its request
  pub ends_quietly : (steps : List Step) → AreMade site s steps → AreRequests (events_of steps) (written order segment (said (requests.destroy_request sid req)) ∷ []) → marks_of steps ≡ []
  ends_quietly steps rules heard = by (maybe_turn site s order segment (requests.destroy_request sid req) (ending (is_on sid (at s.requests req))) (none_due s none) hearing steps [] rules heard)
    where
      hearing : (place : ℕ) → IsWritable (requests.destroy_request sid req) → Rattle.srv_session.specs.Tasks.heard site s (event_of order place (requests.destroy_request sid req)) ≡ ending (is_on sid (at s.requests req))
      hearing place can = hears_it site s order place (requests.destroy_request sid req) (heard_now s (request_command (requests.destroy_request sid req)) now) can

      by : (PartOf site s (ending (is_on sid (at s.requests req))) (marks_of steps) ⊎ (steps ≡ [])) ⊎ Answered site s (ending (is_on sid (at s.requests req))) [] steps [] → marks_of steps ≡ []
      by (inl (inl part)) = no_part (is_on sid (at s.requests req)) (marks_of steps) part
      by (inl (inr none_yet)) = ap marks_of none_yet
      by (inr a) = quietly (is_on sid (at s.requests req)) [] steps refl a
