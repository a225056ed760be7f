-- The validation of an exchange, and the creation of its channel.
use Rattle.std.proofs.Common.{◌≡◌, ℕ, Bool, true, false, cond, List, [], ◌∷◌, ◌++◌, Option, None, Some, refl, sym, ap, subst, ◌∙◌}
use Rattle.std.specs.Prelude.{codes, option_map}
use Rattle.std.specs.FinMap.{get as at, insert, empty, get-empty}
use Rattle.std.specs.Ordering.{nat_cmp}
use Rattle.pva_wire.specs.declared.order.Order.{Order}
use Rattle.pva_wire.specs.Status.{good}
use Rattle.pva_frames.specs.declared.event.Event.{Event}
use Rattle.pva_messages.specs.Laws.{IsWritable}
use Rattle.pva_messages.specs.Replies as reply
use Rattle.pva_messages.specs.Requests as requests
use Rattle.pva_messages.specs.Requests.{Request, request_command}
use Rattle.desk_api.specs.Sites.{channel_named}
use Rattle.desk_api.specs.declared.channel.Channel.{Channel}
use Rattle.desk_api.specs.declared.history.SiteData.{SiteData}
use Rattle.desk_api.specs.declared.mark.Mark.{Mark}
use Rattle.srv_session.proofs.Tables.{got_inserted}
use Rattle.srv_session.specs.Replies as replies
use Rattle.srv_session.specs.Replies.{error}
use Rattle.srv_session.specs.Rows.{created, opened}
use Rattle.srv_session.specs.State as server
use Rattle.srv_session.specs.State.{Requests, channel_at, is_due, is_full, least_free}
use Rattle.srv_session.specs.Steps.{Step, marks_of, after_hearing}
use Rattle.srv_session.specs.Tasks.{Hearing, asks, validate, create, heard}
use Rattle.cli_session.specs.Messages.{written, said, validation}
use Rattle.cli_session.specs.State.{State, updates_of}
use Rattle.cli_session.specs.Steps.{Taken, next, ended, refusal, written_of, run}
use Rattle.cli_session.specs.Turns.{own_turns}
use Rattle.cli_session.specs.declared.ask.Ask.{Ask}
use Rattle.cli_session.specs.declared.turn.Turn.{Turn}
use Rattle.cli_session.specs.declared.turn.Turn.TheVariants as turn
use Rattle.cli_within.proofs.ClientTurns.{readied, hears_reply, Expected, only, refusal_told, Tells, waits, tells_on, tells_last, Stand, took}
use Rattle.cli_within.proofs.Openings.{Opened, none_yet, validates}
use Rattle.cli_within.proofs.ServerTurns.{NoneDue, event_of, hears_it, heard_now, Answered, server_turn}

pub none_due_at_first : (s : server.State) → s.requests ≡ empty → NoneDue s
none_due_at_first s none req = ap (λ (r : Requests). is_due (at r req)) none ∙ ap is_due (get-empty nat_cmp req)

pub next_quiet : (ask : Ask) (c : State) (ts : List Turn) → (next ask c ts).told ≡ []
next_quiet ask c [] = refl
next_quiet ask c (t ∷ ts) = refl

-- a turn's marks stand before those of the later ones
pub no_mark : (all these later : List Mark) → all ≡ these ++ later → these ≡ [] → all ≡ later
no_mark all these later is none = is ∙ ap (λ (ms : List Mark). ms ++ later) none

-- What is told is this function of the marks.
module _ (ask : Ask) (site : SiteData) (text : List Mark → Expected) where
  abbrev later_turns : List Turn
  later_turns = own_turns ask.operation

  abbrev pub creating : State → Taken
  creating c = next ask c (turn.Creation ∷ later_turns)

  -- it is so behind the server's answer to a validation
  abbrev pub CreatesSo : Type 0
  CreatesSo = (c : State) (s : server.State) (steps : List Step) (es : List Event) → s.validated ≡ true → s.channels ≡ empty → s.requests ≡ empty → c.left ≡ updates_of ask.operation
      → Stand ask site (creating c).state s (written_of (creating c)) steps es → Tells ask (creating c).state es (text (marks_of steps))

  -- it is so behind its answer to the creation of a channel
  abbrev pub GoesSo : Type 0
  GoesSo = (channel : Channel) → channel_named site ask.name ≡ Some channel → (c : State) (s : server.State) (steps : List Step) (es : List Event) → Opened c s channel → c.left ≡ updates_of ask.operation
      → Stand ask site (next ask c later_turns).state s (written_of (next ask c later_turns)) steps es → Tells ask (next ask c later_turns).state es (text (marks_of steps))

  pub validation_next : (c : State) (s : server.State) (order : Order) (segment : ℕ) (steps : List Step) (es : List Event) → c.turns ≡ turn.Validation ∷ turn.Creation ∷ later_turns → s.channels ≡ empty → s.requests ≡ empty → c.left ≡ updates_of ask.operation
      → Stand ask site c s (written order segment (said (validation ask.user)) ∷ []) steps es → CreatesSo → Tells ask c es (text (marks_of steps))
  validation_next c s order segment steps [] turns closed free left_ stand more = waits ask c (text (marks_of steps))
  validation_next c s order segment steps (e ∷ es) turns closed free left_ stand more =
      let v = validates ask.user in
      let hearing = asks (validate 65536 32767 v.user v.host) s.types in
      let a = server_turn site s order segment (validation ask.user) hearing (none_due_at_first s free) (λ place can. v.is site s place order can) steps (run ask c (e ∷ es)).sent e es stand.rules stand.heard_of stand.told_of in
      let t = creating (readied s.order c) in
      let k = took ask site c s hearing steps e es (reply.validated good) t a a.answer.sent_is
      (λ place can. hears_reply ask c turn.Validation (turn.Creation ∷ later_turns) s.order place (reply.validated good) turns refl can (λ ty none. absurd cc)) in
      let marks = no_mark (marks_of steps) a.marks (marks_of a.later) a.marks_are a.answer.marks_are in
      tells_on ask c e es t (text (marks_of steps)) k.runs refl
      (subst (λ (ms : List Mark). Tells ask t.state es (text ms)) (sym marks) (more (readied s.order c) (after_hearing site s hearing a.marks) a.later es refl closed free left_ k.stand))

  module _ (c : State) (s : server.State) (now : s.validated ≡ true) (closed : s.channels ≡ empty) (free : s.requests ≡ empty) (left_ : c.left ≡ updates_of ask.operation) (steps : List Step) (e : Event) (es : List Event) where
    abbrev asked : Taken
    asked = creating c

    abbrev message : Request
    message = requests.create ((1, ask.name) ∷ [])

    abbrev hearing : Hearing
    hearing = asks (create ((1, ask.name) ∷ [])) s.types

    abbrev Turn_ : Type 0
    Turn_ = Answered site s hearing (run ask asked.state (e ∷ es)).sent steps (e ∷ es)

    not_found : Turn_ → channel_named site ask.name ≡ None → ((ms : List Mark) → (text ms).text ≡ []) → Tells ask asked.state (e ∷ es) (text (marks_of steps))
    not_found a none nothing =
        let r = reply.created 1 0xFFFF_FFFF (error (codes "channel not found")) in
        let t = ended (readied s.order asked.state) turn.Creation (refusal (error (codes "channel not found")) ∷ []) in
        let k = took ask site asked.state s hearing steps e es r t a (a.answer.sent_is ∙ ap (λ (o : Option Channel). replies.said (created s.channels 1 o) ∷ []) none)
        (λ place can. hears_reply ask asked.state turn.Creation later_turns s.order place r refl refl can (λ ty is. absurd cc)) in
        tells_last ask asked.state e es t (text (marks_of steps)) k.runs refl (sym (nothing (marks_of steps))) (refusal_told (error (codes "channel not found")) (text (marks_of steps)).updates)

    found : Turn_ → (channel : Channel) → channel_named site ask.name ≡ Some channel → GoesSo → Tells ask asked.state (e ∷ es) (text (marks_of steps))
    found a channel is more =
        let sid = least_free s.channels in
        let room : is_full s.channels ≡ false = ap is_full closed ∙ none_yet (ℕ × Channel) in
        let r = reply.created 1 sid good in
        let full = reply.created 1 0xFFFF_FFFF (error (codes "too many channels")) in
        let c3 = record (readied s.order asked.state) { sid = sid } in
        let t = next ask c3 later_turns in
        let k = took ask site asked.state s hearing steps e es r t a
        (a.answer.sent_is ∙ ap (λ (o : Option Channel). replies.said (created s.channels 1 o) ∷ []) is ∙ ap (λ (b : Bool). replies.said (cond b full r) ∷ []) room)
        (λ place can. hears_reply ask asked.state turn.Creation later_turns s.order place r refl refl can (λ ty none. absurd cc)) in
        let there =
        ap (λ (o : Option Channel). channel_at (opened s.channels 1 o) sid) is
        ∙ ap (λ (b : Bool). channel_at (cond b s.channels (insert s.channels sid (1, channel))) sid) room
        ∙ ap (option_map (λ (x : ℕ × Channel). x.1)) (got_inserted s.channels sid (1, channel)) in
        let marks = no_mark (marks_of steps) a.marks (marks_of a.later) a.marks_are a.answer.marks_are in
        tells_on ask asked.state e es t (text (marks_of steps)) k.runs (next_quiet ask c3 later_turns)
        (subst (λ (ms : List Mark). Tells ask t.state es (text ms)) (sym marks)
        (more channel is c3 (after_hearing site s hearing a.marks) a.later es (record { now = now; there = there; none = free }) left_ k.stand))

    answered : Turn_ → (channel_named site ask.name ≡ None → (ms : List Mark) → (text ms).text ≡ []) → GoesSo → Tells ask asked.state (e ∷ es) (text (marks_of steps))
    answered a nothing more = by (channel_named site ask.name) refl
      where
        by : (o : Option Channel) → channel_named site ask.name ≡ o → Tells ask asked.state (e ∷ es) (text (marks_of steps))
        by None is = not_found a is (nothing is)
        by (Some channel) is = found a channel is more

  pub creation_next : (channel_named site ask.name ≡ None → (ms : List Mark) → (text ms).text ≡ []) → GoesSo → CreatesSo
  creation_next nothing more c s steps [] now closed free left_ stand = waits ask (creating c).state (text (marks_of steps))
  creation_next nothing more c s steps (e ∷ es) now closed free left_ stand =
      let m = requests.create ((1, ask.name) ∷ []) in
      let t = creating c in
      let hears_so : (place : ℕ) → IsWritable m → heard site s (event_of t.state.order place m) ≡ asks (create ((1, ask.name) ∷ [])) s.types = λ place can. hears_it site s t.state.order place m (heard_now s (request_command m) now) can in
      let a = server_turn site s t.state.order t.state.segment m (asks (create ((1, ask.name) ∷ [])) s.types) (none_due_at_first s free) hears_so steps (run ask t.state (e ∷ es)).sent e es stand.rules stand.heard_of stand.told_of in
      answered c s now closed free left_ steps e es a nothing more

-- the same of a text alone
abbrev pub GoesSoText : (ask : Ask) (site : SiteData) (text : List Mark → List ℕ) → Type 0
GoesSoText ask site text = GoesSo ask site (λ marks. only (text marks))
