-- What is printed of a monitor.
use Rattle.std.proofs.Common.{◌≡◌, ℕ, zero, suc, Bool, true, false, cond, List, [], ◌∷◌, ◌++◌, take, map, Option, None, Some, Result, Ok, Err, refl, sym, ap, subst, ◌∙◌, inl, inr}
use Rattle.std.proofs.lemmas.List.{append-nil}
use Rattle.std.specs.Prelude.{codes}
use Rattle.std.specs.FinMap.{get as at, insert, get-empty}
use Rattle.std.specs.List.{flat_map}
use Rattle.std.specs.Ordering.{nat_cmp}
use Rattle.pva_wire.specs.declared.order.Order.{Order}
use Rattle.pva_wire.specs.Status.{good}
use Rattle.pva_frames.specs.declared.event.Event.{Event}
use Rattle.pvd_type.specs.Tree.{Tree}
use Rattle.pvd_codec.specs.Written.{CanEach}
use Rattle.pvd_request.specs.Requests.{request_of}
use Rattle.pvd_request.specs.declared.request.Request.{Request as Wanted}
use Rattle.pvd_request.specs.declared.request.RequestFault.{RequestFault}
use Rattle.pvd_request.specs.declared.request.Root.TheVariants as roots
use Rattle.mon_queue.specs.declared.update.Update.{Update}
use Rattle.pva_messages.specs.Fields.{Valued}
use Rattle.pva_messages.specs.Laws.{IsWritable, seen_reply}
use Rattle.pva_messages.specs.Replies as reply
use Rattle.pva_messages.specs.Replies.{Reply}
use Rattle.pva_messages.specs.Requests as requests
use Rattle.pva_messages.specs.Requests.{Request, request_command}
use Rattle.pva_messages.specs.Rows.{byte_of}
use Rattle.pva_messages.specs.Subcommands.{begins}
use Rattle.pva_messages.specs.declared.command.Command.TheVariants as command
use Rattle.chan_table.specs.declared.ask.AskKind.TheVariants as kinds
use Rattle.desk_api.specs.Calls.{AreSubscribe}
use Rattle.desk_api.specs.Sites.{channel_named, has_values}
use Rattle.desk_api.specs.Types.{type_of}
use Rattle.desk_api.specs.declared.channel.Channel.{Channel}
use Rattle.desk_api.specs.declared.history.SiteData.{SiteData}
use Rattle.desk_api.specs.declared.mark.Mark.{Mark}
use Rattle.desk_api.specs.declared.sub.Sub.{Sub}
use Rattle.desk_api.specs.declared.sub.SubAnswer.{SubAnswer}
use Rattle.desk_api.specs.declared.sub.SubAnswer.TheVariants as sub_answers
use Rattle.srv_session.proofs.Tables.{got_inserted, got_beside}
use Rattle.srv_session.specs.Replies as replies
use Rattle.srv_session.specs.Replies.{error, refused}
use Rattle.srv_session.specs.Rows.{subscribed_reply, monitor_of}
use Rattle.srv_session.specs.State as server
use Rattle.srv_session.specs.State.{Requests, channel_at}
use Rattle.srv_session.specs.Steps.{Step, marks_of, after_hearing}
use Rattle.srv_session.specs.Tasks.{Hearing, asks, over_range, refuse, subscribe, heard, found_for, fault_text, beginning, beginning_as, beginning_on, unfit_for, windowed, steering_found, is_over}
use Rattle.cli_session.specs.Answers.{refused as refused_answer, unless_own}
use Rattle.cli_session.specs.Messages.{Written, written, said, end_of, monitor_sub, monitor_beginning}
use Rattle.cli_session.specs.State.{State, updates_of}
use Rattle.cli_session.specs.Steps.{refusal, next, ended, written_of, replied, answered, run}
use Rattle.cli_session.specs.Turns.{own_turns}
use Rattle.cli_session.specs.declared.ask.Ask.{Ask}
use Rattle.cli_session.specs.declared.fault.ClientFault.TheVariants.{WrongPhase}
use Rattle.cli_session.specs.declared.turn.Turn.{Turn}
use Rattle.cli_session.specs.declared.turn.Turn.TheVariants as turn
use Rattle.cli_within.specs.Answers.{updates_in, update_text, awaited_updates, valued_text, unvalued_text, channel_text}
use Rattle.cli_within.proofs.Beginnings.{begins_on}
use Rattle.cli_within.proofs.ClientTurns.{readied, hears_reply, Expected, refusal_told, Tells, waits, tells_on, tells_last, Stand, took}
use Rattle.cli_within.proofs.Closings.{quiet_end}
use Rattle.cli_within.proofs.Creations.{none_due_at_first, GoesSo}
use Rattle.cli_within.proofs.Infos.{answer, answer_valued, answer_unvalued}
use Rattle.cli_within.proofs.Openings.{Opened}
use Rattle.cli_within.proofs.Popping.{loop}
use Rattle.cli_within.proofs.PutGets.{no_one}
use Rattle.cli_within.proofs.Sends.{IsMildWritten, Steady, sends_mild}
use Rattle.cli_within.proofs.ServerTurns.{HasNoSubs, event_of, hears_it, heard_now, Answered, server_turn}
use Rattle.cli_within.proofs.Updates.{expected}
use Rattle.cli_within.proofs.Watched.{Watches}

pub begins_sub : (window : Option ℕ) → begins (monitor_sub window) ≡ true
begins_sub None = refl
begins_sub (Some free) = refl

-- the updates that a monitor of this channel tells
abbrev pub updates_for : SiteData → List Mark → Option Channel → Option (Tree × List Update)
updates_for site marks None = None
updates_for site marks (Some channel) = Some (type_of site channel, updates_in marks)

abbrev typed : Tree → List Update → Option (Tree × List Update)
typed t us = Some (t, us)

-- what it tells
abbrev pub monitor_told : Ask → SiteData → List Mark → Expected
monitor_told ask site marks = record {
  text = channel_text site marks ask (channel_named site ask.name);
  updates = updates_for site marks (channel_named site ask.name);
}

take_none : (n : ℕ) → take n (let us : List Update = [] in us) ≡ []
take_none zero = refl
take_none (suc n) = refl

abbrev reply_in : Reply → Option Reply → Reply
reply_in r None = r
reply_in r (Some x) = x

module _ (ask : Ask) (site : SiteData) (channel : Channel) (is : channel_named site ask.name ≡ Some channel) (v : Valued) (window : Option ℕ) (count : ℕ) where
  abbrev ty : Tree
  ty = type_of site channel

  abbrev text : List Mark → List ℕ
  text = answer ask site channel is

  abbrev shown : List Mark → List ℕ
  shown marks = flat_map (update_text ty) (take (awaited_updates count) (updates_in marks))

  abbrev expect : List Mark → Expected
  expect marks = record { text = text marks; updates = updates_for site marks (channel_named site ask.name) }

  abbrev sub : ℕ
  sub = monitor_sub window

  module _ (d : State) (s : server.State) (order : Order) (segment : ℕ) (steps : List Step) (turns : d.turns ≡ turn.BeginMonitor ∷ turn.Updates ∷ []) (req : d.req ≡ Some 1) (left_ : d.left ≡ count) (opened : Opened d s channel) (e : Event) (es : List Event) where
    abbrev message : Request
    message = requests.monitor d.sid 1 sub v window

    abbrev Stood : Type 0
    Stood = Stand ask site d s (written order segment (said message) ∷ []) steps (e ∷ es)

    abbrev Told_ : Type 0
    Told_ = Tells ask d (e ∷ es) (expect (marks_of steps))

    heard_so : (b : Bool) → has_values channel ≡ b → (place : ℕ) → IsWritable message
        → heard site s (event_of order place message) ≡ windowed s.types window (beginning_on site kinds.Monitor 1 sub d.sid v channel (unfit_for false b))
    heard_so b valued place can =
        hears_it site s order place message (heard_now s (request_command message) opened.now) can
        ∙ ap (λ (x : Bool). cond x (windowed s.types window (beginning site s kinds.Monitor 1 sub d.sid v (channel_at s.channels d.sid))) (steering_found s.types 1 sub window (found_for s kinds.Monitor d.sid 1))) (begins_sub window)
        ∙ ap (windowed s.types window) (begins_on site s kinds.Monitor 1 sub d.sid v channel opened.there opened.none)
        ∙ ap (λ (x : Bool). windowed s.types window (beginning_on site kinds.Monitor 1 sub d.sid v channel (unfit_for false x))) valued

    abbrev Turn_ : Hearing → Type 0
    Turn_ hearing = Answered site s hearing (run ask d (e ∷ es)).sent steps (e ∷ es)

    turned : (hearing : Hearing) → ((place : ℕ) → IsWritable message → heard site s (event_of order place message) ≡ hearing) → Stood → Turn_ hearing
    turned hearing hears_so stand = server_turn site s order segment message hearing (none_due_at_first s opened.none) hears_so steps (run ask d (e ∷ es)).sent e es stand.rules stand.heard_of stand.told_of

    no_subs : HasNoSubs s
    no_subs = λ q x here. absurd (no_one s opened.none q x here)

    -- it is refused: behind that there is no mark
    refuses : (why : List ℕ) (hearing : Hearing) (a : Turn_ hearing) → a.sent ≡ replies.said (refused kinds.Monitor 1 sub why) ∷ [] → HasNoSubs (after_hearing site s hearing a.marks) → (after_hearing site s hearing a.marks).validated ≡ true
        → (marks_of steps ≡ a.marks → text (marks_of steps) ≡ []) → Told_
    refuses why hearing a sent_is none now nothing =
        let r = reply.monitor_begun 1 sub (error why) None in
        let t = ended (readied s.order d) turn.BeginMonitor (refusal (error why) ∷ []) in
        let k = took ask site d s hearing steps e es r t a sent_is
        (λ place can. hears_reply ask d turn.BeginMonitor (turn.Updates ∷ []) s.order place r turns refl can (λ u none. absurd cc)
        ∙ ap (λ (q : Option ℕ). replied ask (readied s.order d) turn.BeginMonitor (turn.Updates ∷ []) (seen_reply r) (unless_own q 1)) req
        ∙ ap (λ (x : Bool). answered ask (readied s.order d) turn.BeginMonitor (turn.Updates ∷ []) (cond x (Ok (refused_answer (error why))) (Err (WrongPhase (byte_of command.Monitor))))) (begins_sub window)) in
        let last : written_of t ≡ written t.state.order t.state.segment (said (requests.destroy_request d.sid 1)) ∷ [] =
        ap (λ (q : Option ℕ). map (written t.state.order t.state.segment) (map said (end_of d.sid q))) req in
        let rest = quiet_end ask site t (after_hearing site s hearing a.marks) a.later es t.state.order t.state.segment d.sid 1 refl last none now k.stand in
        let marks : marks_of steps ≡ a.marks = a.marks_are ∙ ap (λ (ms : List Mark). a.marks ++ ms) rest ∙ append-nil a.marks in
        tells_last ask d e es t (expect (marks_of steps)) k.runs refl (sym (nothing marks)) (refusal_told (error why) (expect (marks_of steps)).updates)

    refuses_so : (why : List ℕ) → ((place : ℕ) → IsWritable message → heard site s (event_of order place message) ≡ asks (refuse (refused kinds.Monitor 1 sub why)) s.types) → (text [] ≡ []) → Stood → Told_
    refuses_so why hears_so nothing stand =
        let hearing = asks (refuse (refused kinds.Monitor 1 sub why)) s.types in
        let a = turned hearing hears_so stand in
        refuses why hearing a a.answer.sent_is no_subs opened.now (λ marks. ap text (marks ∙ a.answer.marks_are) ∙ nothing)

    module _ (text_is : (marks : List Mark) → text marks ≡ shown marks) (wanted : Wanted) where
      abbrev begin_hearing : Hearing
      begin_hearing = asks (subscribe 1 sub d.sid channel wanted window) s.types

      abbrev after_begun : ℕ → server.State
      after_begun slot = record s { requests = insert s.requests 1 (monitor_of d.sid wanted slot window) }

      watches : (slot : ℕ) → Watches site d.sid channel (after_begun slot)
      watches slot = record {
        asked = monitor_of d.sid wanted slot window;
        now = opened.now;
        there = opened.there;
        here = got_inserted s.requests 1 (monitor_of d.sid wanted slot window);
        sid_is = refl;
        kind_is = refl;
        others = λ q apart. got_beside s.requests 1 (monitor_of d.sid wanted slot window) q apart ∙ ap (λ (r : Requests). at r q) opened.none ∙ get-empty nat_cmp q;
      }

      by_answer : (a : Turn_ begin_hearing) (answer_ : Result Sub SubAnswer) (told : Reply) → AreSubscribe channel wanted.mask wanted.queue answer_ a.marks → subscribed_reply site 1 sub channel answer_ ≡ Some told → a.sent ≡ replies.said told ∷ [] → Told_
      by_answer a (Ok living) told are told_is sent_is =
          let r = reply.monitor_begun 1 0x08 good (Some ty) in
          let t = next ask (record (readied s.order d) { ty = Some ty }) (turn.Updates ∷ []) in
          let k = took ask site d s begin_hearing steps e es r t a (sent_is ∙ ap (λ (x : Reply). replies.said x ∷ []) (sym (ap (reply_in told) told_is)))
          (λ place can. hears_reply ask d turn.BeginMonitor (turn.Updates ∷ []) s.order place r turns refl can (λ u none. absurd cc)
          ∙ ap (λ (q : Option ℕ). replied ask (readied s.order d) turn.BeginMonitor (turn.Updates ∷ []) (seen_reply r) (unless_own q 1)) req) in
          let after = after_hearing site s begin_hearing a.marks in
          let after_is : after ≡ after_begun living.slot = ap (λ (ms : List Mark). after_hearing site s begin_hearing ms) are.marks_are in
          let steady : Steady d.sid t.state = record { sid_is = refl; req_is = req; turns_are = inl refl } in
          let mild : CanEach (IsMildWritten d.sid) (written_of t ++ (run ask t.state es).sent) = (inr (inl (0x44, None, refl, refl, refl, refl)), sends_mild ask d.sid es t.state steady) in
          let marks : updates_in (marks_of steps) ≡ updates_in (marks_of a.later) = ap updates_in a.marks_are ∙ ap (λ (ms : List Mark). updates_in (ms ++ marks_of a.later)) are.marks_are in
          let text_here : text (marks_of steps) ≡ flat_map (update_text ty) (take (awaited_updates t.state.left) (updates_in (marks_of a.later))) =
          text_is (marks_of steps) ∙ (λ i. flat_map (update_text ty) (take (awaited_updates (sym left_ i)) (marks i))) in
          let updates_here : updates_for site (marks_of steps) (channel_named site ask.name) ≡ Some (ty, updates_in (marks_of a.later)) =
          ap (updates_for site (marks_of steps)) is ∙ ap (typed ty) marks in
          let told_is_ : expect (marks_of steps) ≡ expected ask site d.sid channel t.state.left (marks_of a.later) = λ i. record { text = text_here i; updates = updates_here i } in
          tells_on ask d e es t (expect (marks_of steps)) k.runs refl
          (subst (λ (x : Expected). Tells ask t.state es x) (sym told_is_)
          (loop ask site d.sid channel a.later after es (written_of t ++ (run ask t.state es).sent) t.state (subst (Watches site d.sid channel) (sym after_is) (watches living.slot)) (record { turns_are = refl; req_is = req; ty_is = refl }) k.stand.rules k.stand.heard_of mild k.stand.told_of))
      by_answer a (Err (sub_answers.TooManyMonitors many)) told are told_is sent_is =
          let after_is : after_hearing site s begin_hearing a.marks ≡ s = ap (λ (ms : List Mark). after_hearing site s begin_hearing ms) are.marks_are in
          refuses (codes "too many monitors") begin_hearing a (sent_is ∙ ap (λ (x : Reply). replies.said x ∷ []) (sym (ap (reply_in told) told_is)))
          (subst HasNoSubs (sym after_is) no_subs) (ap (λ (x : server.State). x.validated) after_is ∙ opened.now)
          (λ marks. text_is (marks_of steps) ∙ ap (λ (ms : List Mark). flat_map (update_text ty) (take (awaited_updates count) (updates_in ms))) (marks ∙ are.marks_are) ∙ ap (flat_map (update_text ty)) (take_none (awaited_updates count)))
      by_answer a (Err sub_answers.NoMemory) told are told_is sent_is = absurd cc

      by_window : (b : Bool) → ((place : ℕ) → IsWritable message → heard site s (event_of order place message) ≡ cond b over_range begin_hearing) → Stood → Told_
      by_window true hears_so stand = absurd (turned over_range hears_so stand).answer
      by_window false hears_so stand = let a = turned begin_hearing hears_so stand in by_answer a a.answer.answer a.answer.told a.answer.is_subscribe a.answer.told_is a.answer.sent_is

    begin_taken : ((marks : List Mark) → has_values channel ≡ true → text marks ≡ shown marks) → (has_values channel ≡ false → text [] ≡ []) → Stood → Told_
    begin_taken shows nothing stand = by (has_values channel) refl
      where
        chosen_by : (w : Result Wanted RequestFault) → request_of ty roots.Field v ≡ w → has_values channel ≡ true → Told_
        chosen_by (Ok wanted) chosen valued =
            by_window (λ marks. shows marks valued) wanted (is_over window)
            (λ place can. heard_so true valued place can ∙ ap (λ (w : Result Wanted RequestFault). windowed s.types window (beginning_as kinds.Monitor 1 sub d.sid channel w)) chosen) stand
        chosen_by (Err fault) chosen valued =
            refuses_so (fault_text fault)
            (λ place can. heard_so true valued place can ∙ ap (λ (w : Result Wanted RequestFault). windowed s.types window (beginning_as kinds.Monitor 1 sub d.sid channel w)) chosen)
            (shows [] valued ∙ ap (flat_map (update_text ty)) (take_none (awaited_updates count))) stand

        by : (b : Bool) → has_values channel ≡ b → Told_
        by true valued = chosen_by (request_of ty roots.Field v) refl valued
        by false valued = refuses_so (codes "channel has no value") (heard_so false valued) (nothing valued) stand

  monitor_turn : (d : State) (s : server.State) (order : Order) (segment : ℕ) (steps : List Step) (es : List Event) → d.turns ≡ turn.BeginMonitor ∷ turn.Updates ∷ [] → d.req ≡ Some 1 → d.left ≡ count → Opened d s channel
      → ((marks : List Mark) → has_values channel ≡ true → text marks ≡ shown marks) → (has_values channel ≡ false → text [] ≡ [])
      → Stand ask site d s (written order segment (said (requests.monitor d.sid 1 sub v window)) ∷ []) steps es → Tells ask d es (expect (marks_of steps))
  monitor_turn d s order segment steps [] turns req left_ opened shows nothing stand = waits ask d (expect (marks_of steps))
  monitor_turn d s order segment steps (e ∷ es) turns req left_ opened shows nothing stand = begin_taken d s order segment steps turns req left_ opened e es shows nothing stand

-- Where the turns of an operation are those of a monitor, and it tells what one does.
pub monitor_goes : (ask : Ask) (site : SiteData) (v : Valued) (window : Option ℕ) (count : ℕ) → own_turns ask.operation ≡ turn.BeginMonitor ∷ turn.Updates ∷ []
    → ((sid : ℕ) → monitor_beginning ask.fields.items sid ask.operation ≡ requests.monitor sid 1 (monitor_sub window) v window ∷ []) → updates_of ask.operation ≡ count
    → ((marks : List Mark) (channel : Channel) → valued_text site marks ask channel ask.operation ≡ flat_map (update_text (type_of site channel)) (take (awaited_updates count) (updates_in marks)))
    → ((marks : List Mark) → unvalued_text site marks ask.operation ≡ []) → GoesSo ask site (monitor_told ask site)
monitor_goes ask site v window count turns asks_is count_is valued_is unvalued_is channel is c s steps es opened left_ stand =
    subst
    (λ (ts : List Turn). Stand ask site (next ask c ts).state s (written_of (next ask c ts)) steps es → Tells ask (next ask c ts).state es (monitor_told ask site (marks_of steps)))
    (sym turns)
    (λ stands.
    let t0 = next ask c (turn.BeginMonitor ∷ turn.Updates ∷ []) in
    monitor_turn ask site channel is v window count t0.state s t0.state.order t0.state.segment steps es refl refl (left_ ∙ count_is) (record { now = opened.now; there = opened.there; none = opened.none })
    (λ marks valued. answer_valued ask site channel is marks ask.operation refl valued ∙ valued_is marks channel)
    (λ unvalued. answer_unvalued ask site channel is [] ask.operation refl unvalued ∙ unvalued_is [])
    (subst (λ (ws : List Written). Stand ask site t0.state s ws steps es) (ap (λ (ms : List Request). map (written t0.state.order t0.state.segment) (map said ms)) (asks_is c.sid)) stands))
    stand
