-- The turns of a monitor.
use Rattle.std.proofs.Common.{◌≡◌, ◌≢◌, ℕ, suc, ◌+◌, ◌-◌, ◌<◌, ◌≤◌, ltb-true, lt-ltb, le-ltb, Bool, true, false, cond, ◌&&◌, List, [], ◌∷◌, ◌++◌, length, map, Option, None, Some, is_some, Result, Ok, Err, refl, sym, ap, subst, ◌∙◌, arith, append_assoc, inl, inr}
use Rattle.std.proofs.lemmas.List.{append-nil}
use Rattle.std.specs.Prelude.{◌⊎◌, codes, nat_lt, option_map}
use Rattle.std.specs.FinMap.{get as at, insert, remove, get-empty}
use Rattle.std.specs.Ordering.{nat_cmp}
use Rattle.pva_wire.specs.declared.order.Order.{Order}
use Rattle.pva_wire.specs.Status.{good}
use Rattle.pva_frames.specs.declared.event.Event.{Event}
use Rattle.pva_frames.specs.declared.event.Whole.{Whole}
use Rattle.pva_frames.specs.declared.event.Event.TheVariants.{Message, Control}
use Rattle.pvd_type.specs.Tree.{Tree}
use Rattle.pvd_codec.specs.Written.{CanEach}
use Rattle.pvd_request.specs.Requests.{request_of}
use Rattle.pvd_request.specs.declared.request.Request.{Request as Wanted}
use Rattle.pvd_request.specs.declared.request.RequestFault.{RequestFault}
use Rattle.pvd_request.specs.declared.request.Root.TheVariants as roots
use Rattle.mon_queue.specs.declared.update.Update.{Update}
use Rattle.pva_messages.specs.Fields.{Valued}
use Rattle.pva_messages.specs.Laws.{IsWritable, seen_reply}
use Rattle.pva_messages.specs.Replies as reply
use Rattle.pva_messages.specs.Replies.{Reply}
use Rattle.pva_messages.specs.Requests as requests
use Rattle.pva_messages.specs.Requests.{Request, request_command}
use Rattle.pva_messages.specs.Rows.{byte_of}
use Rattle.pva_messages.specs.Subcommands.{begins, ends}
use Rattle.pva_messages.specs.declared.command.Command.TheVariants as command
use Rattle.chan_table.specs.declared.ask.AskKind.TheVariants as kinds
use Rattle.desk_api.specs.Calls.{AreSubscribe}
use Rattle.desk_api.specs.Sites.{has_values}
use Rattle.desk_api.specs.Types.{type_of}
use Rattle.desk_api.specs.declared.channel.Channel.{Channel}
use Rattle.desk_api.specs.declared.history.SiteData.{SiteData}
use Rattle.desk_api.specs.declared.mark.Mark.{Mark}
use Rattle.desk_api.specs.declared.mark.Mark.TheVariants.{Popped}
use Rattle.desk_api.specs.declared.sub.Sub.{Sub}
use Rattle.desk_api.specs.declared.sub.SubAnswer.{SubAnswer}
use Rattle.desk_api.specs.declared.sub.SubAnswer.TheVariants as sub_answers
use Rattle.srv_session.proofs.Tables.{same_or_not, got_inserted, got_beside, got_removed, got_left}
use Rattle.srv_session.specs.Replies as replies
use Rattle.srv_session.specs.Replies.{error, refused, updated}
use Rattle.srv_session.specs.Rows.{subscribed_reply, monitor_of, steered}
use Rattle.srv_session.specs.State as server
use Rattle.srv_session.specs.State.{Asked, Requests, channel_at, is_due, is_window_open}
use Rattle.srv_session.specs.Steps.{Step, hears, pops, IsAnswer, AreSteps, PopRow, after_hearing, after_pop, with_sent, one_sent, update_sent, events_of, marks_of, state_after}
use Rattle.srv_session.specs.Tasks.{Hearing, asks, over_range, refuse, subscribe, steer, pass_over, destroy_request, heard, found_for, fault_text, beginning, beginning_as, beginning_on, unfit_for, windowed, steering_found, is_over, acknowledged, started_by}
use Rattle.srv_stream.specs.Streams.{stop_at, stop_of}
use Rattle.cli_session.specs.Answers.{refused as refused_answer, unless_own}
use Rattle.cli_session.specs.Messages as client
use Rattle.cli_session.specs.Messages.{Sent, Written, written, said, acknowledgement, end_of, window_of, monitor_sub}
use Rattle.cli_session.specs.State.{State}
use Rattle.cli_session.specs.Steps.{Told, Taken, Run, refusal, finish, next, ended, finished, saying, written_of, answered, replied, run, step}
use Rattle.cli_session.specs.declared.ask.Ask.{Ask}
use Rattle.cli_session.specs.declared.ask.Operation.{Operation}
use Rattle.cli_session.specs.declared.ask.Operation.TheVariants as operation
use Rattle.cli_session.specs.declared.fault.ClientFault.{ClientFault}
use Rattle.cli_session.specs.declared.fault.ClientFault.TheVariants.{WrongPhase}
use Rattle.cli_session.specs.declared.turn.Turn.TheVariants as turn
use Rattle.cli_within.specs.Answers.{updates_in}
use Rattle.cli_within.specs.Ends.{ending_of}
use Rattle.cli_within.specs.Laws.{HasMore, IsInRange}
use Rattle.cli_within.specs.Words.{most}
use Rattle.cli_within.specs.declared.stop.Ending.TheVariants as endings
use Rattle.cli_within.proofs.Beginnings.{begins_on}
use Rattle.cli_within.proofs.Broken.{all_made}
use Rattle.cli_within.proofs.ClientTurns.{readied, hears_reply, run_one, nothing_sent, nothing_told}
use Rattle.cli_within.proofs.Courses.{Standing, AllGo, IsWordsOnly, Reacts, Rests, nothing_wrong, ends_only, turn_goes}
use Rattle.cli_within.proofs.Creations.{none_due_at_first}
use Rattle.cli_within.proofs.Monitors.{begins_sub}
use Rattle.cli_within.proofs.Openings.{Opened}
use Rattle.cli_within.proofs.Said.{IsRequest, AreRequests, AreReplies, IsReply, speak, spoken}
use Rattle.cli_within.proofs.Sends.{IsMild, IsMildWritten, Steady, sends_mild}
use Rattle.cli_within.proofs.ServerTurns.{event_of, hears_it, heard_now}
use Rattle.cli_within.proofs.Updates.{Taking, said_of, told_of, update_taken}
use Rattle.cli_within.proofs.Watched.{Watches, Gone, gone_is, gone_silent, gone_not_popped, steering_is, ending_is}

-- The monitor may be sent an update, and none was popped.
abbrev pub Starved : server.State → List Mark → Type 0
Starved z marks = (is_due (at z.requests 1) ≡ true) × (updates_in marks ≡ [])

-- it goes on behind its first update, or waits for that
abbrev pub MonitorMore : Ask → Standing
MonitorMore ask z marks told = HasMore ask.operation told ⊎ Starved z marks

-- How many updates messages acknowledge.

abbrev acks_of : Sent → ℕ
acks_of (said (requests.monitor sid req sub v (Some n))) = n
acks_of other = 0

abbrev acks : List Written → ℕ
acks [] = 0
acks (w ∷ ws) = acks_of w.sent + acks ws

acks_append : (xs ys : List Written) → acks (xs ++ ys) ≡ acks xs + acks ys
acks_append [] ys = omega arith
acks_append (x ∷ xs) ys = let later = acks_append xs ys in omega (arith, later)

pub in_range : (window : Option ℕ) → IsInRange window → is_over window ≡ false
in_range None range = refl
in_range (Some first) range = le-ltb most first range.1

-- What is free, with what is acknowledged by messages under way, is no more than a window may count.
abbrev Bounded : Option ℕ → ℕ → Type 0
Bounded None n = Unit {0}
Bounded (Some free) n = free + n ≤ most

not_over : (count window : Option ℕ) (n : ℕ) (x : Sent) (sid sub : ℕ) → x ≡ said (requests.monitor sid 1 sub None count) → Bounded window (acks_of x + n) → is_over (acknowledged count window) ≡ false
not_over None None n x sid sub is bound = refl
not_over None (Some free) n x sid sub is bound = le-ltb most free (omega (arith, bound))
not_over (Some k) None n x sid sub is bound = refl
not_over (Some k) (Some free) n x sid sub is bound = let count = ap acks_of is in le-ltb most (free + k) (omega (arith, bound, count))

bounded_on : (count window : Option ℕ) (n : ℕ) (x : Sent) (sid sub : ℕ) → x ≡ said (requests.monitor sid 1 sub None count) → Bounded window (acks_of x + n) → Bounded (acknowledged count window) n
bounded_on None None n x sid sub is bound = tt
bounded_on None (Some free) n x sid sub is bound = omega (arith, bound)
bounded_on (Some k) None n x sid sub is bound = tt
bounded_on (Some k) (Some free) n x sid sub is bound = let count = ap acks_of is in omega (arith, bound, count)

bounded_less : (window : Option ℕ) (m n : ℕ) → Bounded window (m + n) → Bounded window n
bounded_less None m n bound = tt
bounded_less (Some free) m n bound = omega (arith, bound)

bounded_sent : (window : Option ℕ) (n : ℕ) → Bounded window n → Bounded (option_map (λ free. free - 1) window) n
bounded_sent None n bound = tt
bounded_sent (Some free) n bound = omega (arith, bound)

abbrev ok_taken : Taken → Result Taken ClientFault
ok_taken t = Ok t

abbrev reply_in : Reply → Option Reply → Reply
reply_in r None = r
reply_in r (Some x) = x

abbrev sid_in : Option Asked → ℕ
sid_in None = 0
sid_in (Some x) = x.sid

abbrev channel_in : Channel → Option Channel → Channel
channel_in c None = c
channel_in c (Some x) = x

module _ (site : SiteData) (sid : ℕ) (channel : Channel) where
  -- A pop of the monitor.

  module _ (s : server.State) (w : Watches site sid channel s) where
    the_request : (req : ℕ) (x : Asked) → at s.requests req ≡ Some x → req ≡ 1
    the_request req x here = by (same_or_not req 1)
      where
        by : (req ≡ 1) ⊎ (req ≢ 1) → req ≡ 1
        by (inl is) = is
        by (inr apart) = let clash : None ≡ Some x = sym (w.others req apart) ∙ here in absurd cc

    abbrev after_sent : server.State
    after_sent = record s { requests = insert s.requests 1 (one_sent w.asked) }

    abbrev still : Watches site sid channel after_sent
    still = record {
      asked = one_sent w.asked;
      now = w.now;
      there = w.there;
      here = got_inserted s.requests 1 (one_sent w.asked);
      sid_is = w.sid_is;
      kind_is = w.kind_is;
      others = λ q apart. got_beside s.requests 1 (one_sent w.asked) q apart ∙ w.others q apart;
    }

    abbrev with_requests : Requests → server.State
    with_requests r = record s { requests = r }

    -- it found no update, or sent one
    record FoundNone (req : ℕ) (marks : List Mark) (sent : List replies.Sent) : Type 0 where
      after : after_pop s req marks ≡ s
      silent : sent ≡ []
      skipped : (more : List Mark) → updates_in (marks ++ more) ≡ updates_in more

    record FoundOne (req : ℕ) (marks : List Mark) (sent : List replies.Sent) : Type 0 where
      update : Update
      after : after_pop s req marks ≡ after_sent
      sends : sent ≡ replies.said (updated 1 (type_of site channel) update) ∷ []
      due : is_due (Some w.asked) ≡ true

    by_update : (req place slot : ℕ) (marks : List Mark) (sent : List replies.Sent) → req ≡ 1 → is_due (Some w.asked) ≡ true → (update : Option Update) → sent ≡ update_sent site 1 channel update → marks ≡ Popped place slot update ∷ [] → FoundNone req marks sent ⊎ FoundOne req marks sent
    by_update req place slot marks sent one due None sent_is marks_is =
        inl (record { after = ap (after_pop s req) marks_is; silent = sent_is; skipped = λ more. ap (λ (ms : List Mark). updates_in (ms ++ more)) marks_is })
    by_update req place slot marks sent one due (Some u) sent_is marks_is =
        inr (record {
          update = u;
          after = ap (after_pop s req) marks_is ∙ ap (λ (q : ℕ). with_requests (with_sent q (at s.requests q) s.requests)) one ∙ ap (λ (o : Option Asked). with_requests (with_sent 1 o s.requests)) w.here;
          sends = sent_is;
          due = due;
        })

    popped_by : (req : ℕ) (marks : List Mark) (sent : List replies.Sent) → PopRow site s req marks sent → FoundNone req marks sent ⊎ FoundOne req marks sent
    popped_by req marks sent row =
        let due = row.is_pop.is_due in
        let one = the_request req row.is_pop.ask due.here in
        let same_ask : Some row.is_pop.ask ≡ Some w.asked = sym due.here ∙ ap (at s.requests) one ∙ w.here in
        let sid_is : row.is_pop.ask.sid ≡ sid = ap sid_in same_ask ∙ w.sid_is in
        let same : row.channel ≡ channel = ap (channel_in channel) (sym due.open_ ∙ ap (channel_at s.channels) sid_is ∙ w.there) in
        by_update req row.is_pop.place row.is_pop.sub.slot marks sent one (ap is_due (sym same_ask) ∙ due.due) row.update (row.sent_is ∙ (λ i. update_sent site (one i) (same i) row.update)) row.is_pop.marks_are

  -- A message about it.

  module _ (s : server.State) (w : Watches site sid channel s) where
    abbrev steered_watches : (count : Option ℕ) (started : Bool) → Watches site sid channel (record s { requests = insert s.requests 1 (steered count started w.asked) })
    steered_watches count started = record {
      asked = steered count started w.asked;
      now = w.now;
      there = w.there;
      here = got_inserted s.requests 1 (steered count started w.asked);
      sid_is = w.sid_is;
      kind_is = w.kind_is;
      others = λ q apart. got_beside s.requests 1 (steered count started w.asked) q apart ∙ w.others q apart;
    }

    ended_gone : (marks : List Mark) → Gone site sid channel (after_hearing site s (asks (destroy_request 1) s.types) marks)
    ended_gone marks = record { now = w.now; there = w.there; none = λ q. left q (same_or_not q 1) }
      where
        left : (q : ℕ) → (q ≡ 1) ⊎ (q ≢ 1) → at (remove s.requests 1) q ≡ None
        left q (inl e) = ap (at (remove s.requests 1)) e ∙ got_removed s.requests 1
        left q (inr apart) = got_left s.requests 1 q apart ∙ w.others q apart

  stop_by : (s : server.State) (e : Event) (hearing : Hearing) → heard site s e ≡ hearing → ((x : Whole) → stop_at x hearing ≡ None) → stop_of site s e ≡ None
  stop_by s (Message whole) hearing is fine = ap (stop_at whole) is ∙ fine whole
  stop_by s (Control command number) hearing is fine = refl

  -- Where only mild messages are left, each event has an answer.

  gone_heard : (xs : List Step) (s : server.State) (ws : List Written) (e : Event) → Gone site sid channel s → AreSteps site s xs → CanEach (IsMildWritten sid) ws → AreRequests (events_of xs ++ e ∷ []) ws → stop_of site (state_after site s xs) e ≡ None
  gone_heard [] s [] e g rules mild h = absurd h
  gone_heard [] s (v ∷ ws) e g rules mild h = stop_by s e (asks pass_over s.types) (gone_is site sid channel s [] [] g v.order v.sent e h.0 mild.0) (λ x. refl)
  gone_heard (pops req marks sent ∷ xs) s ws e g rules mild h = absurd (gone_not_popped site sid channel s req marks sent g rules.0.0)
  gone_heard (hears f marks sent ∷ xs) s [] e g rules mild h = absurd h
  gone_heard (hears f marks sent ∷ xs) s (v ∷ ws) e g rules mild h =
      let is = gone_is site sid channel s marks sent g v.order v.sent f h.0 mild.0 in
      ap (λ (k : Hearing). stop_of site (state_after site (after_hearing site s k marks) xs) e) is
      ∙ gone_heard xs (after_hearing site s (asks pass_over s.types) marks) ws e g (subst (λ (k : Hearing). AreSteps site (after_hearing site s k marks) xs) is rules.1) mild.1 h.1

  fine_at : (s : server.State) (v : Written) (ws : List Written) (e : Event) (w : Watches site sid channel s) → Bounded w.asked.window (acks_of v.sent + acks ws) → IsMild sid v.sent → IsRequest v.order v.sent e → stop_of site s e ≡ None
  fine_at s v ws e w bound (inl (number, is)) h = stop_by s e (asks pass_over s.types) (ap (heard site s) (subst (λ (y : Sent). IsRequest v.order y e) is h)) (λ x. refl)
  fine_at s v ws e w bound (inr (inl (sub, count, no_begin, no_end, starts, is))) h =
      let same = steering_is site sid channel s [] [] w v.order e sub count no_begin no_end (subst (λ (y : Sent). IsRequest v.order y e) is h) in
      let within = not_over count w.asked.window (acks ws) v.sent sid sub is bound in
      let task : Hearing = asks (steer 1 count (started_by sub w.asked.started) w.asked) s.types in
      stop_by s e task (same ∙ ap (λ (b : Bool). cond b over_range task) within) (λ x. refl)
  fine_at s v ws e w bound (inr (inr is)) h =
      stop_by s e (asks (destroy_request 1) s.types) (ending_is site sid channel s [] [] w v.order e (subst (λ (y : Sent). IsRequest v.order y e) is h)) (λ x. refl)

  abbrev AllHeard : List Step → Type 0
  AllHeard xs = (s : server.State) (ws : List Written) (e : Event) (w : Watches site sid channel s) → Bounded w.asked.window (acks ws) → AreSteps site s xs → CanEach (IsMildWritten sid) ws → AreRequests (events_of xs ++ e ∷ []) ws
      → stop_of site (state_after site s xs) e ≡ None

  module _ (xs : List Step) (later : AllHeard xs) (s : server.State) (w : Watches site sid channel s) (e : Event) where
    pop_heard : (req : ℕ) (marks : List Mark) (sent : List replies.Sent) (ws : List Written) → Bounded w.asked.window (acks ws) → AreSteps site (after_pop s req marks) xs → CanEach (IsMildWritten sid) ws → AreRequests (events_of xs ++ e ∷ []) ws
        → (FoundNone s w req marks sent ⊎ FoundOne s w req marks sent) → stop_of site (state_after site (after_pop s req marks) xs) e ≡ None
    pop_heard req marks sent ws bound rules mild h (inl none) =
        ap (λ (n : server.State). stop_of site (state_after site n xs) e) none.after
        ∙ later s ws e w bound (subst (λ (n : server.State). AreSteps site n xs) none.after rules) mild h
    pop_heard req marks sent ws bound rules mild h (inr one) =
        ap (λ (n : server.State). stop_of site (state_after site n xs) e) one.after
        ∙ later (after_sent s w) ws e (still s w) (bounded_sent w.asked.window (acks ws) bound) (subst (λ (n : server.State). AreSteps site n xs) one.after rules) mild h

    module _ (f : Event) (marks : List Mark) (sent : List replies.Sent) (v : Written) (ws : List Written) (mild : CanEach (IsMildWritten sid) ws) (h : AreRequests (events_of xs ++ e ∷ []) ws) (rules : AreSteps site (after_hearing site s (heard site s f) marks) xs) where
      abbrev Fine : Type 0
      Fine = stop_of site (state_after site (after_hearing site s (heard site s f) marks) xs) e ≡ None

      go_on : (hearing : Hearing) → heard site s f ≡ hearing → (w2 : Watches site sid channel (after_hearing site s hearing marks)) → Bounded w2.asked.window (acks ws) → Fine
      go_on hearing is w2 bound2 =
          ap (λ (k : Hearing). stop_of site (state_after site (after_hearing site s k marks) xs) e) is
          ∙ later (after_hearing site s hearing marks) ws e w2 bound2 (subst (λ (k : Hearing). AreSteps site (after_hearing site s k marks) xs) is rules) mild h

      go_gone : (hearing : Hearing) → heard site s f ≡ hearing → Gone site sid channel (after_hearing site s hearing marks) → Fine
      go_gone hearing is g =
          ap (λ (k : Hearing). stop_of site (state_after site (after_hearing site s k marks) xs) e) is
          ∙ gone_heard xs (after_hearing site s hearing marks) ws e g (subst (λ (k : Hearing). AreSteps site (after_hearing site s k marks) xs) is rules) mild h

      hear_heard : Bounded w.asked.window (acks_of v.sent + acks ws) → IsRequest v.order v.sent f → IsMild sid v.sent → Fine
      hear_heard bound first (inl (number, is)) =
          go_on (asks pass_over s.types) (ap (heard site s) (subst (λ (y : Sent). IsRequest v.order y f) is first)) w (bounded_less w.asked.window (acks_of v.sent) (acks ws) bound)
      hear_heard bound first (inr (inl (sub, count, no_begin, no_end, starts, is))) =
          let same = steering_is site sid channel s marks sent w v.order f sub count no_begin no_end (subst (λ (y : Sent). IsRequest v.order y f) is first) in
          let within = not_over count w.asked.window (acks ws) v.sent sid sub is bound in
          let task : Hearing = asks (steer 1 count (started_by sub w.asked.started) w.asked) s.types in
          go_on task (same ∙ ap (λ (b : Bool). cond b over_range task) within) (steered_watches s w count (started_by sub w.asked.started)) (bounded_on count w.asked.window (acks ws) v.sent sid sub is bound)
      hear_heard bound first (inr (inr is)) =
          go_gone (asks (destroy_request 1) s.types) (ending_is site sid channel s marks sent w v.order f (subst (λ (y : Sent). IsRequest v.order y f) is first)) (ended_gone s w marks)

  mild_heard : (xs : List Step) → AllHeard xs
  mild_heard [] s [] e w bound rules mild h = absurd h
  mild_heard [] s (v ∷ ws) e w bound rules mild h = fine_at s v ws e w bound mild.0 h.0
  mild_heard (pops req marks sent ∷ xs) s ws e w bound rules mild h = pop_heard xs (mild_heard xs) s w e req marks sent ws bound rules.1 mild h (popped_by s w req marks sent rules.0.0)
  mild_heard (hears f marks sent ∷ xs) s [] e w bound rules mild h = absurd h
  mild_heard (hears f marks sent ∷ xs) s (v ∷ ws) e w bound rules mild h = hear_heard xs (mild_heard xs) s w e f marks sent v ws mild.1 h.1 rules.1 bound h.0 mild.0

-- The updates, one after another.

-- How what is under way stands to what the client sends from here on: it is that behind some messages about the monitor, or some
-- of that was heard already.
abbrev IsSteer : ℕ → Written → Type 0
IsSteer sid v = (sub : ℕ) × ((count : Option ℕ) × (v.sent ≡ said (requests.monitor sid 1 sub None count)))

abbrev Split : ℕ → List Written → List Written → Type 0
Split sid ws sends = ((ps : List Written) × (CanEach (IsSteer sid) ps × (ws ≡ ps ++ sends))) ⊎ ((pre : List Written) × (sends ≡ pre ++ ws))

abbrev first_sent : Written → List Written → Sent
first_sent u [] = u.sent
first_sent u (x ∷ xs) = x.sent

abbrev rest_of : List Written → List Written
rest_of [] = []
rest_of (x ∷ xs) = xs

split_heard : (sid : ℕ) (v : Written) (ws sends : List Written) → Split sid (v ∷ ws) sends → Split sid ws sends
split_heard sid v ws sends (inl ([], (steers, is))) = inr (v ∷ [], sym is)
split_heard sid v ws sends (inl (p ∷ ps, (steers, is))) = inl (ps, (steers.1, ap rest_of is))
split_heard sid v ws sends (inr (pre, is)) = inr (pre ++ v ∷ [], is ∙ sym (append_assoc pre (v ∷ []) ws))

-- behind one message more that the client sends, or none
split_sent : (sid : ℕ) (ws one sends : List Written) → CanEach (IsSteer sid) one → length one ≤ 1 → Split sid ws (one ++ sends) → Split sid ws sends
split_sent sid ws one sends steers few (inl (ps, (others, is))) = inl (ps ++ one, (both ps one others steers, is ∙ sym (append_assoc ps one sends)))
  where
    both : (xs ys : List Written) → CanEach (IsSteer sid) xs → CanEach (IsSteer sid) ys → CanEach (IsSteer sid) (xs ++ ys)
    both [] ys h k = k
    both (x ∷ xs) ys h k = (h.0, both xs ys h.1 k)
split_sent sid ws [] sends steers few (inr (pre, is)) = inr (pre, is)
split_sent sid ws (a ∷ []) sends steers few (inr ([], is)) = inl (a ∷ [], (steers, sym is))
split_sent sid ws (a ∷ []) sends steers few (inr (p ∷ pre, is)) = inr (pre, ap rest_of is)
split_sent sid ws (a ∷ b ∷ more) sends steers few (inr (pre, is)) = absurd (omega (arith, few))

-- what is free, with what is under way, is what the window began with and what is still to be acknowledged
abbrev FitsIn : Option ℕ → Option ℕ → ℕ → ℕ → Type 0
FitsIn None None n m = Unit {0}
FitsIn (Some first) (Some free) n m = free + n ≡ first + m
FitsIn window free n m = ⊥

fits_heard : (window free : Option ℕ) (n m : ℕ) (count : Option ℕ) (x : Sent) (sid sub : ℕ) → x ≡ said (requests.monitor sid 1 sub None count) → FitsIn window free (acks_of x + n) m → FitsIn window (acknowledged count free) n m
fits_heard None None n m None x sid sub is fits = tt
fits_heard None None n m (Some k) x sid sub is fits = tt
fits_heard None (Some free) n m count x sid sub is fits = absurd fits
fits_heard (Some first) None n m count x sid sub is fits = absurd fits
fits_heard (Some first) (Some free) n m None x sid sub is fits = let none = ap acks_of is in omega (arith, fits, none)
fits_heard (Some first) (Some free) n m (Some k) x sid sub is fits = let some = ap acks_of is in omega (arith, fits, some)

fits_skipped : (window free : Option ℕ) (n m k : ℕ) → k ≡ 0 → FitsIn window free (k + n) m → FitsIn window free n m
fits_skipped window free n m k none fits = let same : k + n ≡ n = omega (arith, none) in subst (λ (x : ℕ). FitsIn window free x m) same fits

module _ (ask : Ask) (site : SiteData) (sid : ℕ) (channel : Channel) (queue count : ℕ) (window : Option ℕ) (op : ask.operation ≡ operation.Monitor queue window count) (range : IsInRange window) where
  abbrev window_is : window_of ask.operation ≡ window
  window_is = ap window_of op

  -- a message that starts the monitor is the next one
  abbrev Starts : List Written → Type 0
  Starts ws = (v : Written) × ((rest : List Written) × ((ws ≡ v ∷ rest) × (v.sent ≡ said (requests.monitor sid 1 0x44 None None))))

  -- How the two ends stand to one another.
  record Facts (d : State) (s : server.State) (ws : List Written) (es : List Event) (w : Watches site sid channel s) : Type 0 where
    taking : Taking ask site sid channel d
    sid_is : d.sid ≡ sid
    few : d.left ≤ count
    mild : CanEach (IsMildWritten sid) ws
    split : Split sid ws (run ask d es).sent
    fits : FitsIn window w.asked.window (acks ws) (acks (run ask d es).sent)
    started : (w.asked.started ≡ true) ⊎ Starts ws
    sub : is_some w.asked.sub ≡ true

  -- It goes on so.
  record Went (d : State) (s : server.State) (xs : List Step) (es : List Event) (ws : List Written) : Type 0 where
    fault : IsWordsOnly (run ask d es).fault
    rests : length es ≡ length (spoken site s xs) → length (events_of xs) ≡ length ws → Rests ask site (MonitorMore ask) (state_after site s xs) (marks_of xs) (run ask d es).told (run ask d es).fault
    ahead : length es ≡ length (spoken site s xs) → (e : Event) → AreRequests (events_of xs ++ e ∷ []) ws → stop_of site (state_after site s xs) e ≡ None

  abbrev AllWent : List Step → Type 0
  AllWent xs = (d : State) (s : server.State) (es : List Event) (ws : List Written) (w : Watches site sid channel s) → Facts d s ws es w → AreSteps site s xs → AreRequests (events_of xs) ws → AreReplies es (spoken site s xs) → Went d s xs es ws

  -- nothing more was heard or said

  bounded_of : (first free : Option ℕ) (n : ℕ) → IsInRange first → FitsIn first free n 0 → Bounded free n
  bounded_of None None n in_ fits = tt
  bounded_of None (Some free) n in_ fits = absurd fits
  bounded_of (Some first) None n in_ fits = absurd fits
  bounded_of (Some first) (Some free) n in_ fits = let bound = in_.1 in omega (arith, fits, bound)

  open_of : (first free : Option ℕ) → IsInRange first → FitsIn first free 0 0 → is_window_open free ≡ true
  open_of None None in_ fits = refl
  open_of None (Some free) in_ fits = absurd fits
  open_of (Some first) None in_ fits = absurd fits
  open_of (Some first) (Some free) in_ fits = let some = in_.0 in lt-ltb 0 free (omega (arith, fits, some))

  due_of : (a : Asked) → is_some a.sub ≡ true → a.started ≡ true → is_window_open a.window ≡ true → is_due (Some a) ≡ true
  due_of a sub started open_ = λ i. sub i && (started i && open_ i)

  starving : (s : server.State) (w : Watches site sid channel s) → FitsIn window w.asked.window 0 0 → is_some w.asked.sub ≡ true → ((w.asked.started ≡ true) ⊎ Starts []) → Starved s []
  starving s w fits sub (inl started) = (ap is_due w.here ∙ due_of w.asked sub started (open_of window w.asked.window range fits), refl)
  starving s w fits sub (inr starts) = let clash = ap length starts.1.1.0 in absurd (omega (arith, clash))

  rests_at : (d : State) (s : server.State) (ws : List Written) (w : Watches site sid channel s) → Facts d s ws [] w → 0 ≡ length ws → Rests ask site (MonitorMore ask) s [] [] None
  rests_at d s [] w facts none = inr (inr (inr (starving s w facts.fits facts.sub facts.started)))
  rests_at d s (v ∷ ws) w facts none = absurd (omega (arith, none))

  went_nowhere : (d : State) (s : server.State) (ws : List Written) (w : Watches site sid channel s) → Facts d s ws [] w → Went d s [] [] ws
  went_nowhere d s ws w facts = record {
    fault = tt;
    rests = λ taken heard_. rests_at d s ws w facts heard_;
    ahead = λ taken e h. mild_heard site sid channel [] s ws e w (bounded_of window w.asked.window (acks ws) range facts.fits) tt facts.mild h;
  }

  -- What is said behind a step.
  module _ (xs : List Step) (loop : AllWent xs) (d : State) (s : server.State) (ws : List Written) (w : Watches site sid channel s) where
    -- a pop that found none
    none_popped : (req : ℕ) (marks : List Mark) (sent : List replies.Sent) (es : List Event) → Facts d s ws es w → AreSteps site (after_pop s req marks) xs → AreRequests (events_of xs) ws
        → AreReplies es (speak s.order s.segment sent ++ spoken site (after_pop s req marks) xs) → FoundNone site sid channel s w req marks sent → Went d s (pops req marks sent ∷ xs) es ws
    none_popped req marks sent es facts rules heard_ told none =
        let told_next = subst (λ (n : server.State). AreReplies es (speak s.order s.segment sent ++ spoken site n xs)) none.after told in
        let told_here = subst (λ (ys : List replies.Sent). AreReplies es (speak s.order s.segment ys ++ spoken site s xs)) none.silent told_next in
        let g = loop d s es ws w facts (subst (λ (n : server.State). AreSteps site n xs) none.after rules) heard_ told_here in
        let said_is : length (spoken site s (pops req marks sent ∷ xs)) ≡ length (spoken site s xs) =
        ap (λ (n : server.State). length (speak s.order s.segment sent ++ spoken site n xs)) none.after ∙ ap (λ (ys : List replies.Sent). length (speak s.order s.segment ys ++ spoken site s xs)) none.silent in
        let end_is : state_after site s (pops req marks sent ∷ xs) ≡ state_after site s xs = ap (λ (n : server.State). state_after site n xs) none.after in
        record {
          fault = g.fault;
          rests = λ taken heard_now_. rests_on (run ask d es).told (run ask d es).fault end_is (g.rests (omega (arith, taken, said_is)) heard_now_);
          ahead = λ taken e h. ap (λ (z : server.State). stop_of site z e) end_is ∙ g.ahead (omega (arith, taken, said_is)) e h;
        }
      where
        rests_on : (told : List Told) (o : Option ClientFault) → state_after site s (pops req marks sent ∷ xs) ≡ state_after site s xs → Rests ask site (MonitorMore ask) (state_after site s xs) (marks_of xs) told o
            → Rests ask site (MonitorMore ask) (state_after site s (pops req marks sent ∷ xs)) (marks ++ marks_of xs) told o
        rests_on told o end_is (inl over) = inl over
        rests_on told o end_is (inr (inl wrong)) = inr (inl wrong)
        rests_on told o end_is (inr (inr (inl more))) = inr (inr (inl more))
        rests_on told o end_is (inr (inr (inr starved))) = inr (inr (inr (ap (λ (z : server.State). is_due (at z.requests 1)) end_is ∙ starved.0, none.skipped (marks_of xs) ∙ starved.1)))

    -- a pop that sent an update
    module _ (req : ℕ) (marks : List Mark) (sent : List replies.Sent) (one : FoundOne site sid channel s w req marks sent) where
      abbrev all : List Step
      all = pops req marks sent ∷ xs

      abbrev next_state : server.State
      next_state = after_sent site sid channel s w

      end_is : state_after site s all ≡ state_after site next_state xs
      end_is = ap (λ (n : server.State). state_after site n xs) one.after

      said_is : length (spoken site s all) ≡ suc (length (spoken site next_state xs))
      said_is =
          ap (λ (n : server.State). length (speak s.order s.segment sent ++ spoken site n xs)) one.after
          ∙ ap (λ (ys : List replies.Sent). length (speak s.order s.segment ys ++ spoken site next_state xs)) one.sends

      unheard_one : Went d s all [] ws
      unheard_one = record {
        fault = tt;
        rests = λ taken heard_. absurd (omega (arith, taken, said_is));
        ahead = λ taken e h. absurd (omega (arith, taken, said_is));
      }

      module _ (e : Event) (es : List Event) (facts : Facts d s ws (e ∷ es) w) (rules : AreSteps site next_state xs) (heard_ : AreRequests (events_of xs) ws) (first : IsReply s.order (replies.said (said_of ask site sid channel one.update)) e)
          (told : AreReplies es (spoken site next_state xs)) where
        abbrev here : State
        here = readied s.order d

        abbrev tells_it : Told
        tells_it = told_of ask site sid channel one.update

        abbrev going : Taken
        going = saying (record here { left = d.left - 1 }) (acknowledgement d.sid (window_of ask.operation)) (tells_it ∷ [])

        abbrev ending_ : Taken
        ending_ = finished here turn.Updates (tells_it ∷ [])

        step_is : (b : Bool) → nat_lt 1 d.left ≡ b → step ask d e ≡ Ok (cond b going ending_)
        step_is b is = ap (step ask d) first.1 ∙ update_taken ask site sid channel d facts.taking s.order first.0 one.update first.2 ∙ ap (λ (c : Bool). ok_taken (cond c going ending_)) is

        more_than_one : (o : Operation) → o ≡ operation.Monitor queue window count → (ts : List Told) → 1 < count → HasMore o (tells_it ∷ ts)
        more_than_one o is ts more = subst (λ (x : Operation). HasMore x (tells_it ∷ ts)) (sym is) more

        -- one acknowledgement, or none
        acked_by : (first_ free : Option ℕ) (n : ℕ) (order : Order) (segment : ℕ) → is_window_open free ≡ true
            → (CanEach (IsSteer sid) (map (written order segment) (map said (acknowledgement d.sid first_))))
            × ((length (map (written order segment) (map said (acknowledgement d.sid first_))) ≤ 1)
            × ((m : ℕ) → FitsIn first_ free n (acks (map (written order segment) (map said (acknowledgement d.sid first_))) + m) → FitsIn first_ (option_map (λ x. x - 1) free) n m))
        acked_by None None n order segment open_ = (tt, (omega arith, λ m fits. tt))
        acked_by None (Some free) n order segment open_ = (tt, (omega arith, λ m fits. absurd fits))
        acked_by (Some first_) None n order segment open_ =
            ((((0x80, (Some 1, ap (λ (k : ℕ). said (requests.monitor k 1 0x80 None (Some 1))) facts.sid_is)), tt)), (omega arith, λ m fits. absurd fits))
        acked_by (Some first_) (Some free) n order segment open_ =
            let some : 0 < free = ltb-true 0 free open_ in
            ((((0x80, (Some 1, ap (λ (k : ℕ). said (requests.monitor k 1 0x80 None (Some 1))) facts.sid_is)), tt)), (omega arith, λ m fits. omega (arith, fits, some)))

        open_window : is_window_open w.asked.window ≡ true
        open_window = by (is_some w.asked.sub) w.asked.started (is_window_open w.asked.window) one.due
          where
            by : (a b c : Bool) → (a && (b && c)) ≡ true → c ≡ true
            by true true c h = h
            by true false c h = absurd cc
            by false b c h = absurd cc

        goes_further : nat_lt 1 d.left ≡ true → Went d s all (e ∷ es) ws
        goes_further more =
            let runs = run_one ask d e es going (step_is true more) in
            let told_is : (run ask d (e ∷ es)).told ≡ tells_it ∷ (run ask going.state es).told = ap (λ (r : Run). r.told) runs in
            let sent_is : (run ask d (e ∷ es)).sent ≡ written_of going ++ (run ask going.state es).sent = ap (λ (r : Run). r.sent) runs in
            let fault_is : (run ask d (e ∷ es)).fault ≡ (run ask going.state es).fault = ap (λ (r : Run). r.fault) runs in
            let less : 1 < d.left = ltb-true 1 d.left more in
            let acked = subst (λ (o : Option ℕ). (CanEach (IsSteer sid) (map (written going.state.order going.state.segment) (map said (acknowledgement d.sid o))))
            × ((length (map (written going.state.order going.state.segment) (map said (acknowledgement d.sid o))) ≤ 1)
            × ((m : ℕ) → FitsIn window w.asked.window (acks ws) (acks (map (written going.state.order going.state.segment) (map said (acknowledgement d.sid o))) + m) → FitsIn window (option_map (λ x. x - 1) w.asked.window) (acks ws) m)))
            (sym window_is) (acked_by window w.asked.window (acks ws) going.state.order going.state.segment open_window) in
            let total = ap acks sent_is ∙ acks_append (written_of going) (run ask going.state es).sent in
            let few = facts.few in
            let g = loop going.state next_state es ws (still site sid channel s w)
            (record {
              taking = record { turns_are = facts.taking.turns_are; req_is = facts.taking.req_is; ty_is = facts.taking.ty_is };
              sid_is = facts.sid_is;
              few = omega (arith, few);
              mild = facts.mild;
              split = split_sent sid ws (written_of going) (run ask going.state es).sent acked.0 acked.1.0 (subst (Split sid ws) sent_is facts.split);
              fits = acked.1.1 (acks (run ask going.state es).sent) (subst (FitsIn window w.asked.window (acks ws)) total facts.fits);
              started = facts.started;
              sub = facts.sub;
            }) rules heard_ told in
            record {
              fault = subst IsWordsOnly (sym fault_is) g.fault;
              rests = λ taken heard_now_. rests_on more (run ask going.state es).told (run ask going.state es).fault told_is fault_is (g.rests (omega (arith, taken, said_is)) heard_now_);
              ahead = λ taken x h. ap (λ (z : server.State). stop_of site z x) end_is ∙ g.ahead (omega (arith, taken, said_is)) x h;
            }
          where
            rests_on : nat_lt 1 d.left ≡ true → (ts : List Told) (o : Option ClientFault) → (run ask d (e ∷ es)).told ≡ tells_it ∷ ts → (run ask d (e ∷ es)).fault ≡ o → Rests ask site (MonitorMore ask) (state_after site next_state xs) (marks_of xs) ts o
                → Rests ask site (MonitorMore ask) (state_after site s all) (marks_of all) (run ask d (e ∷ es)).told (run ask d (e ∷ es)).fault
            rests_on more_ ts o told_is fault_is (inl over) = inl (over.0, ap ending_of told_is ∙ over.1)
            rests_on more_ ts o told_is fault_is (inr (inl wrong)) = inr (inl (λ none_. wrong (sym fault_is ∙ none_)))
            rests_on more_ ts o told_is fault_is (inr (inr more_later)) =
                let less : 1 < d.left = ltb-true 1 d.left more_ in
                let few = facts.few in
                inr (inr (inl (subst (HasMore ask.operation) (sym told_is) (more_than_one ask.operation op ts (omega (arith, less, few))))))

        is_last : nat_lt 1 d.left ≡ false → Went d s all (e ∷ es) ws
        is_last last =
            let runs = run_one ask d e es ending_ (step_is false last) in
            let told_is : (run ask d (e ∷ es)).told ≡ tells_it ∷ finish ∷ [] =
            ap (λ (r : Run). r.told) runs ∙ ap (λ (ts : List Told). tells_it ∷ finish ∷ ts) (nothing_told ask ending_.state es refl) in
            let sent_is : (run ask d (e ∷ es)).sent ≡ written_of ending_ =
            ap (λ (r : Run). r.sent) runs ∙ ap (λ (us : List Written). written_of ending_ ++ us) (nothing_sent ask ending_.state es refl) ∙ append-nil (written_of ending_) in
            let fault_is : (run ask d (e ∷ es)).fault ≡ None = ap (λ (r : Run). r.fault) runs ∙ nothing_wrong ask ending_.state es refl in
            let none_acked : acks (run ask d (e ∷ es)).sent ≡ 0 = ap acks sent_is ∙ ends_ack d.req in
            record {
              fault = subst IsWordsOnly (sym fault_is) tt;
              rests = λ taken heard_now_. inl (endings.Finished, ap ending_of told_is);
              ahead = λ taken x h. ap (λ (z : server.State). stop_of site z x) end_is
                  ∙ mild_heard site sid channel xs next_state ws x (still site sid channel s w)
                  (bounded_sent w.asked.window (acks ws) (bounded_of window w.asked.window (acks ws) range (subst (FitsIn window w.asked.window (acks ws)) none_acked facts.fits))) rules facts.mild h;
            }
          where
            ends_ack : (r : Option ℕ) → acks (map (written ending_.state.order ending_.state.segment) (map said (end_of d.sid r))) ≡ 0
            ends_ack None = refl
            ends_ack (Some id) = refl

        update_heard : Went d s all (e ∷ es) ws
        update_heard = by (nat_lt 1 d.left) refl
          where
            by : (b : Bool) → nat_lt 1 d.left ≡ b → Went d s all (e ∷ es) ws
            by true more = goes_further more
            by false last = is_last last

    one_popped : (req : ℕ) (marks : List Mark) (sent : List replies.Sent) (es : List Event) → Facts d s ws es w → AreSteps site (after_pop s req marks) xs → AreRequests (events_of xs) ws
        → AreReplies es (speak s.order s.segment sent ++ spoken site (after_pop s req marks) xs) → FoundOne site sid channel s w req marks sent → Went d s (pops req marks sent ∷ xs) es ws
    one_popped req marks sent [] facts rules heard_ told one = unheard_one req marks sent one
    one_popped req marks sent (e ∷ es) facts rules heard_ told one =
        let next = after_sent site sid channel s w in
        let told_next = subst (λ (n : server.State). AreReplies (e ∷ es) (speak s.order s.segment sent ++ spoken site n xs)) one.after told in
        let told_here : AreReplies (e ∷ es) (speak s.order s.segment (replies.said (updated 1 (type_of site channel) one.update) ∷ []) ++ spoken site next xs) =
        subst (λ (ys : List replies.Sent). AreReplies (e ∷ es) (speak s.order s.segment ys ++ spoken site next xs)) one.sends told_next in
        update_heard req marks sent one e es facts (subst (λ (n : server.State). AreSteps site n xs) one.after rules) heard_ told_here.0 told_here.1

    -- a message that is heard
    module _ (f : Event) (marks : List Mark) (sent : List replies.Sent) (v : Written) (later : List Written) (ws_is : ws ≡ v ∷ later) (es : List Event) (facts : Facts d s ws es w) (heard_ : AreRequests (events_of xs) later) where
      abbrev all_heard : List Step
      all_heard = hears f marks sent ∷ xs

      abbrev Here : Type 0
      Here = Went d s all_heard es ws

      -- it is heard so, and nothing is said
      heard_on : (hearing : Hearing) → heard site s f ≡ hearing → sent ≡ [] → ((more : List Mark) → updates_in (marks ++ more) ≡ updates_in more) → (w2 : Watches site sid channel (after_hearing site s hearing marks))
          → Facts d (after_hearing site s hearing marks) later es w2 → AreSteps site (after_hearing site s (heard site s f) marks) xs → AreReplies es (speak s.order s.segment sent ++ spoken site (after_hearing site s (heard site s f) marks) xs) → Here
      heard_on hearing is silent skipped w2 facts2 rules told =
          let next = after_hearing site s hearing marks in
          let told_next = subst (λ (k : Hearing). AreReplies es (speak s.order s.segment sent ++ spoken site (after_hearing site s k marks) xs)) is told in
          let told_here = subst (λ (ys : List replies.Sent). AreReplies es (speak s.order s.segment ys ++ spoken site next xs)) silent told_next in
          let g = loop d next es later w2 facts2 (subst (λ (k : Hearing). AreSteps site (after_hearing site s k marks) xs) is rules) heard_ told_here in
          let said_is : length (spoken site s all_heard) ≡ length (spoken site next xs) =
          ap (λ (k : Hearing). length (speak s.order s.segment sent ++ spoken site (after_hearing site s k marks) xs)) is ∙ ap (λ (ys : List replies.Sent). length (speak s.order s.segment ys ++ spoken site next xs)) silent in
          let end_is : state_after site s all_heard ≡ state_after site next xs = ap (λ (k : Hearing). state_after site (after_hearing site s k marks) xs) is in
          let count_is = ap (λ (us : List Written). length us) ws_is in
          record {
            fault = g.fault;
            rests = λ taken heard_now_. rests_on next skipped (run ask d es).told (run ask d es).fault end_is (g.rests (omega (arith, taken, said_is)) (omega (arith, heard_now_, count_is)));
            ahead = λ taken e h. ap (λ (z : server.State). stop_of site z e) end_is ∙ g.ahead (omega (arith, taken, said_is)) e (subst (AreRequests (f ∷ (events_of xs ++ e ∷ []))) ws_is h).1;
          }
        where
          rests_on : (next : server.State) → ((more : List Mark) → updates_in (marks ++ more) ≡ updates_in more) → (told_ : List Told) (o : Option ClientFault) → state_after site s all_heard ≡ state_after site next xs
              → Rests ask site (MonitorMore ask) (state_after site next xs) (marks_of xs) told_ o → Rests ask site (MonitorMore ask) (state_after site s all_heard) (marks ++ marks_of xs) told_ o
          rests_on next skips told_ o end_is (inl over) = inl over
          rests_on next skips told_ o end_is (inr (inl wrong)) = inr (inl wrong)
          rests_on next skips told_ o end_is (inr (inr (inl more))) = inr (inr (inl more))
          rests_on next skips told_ o end_is (inr (inr (inr starved))) = inr (inr (inr (ap (λ (z : server.State). is_due (at z.requests 1)) end_is ∙ starved.0, skips (marks_of xs) ∙ starved.1)))

      abbrev sends : List Written
      sends = (run ask d es).sent

      these_mild : CanEach (IsMildWritten sid) (v ∷ later)
      these_mild = subst (CanEach (IsMildWritten sid)) ws_is facts.mild

      these_split : Split sid (v ∷ later) sends
      these_split = subst (λ (us : List Written). Split sid us sends) ws_is facts.split

      these_fit : FitsIn window w.asked.window (acks_of v.sent + acks later) (acks sends)
      these_fit = subst (λ (us : List Written). FitsIn window w.asked.window (acks us) (acks sends)) ws_is facts.fits

      starts_now : Starts ws → v.sent ≡ said (requests.monitor sid 1 0x44 None None)
      starts_now starts = ap (first_sent v) (sym ws_is ∙ starts.1.1.0) ∙ starts.1.1.1

      -- it asks nothing
      passed_over : (number : ℕ) → v.sent ≡ client.control 4 number → IsRequest v.order v.sent f → IsAnswer site s (heard site s f) marks sent → AreSteps site (after_hearing site s (heard site s f) marks) xs
          → AreReplies es (speak s.order s.segment sent ++ spoken site (after_hearing site s (heard site s f) marks) xs) → Here
      passed_over number is first answer rules told =
          let same : heard site s f ≡ asks pass_over s.types = ap (heard site s) (subst (λ (y : Sent). IsRequest v.order y f) is first) in
          let says = subst (λ (k : Hearing). IsAnswer site s k marks sent) same answer in
          heard_on (asks pass_over s.types) same says.sent_is (λ more. ap (λ (ms : List Mark). updates_in (ms ++ more)) says.marks_are) w
          (record {
            taking = facts.taking;
            sid_is = facts.sid_is;
            few = facts.few;
            mild = these_mild.1;
            split = split_heard sid v later sends these_split;
            fits = fits_skipped window w.asked.window (acks later) (acks sends) (acks_of v.sent) (ap acks_of is) these_fit;
            started = still_started facts.started;
            sub = facts.sub;
          }) rules told
        where
          still_started : ((w.asked.started ≡ true) ⊎ Starts ws) → (w.asked.started ≡ true) ⊎ Starts later
          still_started (inl started) = inl started
          still_started (inr starts) = let clash = sym is ∙ starts_now starts in absurd cc

      -- it steers the monitor
      abbrev sub_in : Sent → ℕ
      sub_in (said (requests.monitor id req sub x n)) = sub
      sub_in other = 0

      starts_by : (sub : ℕ) (count_ : Option ℕ) → started_by sub true ≡ true → v.sent ≡ said (requests.monitor sid 1 sub None count_) → ((w.asked.started ≡ true) ⊎ Starts ws) → started_by sub w.asked.started ≡ true
      starts_by sub count_ keeps is (inl started) = ap (started_by sub) started ∙ keeps
      starts_by sub count_ keeps is (inr starts) =
          let sub_is : sub ≡ 0x44 = ap sub_in (sym is ∙ starts_now starts) in
          ap (λ (n : ℕ). started_by n w.asked.started) sub_is

      steered_on : (sub : ℕ) (count_ : Option ℕ) → begins sub ≡ false → ends sub ≡ false → started_by sub true ≡ true → v.sent ≡ said (requests.monitor sid 1 sub None count_) → IsRequest v.order v.sent f
          → IsAnswer site s (heard site s f) marks sent → AreSteps site (after_hearing site s (heard site s f) marks) xs → AreReplies es (speak s.order s.segment sent ++ spoken site (after_hearing site s (heard site s f) marks) xs) → Here
      steered_on sub count_ no_begin no_end keeps is first answer rules told =
          by (is_over (acknowledged count_ w.asked.window)) (steering_is site sid channel s marks sent w v.order f sub count_ no_begin no_end (subst (λ (y : Sent). IsRequest v.order y f) is first))
        where
          task : Hearing
          task = asks (steer 1 count_ (started_by sub w.asked.started) w.asked) s.types

          by : (b : Bool) → heard site s f ≡ cond b over_range (asks (steer 1 count_ (started_by sub w.asked.started) w.asked) s.types) → Here
          by true same = absurd (subst (λ (k : Hearing). IsAnswer site s k marks sent) same answer)
          by false same =
              let says = subst (λ (k : Hearing). IsAnswer site s k marks sent) same answer in
              heard_on (asks (steer 1 count_ (started_by sub w.asked.started) w.asked) s.types) same says.sent_is (λ more. ap (λ (ms : List Mark). updates_in (ms ++ more)) says.marks_are)
              (steered_watches site sid channel s w count_ (started_by sub w.asked.started))
              (record {
                taking = facts.taking;
                sid_is = facts.sid_is;
                few = facts.few;
                mild = these_mild.1;
                split = split_heard sid v later sends these_split;
                fits = fits_heard window w.asked.window (acks later) (acks sends) count_ v.sent sid sub is these_fit;
                started = inl (starts_by sub count_ keeps is facts.started);
                sub = facts.sub;
              }) rules told

    -- it ends the monitor: the client has ended then
    module _ (f : Event) (marks : List Mark) (sent : List replies.Sent) (v : Written) (later : List Written) (ws_is : ws ≡ v ∷ later) (heard_ : AreRequests (events_of xs) later) (is : v.sent ≡ said (requests.destroy_request sid 1)) (first : IsRequest v.order v.sent f)
        (rules : AreSteps site (after_hearing site s (heard site s f) marks) xs) where
      ends_it : (es : List Event) → Facts d s ws es w → AreReplies es (speak s.order s.segment sent ++ spoken site (after_hearing site s (heard site s f) marks) xs) → IsAnswer site s (heard site s f) marks sent → Went d s (hears f marks sent ∷ xs) es ws
      ends_it [] facts told answer = absurd (unsent (subst (λ (us : List Written). Split sid us []) ws_is facts.split))
        where
          unsent : Split sid (v ∷ later) [] → ⊥
          unsent (inl ([], (steers, all))) = let clash = ap length all in omega (arith, clash)
          unsent (inl (p ∷ ps, (steers, all))) = let clash : said (requests.destroy_request sid 1) ≡ said (requests.monitor sid 1 steers.0.0 None steers.0.1.0) = sym is ∙ ap (first_sent v) all ∙ steers.0.1.1 in absurd cc
          unsent (inr ([], all)) = let clash = ap length all in omega (arith, clash)
          unsent (inr (p ∷ ps, all)) = let clash = ap length all in omega (arith, clash)
      ends_it (e ∷ es) facts told answer =
          let same = ending_is site sid channel s marks sent w v.order f (subst (λ (y : Sent). IsRequest v.order y f) is first) in
          let says = subst (λ (k : Hearing). IsAnswer site s k marks sent) same answer in
          let next = after_hearing site s (asks (destroy_request 1) s.types) marks in
          let told_next = subst (λ (k : Hearing). AreReplies (e ∷ es) (speak s.order s.segment sent ++ spoken site (after_hearing site s k marks) xs)) same told in
          let mild = subst (CanEach (IsMildWritten sid)) ws_is facts.mild in
          absurd
          (gone_silent site sid channel xs next later e es (ended_gone site sid channel s w marks) (all_made site next xs (subst (λ (k : Hearing). AreSteps site (after_hearing site s k marks) xs) same rules)) heard_ mild.1
          (subst (λ (ys : List replies.Sent). AreReplies (e ∷ es) (speak s.order s.segment ys ++ spoken site next xs)) says.sent_is told_next))

  loop : (xs : List Step) → AllWent xs
  loop [] d s [] ws w facts rules heard_ told = went_nowhere d s ws w facts
  loop [] d s (e ∷ es) ws w facts rules heard_ told = absurd told
  loop (pops req marks sent ∷ xs) d s es ws w facts rules heard_ told = popped_so (popped_by site sid channel s w req marks sent rules.0.0) (none_popped xs (loop xs) d s ws w req marks sent es facts rules.1 heard_ told) (one_popped xs (loop xs) d s ws w req marks sent es facts rules.1 heard_ told)
    where
      popped_so : {A B C : Type 0} → A ⊎ B → (A → C) → (B → C) → C
      popped_so (inl a) on_a on_b = on_a a
      popped_so (inr b) on_a on_b = on_b b
  loop (hears f marks sent ∷ xs) d s es [] w facts rules heard_ told = absurd heard_
  loop (hears f marks sent ∷ xs) d s es (v ∷ ws) w facts rules heard_ told = hear_so xs (loop xs) d s es v ws w f marks sent facts rules heard_ told facts.mild.0
    where
      hear_so : (xs : List Step) → AllWent xs → (d : State) (s : server.State) (es : List Event) (v : Written) (ws : List Written) (w : Watches site sid channel s) (f : Event) (marks : List Mark) (sent : List replies.Sent) → Facts d s (v ∷ ws) es w
          → AreSteps site s (hears f marks sent ∷ xs) → AreRequests (f ∷ events_of xs) (v ∷ ws) → AreReplies es (spoken site s (hears f marks sent ∷ xs)) → IsMild sid v.sent → Went d s (hears f marks sent ∷ xs) es (v ∷ ws)
      hear_so xs loop_ d s es v ws w f marks sent facts rules heard_ told (inl (number, is)) =
          passed_over xs loop_ d s (v ∷ ws) w f marks sent v ws refl es facts heard_.1 number is heard_.0 rules.0.0 rules.1 told
      hear_so xs loop_ d s es v ws w f marks sent facts rules heard_ told (inr (inl (sub, count_, no_begin, no_end, keeps, is))) =
          steered_on xs loop_ d s (v ∷ ws) w f marks sent v ws refl es facts heard_.1 sub count_ no_begin no_end keeps is heard_.0 rules.0.0 rules.1 told
      hear_so xs loop_ d s es v ws w f marks sent facts rules heard_ told (inr (inr is)) =
          ends_it xs loop_ d s (v ∷ ws) w f marks sent v ws refl heard_.1 is heard_.0 rules.1 es facts told rules.0.0

-- The turn that begins a monitor.
module _ (ask : Ask) (site : SiteData) (channel : Channel) (queue count : ℕ) (window : Option ℕ) (op : ask.operation ≡ operation.Monitor queue window count) (range : IsInRange window) (v : Valued) (c : State) (s : server.State) (order : Order) (segment : ℕ)
    (turns : c.turns ≡ turn.BeginMonitor ∷ turn.Updates ∷ []) (req : c.req ≡ Some 1) (left_ : c.left ≡ count) (opened : Opened c s channel) where
  abbrev ty : Tree
  ty = type_of site channel

  abbrev sub : ℕ
  sub = monitor_sub window

  abbrev message : Request
  message = requests.monitor c.sid 1 sub v window

  abbrev MonitorGoes : Type 0
  MonitorGoes = AllGo ask site (MonitorMore ask) c s (written order segment (said message) ∷ [])

  heard_so : (b : Bool) → has_values channel ≡ b → (place : ℕ) → IsWritable message
      → heard site s (event_of order place message) ≡ windowed s.types window (beginning_on site kinds.Monitor 1 sub c.sid v channel (unfit_for false b))
  heard_so b valued place can =
      hears_it site s order place message (heard_now s (request_command message) opened.now) can
      ∙ ap (λ (x : Bool). cond x (windowed s.types window (beginning site s kinds.Monitor 1 sub c.sid v (channel_at s.channels c.sid))) (steering_found s.types 1 sub window (found_for s kinds.Monitor c.sid 1))) (begins_sub window)
      ∙ ap (windowed s.types window) (begins_on site s kinds.Monitor 1 sub c.sid v channel opened.there opened.none)
      ∙ ap (λ (x : Bool). windowed s.types window (beginning_on site kinds.Monitor 1 sub c.sid v channel (unfit_for false x))) valued

  keeps_by : (marks : List Mark) → ((more : List Mark) → updates_in (marks ++ more) ≡ updates_in more) → (z : server.State) (ms : List Mark) (told : List Told) → MonitorMore ask z ms told → MonitorMore ask z (marks ++ ms) told
  keeps_by marks skipped z ms told (inl more) = inl more
  keeps_by marks skipped z ms told (inr starved) = inr (starved.0, skipped ms ∙ starved.1)

  refused_reacts : (why : List ℕ) (hearing : Hearing) (marks : List Mark) (sent : List replies.Sent) → sent ≡ replies.said (refused kinds.Monitor 1 sub why) ∷ [] → ((more : List Mark) → updates_in (marks ++ more) ≡ updates_in more)
      → (after_hearing site s hearing marks).validated ≡ true → Reacts ask site (MonitorMore ask) c s hearing marks sent
  refused_reacts why hearing marks sent sent_is skipped now =
      let r = reply.monitor_begun 1 sub (error why) None in
      let t = ended (readied s.order c) turn.BeginMonitor (refusal (error why) ∷ []) in
      record {
        reply = r;
        sent_is = sent_is;
        taken = Ok t;
        takes = λ place can.
            hears_reply ask c turn.BeginMonitor (turn.Updates ∷ []) s.order place r turns refl can (λ u none. absurd cc)
            ∙ ap (λ (q : Option ℕ). replied ask (readied s.order c) turn.BeginMonitor (turn.Updates ∷ []) (seen_reply r) (unless_own q 1)) req
            ∙ ap (λ (x : Bool). answered ask (readied s.order c) turn.BeginMonitor (turn.Updates ∷ []) (cond x (Ok (refused_answer (error why))) (Err (WrongPhase (byte_of command.Monitor))))) (begins_sub window);
        on = inr (record { over = refl; ended = (endings.Refused, refl); ends = ends_only t.state.order t.state.segment c.sid c.req; now = now });
        keeps = keeps_by marks skipped;
      }

  refused_goes : (why : List ℕ) → ((place : ℕ) → IsWritable message → heard site s (event_of order place message) ≡ asks (refuse (refused kinds.Monitor 1 sub why)) s.types) → MonitorGoes
  refused_goes why hears_so =
      turn_goes ask site (MonitorMore ask) c s order segment message (asks (refuse (refused kinds.Monitor 1 sub why)) s.types) (none_due_at_first s opened.none) (λ w. refl) hears_so
      (λ marks sent answer. refused_reacts why (asks (refuse (refused kinds.Monitor 1 sub why)) s.types) marks sent answer.sent_is (λ more. ap (λ (ms : List Mark). updates_in (ms ++ more)) answer.marks_are) opened.now)

  module _ (wanted : Wanted) where
    abbrev begin_hearing : Hearing
    begin_hearing = asks (subscribe 1 sub c.sid channel wanted window) s.types

    abbrev after_begun : ℕ → server.State
    after_begun slot = record s { requests = insert s.requests 1 (monitor_of c.sid wanted slot window) }

    abbrev watches : (slot : ℕ) → Watches site c.sid channel (after_begun slot)
    watches slot = record {
      asked = monitor_of c.sid wanted slot window;
      now = opened.now;
      there = opened.there;
      here = got_inserted s.requests 1 (monitor_of c.sid wanted slot window);
      sid_is = refl;
      kind_is = refl;
      others = λ q apart. got_beside s.requests 1 (monitor_of c.sid wanted slot window) q apart ∙ ap (λ (r : Requests). at r q) opened.none ∙ get-empty nat_cmp q;
    }

    abbrev begun_next : Taken
    begun_next = next ask (record (readied s.order c) { ty = Some ty }) (turn.Updates ∷ [])

    first_fits : (first : Option ℕ) (n : ℕ) → FitsIn first first (0 + n) n
    first_fits None n = tt
    first_fits (Some first) n = omega arith

    goes_on : (slot : ℕ) → AllGo ask site (MonitorMore ask) begun_next.state (after_begun slot) (written_of begun_next)
    goes_on slot steps es stand =
        let t = begun_next in
        let steady : Steady c.sid t.state = record { sid_is = refl; req_is = req; turns_are = inl refl } in
        let g = loop ask site c.sid channel queue count window op range steps t.state (after_begun slot) es (written_of t ++ (run ask t.state es).sent) (watches slot)
        (record {
          taking = record { turns_are = refl; req_is = req; ty_is = refl };
          sid_is = refl;
          few = omega (arith, left_);
          mild = (inr (inl (0x44, None, refl, refl, refl, refl)), sends_mild ask c.sid es t.state steady);
          split = inl (written_of t, (((0x44, (None, refl)), tt), refl));
          fits = first_fits window (acks (run ask t.state es).sent);
          started = inr (written t.state.order t.state.segment (said (requests.monitor c.sid 1 0x44 None None)), ((run ask t.state es).sent, (refl, refl)));
          sub = refl;
        }) stand.rules stand.heard_of stand.told_of in
        record { fault = g.fault; rests = g.rests; ahead = g.ahead }

    by_answer : (marks : List Mark) (sent : List replies.Sent) (answer_ : Result Sub SubAnswer) (told : Reply) → AreSubscribe channel wanted.mask wanted.queue answer_ marks → subscribed_reply site 1 sub channel answer_ ≡ Some told → sent ≡ replies.said told ∷ []
        → Reacts ask site (MonitorMore ask) c s begin_hearing marks sent
    by_answer marks sent (Ok living) told are told_is sent_is =
        let r = reply.monitor_begun 1 0x08 good (Some ty) in
        let after_is : after_hearing site s begin_hearing marks ≡ after_begun living.slot = ap (λ (ms : List Mark). after_hearing site s begin_hearing ms) are.marks_are in
        record {
          reply = r;
          sent_is = sent_is ∙ ap (λ (x : Reply). replies.said x ∷ []) (sym (ap (reply_in told) told_is));
          taken = Ok begun_next;
          takes = λ place can.
              hears_reply ask c turn.BeginMonitor (turn.Updates ∷ []) s.order place r turns refl can (λ u none. absurd cc)
              ∙ ap (λ (q : Option ℕ). replied ask (readied s.order c) turn.BeginMonitor (turn.Updates ∷ []) (seen_reply r) (unless_own q 1)) req;
          on = inl (refl, subst (λ (n : server.State). AllGo ask site (MonitorMore ask) begun_next.state n (written_of begun_next)) (sym after_is) (goes_on living.slot));
          keeps = keeps_by marks (λ more. ap (λ (ms : List Mark). updates_in (ms ++ more)) are.marks_are);
        }
    by_answer marks sent (Err (sub_answers.TooManyMonitors many)) told are told_is sent_is =
        let after_is : after_hearing site s begin_hearing marks ≡ s = ap (λ (ms : List Mark). after_hearing site s begin_hearing ms) are.marks_are in
        refused_reacts (codes "too many monitors") begin_hearing marks sent (sent_is ∙ ap (λ (x : Reply). replies.said x ∷ []) (sym (ap (reply_in told) told_is)))
        (λ more. ap (λ (ms : List Mark). updates_in (ms ++ more)) are.marks_are) (ap (λ (x : server.State). x.validated) after_is ∙ opened.now)
    by_answer marks sent (Err sub_answers.NoMemory) told are told_is sent_is = absurd cc

    begun_goes : ((place : ℕ) → IsWritable message → heard site s (event_of order place message) ≡ begin_hearing) → MonitorGoes
    begun_goes hears_so =
        turn_goes ask site (MonitorMore ask) c s order segment message begin_hearing (none_due_at_first s opened.none) (λ w. refl) hears_so
        (λ marks sent answer. by_answer marks sent answer.answer answer.told answer.is_subscribe answer.told_is answer.sent_is)

  pub monitor_turns : MonitorGoes
  monitor_turns = by (has_values channel) refl
    where
      chosen_by : (w : Result Wanted RequestFault) → request_of ty roots.Field v ≡ w → has_values channel ≡ true → MonitorGoes
      chosen_by (Ok wanted) chosen valued =
          begun_goes wanted
          (λ place can. heard_so true valued place can
          ∙ ap (λ (w : Result Wanted RequestFault). windowed s.types window (beginning_as kinds.Monitor 1 sub c.sid channel w)) chosen
          ∙ ap (λ (b : Bool). cond b over_range (asks (subscribe 1 sub c.sid channel wanted window) s.types)) (in_range window range))
      chosen_by (Err fault) chosen valued =
          refused_goes (fault_text fault) (λ place can. heard_so true valued place can ∙ ap (λ (w : Result Wanted RequestFault). windowed s.types window (beginning_as kinds.Monitor 1 sub c.sid channel w)) chosen)

      by : (b : Bool) → has_values channel ≡ b → MonitorGoes
      by true valued = chosen_by (request_of ty roots.Field v) refl valued
      by false valued = refused_goes (codes "channel has no value") (heard_so false valued)
