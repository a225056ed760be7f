-- A server begins at most one subscription for a client of a monitor.
use Rattle.std.proofs.Common.{◌≡◌, ℕ, ◌==◌, Bool, true, false, cond, List, [], ◌∷◌, ◌++◌, Option, None, Some, Result, Ok, Err, refl, sym, ap, subst, inl, inr, append_assoc}
use Rattle.std.specs.Prelude.{bytes_eq, codes}
use Rattle.std.specs.FinMap.{get as at, contains_key}
use Rattle.pva_wire.specs.declared.order.Order.{Order}
use Rattle.pva_frames.specs.declared.event.Whole.{Whole}
use Rattle.pva_frames.specs.declared.event.Event.{Event}
use Rattle.pvd_desc.specs.Types.{Types}
use Rattle.mon_queue.specs.declared.update.Update.{Update}
use Rattle.pvd_request.specs.declared.request.Request.{Request as Wanted}
use Rattle.pvd_request.specs.declared.request.RequestFault.{RequestFault}
use Rattle.pva_messages.specs.Fields.{Valued}
use Rattle.pva_messages.specs.Laws.{IsWritable, request_payload, received}
use Rattle.pva_messages.specs.Reading.{request_at}
use Rattle.pva_messages.specs.Replies as reply
use Rattle.pva_messages.specs.Replies.{Reply}
use Rattle.pva_messages.specs.Requests as requests
use Rattle.pva_messages.specs.Requests.{Request, request_command}
use Rattle.pva_messages.specs.Subcommands.{begins, ends}
use Rattle.chan_table.specs.declared.ask.AskKind.TheVariants as kinds
use Rattle.desk_api.specs.Calls.{AreSubscribe}
use Rattle.desk_api.specs.Types.{type_of}
use Rattle.desk_api.specs.declared.channel.Channel.{Channel}
use Rattle.desk_api.specs.declared.history.SiteData.{SiteData}
use Rattle.desk_api.specs.declared.mark.Mark.{Mark}
use Rattle.desk_api.specs.declared.mark.Mark.TheVariants.{Begun}
use Rattle.desk_api.specs.declared.sub.Sub.{Sub}
use Rattle.desk_api.specs.declared.sub.SubAnswer.{SubAnswer}
use Rattle.desk_api.specs.declared.sub.SubAnswer.TheVariants as sub_answers
use Rattle.srv_session.specs.Replies as replies
use Rattle.srv_session.specs.Rows.{AreEndingsOf}
use Rattle.srv_session.specs.State.{State, Asked, channel_at, is_full, is_on, slot_of}
use Rattle.srv_session.specs.Steps.{Step, hears, pops, IsAnswer, IsPopOf, PartOf, after_step, events_of, marks_of}
use Rattle.srv_session.specs.Tasks.{Task, Hearing, asks, unreadable, over_range, pass_over, echo_control, refuse, validate, create, subscribe, steer, destroy_request, heard, heard_read, heard_message, is_heard, acknowledged, is_over, started_by, steering_found, found_for, windowed, beginning, beginning_on, beginning_as, wanted_for, unfit, text_in}
use Rattle.cli_session.specs.Messages as client
use Rattle.cli_session.specs.Messages.{Written}
use Rattle.cli_within.proofs.Broken.{AreMade}
use Rattle.cli_within.proofs.LoneSends.{IsPlain, IsMonitor, Lone}
use Rattle.cli_within.proofs.Said.{IsRequest, AreRequests}
use Rattle.cli_within.proofs.ServerTurns.{event_of, hears_it}
use Rattle.cli_within.proofs.Subscribed.{Begin}

abbrev first_or : Mark → List Mark → Mark
first_or m [] = m
first_or m (x ∷ xs) = x

-- none of these marks begins a subscription
abbrev pub Passes : List Mark → Type 0
Passes marks = (b : Bool) (more : List Mark) → Begin b more → Begin b (marks ++ more)

-- at most one of them does
abbrev pub Spends : List Mark → Type 0
Spends marks = (more : List Mark) → Begin false more → Begin true (marks ++ more)

begin_weaker : (marks : List Mark) → Begin false marks → Begin true marks
begin_weaker [] h = tt
begin_weaker (Begun place index slot channel mask size ∷ marks) h = (refl, h.1)
begin_weaker (m ∷ marks) h = begin_weaker marks h

no_marks : (marks : List Mark) → marks ≡ [] → Passes marks
no_marks marks is b more h = subst (λ (ms : List Mark). Begin b (ms ++ more)) (sym is) h

pub ends_pass : (slots : List ℕ) (marks : List Mark) → AreEndingsOf slots marks → Passes marks
ends_pass [] [] h b more k = k
ends_pass [] (m ∷ marks) h b more k = absurd h
ends_pass (slot ∷ slots) [] h b more k = absurd h
ends_pass (slot ∷ slots) (m ∷ marks) h b more k = subst (λ (x : Mark). Begin b (x ∷ (marks ++ more))) (sym (ap (first_or m) h.0.marks_are)) (ends_pass slots marks h.1 b more k)

pop_passes : (s : State) (req : ℕ) (channel : Channel) (update : Option Update) (marks : List Mark) → IsPopOf s req channel update marks → Passes marks
pop_passes s req channel update marks pop b more h = subst (λ (ms : List Mark). Begin b (ms ++ more)) (sym pop.marks_are) h

subscribe_spends : (channel : Channel) (wanted : Wanted) (answer : Result Sub SubAnswer) (marks : List Mark) → AreSubscribe channel wanted.mask wanted.queue answer marks → Spends marks
subscribe_spends channel wanted (Ok sub) marks are more h = subst (λ (ms : List Mark). Begin true (ms ++ more)) (sym are.marks_are) (refl, h)
subscribe_spends channel wanted (Err (sub_answers.TooManyMonitors count)) marks are more h = subst (λ (ms : List Mark). Begin true (ms ++ more)) (sym are.marks_are) (begin_weaker more h)
subscribe_spends channel wanted (Err sub_answers.NoMemory) marks are more h = subst (λ (ms : List Mark). Begin true (ms ++ more)) (sym are) (begin_weaker more h)

-- tasks that begin no subscription, of those that such a client asks for
abbrev IsQuiet : Task → Type 0
IsQuiet pass_over = Unit {0}
IsQuiet (echo_control number) = Unit {0}
IsQuiet (refuse r) = Unit {0}
IsQuiet (validate buffer registry user host) = Unit {0}
IsQuiet (create names) = Unit {0}
IsQuiet (steer req count started ask) = Unit {0}
IsQuiet (destroy_request req) = Unit {0}
IsQuiet task = ⊥

abbrev IsQuietHearing : Hearing → Type 0
IsQuietHearing (asks task types) = IsQuiet task
IsQuietHearing (unreadable fault) = Unit {0}
IsQuietHearing over_range = Unit {0}

-- the same, or a subscription
abbrev IsLone : Task → Type 0
IsLone (subscribe req sub sid channel wanted count) = Unit {0}
IsLone task = IsQuiet task

abbrev IsLoneHearing : Hearing → Type 0
IsLoneHearing (asks task types) = IsLone task
IsLoneHearing (unreadable fault) = Unit {0}
IsLoneHearing over_range = Unit {0}

quiet_lone : (task : Task) → IsQuiet task → IsLone task
quiet_lone (subscribe req sub sid channel wanted count) q = tt
quiet_lone task q = q

quiet_lone_hearing : (h : Hearing) → IsQuietHearing h → IsLoneHearing h
quiet_lone_hearing (asks task types) q = quiet_lone task q
quiet_lone_hearing (unreadable fault) q = tt
quiet_lone_hearing over_range q = tt

module _ (site : SiteData) (s : State) where
  record MarksPass (h : Hearing) : Type 0 where
    pub row : (marks : List Mark) (sent : List replies.Sent) → IsAnswer site s h marks sent → Passes marks
    pub part : (marks : List Mark) → PartOf site s h marks → Passes marks

  record MarksSpend (h : Hearing) : Type 0 where
    pub row : (marks : List Mark) (sent : List replies.Sent) → IsAnswer site s h marks sent → Spends marks
    pub part : (marks : List Mark) → PartOf site s h marks → Spends marks

  quiet_task : (types : Types) (task : Task) → IsQuiet task → MarksPass (asks task types)
  quiet_task types pass_over q = record { row = λ marks sent a. no_marks marks a.marks_are; part = λ marks p. no_marks marks p }
  quiet_task types (echo_control number) q = record { row = λ marks sent a. no_marks marks a.marks_are; part = λ marks p. no_marks marks p }
  quiet_task types (refuse r) q = record { row = λ marks sent a. no_marks marks a.marks_are; part = λ marks p. no_marks marks p }
  quiet_task types (validate buffer registry user host) q = record { row = λ marks sent a. no_marks marks a.marks_are; part = λ marks p. no_marks marks p }
  quiet_task types (create names) q = record { row = λ marks sent a. no_marks marks a.marks_are; part = λ marks p. no_marks marks p }
  quiet_task types (steer req count started ask) q = record { row = λ marks sent a. no_marks marks a.marks_are; part = λ marks p. no_marks marks p }
  quiet_task types (destroy_request req) q = record { row = λ marks sent a. ends_pass (slot_of (at s.requests req)) marks a.endings; part = λ marks p. no_marks marks p }
  quiet_task types task q = absurd q

  quiet_hearing : (h : Hearing) → IsQuietHearing h → MarksPass h
  quiet_hearing (asks task types) q = quiet_task types task q
  quiet_hearing (unreadable fault) q = record { row = λ marks sent a. absurd a; part = λ marks p. no_marks marks p }
  quiet_hearing over_range q = record { row = λ marks sent a. absurd a; part = λ marks p. no_marks marks p }

  pass_spend : (h : Hearing) → MarksPass h → MarksSpend h
  pass_spend h p = record {
    row = λ marks sent a more k. p.row marks sent a true more (begin_weaker more k);
    part = λ marks a more k. p.part marks a true more (begin_weaker more k);
  }

  lone_task : (types : Types) (task : Task) → IsLone task → MarksSpend (asks task types)
  lone_task types (subscribe req sub sid channel wanted count) q = record {
    row = λ marks sent a. subscribe_spends channel wanted a.answer marks a.is_subscribe;
    part = λ marks p. subscribe_spends channel wanted p.0 marks p.1;
  }
  lone_task types task q = pass_spend (asks task types) (quiet_task types task q)

  lone_hearing : (h : Hearing) → IsLoneHearing h → MarksSpend h
  lone_hearing (asks task types) q = lone_task types task q
  lone_hearing (unreadable fault) q = pass_spend (unreadable fault) (quiet_hearing (unreadable fault) q)
  lone_hearing over_range q = pass_spend over_range (quiet_hearing over_range q)

  -- What it hears.

  control_quiet : (b : Bool) (number : ℕ) → IsQuiet (cond b (echo_control number) pass_over)
  control_quiet true number = tt
  control_quiet false number = tt

  validated_quiet : (a b : Bool) (buffer registry : ℕ) (user host : Option (List ℕ)) (r : Reply) → IsQuiet (cond a (validate buffer registry None None) (cond b (validate buffer registry user host) (refuse r)))
  validated_quiet true b buffer registry user host r = tt
  validated_quiet false true buffer registry user host r = tt
  validated_quiet false false buffer registry user host r = tt

  end_quiet : (b : Bool) (req : ℕ) → IsQuiet (cond b (destroy_request req) pass_over)
  end_quiet true req = tt
  end_quiet false req = tt

  steering_quiet : (types : Types) (req : ℕ) (count : Option ℕ) (started a b : Bool) (ask : Asked) → IsQuietHearing (cond a over_range (cond b (asks (destroy_request req) types) (asks (steer req count started ask) types)))
  steering_quiet types req count started true b ask = tt
  steering_quiet types req count started false true ask = tt
  steering_quiet types req count started false false ask = tt

  found_quiet : (types : Types) (req sub : ℕ) (count : Option ℕ) (found : Result (Asked × Channel) (List ℕ)) → IsQuietHearing (steering_found types req sub count found)
  found_quiet types req sub count (Ok found) = steering_quiet types req count (started_by sub found.0.started) (is_over (acknowledged count found.0.window)) (ends sub) found.0
  found_quiet types req sub count (Err why) = tt

  read_quiet : (w : Whole) (m : Request) → IsPlain (client.said m) → IsQuietHearing (heard_message site s w s.types (received m))
  read_quiet w (requests.validation buffer registry qos method argument) plain =
      validated_quiet (bytes_eq method (codes "anonymous")) (bytes_eq method (codes "ca")) buffer registry (text_in argument (codes "user")) (text_in argument (codes "host"))
      (reply.validated (replies.error (codes "authentication not offered")))
  read_quiet w (requests.create names) plain = tt
  read_quiet w (requests.destroy_request sid req) plain = end_quiet (is_on sid (at s.requests req)) req
  read_quiet w (requests.monitor sid req sub v count) plain =
      subst (λ (b : Bool). IsQuietHearing (cond b (windowed s.types count (beginning site s kinds.Monitor req sub sid v (channel_at s.channels sid))) (steering_found s.types req sub count (found_for s kinds.Monitor sid req)))) (sym plain)
      (found_quiet s.types req sub count (found_for s kinds.Monitor sid req))
  read_quiet w m plain = absurd plain

  over_lone : (types : Types) (req sub sid : ℕ) (channel : Channel) (wanted : Wanted) (count : Option ℕ) (b : Bool) → IsLoneHearing (cond b over_range (asks (subscribe req sub sid channel wanted count) types))
  over_lone types req sub sid channel wanted count true = tt
  over_lone types req sub sid channel wanted count false = tt

  as_lone : (types : Types) (req sub sid : ℕ) (channel : Channel) (count : Option ℕ) (r : Result Wanted RequestFault) → IsLoneHearing (windowed types count (beginning_as kinds.Monitor req sub sid channel r))
  as_lone types req sub sid channel count (Ok wanted) = over_lone types req sub sid channel wanted count (is_over count)
  as_lone types req sub sid channel count (Err fault) = tt

  on_lone : (types : Types) (req sub sid : ℕ) (v : Valued) (channel : Channel) (count : Option ℕ) (why : Option (List ℕ)) → IsLoneHearing (windowed types count (beginning_on site kinds.Monitor req sub sid v channel why))
  on_lone types req sub sid v channel count (Some why) = tt
  on_lone types req sub sid v channel count None = as_lone types req sub sid channel count (wanted_for kinds.Monitor (type_of site channel) v)

  room_lone : (types : Types) (req sub sid : ℕ) (v : Valued) (channel : Channel) (count : Option ℕ) (used full : Reply) (a b : Bool)
      → IsLoneHearing (windowed types count (cond a (refuse used) (cond b (refuse full) (beginning_on site kinds.Monitor req sub sid v channel (unfit kinds.Monitor channel)))))
  room_lone types req sub sid v channel count used full true b = tt
  room_lone types req sub sid v channel count used full false true = tt
  room_lone types req sub sid v channel count used full false false = on_lone types req sub sid v channel count (unfit kinds.Monitor channel)

  beginning_lone : (types : Types) (req sub sid : ℕ) (v : Valued) (count : Option ℕ) (channel : Option Channel) → IsLoneHearing (windowed types count (beginning site s kinds.Monitor req sub sid v channel))
  beginning_lone types req sub sid v count None = tt
  beginning_lone types req sub sid v count (Some channel) =
      room_lone types req sub sid v channel count (replies.refused kinds.Monitor req sub (codes "request id in use")) (replies.refused kinds.Monitor req sub (codes "too many requests")) (contains_key s.requests req) (is_full s.requests)

  begun_lone : (types : Types) (req sub sid : ℕ) (v : Valued) (count : Option ℕ) (b : Bool)
      → IsLoneHearing (cond b (windowed types count (beginning site s kinds.Monitor req sub sid v (channel_at s.channels sid))) (steering_found types req sub count (found_for s kinds.Monitor sid req)))
  begun_lone types req sub sid v count true = beginning_lone types req sub sid v count (channel_at s.channels sid)
  begun_lone types req sub sid v count false =
      quiet_lone_hearing (steering_found types req sub count (found_for s kinds.Monitor sid req)) (found_quiet types req sub count (found_for s kinds.Monitor sid req))

  read_lone : (w : Whole) (m : Request) → IsMonitor (client.said m) → IsLoneHearing (heard_message site s w s.types (received m))
  read_lone w (requests.monitor sid req sub v count) monitor = begun_lone s.types req sub sid v count (begins sub)
  read_lone w m monitor = absurd monitor

  -- Before a validation most messages are passed over.
  module _ (P : Hearing → Type 0) (passed : P (asks pass_over s.types)) (order : Order) (place : ℕ) (m : Request) (can : IsWritable m) where
    abbrev w : Whole
    w = record { order = order; command = request_command m; payload = request_payload order m; place = place }

    message_so : P (heard_message site s w s.types (received m)) → P (heard site s (event_of order place m))
    message_so h = by (is_heard s (request_command m)) refl
      where
        by : (b : Bool) → is_heard s (request_command m) ≡ b → P (heard site s (event_of order place m))
        by true now = subst P (sym (hears_it site s order place m now can)) h
        by false now = subst P (sym (ap (λ (b : Bool). cond b (heard_read site s w (request_at order None (request_command m) (request_payload order m, s.types))) (asks pass_over s.types)) now)) passed

  pub plain_quiet : (order : Order) (x : client.Sent) (e : Event) → IsRequest order x e → IsPlain x → IsQuietHearing (heard site s e)
  plain_quiet order (client.control command number) e is plain = subst (λ (y : Event). IsQuietHearing (heard site s y)) (sym is) (control_quiet (command == 3) number)
  plain_quiet order (client.said m) e h plain =
      subst (λ (y : Event). IsQuietHearing (heard site s y)) (sym h.1) (message_so IsQuietHearing tt order h.0 m h.2 (read_quiet (w IsQuietHearing tt order h.0 m h.2) m plain))

  pub monitor_lone : (order : Order) (x : client.Sent) (e : Event) → IsRequest order x e → IsMonitor x → IsLoneHearing (heard site s e)
  monitor_lone order (client.control command number) e is monitor = absurd monitor
  monitor_lone order (client.said m) e h monitor =
      subst (λ (y : Event). IsLoneHearing (heard site s y)) (sym h.1) (message_so IsLoneHearing tt order h.0 m h.2 (read_lone (w IsLoneHearing tt order h.0 m h.2) m monitor))

-- Over the steps of a session, the last of which may have broken off, with marks behind them that begin none.
module _ (site : SiteData) (more : List Mark) (none : (c : Bool) → Begin c more) where
  after_last : (xs : List Step) (b : Bool) → xs ≡ [] → Begin b (marks_of xs ++ more)
  after_last xs b last = subst (λ (ys : List Step). Begin b (marks_of ys ++ more)) (sym last) (none b)

  joined : (marks later : List Mark) (b : Bool) → Begin b (marks ++ (later ++ more)) → Begin b ((marks ++ later) ++ more)
  joined marks later b h = subst (Begin b) (sym (append_assoc marks later more)) h

  pub marks_lone : (steps : List Step) (s : State) (ws : List Written) (b : Bool) → AreMade site s steps → AreRequests (events_of steps) ws → Lone b ws → Begin b (marks_of steps ++ more)
  marks_lone [] s ws b made heard_ lone = none b
  marks_lone (pops req marks sent ∷ xs) s ws b (inl made) heard_ lone =
      joined marks (marks_of xs) b (pop_passes s req made.0.0.channel made.0.0.update marks made.0.0.is_pop b (marks_of xs ++ more) (marks_lone xs (after_step site s (pops req marks sent)) ws b made.1 heard_ lone))
  marks_lone (pops req marks sent ∷ xs) s ws b (inr (last, broken)) heard_ lone =
      joined marks (marks_of xs) b (pop_passes s req broken.1.0 (Some broken.1.1) marks broken.1.2 b (marks_of xs ++ more) (after_last xs b last))
  marks_lone (hears e marks sent ∷ xs) s [] b made heard_ lone = absurd heard_
  marks_lone (hears e marks sent ∷ xs) s (v ∷ ws) b (inl made) heard_ (inl lone) =
      let k = quiet_hearing site s (heard site s e) (plain_quiet site s v.order v.sent e heard_.0 lone.0) in
      joined marks (marks_of xs) b (k.row marks sent made.0.0 b (marks_of xs ++ more) (marks_lone xs (after_step site s (hears e marks sent)) ws b made.1 heard_.1 lone.1))
  marks_lone (hears e marks sent ∷ xs) s (v ∷ ws) b (inr (last, broken)) heard_ (inl lone) =
      let k = quiet_hearing site s (heard site s e) (plain_quiet site s v.order v.sent e heard_.0 lone.0) in
      joined marks (marks_of xs) b (k.part marks broken.1 b (marks_of xs ++ more) (after_last xs b last))
  marks_lone (hears e marks sent ∷ xs) s (v ∷ ws) b (inl made) heard_ (inr lone) =
      let k = lone_hearing site s (heard site s e) (monitor_lone site s v.order v.sent e heard_.0 lone.1.0) in
      subst (λ (c : Bool). Begin c ((marks ++ marks_of xs) ++ more)) (sym lone.0)
      (joined marks (marks_of xs) true (k.row marks sent made.0.0 (marks_of xs ++ more) (marks_lone xs (after_step site s (hears e marks sent)) ws false made.1 heard_.1 lone.1.1)))
  marks_lone (hears e marks sent ∷ xs) s (v ∷ ws) b (inr (last, broken)) heard_ (inr lone) =
      let k = lone_hearing site s (heard site s e) (monitor_lone site s v.order v.sent e heard_.0 lone.1.0) in
      subst (λ (c : Bool). Begin c ((marks ++ marks_of xs) ++ more)) (sym lone.0)
      (joined marks (marks_of xs) true (k.part marks broken.1 (marks_of xs ++ more) (after_last xs false last)))
