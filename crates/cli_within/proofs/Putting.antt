-- The turns of a put and of a put-get.
use Rattle.std.proofs.Common.{◌≡◌, ℕ, ◌≤◌, ◌==◌, Bool, true, false, cond, ◌&&◌, eq-eqb, List, [], ◌∷◌, ◌++◌, drop, map, Option, None, Some, Result, Ok, Err, refl, sym, ap, subst, ◌∙◌, arith, inl, inr}
use Rattle.std.specs.Prelude.{◌⊎◌, codes}
use Rattle.std.specs.FinMap.{get as at, insert, remove, empty as no_requests}
use Rattle.std.specs.FinSet.{empty}
use Rattle.pva_wire.specs.declared.order.Order.{Order}
use Rattle.pva_wire.specs.declared.status.Status.{Status}
use Rattle.pva_wire.specs.Spelling.{number_bytes}
use Rattle.pva_wire.specs.Status.{good}
use Rattle.pva_wire.proofs.Digits.{number_at_again}
use Rattle.pva_frames.specs.declared.event.Whole.{Whole}
use Rattle.pvd_type.specs.Tree.{Tree}
use Rattle.pvd_value.specs.Data.{Data}
use Rattle.pvd_value.specs.View.{view}
use Rattle.pvd_value.specs.declared.value.PvValue.{PvValue}
use Rattle.pvd_codec.specs.Reading.{part_at}
use Rattle.pvd_request.specs.Requests.{request_of}
use Rattle.pvd_request.specs.declared.request.Request.{Request as Wanted}
use Rattle.pvd_request.specs.declared.request.RequestFault.{RequestFault}
use Rattle.pvd_request.specs.declared.request.Root.TheVariants as roots
use Rattle.pva_messages.proofs.PartBack.{part_back}
use Rattle.pva_messages.specs.Fields.{PartData, byte, status}
use Rattle.pva_messages.specs.Laws.{IsWritable, IsReplyWritable, request_payload, reply_payload, seen_reply}
use Rattle.pva_messages.specs.Reading.{request_id, id_of}
use Rattle.pva_messages.specs.Replies as reply
use Rattle.pva_messages.specs.Replies.{Reply, reply_command, type_field, part_field}
use Rattle.pva_messages.specs.Requests as requests
use Rattle.pva_messages.specs.Requests.{Request, request_command, absent, given, part_place}
use Rattle.pva_messages.specs.Rows.{byte_of, command_of}
use Rattle.pva_messages.specs.Subcommands.{begins, carries}
use Rattle.pva_messages.specs.Written.{canonical, seen_part}
use Rattle.pva_messages.specs.declared.command.Command.TheVariants as command
use Rattle.chan_table.specs.declared.ask.AskKind.TheVariants as kinds
use Rattle.desk_api.specs.Sites.{has_values}
use Rattle.desk_api.specs.Types.{type_of}
use Rattle.desk_api.specs.declared.channel.Channel.{Channel}
use Rattle.desk_api.specs.declared.history.SiteData.{SiteData}
use Rattle.desk_api.specs.declared.mark.Mark.{Mark}
use Rattle.desk_api.specs.declared.put.Done.{Done}
use Rattle.desk_api.specs.declared.put.PutAnswer.{PutAnswer}
use Rattle.desk_api.specs.declared.put.PutAnswer.TheVariants as answers
use Rattle.srv_session.proofs.Finding.{in_use}
use Rattle.srv_session.proofs.Tables.{got_inserted}
use Rattle.srv_session.specs.Replies as replies
use Rattle.srv_session.specs.Replies.{error, refused}
use Rattle.srv_session.specs.Rows.{ask_of, refusal_text, put_get_reply}
use Rattle.srv_session.specs.State as server
use Rattle.srv_session.specs.State.{Asked, Requests, channel_at, is_on}
use Rattle.srv_session.specs.Steps.{IsAnswer, after_hearing}
use Rattle.srv_session.specs.Tasks.{Task, Hearing, asks, begin, refuse, get, getting, put, put_get, pass_over, destroy_request, heard, heard_putting, heard_getting, heard_part, fault_text, beginning_as, beginning_on, unfit_for}
use Rattle.cli_text.specs.declared.fault.PutText.{PutText}
use Rattle.cli_session.specs.Answers.{done, refused as refused_answer, unless_own}
use Rattle.cli_session.specs.Messages.{Written, written, said, put_request, put_get_request, put_id, put_get_message}
use Rattle.cli_session.specs.State.{State}
use Rattle.cli_session.specs.Steps.{Taken, part, refusal, next, ended, finished, written_of, after_answer, replied, type_for, type_unless, read_words, words_of, put_next, step}
use Rattle.cli_session.specs.declared.ask.Ask.{Ask}
use Rattle.cli_session.specs.declared.fault.ClientFault.{ClientFault}
use Rattle.cli_session.specs.declared.turn.Turn.{Turn}
use Rattle.cli_session.specs.declared.turn.Turn.TheVariants as turn
use Rattle.cli_within.specs.declared.stop.Ending.TheVariants as endings
use Rattle.cli_within.proofs.Beginnings.{begins_on, only_one}
use Rattle.cli_within.proofs.ClientTurns.{readied, reply_event, Knows, hears_reply}
use Rattle.cli_within.proofs.Courses.{AllGo, GoesOn, Reacts, ends_only, turn_goes, silent_goes}
use Rattle.cli_within.proofs.Creations.{none_due_at_first}
use Rattle.cli_within.proofs.Openings.{Opened}
use Rattle.cli_within.proofs.PutGets.{put_get_named}
use Rattle.cli_within.proofs.ReadBacks.{emptied, words_typed}
use Rattle.cli_within.proofs.ServerTurns.{HasNoSubs, none_due, event_of, hears_it, heard_now}
use Rattle.cli_within.proofs.Turning.{Nothing}

-- the reply names the client's request
put_named : (id : ℕ) → id ≤ 2 → (order : Order) (sub : ℕ) (st : Status) (ty : Option Tree) (p : Option PartData) → request_id order (byte_of command.Put) (reply_payload order (reply.put id sub st ty p)) ≡ Some id
unfolding command_of
put_named id small order sub st ty p =
    ap id_of (number_at_again order 4 (number_bytes order 4 id) (canonical order (byte sub ∷ status st ∷ (type_field (carries st && begins sub) ty ++ part_field p))) id (omega (arith, small), refl))

-- it is the client's own

own_id : (id : ℕ) → unless_own (Some id) id ≡ None
own_id id = ap (λ (b : Bool). cond b (none_of id) (Some id)) (eq-eqb id id refl)
  where
    none_of : ℕ → Option ℕ
    none_of n = None

own_type : (id : ℕ) (t : Tree) → type_for (Some id) (Some t) (Some id) ≡ Some t
own_type id t = ap (λ (o : Option ℕ). type_unless (Some t) o) (own_id id)

-- the only request is no monitor
alone_at : (id : ℕ) (s : server.State) (ask1 : Asked) → s.requests ≡ insert no_requests id ask1 → ask1.sub ≡ None → HasNoSubs s
alone_at id s ask1 all unsubscribed q x here = only_one (record s { requests = no_requests }) id ask1 refl unsubscribed q x (ap (λ (r : Requests). at r q) (sym all) ∙ here)

some_in : Reply → Option Reply → Reply
some_in r None = r
some_in r (Some x) = x

module _ (ask : Ask) (site : SiteData) (channel : Channel) where
  abbrev ty : Tree
  ty = type_of site channel

  -- The last turn of a put.
  module _ (wanted : Wanted) (q : PartData) (typed : q.ty ≡ ty) (c : State) (s : server.State) (order : Order) (segment : ℕ) (turns : c.turns ≡ turn.Put ∷ []) (req : c.req ≡ Some 1) (now : s.validated ≡ true) (there : channel_at s.channels c.sid ≡ Some channel)
      (all : s.requests ≡ insert no_requests 1 (ask_of kinds.Put c.sid wanted)) where
    abbrev put_ask : Asked
    put_ask = ask_of kinds.Put c.sid wanted

    abbrev putting : Request
    putting = requests.put c.sid 1 0x00 None (given q)

    abbrev put_hearing : Hearing
    put_hearing = asks (put 1 0x00 put_ask channel q.mask (seen_part q).value) s.types

    heard_put : (place : ℕ) → IsWritable putting → heard site s (event_of order place putting) ≡ put_hearing
    heard_put place can =
        let w : Whole = record { order = order; command = request_command putting; payload = request_payload order putting; place = place } in
        hears_it site s order place putting (heard_now s (request_command putting) now) can
        ∙ ap (heard_putting site w s.types 1 0x00) (in_use s kinds.Put c.sid 1 channel there put_ask (ap (λ (r : Requests). at r 1) all ∙ got_inserted no_requests 1 put_ask) (eq-eqb c.sid c.sid refl) refl)
        ∙ ap (λ (t : Tree). heard_part false w 1 0x00 (put_ask, channel) (part_at order t (drop part_place w.payload, s.types))) (sym typed)
        ∙ ap (heard_part false w 1 0x00 (put_ask, channel)) (part_back order s.types putting q can refl)

    abbrev by_carried : Status → Bool → Result Taken ClientFault
    by_carried st b = after_answer ask (readied s.order c) turn.Put [] (cond b done (refused_answer st))

    put_takes : (st : Status) (b : Bool) → carries st ≡ b → (place : ℕ) → IsReplyWritable (reply.put 1 0x00 st None None) → step ask c (reply_event s.order place (reply.put 1 0x00 st None None)) ≡ by_carried st b
    put_takes st b is place can =
        hears_reply ask c turn.Put [] s.order place (reply.put 1 0x00 st None None) turns refl can (λ u same. absurd cc)
        ∙ ap (λ (o : Option ℕ). replied ask (readied s.order c) turn.Put [] (seen_reply (reply.put 1 0x00 st None None)) (unless_own o 1)) req
        ∙ ap (by_carried st) is

    status_reacts : (marks : List Mark) (sent : List replies.Sent) (st : Status) → sent ≡ replies.said (reply.put 1 0x00 st None None) ∷ [] → (b : Bool) → carries st ≡ b → Reacts ask site Nothing c s put_hearing marks sent
    status_reacts marks sent st sent_is true is = record {
      reply = reply.put 1 0x00 st None None;
      sent_is = sent_is;
      taken = by_carried st true;
      takes = put_takes st true is;
      on = inr (record { over = refl; ended = (endings.Finished, refl); ends = ends_only (readied s.order c).order c.segment c.sid c.req; now = now });
      keeps = λ z ms told more. absurd more;
    }
    status_reacts marks sent st sent_is false is = record {
      reply = reply.put 1 0x00 st None None;
      sent_is = sent_is;
      taken = by_carried st false;
      takes = put_takes st false is;
      on = inr (record { over = refl; ended = (endings.Refused, refl); ends = ends_only (readied s.order c).order c.segment c.sid c.req; now = now });
      keeps = λ z ms told more. absurd more;
    }

    put_reacts : (marks : List Mark) (sent : List replies.Sent) → IsAnswer site s put_hearing marks sent → Reacts ask site Nothing c s put_hearing marks sent
    put_reacts marks sent answer = status_reacts marks sent answer.status answer.sent_is (carries answer.status) refl

    put_last : AllGo ask site Nothing c s (written order segment (said putting) ∷ [])
    put_last = turn_goes ask site Nothing c s order segment putting put_hearing (none_due s (alone_at 1 s put_ask all refl)) (λ w. refl) heard_put put_reacts

  -- The last turn of a put-get.

  -- what it is told: a part, or why not
  abbrev IsGot : Asked → Reply → Type 0
  IsGot ask1 told = (value : Data) × (told ≡ reply.put_get 1 0x00 good None None (Some (record { ty = type_of site channel; mask = ask1.mask; value = value })))

  abbrev IsNotGot : Reply → Type 0
  IsNotGot told = (why : List ℕ) × (told ≡ reply.put_get 1 0x00 (error why) None None None)

  got_by : (ask1 : Asked) (answer_ : Result (Done × PvValue) PutAnswer) (told : Reply) → put_get_reply site 1 0x00 ask1 channel answer_ ≡ Some told → IsGot ask1 told ⊎ IsNotGot told
  unfolding some_in
  got_by ask1 (Ok (done_, value)) told same = inl (view value, sym (ap (some_in told) same))
  got_by ask1 (Err (answers.Refused refusal_)) told same = inr (refusal_text refusal_, sym (ap (some_in told) same))
  got_by ask1 (Err (answers.JournalFull kept weight limit done_)) told same = inr (codes "journal full", sym (ap (some_in told) same))
  got_by ask1 (Err (answers.NoMemory done_)) told same = absurd cc

  module _ (wanted : Wanted) (q : PartData) (typed_part : q.ty ≡ ty) (c : State) (s : server.State) (order : Order) (segment : ℕ) (turns : c.turns ≡ turn.PutGet ∷ []) (req : c.req ≡ Some 1) (typed : c.ty ≡ Some ty) (now : s.validated ≡ true)
      (there : channel_at s.channels c.sid ≡ Some channel) (here : at s.requests 1 ≡ Some (ask_of kinds.PutGet c.sid wanted)) (none : HasNoSubs s) where
    abbrev both_ask : Asked
    both_ask = ask_of kinds.PutGet c.sid wanted

    abbrev both : Request
    both = requests.put_get c.sid 1 0x00 None (given q)

    abbrev both_hearing : Hearing
    both_hearing = asks (put_get 1 0x00 both_ask channel q.mask (seen_part q).value) s.types

    heard_both : (place : ℕ) → IsWritable both → heard site s (event_of order place both) ≡ both_hearing
    heard_both place can =
        let w : Whole = record { order = order; command = request_command both; payload = request_payload order both; place = place } in
        hears_it site s order place both (heard_now s (request_command both) now) can
        ∙ ap (heard_getting site w s.types 1 0x00) (in_use s kinds.PutGet c.sid 1 channel there both_ask here (eq-eqb c.sid c.sid refl) refl)
        ∙ ap (λ (t : Tree). heard_part true w 1 0x00 (both_ask, channel) (part_at order t (drop part_place w.payload, s.types))) (sym typed_part)
        ∙ ap (heard_part true w 1 0x00 (both_ask, channel)) (part_back order s.types both q can refl)

    got_reacts : (marks : List Mark) (sent : List replies.Sent) (told : Reply) → sent ≡ replies.said told ∷ [] → (IsGot both_ask told ⊎ IsNotGot told) → Reacts ask site Nothing c s both_hearing marks sent
    got_reacts marks sent told sent_is (inl (value, is)) =
        let p : PartData = record { ty = ty; mask = wanted.mask; value = value } in
        let r = reply.put_get 1 0x00 good None None (Some p) in
        let known : Knows c s.order r =
        λ u same. ap (λ (o : Option ℕ). type_for o c.ty (request_id s.order (reply_command r) (reply_payload s.order r))) req
        ∙ ap (λ (y : Option Tree). type_for (Some 1) y (request_id s.order (reply_command r) (reply_payload s.order r))) typed
        ∙ ap (type_for (Some 1) (Some ty)) (put_get_named s.order 0x00 good None None (Some p)) ∙ same in
        let t = finished (readied s.order c) turn.PutGet (part (seen_part p) empty ∷ []) in
        record {
          reply = r;
          sent_is = sent_is ∙ ap (λ (x : Reply). replies.said x ∷ []) is;
          taken = Ok t;
          takes = λ place can.
              hears_reply ask c turn.PutGet [] s.order place r turns refl can known
              ∙ ap (λ (o : Option ℕ). replied ask (readied s.order c) turn.PutGet [] (seen_reply r) (unless_own o 1)) req;
          on = inr (record { over = refl; ended = (endings.Finished, refl); ends = ends_only t.state.order t.state.segment c.sid c.req; now = now });
          keeps = λ z ms ts more. absurd more;
        }
    got_reacts marks sent told sent_is (inr (why, is)) =
        let r = reply.put_get 1 0x00 (error why) None None None in
        let t = ended (readied s.order c) turn.PutGet (refusal (error why) ∷ []) in
        record {
          reply = r;
          sent_is = sent_is ∙ ap (λ (x : Reply). replies.said x ∷ []) is;
          taken = Ok t;
          takes = λ place can.
              hears_reply ask c turn.PutGet [] s.order place r turns refl can (λ u same. absurd cc)
              ∙ ap (λ (o : Option ℕ). replied ask (readied s.order c) turn.PutGet [] (seen_reply r) (unless_own o 1)) req;
          on = inr (record { over = refl; ended = (endings.Refused, refl); ends = ends_only t.state.order t.state.segment c.sid c.req; now = now });
          keeps = λ z ms ts more. absurd more;
        }

    put_get_last : AllGo ask site Nothing c s (written order segment (said both) ∷ [])
    put_get_last =
        turn_goes ask site Nothing c s order segment both both_hearing (none_due s none) (λ w. refl) heard_both
        (λ marks sent answer. got_reacts marks sent answer.told answer.sent_is (got_by both_ask answer.answer answer.told answer.told_is))

  -- The turn that begins a put-get.
  module _ (q : PartData) (typed_part : q.ty ≡ ty) (valued : has_values channel ≡ true) (c : State) (s : server.State) (order : Order) (segment : ℕ) (turns : c.turns ≡ turn.BeginPutGet ∷ turn.PutGet ∷ []) (req : c.req ≡ Some 1) (kept : c.put ≡ Some q) (opened : Opened c s channel) where
    abbrev begin_both : Request
    begin_both = requests.put_get c.sid 1 0x08 (put_get_request ask) absent

    abbrev both_wished : Result Wanted RequestFault
    both_wished = request_of ty roots.GetField (put_get_request ask)

    abbrev BothGo : Type 0
    BothGo = AllGo ask site Nothing c s (written order segment (said begin_both) ∷ [])

    heard_begin : (place : ℕ) → IsWritable begin_both → heard site s (event_of order place begin_both) ≡ asks (beginning_as kinds.PutGet 1 0x08 c.sid channel both_wished) s.types
    heard_begin place can =
        hears_it site s order place begin_both (heard_now s (request_command begin_both) opened.now) can
        ∙ ap (λ (x : Task). asks x s.types) (begins_on site s kinds.PutGet 1 0x08 c.sid (put_get_request ask) channel opened.there opened.none)
        ∙ ap (λ (v : Bool). asks (beginning_on site kinds.PutGet 1 0x08 c.sid (put_get_request ask) channel (unfit_for false v)) s.types) valued

    begin_put_get : BothGo
    begin_put_get = by both_wished refl
      where
        by : (w : Result Wanted RequestFault) → both_wished ≡ w → BothGo
        by (Ok wanted) chosen =
            let hearing = asks (begin kinds.PutGet 1 0x08 c.sid channel wanted) s.types in
            let r = reply.put_get 1 0x08 good (Some ty) (Some ty) None in
            let t = next ask (record (readied s.order c) { ty = Some ty }) (turn.PutGet ∷ []) in
            let ask2 = ask_of kinds.PutGet c.sid wanted in
            let put_is : written_of t ≡ written t.state.order t.state.segment (said (requests.put_get c.sid 1 0x00 None (given q))) ∷ [] =
            ap (λ (x : Option PartData). map (written t.state.order t.state.segment) (map said (put_get_message c.sid x))) kept in
            turn_goes ask site Nothing c s order segment begin_both hearing (none_due_at_first s opened.none) (λ w. refl)
            (λ place can. heard_begin place can ∙ ap (λ (w : Result Wanted RequestFault). asks (beginning_as kinds.PutGet 1 0x08 c.sid channel w) s.types) chosen)
            (λ marks sent answer.
            let after = after_hearing site s hearing marks in
            record {
              reply = r;
              sent_is = answer.sent_is;
              taken = Ok t;
              takes = λ place can.
                  hears_reply ask c turn.BeginPutGet (turn.PutGet ∷ []) s.order place r turns refl can (λ u none. absurd cc)
                  ∙ ap (λ (o : Option ℕ). replied ask (readied s.order c) turn.BeginPutGet (turn.PutGet ∷ []) (seen_reply r) (unless_own o 1)) req;
              on = inl (
                refl,
                subst (λ (ws : List Written). AllGo ask site Nothing t.state after ws) (sym put_is)
                    (put_get_last wanted q typed_part t.state after t.state.order t.state.segment refl req refl opened.now opened.there (got_inserted s.requests 1 ask2) (only_one s 1 ask2 opened.none refl)),
              );
              keeps = λ z ms told more. absurd more;
            })
        by (Err fault) chosen =
            let why = fault_text fault in
            let r = reply.put_get 1 0x08 (error why) None None None in
            let t = ended (readied s.order c) turn.BeginPutGet (refusal (error why) ∷ []) in
            turn_goes ask site Nothing c s order segment begin_both (asks (refuse (refused kinds.PutGet 1 0x08 why)) s.types) (none_due_at_first s opened.none) (λ w. refl)
            (λ place can. heard_begin place can ∙ ap (λ (w : Result Wanted RequestFault). asks (beginning_as kinds.PutGet 1 0x08 c.sid channel w) s.types) chosen)
            (λ marks sent answer. record {
              reply = r;
              sent_is = answer.sent_is;
              taken = Ok t;
              takes = λ place can.
                  hears_reply ask c turn.BeginPutGet (turn.PutGet ∷ []) s.order place r turns refl can (λ u none. absurd cc)
                  ∙ ap (λ (o : Option ℕ). replied ask (readied s.order c) turn.BeginPutGet (turn.PutGet ∷ []) (seen_reply r) (unless_own o 1)) req;
              on = inr (record { over = refl; ended = (endings.Refused, refl); ends = ends_only t.state.order t.state.segment c.sid c.req; now = opened.now });
              keeps = λ z ms told more. absurd more;
            })

  -- the put ends before it
  module _ (q : PartData) (typed_part : q.ty ≡ ty) (valued : has_values channel ≡ true) (ask1 : Asked) (c : State) (s : server.State) (order : Order) (segment : ℕ) (turns : c.turns ≡ turn.BeginPutGet ∷ turn.PutGet ∷ []) (req : c.req ≡ Some 1) (kept : c.put ≡ Some q)
      (now : s.validated ≡ true) (there : channel_at s.channels c.sid ≡ Some channel) (all : s.requests ≡ insert no_requests 2 ask1) (sid_is : ask1.sid ≡ c.sid) (unsubscribed : ask1.sub ≡ None) where
    abbrev first_end : Request
    first_end = requests.destroy_request c.sid 2

    abbrev end_hearing : Hearing
    end_hearing = asks (destroy_request 2) s.types

    none_yet_due : HasNoSubs s
    none_yet_due = alone_at 2 s ask1 all unsubscribed

    heard_first_end : (place : ℕ) → IsWritable first_end → heard site s (event_of order place first_end) ≡ end_hearing
    heard_first_end place can =
        hears_it site s order place first_end (heard_now s (request_command first_end) now) can
        ∙ ap (λ (o : Option Asked). asks (cond (is_on c.sid o) (destroy_request 2) pass_over) s.types) (ap (λ (r : Requests). at r 2) all ∙ got_inserted no_requests 2 ask1)
        ∙ ap (λ (n : ℕ). asks (cond (n == c.sid) (destroy_request 2) pass_over) s.types) sid_is
        ∙ ap (λ (b : Bool). asks (cond b (destroy_request 2) pass_over) s.types) (eq-eqb c.sid c.sid refl)

    end_first : AllGo ask site Nothing c s (written order segment (said first_end) ∷ written order segment (said (requests.put_get c.sid 1 0x08 (put_get_request ask) absent)) ∷ [])
    end_first =
        silent_goes ask site Nothing c s order segment first_end end_hearing (written order segment (said (requests.put_get c.sid 1 0x08 (put_get_request ask) absent)) ∷ []) (none_due s none_yet_due) (λ w. refl) heard_first_end
        (λ marks sent answer. (
          answer.sent_is,
          (
            (λ z ms told more. absurd more),
            begin_put_get q typed_part valued c (after_hearing site s end_hearing marks) order segment turns req kept (record { now = now; there = there; none = ap (λ (r : Requests). remove r 2) all ∙ emptied ask1 }),
          ),
        ))

  -- The turns that bring the present value.
  module _ (id : ℕ) (small : id ≤ 2) (id_is : put_id ask.operation ≡ id) (later : List Turn)
      (on_later : (q : PartData) → q.ty ≡ ty → (wanted : Wanted) → has_values channel ≡ true → (d : State) (s : server.State) → d.req ≡ Some id → s.validated ≡ true → channel_at s.channels d.sid ≡ Some channel → s.requests ≡ insert no_requests id (ask_of kinds.Put d.sid wanted)
      → ((next ask (record d { put = Some q }) later).told ≡ []) × AllGo ask site Nothing (next ask (record d { put = Some q }) later).state s (written_of (next ask (record d { put = Some q }) later))) where
    module _ (wanted : Wanted) (valued : has_values channel ≡ true) (c : State) (s : server.State) (order : Order) (segment : ℕ) (turns : c.turns ≡ turn.ReadBack ∷ later) (req : c.req ≡ Some id) (typed : c.ty ≡ Some ty) (now : s.validated ≡ true)
        (there : channel_at s.channels c.sid ≡ Some channel) (all : s.requests ≡ insert no_requests id (ask_of kinds.Put c.sid wanted)) where
      abbrev back_ask : Asked
      back_ask = ask_of kinds.Put c.sid wanted

      abbrev reading : Request
      reading = requests.put c.sid id 0x40 None absent

      abbrev read_hearing : Hearing
      read_hearing = asks (get kinds.Put id 0x40 back_ask channel) s.types

      heard_reading : (place : ℕ) → IsWritable reading → heard site s (event_of order place reading) ≡ read_hearing
      heard_reading place can =
          hears_it site s order place reading (heard_now s (request_command reading) now) can
          ∙ ap (λ (f : Result (Asked × Channel) (List ℕ)). asks (getting kinds.Put id 0x40 f) s.types)
          (in_use s kinds.Put c.sid id channel there back_ask (ap (λ (r : Requests). at r id) all ∙ got_inserted no_requests id back_ask) (eq-eqb c.sid c.sid refl) refl)

      abbrev read_part : Data → PartData
      read_part value = record { ty = ty; mask = wanted.mask; value = value }

      abbrev given_by : Data → Result PartData PutText
      given_by value = read_words (words_of ask.operation) (Some (seen_part (read_part value)))

      abbrev read_reply : Data → Reply
      read_reply value = reply.put id 0x40 good None (Some (read_part value))

      reads : (value : Data) (place : ℕ) → IsReplyWritable (read_reply value)
          → step ask c (reply_event s.order place (read_reply value)) ≡ put_next ask (readied s.order c) later (given_by value)
      reads value place can =
          let r = read_reply value in
          let known : Knows c s.order r =
          λ u same. ap (λ (o : Option ℕ). type_for o c.ty (request_id s.order (reply_command r) (reply_payload s.order r))) req
          ∙ ap (λ (y : Option Tree). type_for (Some id) y (request_id s.order (reply_command r) (reply_payload s.order r))) typed
          ∙ ap (type_for (Some id) (Some ty)) (put_named id small s.order 0x40 good None (Some (read_part value))) ∙ own_type id ty ∙ same in
          hears_reply ask c turn.ReadBack later s.order place r turns refl can known
          ∙ ap (λ (o : Option ℕ). replied ask (readied s.order c) turn.ReadBack later (seen_reply r) (unless_own o id)) req
          ∙ ap (λ (o : Option ℕ). replied ask (readied s.order c) turn.ReadBack later (seen_reply r) o) (own_id id)

      goes_by : (value : Data) (marks : List Mark) (g : Result PartData PutText) → given_by value ≡ g → GoesOn ask site Nothing (put_next ask (readied s.order c) later g) (after_hearing site s read_hearing marks)
      goes_by value marks (Ok q) is =
          inl (on_later q (words_typed (words_of ask.operation) (seen_part (read_part value)) q is) wanted valued (readied s.order c) (after_hearing site s read_hearing marks) req now there all)
      goes_by value marks (Err f) is = tt

      read_back : AllGo ask site Nothing c s (written order segment (said reading) ∷ [])
      read_back =
          turn_goes ask site Nothing c s order segment reading read_hearing (none_due s (alone_at id s back_ask all refl)) (λ w. refl) heard_reading
          (λ marks sent answer. record {
            reply = read_reply answer.value;
            sent_is = answer.sent_is;
            taken = put_next ask (readied s.order c) later (given_by answer.value);
            takes = reads answer.value;
            on = goes_by answer.value marks (given_by answer.value) refl;
            keeps = λ z ms told more. absurd more;
          })

    module _ (c : State) (s : server.State) (order : Order) (segment : ℕ) (turns : c.turns ≡ turn.BeginPut ∷ turn.ReadBack ∷ later) (req : c.req ≡ Some id) (opened : Opened c s channel) where
      abbrev begin_one : Request
      begin_one = requests.put c.sid id 0x08 (put_request ask) absent

      abbrev put_wished : Result Wanted RequestFault
      put_wished = request_of ty roots.Field (put_request ask)

      abbrev PutGoes : Type 0
      PutGoes = AllGo ask site Nothing c s (written order segment (said begin_one) ∷ [])

      heard_one : (b : Bool) → has_values channel ≡ b → (place : ℕ) → IsWritable begin_one
          → heard site s (event_of order place begin_one) ≡ asks (beginning_on site kinds.Put id 0x08 c.sid (put_request ask) channel (unfit_for false b)) s.types
      heard_one b valued place can =
          hears_it site s order place begin_one (heard_now s (request_command begin_one) opened.now) can
          ∙ ap (λ (x : Task). asks x s.types) (begins_on site s kinds.Put id 0x08 c.sid (put_request ask) channel opened.there opened.none)
          ∙ ap (λ (v : Bool). asks (beginning_on site kinds.Put id 0x08 c.sid (put_request ask) channel (unfit_for false v)) s.types) valued

      put_refused : (why : List ℕ) → ((place : ℕ) → IsWritable begin_one → heard site s (event_of order place begin_one) ≡ asks (refuse (refused kinds.Put id 0x08 why)) s.types) → PutGoes
      put_refused why hears_so =
          let r = reply.put id 0x08 (error why) None None in
          let t = ended (readied s.order c) turn.BeginPut (refusal (error why) ∷ []) in
          turn_goes ask site Nothing c s order segment begin_one (asks (refuse (refused kinds.Put id 0x08 why)) s.types) (none_due_at_first s opened.none) (λ w. refl) hears_so
          (λ marks sent answer. record {
            reply = r;
            sent_is = answer.sent_is;
            taken = Ok t;
            takes = λ place can.
                hears_reply ask c turn.BeginPut (turn.ReadBack ∷ later) s.order place r turns refl can (λ u none. absurd cc)
                ∙ ap (λ (o : Option ℕ). replied ask (readied s.order c) turn.BeginPut (turn.ReadBack ∷ later) (seen_reply r) (unless_own o id)) req
                ∙ ap (λ (o : Option ℕ). replied ask (readied s.order c) turn.BeginPut (turn.ReadBack ∷ later) (seen_reply r) o) (own_id id);
            on = inr (record { over = refl; ended = (endings.Refused, refl); ends = ends_only t.state.order t.state.segment c.sid c.req; now = opened.now });
            keeps = λ z ms told more. absurd more;
          })

      put_begun : (wanted : Wanted) → has_values channel ≡ true → ((place : ℕ) → IsWritable begin_one → heard site s (event_of order place begin_one) ≡ asks (begin kinds.Put id 0x08 c.sid channel wanted) s.types) → PutGoes
      put_begun wanted valued hears_so =
          let hearing = asks (begin kinds.Put id 0x08 c.sid channel wanted) s.types in
          let r = reply.put id 0x08 good (Some ty) None in
          let t = next ask (record (readied s.order c) { ty = Some ty }) (turn.ReadBack ∷ later) in
          let read_is : written_of t ≡ written t.state.order t.state.segment (said (requests.put c.sid id 0x40 None absent)) ∷ [] =
          ap (λ (n : ℕ). map (written t.state.order t.state.segment) (map said (requests.put c.sid n 0x40 None absent ∷ []))) id_is in
          turn_goes ask site Nothing c s order segment begin_one hearing (none_due_at_first s opened.none) (λ w. refl) hears_so
          (λ marks sent answer.
          let after = after_hearing site s hearing marks in
          record {
            reply = r;
            sent_is = answer.sent_is;
            taken = Ok t;
            takes = λ place can.
                hears_reply ask c turn.BeginPut (turn.ReadBack ∷ later) s.order place r turns refl can (λ u none. absurd cc)
                ∙ ap (λ (o : Option ℕ). replied ask (readied s.order c) turn.BeginPut (turn.ReadBack ∷ later) (seen_reply r) (unless_own o id)) req
                ∙ ap (λ (o : Option ℕ). replied ask (readied s.order c) turn.BeginPut (turn.ReadBack ∷ later) (seen_reply r) o) (own_id id);
            on = inl (
              refl,
              subst (λ (ws : List Written). AllGo ask site Nothing t.state after ws) (sym read_is)
                  (read_back wanted valued t.state after t.state.order t.state.segment refl req refl opened.now opened.there (ap (λ (m : Requests). insert m id (ask_of kinds.Put c.sid wanted)) opened.none)),
            );
            keeps = λ z ms told more. absurd more;
          })

      begin_put : PutGoes
      begin_put = by (has_values channel) refl
        where
          chosen_by : (w : Result Wanted RequestFault) → put_wished ≡ w → has_values channel ≡ true → PutGoes
          chosen_by (Ok wanted) chosen valued =
              put_begun wanted valued (λ place can. heard_one true valued place can ∙ ap (λ (w : Result Wanted RequestFault). asks (beginning_as kinds.Put id 0x08 c.sid channel w) s.types) chosen)
          chosen_by (Err fault) chosen valued =
              put_refused (fault_text fault) (λ place can. heard_one true valued place can ∙ ap (λ (w : Result Wanted RequestFault). asks (beginning_as kinds.Put id 0x08 c.sid channel w) s.types) chosen)

          by : (b : Bool) → has_values channel ≡ b → PutGoes
          by true valued = chosen_by put_wished refl valued
          by false valued = put_refused (codes "channel has no value") (heard_one false valued)

  -- A put.
  pub put_turns : put_id ask.operation ≡ 1 → (c : State) (s : server.State) (order : Order) (segment : ℕ) → c.turns ≡ turn.BeginPut ∷ turn.ReadBack ∷ turn.Put ∷ [] → c.req ≡ Some 1 → Opened c s channel
      → AllGo ask site Nothing c s (written order segment (said (requests.put c.sid 1 0x08 (put_request ask) absent)) ∷ [])
  put_turns id_is c s order segment turns req opened =
      begin_put 1 (omega arith) id_is (turn.Put ∷ [])
      (λ q typed wanted valued d z own now there all.
      let t = next ask (record d { put = Some q }) (turn.Put ∷ []) in
      (refl, put_last wanted q typed t.state z t.state.order t.state.segment refl own now there all))
      c s order segment turns req opened

  -- A put-get.
  pub put_get_turns : put_id ask.operation ≡ 2 → (c : State) (s : server.State) (order : Order) (segment : ℕ) → c.turns ≡ turn.BeginPut ∷ turn.ReadBack ∷ turn.BeginPutGet ∷ turn.PutGet ∷ [] → c.req ≡ Some 2 → Opened c s channel
      → AllGo ask site Nothing c s (written order segment (said (requests.put c.sid 2 0x08 (put_request ask) absent)) ∷ [])
  put_get_turns id_is c s order segment turns req opened =
      begin_put 2 (omega arith) id_is (turn.BeginPutGet ∷ turn.PutGet ∷ [])
      (λ q typed wanted valued d z own now there all.
      let t = next ask (record d { put = Some q }) (turn.BeginPutGet ∷ turn.PutGet ∷ []) in
      (refl, end_first q typed valued (ask_of kinds.Put d.sid wanted) t.state z t.state.order t.state.segment refl refl refl now there all refl refl))
      c s order segment turns req opened
