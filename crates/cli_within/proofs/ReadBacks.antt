-- The turns of a put-get before the put-get itself: a put brings the present value, and ends.
use Rattle.std.proofs.Common.{◌≡◌, ◌≢◌, ℕ, ◌==◌, Bool, true, false, cond, ◌&&◌, not, eq-eqb, List, [], ◌∷◌, ◌++◌, map, Option, None, Some, Result, Ok, Err, refl, sym, ap, subst, ◌∙◌, arith, inl, inr}
use Rattle.std.proofs.lemmas.Cmp.{nat_cmp_total}
use Rattle.std.specs.Prelude.{◌⊎◌, codes}
use Rattle.std.specs.FinMap.{get as at, insert, remove, empty as no_requests, get-empty, same_map, nat_cmp-IsAntisymmetric}
use Rattle.std.specs.FinSet.{FinSet}
use Rattle.std.specs.List.{flat_map}
use Rattle.std.specs.Ordering.{nat_cmp}
use Rattle.pva_wire.specs.declared.order.Order.{Order}
use Rattle.pva_wire.specs.declared.status.Status.{Status}
use Rattle.pva_wire.specs.Spelling.{number_bytes}
use Rattle.pva_wire.specs.Status.{good}
use Rattle.pva_wire.proofs.Digits.{number_at_again}
use Rattle.pva_frames.specs.declared.event.Event.{Event}
use Rattle.pvd_type.specs.Tree.{Tree}
use Rattle.pvd_value.specs.Data.{Data}
use Rattle.pvd_request.specs.Requests.{request_of}
use Rattle.pvd_request.specs.declared.request.Request.{Request as Wanted}
use Rattle.pvd_request.specs.declared.request.RequestFault.{RequestFault}
use Rattle.pvd_request.specs.declared.request.Root.TheVariants as roots
use Rattle.pva_messages.specs.Fields.{PartData, byte, status}
use Rattle.pva_messages.specs.Laws.{IsReplyWritable, IsWritable, reply_payload, seen_reply}
use Rattle.pva_messages.specs.Reading.{request_id, id_of}
use Rattle.pva_messages.specs.Replies as reply
use Rattle.pva_messages.specs.Replies.{reply_command, type_field, part_field}
use Rattle.pva_messages.specs.Requests as requests
use Rattle.pva_messages.specs.Requests.{Request, request_command, absent}
use Rattle.pva_messages.specs.Rows.{byte_of, command_of}
use Rattle.pva_messages.specs.Subcommands.{begins, carries}
use Rattle.pva_messages.specs.Written.{canonical, seen_part}
use Rattle.pva_messages.specs.declared.command.Command.TheVariants as command
use Rattle.chan_table.specs.declared.ask.AskKind.TheVariants as kinds
use Rattle.histories.specs.History.{IsPrefixOf}
use Rattle.desk_api.specs.Sites.{channel_named, has_values}
use Rattle.desk_api.specs.Types.{type_of}
use Rattle.desk_api.specs.declared.channel.Channel.{Channel}
use Rattle.desk_api.specs.declared.history.SiteData.{SiteData}
use Rattle.desk_api.specs.declared.mark.Mark.{Mark}
use Rattle.srv_session.proofs.Finding.{in_use}
use Rattle.srv_session.proofs.Tables.{same_or_not, got_inserted, got_beside, got_removed, got_left}
use Rattle.srv_session.specs.Replies as replies
use Rattle.srv_session.specs.Replies.{error, refused}
use Rattle.srv_session.specs.Rows.{ask_of}
use Rattle.srv_session.specs.State as server
use Rattle.srv_session.specs.State.{Asked, Requests, channel_at, is_on, slot_of}
use Rattle.srv_session.specs.Steps.{Step, marks_of, after_hearing}
use Rattle.srv_session.specs.Tasks.{Task, Hearing, asks, begin, refuse, get, getting, pass_over, destroy_request, heard, fault_text, beginning_as, beginning_on, unfit_for}
use Rattle.cli_text.specs.Put.{put_of}
use Rattle.cli_text.specs.declared.fault.PutText.{PutText}
use Rattle.cli_session.specs.Messages.{Written, written, said, put_request, put_get_request, put_id, end_of}
use Rattle.cli_session.specs.State.{State}
use Rattle.cli_session.specs.Text.{told_text}
use Rattle.cli_session.specs.Steps.{Taken, Told, refusal, next, ended, written_of, replied, type_for, read_words, part_put, words_of, put_next, going_on, step, run}
use Rattle.cli_session.specs.Answers.{unless_own}
use Rattle.cli_session.specs.Turns.{own_turns}
use Rattle.cli_session.specs.declared.ask.Ask.{Ask}
use Rattle.cli_session.specs.declared.fault.ClientFault.{ClientFault}
use Rattle.cli_session.specs.declared.turn.Turn.{Turn}
use Rattle.cli_session.specs.declared.turn.Turn.TheVariants as turn
use Rattle.cli_within.specs.Answers.{from_entry, was_put, shown_text, valued_text, unvalued_text, channel_text}
use Rattle.cli_within.specs.Ends.{ending_of}
use Rattle.cli_within.proofs.Beginnings.{begins_on, only_one}
use Rattle.cli_within.proofs.ClientTurns.{readied, reply_event, Knows, hears_reply, TellsText as Tells, waits_text as waits, text_on as tells_on, text_last as tells_last, Stand, took}
use Rattle.cli_within.proofs.Closings.{quiet_end}
use Rattle.cli_within.proofs.Creations.{none_due_at_first, no_mark, GoesSoText as GoesSo}
use Rattle.cli_within.proofs.Infos.{answer, answer_unvalued}
use Rattle.cli_within.proofs.Openings.{Opened}
use Rattle.cli_within.proofs.PutGets.{no_one, shows, text_so, nothing_put, begin_put_get}
use Rattle.cli_within.proofs.PutMarks.{looks_behind, looks_entries, looks_weigh}
use Rattle.cli_within.proofs.Said.{AreReplies, speak, spoken}
use Rattle.cli_within.proofs.ServerTurns.{HasNoSubs, none_due, no_slot, no_endings, event_of, hears_it, heard_now, Answered, server_turn}

put_named : (order : Order) (sub : ℕ) (st : Status) (ty : Option Tree) (p : Option PartData) → request_id order (byte_of command.Put) (reply_payload order (reply.put 2 sub st ty p)) ≡ Some 2
unfolding command_of
put_named order sub st ty p =
    ap id_of (number_at_again order 4 (number_bytes order 4 2) (canonical order (byte sub ∷ status st ∷ (type_field (carries st && begins sub) ty ++ part_field p))) 2 (omega arith, refl))

-- one request alone, and none once it has ended

abbrev pub one_request : Asked → Requests
one_request ask1 = insert no_requests 2 ask1

abbrev pub one_ended : Asked → Requests
one_ended ask1 = remove (one_request ask1) 2

abbrev pub nothing_asked : Requests
nothing_asked = no_requests

pub emptied : (ask1 : Asked) → one_ended ask1 ≡ nothing_asked
emptied ask1 = same_map nat_cmp_total nat_cmp-IsAntisymmetric (one_ended ask1) nothing_asked (λ q. alike q (same_or_not q 2))
  where
    alike : (q : ℕ) → (q ≡ 2) ⊎ (q ≢ 2) → at (one_ended ask1) q ≡ at nothing_asked q
    alike q (inl e) = ap (at (one_ended ask1)) e ∙ got_removed (one_request ask1) 2 ∙ sym (get-empty nat_cmp q)
    alike q (inr apart) = got_left (one_request ask1) 2 q apart ∙ got_beside nothing_asked 2 ask1 q apart

-- the only request is no monitor
alone : (s : server.State) (ask1 : Asked) → s.requests ≡ insert no_requests 2 ask1 → ask1.sub ≡ None → HasNoSubs s
alone s ask1 all unsubscribed q x here = only_one (record s { requests = no_requests }) 2 ask1 refl unsubscribed q x (ap (λ (r : Requests). at r q) (sym all) ∙ here)

-- what words give is of the type of the present value

ty_in : Tree → Result PartData PutText → Tree
ty_in t (Ok q) = q.ty
ty_in t (Err f) = t

part_typed : (t : Tree) (r : Result (FinSet nat_cmp × Data) PutText) (q : PartData) → part_put t r ≡ Ok q → q.ty ≡ t
unfolding ty_in
part_typed t (Ok x) q h = sym (ap (ty_in t) h)
part_typed t (Err f) q h = absurd cc

pub words_typed : (words : List (List ℕ)) (p q : PartData) → read_words words (Some p) ≡ Ok q → q.ty ≡ p.ty
words_typed [] p q h = absurd cc
words_typed (w ∷ words) p q h = part_typed p.ty (put_of p.ty p.value (w ∷ words)) q h

module _ (ask : Ask) (site : SiteData) (channel : Channel) (is : channel_named site ask.name ≡ Some channel) (valued : has_values channel ≡ true) (tells : (marks : List Mark) → valued_text site marks ask channel ask.operation ≡ shows ask site channel is valued marks)
    (id_is : put_id ask.operation ≡ 2) where
  abbrev ty : Tree
  ty = type_of site channel

  abbrev text : List Mark → List ℕ
  text = answer ask site channel is

  abbrev later_turns : List Turn
  later_turns = turn.BeginPutGet ∷ turn.PutGet ∷ []

  -- the put ends, and the put-get begins
  destroy_first : (p : PartData) → p.ty ≡ ty → (c : State) (s : server.State) (order : Order) (segment : ℕ) (ask1 : Asked) (steps : List Step) (es : List Event) → c.turns ≡ later_turns → c.req ≡ Some 1 → c.put ≡ Some p → s.validated ≡ true
      → channel_at s.channels c.sid ≡ Some channel → s.requests ≡ insert no_requests 2 ask1 → ask1.sid ≡ c.sid → ask1.sub ≡ None
      → Stand ask site c s (written order segment (said (requests.destroy_request c.sid 2)) ∷ written order segment (said (requests.put_get c.sid 1 0x08 (put_get_request ask) absent)) ∷ []) steps es → Tells ask c es (text (marks_of steps))
  destroy_first p typed_part c s order segment ask1 steps [] turns req kept now there all sid_is unsubscribed stand = waits ask c (text (marks_of steps))
  destroy_first p typed_part c s order segment ask1 steps (e ∷ es) turns req kept now there all sid_is unsubscribed stand =
      let here : at s.requests 2 ≡ Some ask1 = ap (λ (r : Requests). at r 2) all ∙ got_inserted no_requests 2 ask1 in
      let none = alone s ask1 all unsubscribed in
      let m = requests.destroy_request c.sid 2 in
      let second = written order segment (said (requests.put_get c.sid 1 0x08 (put_get_request ask) absent)) in
      let hearing = asks (destroy_request 2) s.types in
      let hears_so : (place : ℕ) → IsWritable m → heard site s (event_of order place m) ≡ hearing =
      λ place can. hears_it site s order place m (heard_now s (request_command m) now) can
      ∙ ap (λ (o : Option Asked). asks (cond (is_on c.sid o) (destroy_request 2) pass_over) s.types) here
      ∙ ap (λ (n : ℕ). asks (cond (n == c.sid) (destroy_request 2) pass_over) s.types) sid_is
      ∙ ap (λ (b : Bool). asks (cond b (destroy_request 2) pass_over) s.types) (eq-eqb c.sid c.sid refl) in
      let a = server_turn site s order segment m hearing (none_due s none) hears_so steps (second ∷ (run ask c (e ∷ es)).sent) e es stand.rules stand.heard_of stand.told_of in
      let no_marks : a.marks ≡ [] = no_endings (slot_of (at s.requests 2)) a.marks (no_slot (at s.requests 2) (none 2)) a.answer.endings in
      let after = after_hearing site s hearing a.marks in
      let opened : Opened c after channel = record { now = now; there = there; none = ap (λ (r : Requests). remove r 2) all ∙ emptied ask1 } in
      let stands : Stand ask site c after (second ∷ []) a.later (e ∷ es) = record {
        rules = a.rules;
        heard_of = a.heard;
        told_of = subst (λ (xs : List replies.Sent). AreReplies (e ∷ es) (speak s.order s.segment xs ++ spoken site after a.later)) a.answer.sent_is a.told;
      } in
      subst (λ (ms : List Mark). Tells ask c (e ∷ es) (text ms)) (sym (no_mark (marks_of steps) a.marks (marks_of a.later) a.marks_are no_marks))
      (begin_put_get ask site channel is valued tells p typed_part c after order segment a.later turns req kept opened (e ∷ es) stands)

  -- the present value is read
  module _ (wanted : Wanted) (c : State) (s : server.State) (order : Order) (segment : ℕ) (steps : List Step) (turns : c.turns ≡ turn.ReadBack ∷ later_turns) (req : c.req ≡ Some 2) (typed : c.ty ≡ Some ty) (now : s.validated ≡ true)
      (there : channel_at s.channels c.sid ≡ Some channel) (all : s.requests ≡ insert no_requests 2 (ask_of kinds.Put c.sid wanted)) (e : Event) (es : List Event) where
    abbrev ask1 : Asked
    ask1 = ask_of kinds.Put c.sid wanted

    abbrev read : Request
    read = requests.put c.sid 2 0x40 None absent

    abbrev read_hearing : Hearing
    read_hearing = asks (get kinds.Put 2 0x40 ask1 channel) s.types

    abbrev Turn_ : Type 0
    Turn_ = Answered site s read_hearing (run ask c (e ∷ es)).sent steps (e ∷ es)

    heard_read : (place : ℕ) → IsWritable read → heard site s (event_of order place read) ≡ read_hearing
    heard_read place can =
        hears_it site s order place read (heard_now s (request_command read) now) can
        ∙ ap (λ (f : Result (Asked × Channel) (List ℕ)). asks (getting kinds.Put 2 0x40 f) s.types)
        (in_use s kinds.Put c.sid 2 channel there ask1 (ap (λ (r : Requests). at r 2) all ∙ got_inserted no_requests 2 ask1) (eq-eqb c.sid c.sid refl) refl)

    abbrev given_by : Turn_ → Result PartData PutText
    given_by a = read_words (words_of ask.operation) (Some (seen_part (record { ty = ty; mask = wanted.mask; value = a.answer.value })))

    step_is : (a : Turn_) (place : ℕ) → IsReplyWritable (reply.put 2 0x40 good None (Some (record { ty = ty; mask = wanted.mask; value = a.answer.value })))
        → step ask c (reply_event s.order place (reply.put 2 0x40 good None (Some (record { ty = ty; mask = wanted.mask; value = a.answer.value })))) ≡ put_next ask (readied s.order c) later_turns (given_by a)
    step_is a place can =
        let p : PartData = record { ty = ty; mask = wanted.mask; value = a.answer.value } in
        let r = reply.put 2 0x40 good None (Some p) in
        let known : Knows c s.order r =
        λ u same. ap (λ (q : Option ℕ). type_for q c.ty (request_id s.order (reply_command r) (reply_payload s.order r))) req
        ∙ ap (λ (y : Option Tree). type_for (Some 2) y (request_id s.order (reply_command r) (reply_payload s.order r))) typed
        ∙ ap (type_for (Some 2) (Some ty)) (put_named s.order 0x40 good None (Some p)) ∙ same in
        hears_reply ask c turn.ReadBack later_turns s.order place r turns refl can known
        ∙ ap (λ (q : Option ℕ). replied ask (readied s.order c) turn.ReadBack later_turns (seen_reply r) (unless_own q 2)) req

    -- words that give nothing end nothing
    no_words : (a : Turn_) (f : PutText) → given_by a ≡ Err f → Tells ask c (e ∷ es) (text (marks_of steps))
    no_words a f wrong =
        let told_now : AreReplies (e ∷ es) (speak s.order s.segment (replies.said (reply.put 2 0x40 good None (Some (record { ty = ty; mask = wanted.mask; value = a.answer.value }))) ∷ []) ++ spoken site (after_hearing site s read_hearing a.marks) a.later) =
        subst (λ (xs : List replies.Sent). AreReplies (e ∷ es) (speak s.order s.segment xs ++ spoken site (after_hearing site s read_hearing a.marks) a.later)) a.answer.sent_is a.told in
        let stops = ap (step ask c) told_now.0.1 ∙ step_is a told_now.0.0 told_now.0.2 ∙ ap (put_next ask (readied s.order c) later_turns) wrong in
        let nothing = ap (λ (r : Result Taken ClientFault). (going_on c r (λ u. run ask u es)).told) stops in
        record {
          whole = λ end over. let clash : None ≡ Some end = sym (ap ending_of nothing) ∙ over in absurd cc;
          front = subst (λ (xs : List Told). IsPrefixOf (flat_map told_text xs) (text (marks_of steps))) (sym nothing) (record { rest = text (marks_of steps); whole = refl });
          updates = tt;
        }

    text_behind : (a : Turn_) → text (marks_of steps) ≡ text (marks_of a.later)
    text_behind a =
        let entries = looks_entries channel _ a.marks (marks_of a.later) a.answer.is_get.looks in
        let weigh = looks_weigh channel _ a.marks (marks_of a.later) a.answer.is_get.looks in
        let from = looks_behind channel _ a.marks (marks_of a.later) a.answer.is_get.looks in
        ap text a.marks_are ∙ text_so ask site channel is valued tells (a.marks ++ marks_of a.later)
        ∙ (λ i. cond (entries i && not (weigh i)) (shown_text site (from i) channel (request_of ty roots.GetField (put_get_request ask))) [])
        ∙ sym (text_so ask site channel is valued tells (marks_of a.later))

    words_given : (a : Turn_) (q : PartData) → given_by a ≡ Ok q → Tells ask c (e ∷ es) (text (marks_of steps))
    words_given a q given_ =
        let p : PartData = record { ty = ty; mask = wanted.mask; value = a.answer.value } in
        let r = reply.put 2 0x40 good None (Some p) in
        let t = next ask (record (readied s.order c) { put = Some q }) later_turns in
        let k = took ask site c s read_hearing steps e es r t a a.answer.sent_is (λ place can. step_is a place can ∙ ap (put_next ask (readied s.order c) later_turns) given_) in
        tells_on ask c e es t (text (marks_of steps)) k.runs refl
        (subst (λ (x : List ℕ). Tells ask t.state es x) (sym (text_behind a))
        (destroy_first q (words_typed (words_of ask.operation) (seen_part p) q given_) t.state (after_hearing site s read_hearing a.marks) t.state.order t.state.segment ask1 a.later es refl refl refl now there all refl refl k.stand))

    value_read : Stand ask site c s (written order segment (said read) ∷ []) steps (e ∷ es) → Tells ask c (e ∷ es) (text (marks_of steps))
    value_read stand = by (given_by a) refl
      where
        a : Turn_
        a = server_turn site s order segment read read_hearing (none_due s (alone s ask1 all refl)) heard_read steps (run ask c (e ∷ es)).sent e es stand.rules stand.heard_of stand.told_of

        by : (g : Result PartData PutText) → given_by a ≡ g → Tells ask c (e ∷ es) (text (marks_of steps))
        by (Ok q) given_ = words_given a q given_
        by (Err f) wrong = no_words a f wrong

  read_back : (wanted : Wanted) (c : State) (s : server.State) (order : Order) (segment : ℕ) (steps : List Step) (es : List Event) → c.turns ≡ turn.ReadBack ∷ later_turns → c.req ≡ Some 2 → c.ty ≡ Some ty → s.validated ≡ true → channel_at s.channels c.sid ≡ Some channel
      → s.requests ≡ insert no_requests 2 (ask_of kinds.Put c.sid wanted) → Stand ask site c s (written order segment (said (requests.put c.sid 2 0x40 None absent)) ∷ []) steps es → Tells ask c es (text (marks_of steps))
  read_back wanted c s order segment steps [] turns req typed now there all stand = waits ask c (text (marks_of steps))
  read_back wanted c s order segment steps (e ∷ es) turns req typed now there all stand = value_read wanted c s order segment steps turns req typed now there all e es stand

  -- the put begins
  module _ (c : State) (s : server.State) (order : Order) (segment : ℕ) (steps : List Step) (turns : c.turns ≡ turn.BeginPut ∷ turn.ReadBack ∷ later_turns) (req : c.req ≡ Some 2) (opened : Opened c s channel) where
    abbrev message : Request
    message = requests.put c.sid 2 0x08 (put_request ask) absent

    abbrev wished : Result Wanted RequestFault
    wished = request_of ty roots.Field (put_request ask)

    heard_so : (place : ℕ) → IsWritable message → heard site s (event_of order place message) ≡ asks (beginning_as kinds.Put 2 0x08 c.sid channel wished) s.types
    heard_so place can =
        hears_it site s order place message (heard_now s (request_command message) opened.now) can
        ∙ ap (λ (x : Task). asks x s.types) (begins_on site s kinds.Put 2 0x08 c.sid (put_request ask) channel opened.there opened.none)
        ∙ ap (λ (v : Bool). asks (beginning_on site kinds.Put 2 0x08 c.sid (put_request ask) channel (unfit_for false v)) s.types) valued

    refuses : (fault : RequestFault) (e : Event) (es : List Event) → wished ≡ Err fault → Stand ask site c s (written order segment (said message) ∷ []) steps (e ∷ es) → Tells ask c (e ∷ es) (text (marks_of steps))
    refuses fault e es chosen stand =
        let why = fault_text fault in
        let hearing = asks (refuse (refused kinds.Put 2 0x08 why)) s.types in
        let a = server_turn site s order segment message hearing (none_due_at_first s opened.none)
        (λ place can. heard_so place can ∙ ap (λ (w : Result Wanted RequestFault). asks (beginning_as kinds.Put 2 0x08 c.sid channel w) s.types) chosen)
        steps (run ask c (e ∷ es)).sent e es stand.rules stand.heard_of stand.told_of in
        let r = reply.put 2 0x08 (error why) None None in
        let t = ended (readied s.order c) turn.BeginPut (refusal (error why) ∷ []) in
        let k = took ask site c s hearing steps e es r t a a.answer.sent_is
        (λ place can. hears_reply ask c turn.BeginPut (turn.ReadBack ∷ later_turns) s.order place r turns refl can (λ u none. absurd cc)
        ∙ ap (λ (q : Option ℕ). replied ask (readied s.order c) turn.BeginPut (turn.ReadBack ∷ later_turns) (seen_reply r) (unless_own q 2)) req) in
        let last : written_of t ≡ written t.state.order t.state.segment (said (requests.destroy_request c.sid 2)) ∷ [] =
        ap (λ (q : Option ℕ). map (written t.state.order t.state.segment) (map said (end_of c.sid q))) req in
        let none : HasNoSubs s = λ q x here. absurd (no_one s opened.none q x here) in
        let rest = quiet_end ask site t (after_hearing site s hearing a.marks) a.later es t.state.order t.state.segment c.sid 2 refl last none opened.now k.stand in
        let marks : marks_of steps ≡ [] = a.marks_are ∙ (λ i. a.answer.marks_are i ++ rest i) in
        tells_last ask c e es t (text (marks_of steps)) k.runs refl (sym (nothing_put ask site channel is valued tells [] refl) ∙ ap text (sym marks))

    begins_so : (wanted : Wanted) (e : Event) (es : List Event) → wished ≡ Ok wanted → Stand ask site c s (written order segment (said message) ∷ []) steps (e ∷ es) → Tells ask c (e ∷ es) (text (marks_of steps))
    begins_so wanted e es chosen stand =
        let hearing = asks (begin kinds.Put 2 0x08 c.sid channel wanted) s.types in
        let a = server_turn site s order segment message hearing (none_due_at_first s opened.none)
        (λ place can. heard_so place can ∙ ap (λ (w : Result Wanted RequestFault). asks (beginning_as kinds.Put 2 0x08 c.sid channel w) s.types) chosen)
        steps (run ask c (e ∷ es)).sent e es stand.rules stand.heard_of stand.told_of in
        let r = reply.put 2 0x08 good (Some ty) None in
        let t = next ask (record (readied s.order c) { ty = Some ty }) (turn.ReadBack ∷ later_turns) in
        let k = took ask site c s hearing steps e es r t a a.answer.sent_is
        (λ place can. hears_reply ask c turn.BeginPut (turn.ReadBack ∷ later_turns) s.order place r turns refl can (λ u none. absurd cc)
        ∙ ap (λ (q : Option ℕ). replied ask (readied s.order c) turn.BeginPut (turn.ReadBack ∷ later_turns) (seen_reply r) (unless_own q 2)) req) in
        let after = after_hearing site s hearing a.marks in
        let read_is : written_of t ≡ written t.state.order t.state.segment (said (requests.put c.sid 2 0x40 None absent)) ∷ [] =
        ap (λ (n : ℕ). map (written t.state.order t.state.segment) (map said (requests.put c.sid n 0x40 None absent ∷ []))) id_is in
        let marks = no_mark (marks_of steps) a.marks (marks_of a.later) a.marks_are a.answer.marks_are in
        tells_on ask c e es t (text (marks_of steps)) k.runs refl
        (subst (λ (ms : List Mark). Tells ask t.state es (text ms)) (sym marks)
        (read_back wanted t.state after t.state.order t.state.segment a.later es refl req refl opened.now opened.there (ap (λ (r : Requests). insert r 2 (ask_of kinds.Put c.sid wanted)) opened.none)
        (subst (λ (ws : List Written). Stand ask site t.state after ws a.later es) read_is k.stand)))

    pub begin_put : (es : List Event) → Stand ask site c s (written order segment (said message) ∷ []) steps es → Tells ask c es (text (marks_of steps))
    begin_put [] stand = waits ask c (text (marks_of steps))
    begin_put (e ∷ es) stand = by wished refl
      where
        by : (w : Result Wanted RequestFault) → wished ≡ w → Tells ask c (e ∷ es) (text (marks_of steps))
        by (Ok wanted) chosen = begins_so wanted e es chosen stand
        by (Err fault) chosen = refuses fault e es chosen stand

-- on a channel without values
module _ (ask : Ask) (site : SiteData) (channel : Channel) (is : channel_named site ask.name ≡ Some channel) (unvalued : has_values channel ≡ false) (c : State) (s : server.State) (order : Order) (segment : ℕ) (steps : List Step)
    (later : List Turn) (turns : c.turns ≡ turn.BeginPut ∷ later) (req : c.req ≡ Some 2) (opened : Opened c s channel) (nothing : answer ask site channel is (marks_of steps) ≡ []) where
  abbrev first : Request
  first = requests.put c.sid 2 0x08 (put_request ask) absent

  pub no_value : (es : List Event) → Stand ask site c s (written order segment (said first) ∷ []) steps es → Tells ask c es (answer ask site channel is (marks_of steps))
  no_value [] stand = waits ask c (answer ask site channel is (marks_of steps))
  no_value (e ∷ es) stand =
      let why = codes "channel has no value" in
      let hearing = asks (refuse (refused kinds.Put 2 0x08 why)) s.types in
      let hears_so : (place : ℕ) → IsWritable first → heard site s (event_of order place first) ≡ hearing =
      λ place can. hears_it site s order place first (heard_now s (request_command first) opened.now) can
      ∙ ap (λ (x : Task). asks x s.types) (begins_on site s kinds.Put 2 0x08 c.sid (put_request ask) channel opened.there opened.none)
      ∙ ap (λ (v : Bool). asks (beginning_on site kinds.Put 2 0x08 c.sid (put_request ask) channel (unfit_for false v)) s.types) unvalued in
      let a = server_turn site s order segment first hearing (none_due_at_first s opened.none) hears_so steps (run ask c (e ∷ es)).sent e es stand.rules stand.heard_of stand.told_of in
      let r = reply.put 2 0x08 (error why) None None in
      let t = ended (readied s.order c) turn.BeginPut (refusal (error why) ∷ []) in
      let k = took ask site c s hearing steps e es r t a a.answer.sent_is
      (λ place can. hears_reply ask c turn.BeginPut later s.order place r turns refl can (λ u none. absurd cc)
      ∙ ap (λ (q : Option ℕ). replied ask (readied s.order c) turn.BeginPut later (seen_reply r) (unless_own q 2)) req) in
      tells_last ask c e es t (answer ask site channel is (marks_of steps)) k.runs refl (sym nothing)

-- Where the turns of an operation are those of a put-get, and it tells what one does.
pub put_get_goes : (ask : Ask) (site : SiteData) → put_id ask.operation ≡ 2 → own_turns ask.operation ≡ turn.BeginPut ∷ turn.ReadBack ∷ turn.BeginPutGet ∷ turn.PutGet ∷ []
    → ((marks : List Mark) (channel : Channel) → valued_text site marks ask channel ask.operation ≡ cond (was_put marks) (shown_text site (from_entry marks) channel (request_of (type_of site channel) roots.GetField (put_get_request ask))) [])
    → ((marks : List Mark) → unvalued_text site marks ask.operation ≡ []) → GoesSo ask site (λ marks. channel_text site marks ask (channel_named site ask.name))
put_get_goes ask site id_is turns valued_is unvalued_is channel is c s steps es opened left_ stand =
    subst
    (λ (ts : List Turn). Stand ask site (next ask c ts).state s (written_of (next ask c ts)) steps es → Tells ask (next ask c ts).state es (channel_text site (marks_of steps) ask (channel_named site ask.name)))
    (sym turns) (λ stands. by (has_values channel) refl stands) stand
  where
    by : (b : Bool) → has_values channel ≡ b
        → Stand ask site (next ask c (turn.BeginPut ∷ turn.ReadBack ∷ turn.BeginPutGet ∷ turn.PutGet ∷ [])).state s (written_of (next ask c (turn.BeginPut ∷ turn.ReadBack ∷ turn.BeginPutGet ∷ turn.PutGet ∷ []))) steps es
        → Tells ask (next ask c (turn.BeginPut ∷ turn.ReadBack ∷ turn.BeginPutGet ∷ turn.PutGet ∷ [])).state es (channel_text site (marks_of steps) ask (channel_named site ask.name))
    by true valued stands =
        let t0 = next ask c (turn.BeginPut ∷ turn.ReadBack ∷ turn.BeginPutGet ∷ turn.PutGet ∷ []) in
        begin_put ask site channel is valued (λ marks. valued_is marks channel) id_is t0.state s t0.state.order t0.state.segment steps refl (ap Some id_is) (record { now = opened.now; there = opened.there; none = opened.none }) es
        (subst (λ (n : ℕ). Stand ask site t0.state s (written t0.state.order t0.state.segment (said (requests.put c.sid n 0x08 (put_request ask) absent)) ∷ []) steps es) id_is stands)
    by false unvalued stands =
        let t0 = next ask c (turn.BeginPut ∷ turn.ReadBack ∷ turn.BeginPutGet ∷ turn.PutGet ∷ []) in
        no_value ask site channel is unvalued t0.state s t0.state.order t0.state.segment steps (turn.ReadBack ∷ turn.BeginPutGet ∷ turn.PutGet ∷ []) refl (ap Some id_is) (record { now = opened.now; there = opened.there; none = opened.none })
        (answer_unvalued ask site channel is (marks_of steps) ask.operation refl unvalued ∙ unvalued_is (marks_of steps)) es
        (subst (λ (n : ℕ). Stand ask site t0.state s (written t0.state.order t0.state.segment (said (requests.put c.sid n 0x08 (put_request ask) absent)) ∷ []) steps es) id_is stands)
