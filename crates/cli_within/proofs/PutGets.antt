-- What is printed of a put-get.
use Rattle.std.proofs.Common.{◌≡◌, ℕ, Bool, true, false, cond, ◌&&◌, eq-eqb, List, [], ◌∷◌, ◌++◌, drop, map, Option, None, Some, Result, Ok, Err, refl, sym, ap, subst, ◌∙◌, arith, inl, inr}
use Rattle.std.proofs.lemmas.List.{append-nil}
use Rattle.std.specs.Prelude.{◌⊎◌, codes}
use Rattle.std.specs.FinMap.{get as at, empty as no_requests, get-empty}
use Rattle.std.specs.FinSet.{empty}
use Rattle.std.specs.Ordering.{nat_cmp}
use Rattle.pva_wire.specs.declared.order.Order.{Order}
use Rattle.pva_wire.specs.declared.status.Status.{Status}
use Rattle.pva_wire.specs.Spelling.{number_bytes}
use Rattle.pva_wire.specs.Status.{good}
use Rattle.pva_wire.proofs.Digits.{number_at_again}
use Rattle.pva_frames.specs.declared.event.Event.{Event}
use Rattle.pva_frames.specs.declared.event.Whole.{Whole}
use Rattle.pvd_type.specs.Tree.{Tree}
use Rattle.pvd_value.specs.Data.{Data}
use Rattle.pvd_value.specs.View.{view}
use Rattle.pvd_value.specs.declared.value.PvValue.{PvValue}
use Rattle.pvd_codec.specs.Reading.{part_at}
use Rattle.pvd_request.specs.Requests.{request_of}
use Rattle.pvd_request.specs.declared.request.Request.{Request as Wanted}
use Rattle.pvd_request.specs.declared.request.RequestFault.{RequestFault}
use Rattle.pvd_request.specs.declared.request.Root.TheVariants as roots
use Rattle.pva_messages.proofs.PartBack.{part_back}
use Rattle.pva_messages.specs.Fields.{PartData, byte, status}
use Rattle.pva_messages.specs.Laws.{IsWritable, reply_payload, request_payload, seen_reply}
use Rattle.pva_messages.specs.Reading.{request_id, id_of}
use Rattle.pva_messages.specs.Replies as reply
use Rattle.pva_messages.specs.Replies.{Reply, reply_command, type_field, part_field}
use Rattle.pva_messages.specs.Requests as requests
use Rattle.pva_messages.specs.Requests.{Request, request_command, absent, given, part_place}
use Rattle.pva_messages.specs.Rows.{byte_of, command_of}
use Rattle.pva_messages.specs.Subcommands.{begins, carries}
use Rattle.pva_messages.specs.Written.{canonical, seen_part}
use Rattle.pva_messages.specs.declared.command.Command.TheVariants as command
use Rattle.chan_table.specs.declared.ask.AskKind.TheVariants as kinds
use Rattle.desk_api.specs.Calls as calls
use Rattle.desk_api.specs.Calls.{ArePutGetBy}
use Rattle.desk_api.specs.Sites.{channel_named, has_values, is_atomic}
use Rattle.desk_api.specs.Types.{type_of}
use Rattle.desk_api.specs.Views.{value_of}
use Rattle.desk_api.specs.declared.channel.Channel.{Channel}
use Rattle.desk_api.specs.declared.history.SiteData.{SiteData}
use Rattle.desk_api.specs.declared.mark.Mark.{Mark}
use Rattle.desk_api.specs.declared.put.Done.{Done}
use Rattle.desk_api.specs.declared.put.PutAnswer.{PutAnswer}
use Rattle.desk_api.specs.declared.put.PutAnswer.TheVariants as answers
use Rattle.srv_session.proofs.Finding.{in_use}
use Rattle.srv_session.proofs.Tables.{got_inserted}
use Rattle.srv_session.specs.Replies as replies
use Rattle.srv_session.specs.Replies.{error, refused}
use Rattle.srv_session.specs.Rows.{ask_of, asked, refusal_text, put_get_reply}
use Rattle.srv_session.specs.State as server
use Rattle.srv_session.specs.State.{Asked, Requests, channel_at}
use Rattle.srv_session.specs.Steps.{Step, marks_of, after_hearing}
use Rattle.srv_session.specs.Tasks.{Task, Hearing, asks, begin, refuse, put_get, heard, heard_getting, heard_part, fault_text, beginning_as, beginning_on, unfit_for}
use Rattle.cli_text.specs.Lines.{part_text}
use Rattle.cli_session.specs.Messages.{Written, written, said, put_get_request, put_get_message, end_of}
use Rattle.cli_session.specs.State.{State}
use Rattle.cli_session.specs.Steps.{Taken, part, refusal, next, ended, finished, written_of, replied, type_for, run}
use Rattle.cli_session.specs.Answers.{unless_own}
use Rattle.cli_session.specs.declared.ask.Ask.{Ask}
use Rattle.cli_session.specs.declared.turn.Turn.TheVariants as turn
use Rattle.cli_within.specs.Answers.{found_by, from_entry, was_put, shown_text, valued_text}
use Rattle.cli_within.proofs.Beginnings.{begins_on, only_one}
use Rattle.cli_within.proofs.ClientTurns.{readied, Knows, hears_reply, TellsText as Tells, waits_text as waits, text_on as tells_on, text_last as tells_last, Stand, Took, took}
use Rattle.cli_within.proofs.Closings.{said_clear, quiet_end}
use Rattle.cli_within.proofs.Creations.{none_due_at_first, no_mark}
use Rattle.cli_within.proofs.Infos.{answer, answer_valued}
use Rattle.cli_within.proofs.Openings.{Opened}
use Rattle.cli_within.proofs.PutMarks.{done_and_got, done_then_got, full_is_none}
use Rattle.cli_within.proofs.SeenTexts.{seen_text}
use Rattle.cli_within.proofs.ServerTurns.{HasNoSubs, none_due, event_of, hears_it, heard_now, Answered, server_turn}

-- the reply names the client's request
pub put_get_named : (order : Order) (sub : ℕ) (st : Status) (t u : Option Tree) (p : Option PartData) → request_id order (byte_of command.PutGet) (reply_payload order (reply.put_get 1 sub st t u p)) ≡ Some 1
unfolding command_of
put_get_named order sub st t u p =
    ap id_of (number_at_again order 4 (number_bytes order 4 1)
    (canonical order (byte sub ∷ status st ∷ (type_field (carries st && begins sub) t ++ type_field (carries st && begins sub) u ++ part_field p))) 1 (omega arith, refl))

-- no request stands in a session without requests
pub no_one : (s : server.State) → s.requests ≡ no_requests → (req : ℕ) (x : Asked) → at s.requests req ≡ Some x → ⊥
no_one s none req x here =
    let clash : None ≡ Some x = sym (ap (λ (r : Requests). at r req) none ∙ get-empty nat_cmp req) ∙ here in
    absurd cc

-- what a put-get is told: a part, or why not
record Outcome (site : SiteData) (channel : Channel) (ask1 : Asked) (marks : List Mark) (told : Reply) : Type 0 where
  value : Data
  told_is : told ≡ reply.put_get 1 0x00 good None None (Some (record { ty = type_of site channel; mask = ask1.mask; value = value }))
  put : was_put marks ≡ true
  value_is : value ≡ value_of site channel (found_by site.opening (from_entry marks))

record NoOutcome (marks : List Mark) (told : Reply) : Type 0 where
  why : List ℕ
  told_is : told ≡ reply.put_get 1 0x00 (error why) None None None
  none : was_put marks ≡ false

some_in : Reply → Option Reply → Reply
some_in r None = r
some_in r (Some x) = x

module _ (site : SiteData) (channel : Channel) (ask1 : Asked) where
  outcome_by : (b : Bool) (a : calls.Asked) → a.site ≡ site → a.channel ≡ channel → (answer_ : Result (Done × PvValue) PutAnswer) (marks : List Mark) (told : Reply) → ArePutGetBy b a answer_ marks → put_get_reply site 1 0x00 ask1 channel answer_ ≡ Some told
      → Outcome site channel ask1 marks told ⊎ NoOutcome marks told
  unfolding some_in
  outcome_by true a at_ on (Ok (done, value)) marks told are same =
      let p = done_and_got a done (view value) marks are in
      inl (record { value = view value; told_is = sym (ap (some_in told) same); put = p.put; value_is = p.value_is ∙ (λ i. value_of (at_ i) (on i) (found_by (at_ i).opening (from_entry marks))) })
  outcome_by false a at_ on (Ok (done, value)) marks told are same =
      let p = done_then_got a done (view value) marks are in
      inl (record { value = view value; told_is = sym (ap (some_in told) same); put = p.put; value_is = p.value_is ∙ (λ i. value_of (at_ i) (on i) (found_by (at_ i).opening (from_entry marks))) })
  outcome_by true a at_ on (Err (answers.Refused refusal_)) marks told are same = inr (record { why = refusal_text refusal_; told_is = sym (ap (some_in told) same); none = ap was_put are.marks_are })
  outcome_by false a at_ on (Err (answers.Refused refusal_)) marks told are same = inr (record { why = refusal_text refusal_; told_is = sym (ap (some_in told) same); none = ap was_put are.marks_are })
  outcome_by true a at_ on (Err (answers.JournalFull kept weight limit done)) marks told are same = inr (record { why = codes "journal full"; told_is = sym (ap (some_in told) same); none = ap was_put are.marks_are })
  outcome_by false a at_ on (Err (answers.JournalFull kept weight limit done)) marks told are same =
      inr (record { why = codes "journal full"; told_is = sym (ap (some_in told) same); none = full_is_none a kept weight limit done marks are })
  outcome_by b a at_ on (Err (answers.NoMemory done)) marks told are same = absurd cc

module _ (ask : Ask) (site : SiteData) (channel : Channel) (is : channel_named site ask.name ≡ Some channel) (valued : has_values channel ≡ true) where
  abbrev ty : Tree
  ty = type_of site channel

  abbrev text : List Mark → List ℕ
  text = answer ask site channel is

  abbrev wished : Result Wanted RequestFault
  wished = request_of ty roots.GetField (put_get_request ask)

  -- what a put-get tells, of its marks
  abbrev pub shows : List Mark → List ℕ
  shows marks = cond (was_put marks) (shown_text site (from_entry marks) channel wished) []

  module _ (tells : (marks : List Mark) → valued_text site marks ask channel ask.operation ≡ shows marks) where
    pub text_so : (marks : List Mark) → text marks ≡ shows marks
    text_so marks = answer_valued ask site channel is marks ask.operation refl valued ∙ tells marks

    pub nothing_put : (marks : List Mark) → was_put marks ≡ false → text marks ≡ []
    nothing_put marks none = text_so marks ∙ ap (λ (b : Bool). cond b (shown_text site (from_entry marks) channel wished) []) none

    something_put : (marks : List Mark) (wanted : Wanted) → wished ≡ Ok wanted → was_put marks ≡ true → text marks ≡ shown_text site (from_entry marks) channel (Ok wanted)
    something_put marks wanted chosen put =
        text_so marks ∙ ap (λ (b : Bool). cond b (shown_text site (from_entry marks) channel wished) []) put ∙ ap (shown_text site (from_entry marks) channel) chosen

    -- the last turn
    module _ (wanted : Wanted) (chosen : wished ≡ Ok wanted) (put_part : PartData) (typed_part : put_part.ty ≡ ty) (c : State) (s : server.State) (order : Order) (segment : ℕ) (steps : List Step) (turns : c.turns ≡ turn.PutGet ∷ [])
        (req : c.req ≡ Some 1) (typed : c.ty ≡ Some ty) (now : s.validated ≡ true) (there : channel_at s.channels c.sid ≡ Some channel) (here : at s.requests 1 ≡ Some (ask_of kinds.PutGet c.sid wanted)) (none : HasNoSubs s) (e : Event) (es : List Event) where
      abbrev ask1 : Asked
      ask1 = ask_of kinds.PutGet c.sid wanted

      abbrev putting : Request
      putting = requests.put_get c.sid 1 0x00 None (given put_part)

      abbrev put_hearing : Hearing
      put_hearing = asks (put_get 1 0x00 ask1 channel put_part.mask (seen_part put_part).value) s.types

      heard_put : (place : ℕ) → IsWritable putting → heard site s (event_of order place putting) ≡ put_hearing
      heard_put place can =
          let w : Whole = record { order = order; command = request_command putting; payload = request_payload order putting; place = place } in
          hears_it site s order place putting (heard_now s (request_command putting) now) can
          ∙ ap (heard_getting site w s.types 1 0x00) (in_use s kinds.PutGet c.sid 1 channel there ask1 here (eq-eqb c.sid c.sid refl) refl)
          ∙ ap (λ (t : Tree). heard_part true w 1 0x00 (ask1, channel) (part_at order t (drop part_place w.payload, s.types))) (sym typed_part)
          ∙ ap (heard_part true w 1 0x00 (ask1, channel)) (part_back order s.types putting put_part can refl)

      abbrev Turn_ : Type 0
      Turn_ = Answered site s put_hearing (run ask c (e ∷ es)).sent steps (e ∷ es)

      abbrev Told_ : Type 0
      Told_ = Tells ask c (e ∷ es) (text (marks_of steps))

      -- behind the end there is no mark
      all_marks : (a : Turn_) (t : Taken) → t.state.turns ≡ [] → written_of t ≡ written t.state.order t.state.segment (said (requests.destroy_request c.sid 1)) ∷ [] → Took ask site c (after_hearing site s put_hearing a.marks) a.later e es t → marks_of steps ≡ a.marks
      all_marks a t over last k =
          let rest = quiet_end ask site t (after_hearing site s put_hearing a.marks) a.later es t.state.order t.state.segment c.sid 1 over last none now k.stand in
          a.marks_are ∙ ap (λ (ms : List Mark). a.marks ++ ms) rest ∙ append-nil a.marks

      put_told : (a : Turn_) → Outcome site channel ask1 a.marks a.answer.told → Told_
      put_told a o =
          let p : PartData = record { ty = ty; mask = wanted.mask; value = o.value } in
          let r = reply.put_get 1 0x00 good None None (Some p) in
          let sent_is = a.answer.sent_is ∙ ap (λ (x : Reply). replies.said x ∷ []) o.told_is in
          let clear = said_clear site s put_hearing (run ask c (e ∷ es)).sent steps e es r a sent_is in
          let known : Knows c s.order r =
          λ u same. ap (λ (q : Option ℕ). type_for q c.ty (request_id s.order (reply_command r) (reply_payload s.order r))) req
          ∙ ap (λ (y : Option Tree). type_for (Some 1) y (request_id s.order (reply_command r) (reply_payload s.order r))) typed
          ∙ ap (type_for (Some 1) (Some ty)) (put_get_named s.order 0x00 good None None (Some p)) ∙ same in
          let t = finished (readied s.order c) turn.PutGet (part (seen_part p) empty ∷ []) in
          let k = took ask site c s put_hearing steps e es r t a sent_is
          (λ place can. hears_reply ask c turn.PutGet [] s.order place r turns refl can known
          ∙ ap (λ (q : Option ℕ). replied ask (readied s.order c) turn.PutGet [] (seen_reply r) (unless_own q 1)) req) in
          let last : written_of t ≡ written t.state.order t.state.segment (said (requests.destroy_request c.sid 1)) ∷ [] =
          ap (λ (q : Option ℕ). map (written t.state.order t.state.segment) (map said (end_of c.sid q))) req in
          let marks = all_marks a t refl last k in
          let prints = append-nil (part_text p.mask empty ty (seen_part p).value) ∙ seen_text p empty clear.1.1.1.1.0.0
          ∙ (λ i. part_text wanted.mask empty ty (o.value_is i))
          ∙ sym (something_put a.marks wanted chosen o.put) ∙ ap text (sym marks) in
          tells_last ask c e es t (text (marks_of steps)) k.runs refl prints

      put_refused : (a : Turn_) → NoOutcome a.marks a.answer.told → Told_
      put_refused a o =
          let r = reply.put_get 1 0x00 (error o.why) None None None in
          let t = ended (readied s.order c) turn.PutGet (refusal (error o.why) ∷ []) in
          let k = took ask site c s put_hearing steps e es r t a (a.answer.sent_is ∙ ap (λ (x : Reply). replies.said x ∷ []) o.told_is)
          (λ place can. hears_reply ask c turn.PutGet [] s.order place r turns refl can (λ u same. absurd cc)
          ∙ ap (λ (q : Option ℕ). replied ask (readied s.order c) turn.PutGet [] (seen_reply r) (unless_own q 1)) req) in
          let last : written_of t ≡ written t.state.order t.state.segment (said (requests.destroy_request c.sid 1)) ∷ [] =
          ap (λ (q : Option ℕ). map (written t.state.order t.state.segment) (map said (end_of c.sid q))) req in
          let marks = all_marks a t refl last k in
          tells_last ask c e es t (text (marks_of steps)) k.runs refl (sym (nothing_put a.marks o.none) ∙ ap text (sym marks))

      put_taken : Stand ask site c s (written order segment (said putting) ∷ []) steps (e ∷ es) → Told_
      put_taken stand = by (outcome_by site channel ask1 (is_atomic site channel ask1.atomic) (asked site ask1 channel put_part.mask (seen_part put_part).value a.answer.moment) refl refl a.answer.answer a.marks a.answer.told a.answer.is_put_get a.answer.told_is)
        where
          a : Turn_
          a = server_turn site s order segment putting put_hearing (none_due s none) heard_put steps (run ask c (e ∷ es)).sent e es stand.rules stand.heard_of stand.told_of

          by : (Outcome site channel ask1 a.marks a.answer.told ⊎ NoOutcome a.marks a.answer.told) → Told_
          by (inl o) = put_told a o
          by (inr o) = put_refused a o

    put_get_last : (wanted : Wanted) → wished ≡ Ok wanted → (p : PartData) → p.ty ≡ ty → (c : State) (s : server.State) (order : Order) (segment : ℕ) (steps : List Step) (es : List Event) → c.turns ≡ turn.PutGet ∷ [] → c.req ≡ Some 1 → c.ty ≡ Some ty
        → s.validated ≡ true → channel_at s.channels c.sid ≡ Some channel → at s.requests 1 ≡ Some (ask_of kinds.PutGet c.sid wanted) → HasNoSubs s
        → Stand ask site c s (written order segment (said (requests.put_get c.sid 1 0x00 None (given p))) ∷ []) steps es → Tells ask c es (text (marks_of steps))
    put_get_last wanted chosen p typed_part c s order segment steps [] turns req typed now there here none stand = waits ask c (text (marks_of steps))
    put_get_last wanted chosen p typed_part c s order segment steps (e ∷ es) turns req typed now there here none stand =
        put_taken wanted chosen p typed_part c s order segment steps turns req typed now there here none e es stand

    -- the turn that begins the put-get
    module _ (p : PartData) (typed_part : p.ty ≡ ty) (c : State) (s : server.State) (order : Order) (segment : ℕ) (steps : List Step) (turns : c.turns ≡ turn.BeginPutGet ∷ turn.PutGet ∷ []) (req : c.req ≡ Some 1) (kept : c.put ≡ Some p) (opened : Opened c s channel) where
      abbrev message : Request
      message = requests.put_get c.sid 1 0x08 (put_get_request ask) absent

      heard_so : (place : ℕ) → IsWritable message → heard site s (event_of order place message) ≡ asks (beginning_as kinds.PutGet 1 0x08 c.sid channel wished) s.types
      heard_so place can =
          hears_it site s order place message (heard_now s (request_command message) opened.now) can
          ∙ ap (λ (x : Task). asks x s.types) (begins_on site s kinds.PutGet 1 0x08 c.sid (put_get_request ask) channel opened.there opened.none)
          ∙ ap (λ (v : Bool). asks (beginning_on site kinds.PutGet 1 0x08 c.sid (put_get_request ask) channel (unfit_for false v)) s.types) valued

      refuses : (fault : RequestFault) (e : Event) (es : List Event) → wished ≡ Err fault → Stand ask site c s (written order segment (said message) ∷ []) steps (e ∷ es) → Tells ask c (e ∷ es) (text (marks_of steps))
      refuses fault e es chosen stand =
          let why = fault_text fault in
          let hearing = asks (refuse (refused kinds.PutGet 1 0x08 why)) s.types in
          let a = server_turn site s order segment message hearing (none_due_at_first s opened.none)
          (λ place can. heard_so place can ∙ ap (λ (w : Result Wanted RequestFault). asks (beginning_as kinds.PutGet 1 0x08 c.sid channel w) s.types) chosen)
          steps (run ask c (e ∷ es)).sent e es stand.rules stand.heard_of stand.told_of in
          let r = reply.put_get 1 0x08 (error why) None None None in
          let t = ended (readied s.order c) turn.BeginPutGet (refusal (error why) ∷ []) in
          let k = took ask site c s hearing steps e es r t a a.answer.sent_is
          (λ place can. hears_reply ask c turn.BeginPutGet (turn.PutGet ∷ []) s.order place r turns refl can (λ u none. absurd cc)
          ∙ ap (λ (q : Option ℕ). replied ask (readied s.order c) turn.BeginPutGet (turn.PutGet ∷ []) (seen_reply r) (unless_own q 1)) req) in
          let last : written_of t ≡ written t.state.order t.state.segment (said (requests.destroy_request c.sid 1)) ∷ [] =
          ap (λ (q : Option ℕ). map (written t.state.order t.state.segment) (map said (end_of c.sid q))) req in
          let none : HasNoSubs s = λ q x here. absurd (no_one s opened.none q x here) in
          let rest = quiet_end ask site t (after_hearing site s hearing a.marks) a.later es t.state.order t.state.segment c.sid 1 refl last none opened.now k.stand in
          let marks : marks_of steps ≡ [] = a.marks_are ∙ (λ i. a.answer.marks_are i ++ rest i) in
          tells_last ask c e es t (text (marks_of steps)) k.runs refl (sym (nothing_put [] refl) ∙ ap text (sym marks))

      begins_so : (wanted : Wanted) (e : Event) (es : List Event) → wished ≡ Ok wanted → Stand ask site c s (written order segment (said message) ∷ []) steps (e ∷ es) → Tells ask c (e ∷ es) (text (marks_of steps))
      begins_so wanted e es chosen stand =
          let hearing = asks (begin kinds.PutGet 1 0x08 c.sid channel wanted) s.types in
          let a = server_turn site s order segment message hearing (none_due_at_first s opened.none)
          (λ place can. heard_so place can ∙ ap (λ (w : Result Wanted RequestFault). asks (beginning_as kinds.PutGet 1 0x08 c.sid channel w) s.types) chosen)
          steps (run ask c (e ∷ es)).sent e es stand.rules stand.heard_of stand.told_of in
          let r = reply.put_get 1 0x08 good (Some ty) (Some ty) None in
          let t = next ask (record (readied s.order c) { ty = Some ty }) (turn.PutGet ∷ []) in
          let k = took ask site c s hearing steps e es r t a a.answer.sent_is
          (λ place can. hears_reply ask c turn.BeginPutGet (turn.PutGet ∷ []) s.order place r turns refl can (λ u none. absurd cc)
          ∙ ap (λ (q : Option ℕ). replied ask (readied s.order c) turn.BeginPutGet (turn.PutGet ∷ []) (seen_reply r) (unless_own q 1)) req) in
          let ask2 = ask_of kinds.PutGet c.sid wanted in
          let after = after_hearing site s hearing a.marks in
          let put_is : written_of t ≡ written t.state.order t.state.segment (said (requests.put_get c.sid 1 0x00 None (given p))) ∷ [] =
          ap (λ (x : Option PartData). map (written t.state.order t.state.segment) (map said (put_get_message c.sid x))) kept in
          let marks = no_mark (marks_of steps) a.marks (marks_of a.later) a.marks_are a.answer.marks_are in
          tells_on ask c e es t (text (marks_of steps)) k.runs refl
          (subst (λ (ms : List Mark). Tells ask t.state es (text ms)) (sym marks)
          (put_get_last wanted chosen p typed_part t.state after t.state.order t.state.segment a.later es refl req refl opened.now opened.there (got_inserted s.requests 1 ask2)
          (only_one s 1 ask2 opened.none refl) (subst (λ (ws : List Written). Stand ask site t.state after ws a.later es) put_is k.stand)))

      pub begin_put_get : (es : List Event) → Stand ask site c s (written order segment (said message) ∷ []) steps es → Tells ask c es (text (marks_of steps))
      begin_put_get [] stand = waits ask c (text (marks_of steps))
      begin_put_get (e ∷ es) stand = by wished refl
        where
          by : (w : Result Wanted RequestFault) → wished ≡ w → Tells ask c (e ∷ es) (text (marks_of steps))
          by (Ok wanted) chosen = begins_so wanted e es chosen stand
          by (Err fault) chosen = refuses fault e es chosen stand
