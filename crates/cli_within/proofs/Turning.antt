-- The turns of an exchange up to the creation of the channel, and those of a question for a type, a get and a call.
use Rattle.std.proofs.Common.{◌≡◌, ℕ, Bool, true, false, cond, eq-eqb, List, [], ◌∷◌, ◌++◌, map, Option, None, Some, Result, Ok, Err, refl, sym, ap, subst, ◌∙◌, inl, inr}
use Rattle.std.specs.Prelude.{codes, option_map}
use Rattle.std.specs.FinMap.{get as at, insert, empty as no_requests}
use Rattle.std.specs.FinSet.{empty}
use Rattle.pva_wire.specs.declared.order.Order.{Order}
use Rattle.pva_wire.specs.Status.{good}
use Rattle.pvd_type.specs.Numbers.{leaves}
use Rattle.pvd_type.specs.Tree.{Tree}
use Rattle.pvd_value.specs.Data.{Data}
use Rattle.pvd_request.specs.Requests.{request_of, part_at as node_at}
use Rattle.pvd_request.specs.declared.request.Request.{Request as Wanted}
use Rattle.pvd_request.specs.declared.request.RequestFault.{RequestFault}
use Rattle.pvd_request.specs.declared.request.Root.TheVariants as roots
use Rattle.pva_messages.specs.Fields.{PartData}
use Rattle.pva_messages.specs.Laws.{IsWritable, reply_payload, seen_reply}
use Rattle.pva_messages.specs.Reading.{request_id}
use Rattle.pva_messages.specs.Replies as reply
use Rattle.pva_messages.specs.Replies.{reply_command}
use Rattle.pva_messages.specs.Requests as requests
use Rattle.pva_messages.specs.Requests.{Request, request_command}
use Rattle.pva_messages.specs.Written.{seen_part}
use Rattle.chan_table.specs.declared.ask.AskKind.TheVariants as kinds
use Rattle.rpc_services.specs.Answers.{channels_tree, channels_data, info_tree, snapshot_tree}
use Rattle.rpc_services.specs.Operations.{operation_named}
use Rattle.rpc_services.specs.declared.asking.RpcOp.{RpcOp}
use Rattle.rpc_services.specs.declared.asking.RpcOp.TheVariants as services
use Rattle.rpc_services.specs.declared.asking.RpcRefusal.{RpcRefusal}
use Rattle.desk_api.specs.Sites.{channel_named, has_values, names_of}
use Rattle.desk_api.specs.Types.{type_of}
use Rattle.desk_api.specs.declared.channel.Channel.{Channel}
use Rattle.desk_api.specs.declared.history.SiteData.{SiteData}
use Rattle.desk_api.specs.declared.mark.Mark.{Mark}
use Rattle.srv_session.proofs.Finding.{in_use}
use Rattle.srv_session.proofs.Tables.{got_inserted}
use Rattle.srv_session.specs.Replies as replies
use Rattle.srv_session.specs.Replies.{error, refused, called, field_told, field_refused}
use Rattle.srv_session.specs.Rows.{Says, created, opened, ask_of, rows_data}
use Rattle.srv_session.specs.State as server
use Rattle.srv_session.specs.State.{Asked, channel_at, is_full, least_free}
use Rattle.srv_session.specs.Steps.{IsAnswer, after_hearing}
use Rattle.srv_session.specs.Tasks.{Task, Hearing, asks, validate, create, begin, refuse, tell, get, getting, respond, snapshot, heard, told_field, asked_field, fault_text, beginning_as, beginning_on, unfit_for, calling, called_for, call_refusal, info_of, nothing_wanted}
use Rattle.cli_session.specs.Answers.{unless_own}
use Rattle.cli_session.specs.Messages.{Written, written, said, validation, get_request, call_request, call_message}
use Rattle.cli_session.specs.State.{State, updates_of}
use Rattle.cli_session.specs.Steps.{Told, part, of_type, refusal, next, ended, finished, written_of, replied, type_for}
use Rattle.cli_session.specs.Structures.{uri}
use Rattle.cli_session.specs.Turns.{own_turns}
use Rattle.cli_session.specs.declared.ask.Ask.{Ask}
use Rattle.cli_session.specs.declared.ask.Operation.{Operation}
use Rattle.cli_session.specs.declared.ask.Operation.TheVariants as operation
use Rattle.cli_session.specs.declared.turn.Turn.{Turn}
use Rattle.cli_session.specs.declared.turn.Turn.TheVariants as turn
use Rattle.cli_within.specs.declared.stop.Ending.TheVariants as endings
use Rattle.cli_within.proofs.Beginnings.{begins_on, only_one}
use Rattle.cli_within.proofs.Calls.{named}
use Rattle.cli_within.proofs.ClientTurns.{readied, Knows, hears_reply}
use Rattle.cli_within.proofs.Courses.{Standing, AllGo, Reacts, ends_only, turn_goes}
use Rattle.cli_within.proofs.Creations.{none_due_at_first}
use Rattle.cli_within.proofs.Gets.{get_named}
use Rattle.cli_within.proofs.Infos.{root_is}
use Rattle.cli_within.proofs.Openings.{Opened, none_yet, validates}
use Rattle.cli_within.proofs.ServerTurns.{HasNoSubs, none_due, event_of, hears_it, heard_now}

-- nothing may stand but the end
abbrev pub Nothing : Standing
Nothing z marks told = ⊥

-- a row without marks changes nothing in them
pub says_keeps : (More : Standing) (these : List replies.Sent) (marks : List Mark) (sent : List replies.Sent) → Says these marks sent → (z : server.State) (ms : List Mark) (told : List Told) → More z ms told → More z (marks ++ ms) told
says_keeps More these marks sent says z ms told more = subst (λ (m : List Mark). More z (m ++ ms) told) (sym says.marks_are) more

module _ (ask : Ask) (site : SiteData) (More : Standing) where
  abbrev later_turns : List Turn
  later_turns = own_turns ask.operation

  -- it goes on behind the creation of the channel
  abbrev pub OwnGo : Type 0
  OwnGo = (channel : Channel) → channel_named site ask.name ≡ Some channel → (c : State) (s : server.State) → Opened c s channel → c.left ≡ updates_of ask.operation
      → AllGo ask site More (next ask c later_turns).state s (written_of (next ask c later_turns))

  module _ (own : OwnGo) where
    -- of the creation
    module _ (c : State) (s : server.State) (order : Order) (segment : ℕ) (turns : c.turns ≡ turn.Creation ∷ later_turns) (cid : c.cid ≡ Some 1) (now : s.validated ≡ true) (closed : s.channels ≡ no_requests) (free : s.requests ≡ no_requests) (left_ : c.left ≡ updates_of ask.operation) where
      abbrev message : Request
      message = requests.create ((1, ask.name) ∷ [])

      abbrev hearing : Hearing
      hearing = asks (create ((1, ask.name) ∷ [])) s.types

      absent_reacts : channel_named site ask.name ≡ None → (marks : List Mark) (sent : List replies.Sent) → IsAnswer site s hearing marks sent → Reacts ask site More c s hearing marks sent
      absent_reacts none marks sent answer =
          let r = reply.created 1 0xFFFF_FFFF (error (codes "channel not found")) in
          let t = ended (readied s.order c) turn.Creation (refusal (error (codes "channel not found")) ∷ []) in
          record {
            reply = r;
            sent_is = answer.sent_is ∙ ap (λ (o : Option Channel). replies.said (created s.channels 1 o) ∷ []) none;
            taken = Ok t;
            takes = λ place can.
                hears_reply ask c turn.Creation later_turns s.order place r turns refl can (λ ty is. absurd cc)
                ∙ ap (λ (q : Option ℕ). replied ask (readied s.order c) turn.Creation later_turns (seen_reply r) (unless_own q 1)) cid;
            on = inr (record { over = refl; ended = (endings.Refused, refl); ends = ends_only t.state.order t.state.segment c.sid c.req; now = now });
            keeps = says_keeps More _ marks sent answer;
          }

      present_reacts : (channel : Channel) → channel_named site ask.name ≡ Some channel → (marks : List Mark) (sent : List replies.Sent) → IsAnswer site s hearing marks sent → Reacts ask site More c s hearing marks sent
      present_reacts channel is marks sent answer =
          let sid = least_free s.channels in
          let room : is_full s.channels ≡ false = ap is_full closed ∙ none_yet (ℕ × Channel) in
          let r = reply.created 1 sid good in
          let full = reply.created 1 0xFFFF_FFFF (error (codes "too many channels")) in
          let c3 = record (readied s.order c) { sid = sid } in
          let there =
          ap (λ (o : Option Channel). channel_at (opened s.channels 1 o) sid) is
          ∙ ap (λ (b : Bool). channel_at (cond b s.channels (insert s.channels sid (1, channel))) sid) room
          ∙ ap (option_map (λ (x : ℕ × Channel). x.1)) (got_inserted s.channels sid (1, channel)) in
          record {
            reply = r;
            sent_is =
                answer.sent_is ∙ ap (λ (o : Option Channel). replies.said (created s.channels 1 o) ∷ []) is
                ∙ ap (λ (b : Bool). replies.said (cond b full r) ∷ []) room;
            taken = Ok (next ask c3 later_turns);
            takes = λ place can.
                hears_reply ask c turn.Creation later_turns s.order place r turns refl can (λ ty none. absurd cc)
                ∙ ap (λ (q : Option ℕ). replied ask (readied s.order c) turn.Creation later_turns (seen_reply r) (unless_own q 1)) cid;
            on = inl (quiet c3 later_turns, own channel is c3 (after_hearing site s hearing marks) (record { now = now; there = there; none = free }) left_);
            keeps = says_keeps More _ marks sent answer;
          }
        where
          quiet : (d : State) (ts : List Turn) → (next ask d ts).told ≡ []
          quiet d [] = refl
          quiet d (t ∷ ts) = refl

      pub creation_goes : AllGo ask site More c s (written order segment (said message) ∷ [])
      creation_goes =
          turn_goes ask site More c s order segment message hearing (none_due_at_first s free) (λ w. refl) (λ place can. hears_it site s order place message (heard_now s (request_command message) now) can)
          (by (channel_named site ask.name) refl)
        where
          by : (o : Option Channel) → channel_named site ask.name ≡ o → (marks : List Mark) (sent : List replies.Sent) → IsAnswer site s hearing marks sent → Reacts ask site More c s hearing marks sent
          by None none = absent_reacts none
          by (Some channel) is = present_reacts channel is

    -- of the validation
    pub validation_goes : (c : State) (s : server.State) (order : Order) (segment : ℕ) → c.turns ≡ turn.Validation ∷ turn.Creation ∷ later_turns → s.channels ≡ no_requests → s.requests ≡ no_requests → c.left ≡ updates_of ask.operation
        → AllGo ask site More c s (written order segment (said (validation ask.user)) ∷ [])
    validation_goes c s order segment turns closed free left_ =
        let v = validates ask.user in
        let hearing = asks (validate 65536 32767 v.user v.host) s.types in
        let r = reply.validated good in
        let d = readied s.order c in
        let t = next ask d (turn.Creation ∷ later_turns) in
        turn_goes ask site More c s order segment (validation ask.user) hearing (none_due_at_first s free) (λ w. refl) (λ place can. v.is site s place order can)
        (λ marks sent answer. record {
          reply = r;
          sent_is = answer.sent_is;
          taken = Ok t;
          takes = λ place can. hears_reply ask c turn.Validation (turn.Creation ∷ later_turns) s.order place r turns refl can (λ ty none. absurd cc);
          on = inl (refl, creation_goes t.state (after_hearing site s hearing marks) t.state.order t.state.segment refl refl refl closed free left_);
          keeps = says_keeps More _ marks sent answer;
        })

-- A question for a type.
module _ (ask : Ask) (site : SiteData) (channel : Channel) (c : State) (s : server.State) (order : Order) (segment : ℕ) (turns : c.turns ≡ turn.Field ∷ []) (req : c.req ≡ Some 1) (opened_ : Opened c s channel) where
  abbrev asked_type : Tree
  asked_type = type_of site channel

  abbrev question : Request
  question = requests.get_field c.sid 1 []

  heard_question : (b : Bool) → has_values channel ≡ b → (place : ℕ) → IsWritable question
      → heard site s (event_of order place question) ≡ asks (cond b (tell (field_told 1 asked_type)) (refuse (field_refused 1 (codes "channel has no value")))) s.types
  heard_question b valued place can =
      hears_it site s order place question (heard_now s (request_command question) opened_.now) can
      ∙ ap (λ (o : Option Channel). asks (asked_field site 1 [] o) s.types) opened_.there
      ∙ ap (λ (v : Bool). asks (cond v (told_field 1 (node_at [] asked_type)) (refuse (field_refused 1 (codes "channel has no value")))) s.types) valued
      ∙ ap (λ (o : Option Tree). asks (cond b (told_field 1 o) (refuse (field_refused 1 (codes "channel has no value")))) s.types) (root_is asked_type)

  pub info_turn : AllGo ask site Nothing c s (written order segment (said question) ∷ [])
  info_turn = by (has_values channel) refl
    where
      by : (b : Bool) → has_values channel ≡ b → AllGo ask site Nothing c s (written order segment (said question) ∷ [])
      by true valued =
          let r = reply.get_field 1 good (Some asked_type) in
          let t = finished (readied s.order c) turn.Field (of_type asked_type ∷ []) in
          turn_goes ask site Nothing c s order segment question (asks (tell (field_told 1 asked_type)) s.types) (none_due_at_first s opened_.none) (λ w. refl) (heard_question true valued)
          (λ marks sent answer. record {
            reply = r;
            sent_is = answer.sent_is;
            taken = Ok t;
            takes = λ place can.
                hears_reply ask c turn.Field [] s.order place r turns refl can (λ u none. absurd cc)
                ∙ ap (λ (q : Option ℕ). replied ask (readied s.order c) turn.Field [] (seen_reply r) (unless_own q 1)) req;
            on = inr (record { over = refl; ended = (endings.Finished, refl); ends = tt; now = opened_.now });
            keeps = λ z ms told more. absurd more;
          })
      by false valued =
          let why = error (codes "channel has no value") in
          let r = reply.get_field 1 why None in
          let t = ended (readied s.order c) turn.Field (refusal why ∷ []) in
          turn_goes ask site Nothing c s order segment question (asks (refuse (field_refused 1 (codes "channel has no value"))) s.types) (none_due_at_first s opened_.none) (λ w. refl) (heard_question false valued)
          (λ marks sent answer. record {
            reply = r;
            sent_is = answer.sent_is;
            taken = Ok t;
            takes = λ place can.
                hears_reply ask c turn.Field [] s.order place r turns refl can (λ u none. absurd cc)
                ∙ ap (λ (q : Option ℕ). replied ask (readied s.order c) turn.Field [] (seen_reply r) (unless_own q 1)) req;
            on = inr (record { over = refl; ended = (endings.Refused, refl); ends = tt; now = opened_.now });
            keeps = λ z ms told more. absurd more;
          })

-- A get.
module _ (ask : Ask) (site : SiteData) (channel : Channel) where
  abbrev got_type : Tree
  got_type = type_of site channel

  get_last : (wanted : Wanted) (c : State) (s : server.State) (order : Order) (segment : ℕ) → c.turns ≡ turn.Get ∷ [] → c.req ≡ Some 1 → c.ty ≡ Some got_type → s.validated ≡ true → channel_at s.channels c.sid ≡ Some channel
      → at s.requests 1 ≡ Some (ask_of kinds.Get c.sid wanted) → HasNoSubs s → AllGo ask site Nothing c s (written order segment (said (requests.get c.sid 1 0x00 None)) ∷ [])
  get_last wanted c s order segment turns req typed now there here none =
      let m = requests.get c.sid 1 0x00 None in
      let ask1 = ask_of kinds.Get c.sid wanted in
      let hearing = asks (get kinds.Get 1 0x00 ask1 channel) s.types in
      turn_goes ask site Nothing c s order segment m hearing (none_due s none) (λ w. refl)
      (λ place can. hears_it site s order place m (heard_now s (request_command m) now) can
      ∙ ap (λ (f : Result (Asked × Channel) (List ℕ)). asks (getting kinds.Get 1 0x00 f) s.types) (in_use s kinds.Get c.sid 1 channel there ask1 here (eq-eqb c.sid c.sid refl) refl))
      (λ marks sent answer.
      let p : PartData = record { ty = got_type; mask = wanted.mask; value = answer.value } in
      let r = reply.get 1 0x00 good None (Some p) in
      let known : Knows c s.order r =
      λ u same. ap (λ (q : Option ℕ). type_for q c.ty (request_id s.order (reply_command r) (reply_payload s.order r))) req
      ∙ ap (λ (y : Option Tree). type_for (Some 1) y (request_id s.order (reply_command r) (reply_payload s.order r))) typed
      ∙ ap (type_for (Some 1) (Some got_type)) (get_named s.order 0x00 good None (Some p)) ∙ same in
      let t = finished (readied s.order c) turn.Get (part (seen_part p) empty ∷ []) in
      record {
        reply = r;
        sent_is = answer.sent_is;
        taken = Ok t;
        takes = λ place can.
            hears_reply ask c turn.Get [] s.order place r turns refl can known
            ∙ ap (λ (q : Option ℕ). replied ask (readied s.order c) turn.Get [] (seen_reply r) (unless_own q 1)) req;
        on = inr (record { over = refl; ended = (endings.Finished, refl); ends = ends_only t.state.order t.state.segment c.sid c.req; now = now });
        keeps = λ z ms told more. absurd more;
      })

  module _ (c : State) (s : server.State) (order : Order) (segment : ℕ) (turns : c.turns ≡ turn.BeginGet ∷ turn.Get ∷ []) (req : c.req ≡ Some 1) (opened_ : Opened c s channel) where
    abbrev first_get : Request
    first_get = requests.get c.sid 1 0x08 (get_request ask)

    abbrev wished : Result Wanted RequestFault
    wished = request_of got_type roots.Field (get_request ask)

    heard_get : (b : Bool) → has_values channel ≡ b → (place : ℕ) → IsWritable first_get
        → heard site s (event_of order place first_get) ≡ asks (beginning_on site kinds.Get 1 0x08 c.sid (get_request ask) channel (unfit_for false b)) s.types
    heard_get b valued place can =
        hears_it site s order place first_get (heard_now s (request_command first_get) opened_.now) can
        ∙ ap (λ (x : Task). asks x s.types) (begins_on site s kinds.Get 1 0x08 c.sid (get_request ask) channel opened_.there opened_.none)
        ∙ ap (λ (v : Bool). asks (beginning_on site kinds.Get 1 0x08 c.sid (get_request ask) channel (unfit_for false v)) s.types) valued

    get_refused : (why : List ℕ) → ((place : ℕ) → IsWritable first_get → heard site s (event_of order place first_get) ≡ asks (refuse (refused kinds.Get 1 0x08 why)) s.types) → AllGo ask site Nothing c s (written order segment (said first_get) ∷ [])
    get_refused why hears_so =
        let r = reply.get 1 0x08 (error why) None None in
        let t = ended (readied s.order c) turn.BeginGet (refusal (error why) ∷ []) in
        turn_goes ask site Nothing c s order segment first_get (asks (refuse (refused kinds.Get 1 0x08 why)) s.types) (none_due_at_first s opened_.none) (λ w. refl) hears_so
        (λ marks sent answer. record {
          reply = r;
          sent_is = answer.sent_is;
          taken = Ok t;
          takes = λ place can.
              hears_reply ask c turn.BeginGet (turn.Get ∷ []) s.order place r turns refl can (λ u none. absurd cc)
              ∙ ap (λ (q : Option ℕ). replied ask (readied s.order c) turn.BeginGet (turn.Get ∷ []) (seen_reply r) (unless_own q 1)) req;
          on = inr (record { over = refl; ended = (endings.Refused, refl); ends = ends_only t.state.order t.state.segment c.sid c.req; now = opened_.now });
          keeps = λ z ms told more. absurd more;
        })

    get_begun : (wanted : Wanted) → ((place : ℕ) → IsWritable first_get → heard site s (event_of order place first_get) ≡ asks (begin kinds.Get 1 0x08 c.sid channel wanted) s.types) → AllGo ask site Nothing c s (written order segment (said first_get) ∷ [])
    get_begun wanted hears_so =
        let r = reply.get 1 0x08 good (Some got_type) None in
        let t = next ask (record (readied s.order c) { ty = Some got_type }) (turn.Get ∷ []) in
        let hearing = asks (begin kinds.Get 1 0x08 c.sid channel wanted) s.types in
        let ask1 = ask_of kinds.Get c.sid wanted in
        turn_goes ask site Nothing c s order segment first_get hearing (none_due_at_first s opened_.none) (λ w. refl) hears_so
        (λ marks sent answer. record {
          reply = r;
          sent_is = answer.sent_is;
          taken = Ok t;
          takes = λ place can.
              hears_reply ask c turn.BeginGet (turn.Get ∷ []) s.order place r turns refl can (λ u none. absurd cc)
              ∙ ap (λ (q : Option ℕ). replied ask (readied s.order c) turn.BeginGet (turn.Get ∷ []) (seen_reply r) (unless_own q 1)) req;
          on = inl (refl, get_last wanted t.state (after_hearing site s hearing marks) t.state.order t.state.segment refl req refl opened_.now opened_.there (got_inserted s.requests 1 ask1) (only_one s 1 ask1 opened_.none refl));
          keeps = λ z ms told more. absurd more;
        })

    pub get_turns : AllGo ask site Nothing c s (written order segment (said first_get) ∷ [])
    get_turns = by (has_values channel) refl
      where
        chosen_by : (w : Result Wanted RequestFault) → wished ≡ w → has_values channel ≡ true → AllGo ask site Nothing c s (written order segment (said first_get) ∷ [])
        chosen_by (Ok wanted) chosen valued =
            get_begun wanted (λ place can. heard_get true valued place can ∙ ap (λ (w : Result Wanted RequestFault). asks (beginning_as kinds.Get 1 0x08 c.sid channel w) s.types) chosen)
        chosen_by (Err fault) chosen valued =
            get_refused (fault_text fault) (λ place can. heard_get true valued place can ∙ ap (λ (w : Result Wanted RequestFault). asks (beginning_as kinds.Get 1 0x08 c.sid channel w) s.types) chosen)

        by : (b : Bool) → has_values channel ≡ b → AllGo ask site Nothing c s (written order segment (said first_get) ∷ [])
        by true valued = chosen_by wished refl valued
        by false valued = get_refused (codes "channel has no value") (heard_get false valued)

-- A call.
module _ (ask : Ask) (site : SiteData) (channel : Channel) (name : List ℕ) where
  module _ (c : State) (s : server.State) (order : Order) (segment : ℕ) (turns : c.turns ≡ turn.Call ∷ []) (req : c.req ≡ Some 1) (now : s.validated ≡ true) (there : channel_at s.channels c.sid ≡ Some channel)
      (here : at s.requests 1 ≡ Some (ask_of kinds.Rpc c.sid nothing_wanted)) (none : HasNoSubs s) where
    abbrev call : Request
    call = requests.rpc c.sid 1 0x00 (Some (uri ask.name name))

    abbrev CallGoes : Type 0
    CallGoes = AllGo ask site Nothing c s (written order segment (said call) ∷ [])

    heard_call : (r : Result RpcOp RpcRefusal) → operation_named name ≡ r → (place : ℕ) → IsWritable call → heard site s (event_of order place call) ≡ asks (called_for site 1 0x00 r) s.types
    heard_call r same place can =
        hears_it site s order place call (heard_now s (request_command call) now) can
        ∙ ap (λ (f : Result (Asked × Channel) (List ℕ)). asks (calling site 1 0x00 (Some (uri ask.name name)) f) s.types) (in_use s kinds.Rpc c.sid 1 channel there (ask_of kinds.Rpc c.sid nothing_wanted) here (eq-eqb c.sid c.sid refl) refl)
        ∙ ap (λ (r : Result RpcOp RpcRefusal). asks (called_for site 1 0x00 r) s.types) (named ask.name name ∙ same)

    -- a value is told
    value_reacts : (t : Tree) (value : Data) (hearing : Hearing) → (after_ : (marks : List Mark) → (after_hearing site s hearing marks).validated ≡ true) → (marks : List Mark) (sent : List replies.Sent) → sent ≡ replies.said (called 1 0x00 t value) ∷ []
        → Reacts ask site Nothing c s hearing marks sent
    value_reacts t value hearing after_ marks sent sent_is =
        let r = reply.rpc 1 0x00 good (Some (t, value)) in
        let v = finished (readied s.order c) turn.Call (part (record { ty = t; mask = leaves t; value = value }) empty ∷ []) in
        record {
          reply = r;
          sent_is = sent_is;
          taken = Ok v;
          takes = λ place can.
              hears_reply ask c turn.Call [] s.order place r turns refl can (λ u same. absurd cc)
              ∙ ap (λ (q : Option ℕ). replied ask (readied s.order c) turn.Call [] r (unless_own q 1)) req;
          on = inr (record { over = refl; ended = (endings.Finished, refl); ends = ends_only v.state.order v.state.segment c.sid c.req; now = after_ marks });
          keeps = λ z ms told more. absurd more;
        }

    refusal_reacts : (refusal_ : RpcRefusal) (marks : List Mark) (sent : List replies.Sent) → IsAnswer site s (asks (called_for site 1 0x00 (Err refusal_)) s.types) marks sent → Reacts ask site Nothing c s (asks (called_for site 1 0x00 (Err refusal_)) s.types) marks sent
    refusal_reacts refusal_ marks sent answer =
        let status = error (call_refusal refusal_) in
        let r = reply.rpc 1 0x00 status None in
        let v = ended (readied s.order c) turn.Call (refusal status ∷ []) in
        record {
          reply = r;
          sent_is = answer.sent_is;
          taken = Ok v;
          takes = λ place can.
              hears_reply ask c turn.Call [] s.order place r turns refl can (λ u same. absurd cc)
              ∙ ap (λ (q : Option ℕ). replied ask (readied s.order c) turn.Call [] r (unless_own q 1)) req;
          on = inr (record { over = refl; ended = (endings.Refused, refl); ends = ends_only v.state.order v.state.segment c.sid c.req; now = now });
          keeps = λ z ms told more. absurd more;
        }

    answered_with : (t : Tree) (value : Data) (r : Result RpcOp RpcRefusal) → operation_named name ≡ r → called_for site 1 0x00 r ≡ respond 1 0x00 (called 1 0x00 t value) → CallGoes
    answered_with t value r same task =
        let hearing = asks (respond 1 0x00 (called 1 0x00 t value)) s.types in
        turn_goes ask site Nothing c s order segment call hearing (none_due s none) (λ w. refl) (λ place can. heard_call r same place can ∙ ap (λ (x : Task). asks x s.types) task)
        (λ marks sent answer. value_reacts t value hearing (λ ms. now) marks sent answer.sent_is)

    pub call_last : CallGoes
    call_last = by (operation_named name) refl
      where
        by : (r : Result RpcOp RpcRefusal) → operation_named name ≡ r → CallGoes
        by (Ok services.Channels) same = answered_with channels_tree (channels_data (names_of site)) (Ok services.Channels) same refl
        by (Ok services.Info) same = answered_with info_tree (info_of site) (Ok services.Info) same refl
        by (Ok services.Snapshot) same =
            let hearing = asks (snapshot 1 0x00) s.types in
            turn_goes ask site Nothing c s order segment call hearing (none_due s none) (λ w. refl) (heard_call (Ok services.Snapshot) same)
            (λ marks sent answer. value_reacts snapshot_tree (rows_data answer.rows) hearing (λ ms. now) marks sent answer.sent_is)
        by (Err refusal_) same =
            turn_goes ask site Nothing c s order segment call (asks (called_for site 1 0x00 (Err refusal_)) s.types) (none_due s none) (λ w. refl) (heard_call (Err refusal_) same) (refusal_reacts refusal_)

  module _ (op : ask.operation ≡ operation.Call name) (c : State) (s : server.State) (order : Order) (segment : ℕ) (turns : c.turns ≡ turn.BeginCall ∷ turn.Call ∷ []) (req : c.req ≡ Some 1) (opened_ : Opened c s channel) where
    abbrev first_call : Request
    first_call = requests.rpc c.sid 1 0x08 call_request

    heard_first : (b : Bool) → has_values channel ≡ b → (place : ℕ) → IsWritable first_call
        → heard site s (event_of order place first_call) ≡ asks (beginning_on site kinds.Rpc 1 0x08 c.sid call_request channel (unfit_for true b)) s.types
    heard_first b valued place can =
        hears_it site s order place first_call (heard_now s (request_command first_call) opened_.now) can
        ∙ ap (λ (x : Task). asks x s.types) (begins_on site s kinds.Rpc 1 0x08 c.sid call_request channel opened_.there opened_.none)
        ∙ ap (λ (v : Bool). asks (beginning_on site kinds.Rpc 1 0x08 c.sid call_request channel (unfit_for true v)) s.types) valued

    pub call_turns : AllGo ask site Nothing c s (written order segment (said first_call) ∷ [])
    call_turns = by (has_values channel) refl
      where
        by : (b : Bool) → has_values channel ≡ b → AllGo ask site Nothing c s (written order segment (said first_call) ∷ [])
        by true valued =
            let why = codes "no service here" in
            let r = reply.rpc 1 0x08 (error why) None in
            let t = ended (readied s.order c) turn.BeginCall (refusal (error why) ∷ []) in
            turn_goes ask site Nothing c s order segment first_call (asks (refuse (refused kinds.Rpc 1 0x08 why)) s.types) (none_due_at_first s opened_.none) (λ w. refl) (heard_first true valued)
            (λ marks sent answer. record {
              reply = r;
              sent_is = answer.sent_is;
              taken = Ok t;
              takes = λ place can.
                  hears_reply ask c turn.BeginCall (turn.Call ∷ []) s.order place r turns refl can (λ u none. absurd cc)
                  ∙ ap (λ (q : Option ℕ). replied ask (readied s.order c) turn.BeginCall (turn.Call ∷ []) (seen_reply r) (unless_own q 1)) req;
              on = inr (record { over = refl; ended = (endings.Refused, refl); ends = ends_only t.state.order t.state.segment c.sid c.req; now = opened_.now });
              keeps = λ z ms told more. absurd more;
            })
        by false valued =
            let hearing = asks (begin kinds.Rpc 1 0x08 c.sid channel nothing_wanted) s.types in
            let r = reply.rpc 1 0x08 good None in
            let t = next ask (readied s.order c) (turn.Call ∷ []) in
            let ask1 = ask_of kinds.Rpc c.sid nothing_wanted in
            let call_is : written_of t ≡ written t.state.order t.state.segment (said (requests.rpc c.sid 1 0x00 (Some (uri ask.name name)))) ∷ [] =
            ap (λ (o : Operation). map (written t.state.order t.state.segment) (map said (call_message ask.name c.sid o))) op in
            turn_goes ask site Nothing c s order segment first_call hearing (none_due_at_first s opened_.none) (λ w. refl) (heard_first false valued)
            (λ marks sent answer.
            let after = after_hearing site s hearing marks in
            record {
              reply = r;
              sent_is = answer.sent_is;
              taken = Ok t;
              takes = λ place can.
                  hears_reply ask c turn.BeginCall (turn.Call ∷ []) s.order place r turns refl can (λ u none. absurd cc)
                  ∙ ap (λ (q : Option ℕ). replied ask (readied s.order c) turn.BeginCall (turn.Call ∷ []) (seen_reply r) (unless_own q 1)) req;
              on = inl (
                refl,
                subst (λ (ws : List Written). AllGo ask site Nothing t.state after ws) (sym call_is)
                    (call_last t.state after t.state.order t.state.segment refl req opened_.now opened_.there (got_inserted s.requests 1 ask1) (only_one s 1 ask1 opened_.none refl)),
              );
              keeps = λ z ms told more. absurd more;
            })
