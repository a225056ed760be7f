-- What is printed of a call.
use Rattle.std.proofs.Common.{◌≡◌, ℕ, Bool, true, false, eq-eqb, List, [], ◌∷◌, ◌++◌, map, Option, None, Some, Result, Ok, Err, refl, sym, ap, subst, ◌∙◌}
use Rattle.std.proofs.lemmas.List.{append-nil}
use Rattle.std.specs.Prelude.{codes}
use Rattle.std.specs.FinMap.{get as at}
use Rattle.std.specs.FinSet.{empty}
use Rattle.pva_wire.specs.declared.order.Order.{Order}
use Rattle.pva_wire.specs.Status.{good}
use Rattle.pva_frames.specs.declared.event.Event.{Event}
use Rattle.pvd_type.specs.Numbers.{leaves}
use Rattle.pvd_type.specs.Tree.{Tree}
use Rattle.pvd_value.specs.Data.{Data}
use Rattle.pva_messages.specs.Laws.{IsWritable}
use Rattle.pva_messages.specs.Replies as reply
use Rattle.pva_messages.specs.Requests as requests
use Rattle.pva_messages.specs.Requests.{Request, request_command}
use Rattle.chan_table.specs.declared.ask.AskKind.TheVariants as kinds
use Rattle.rpc_services.specs.Answers.{channels_tree, channels_data, info_tree, snapshot_tree}
use Rattle.rpc_services.specs.Operations.{operation_named}
use Rattle.rpc_services.specs.declared.asking.RpcOp.{RpcOp}
use Rattle.rpc_services.specs.declared.asking.RpcOp.TheVariants as services
use Rattle.rpc_services.specs.declared.asking.RpcRefusal.{RpcRefusal}
use Rattle.desk_api.specs.Calls.{rows_shown}
use Rattle.desk_api.specs.Sites.{channel_named, has_values, names_of}
use Rattle.desk_api.specs.Types.{type_of}
use Rattle.desk_api.specs.declared.channel.Channel.{Channel}
use Rattle.desk_api.specs.declared.history.SiteData.{SiteData}
use Rattle.desk_api.specs.declared.mark.Mark.{Mark}
use Rattle.desk_api.specs.declared.rows.RecRow.{RecRow}
use Rattle.srv_session.proofs.Finding.{in_use}
use Rattle.srv_session.proofs.Tables.{got_inserted}
use Rattle.srv_session.specs.Replies.{error, refused, called}
use Rattle.srv_session.specs.Rows.{ask_of, rows_data}
use Rattle.srv_session.specs.State as server
use Rattle.srv_session.specs.State.{Asked, channel_at}
use Rattle.srv_session.specs.Steps.{Step, marks_of, after_hearing}
use Rattle.srv_session.specs.Tasks.{Task, Hearing, asks, begin, refuse, respond, snapshot, heard, calling, called_for, call_refusal, operation_in, info_of, nothing_wanted, beginning_on, unfit_for}
use Rattle.cli_text.specs.Lines.{part_text}
use Rattle.cli_session.specs.Messages.{Written, written, said, call_request, call_message}
use Rattle.cli_session.specs.State.{State}
use Rattle.cli_session.specs.Steps.{Taken, part, refusal, next, ended, finished, written_of, replied, run}
use Rattle.cli_session.specs.Answers.{unless_own}
use Rattle.cli_session.specs.Structures.{uri}
use Rattle.cli_session.specs.Turns.{own_turns}
use Rattle.cli_session.specs.declared.ask.Ask.{Ask}
use Rattle.cli_session.specs.declared.ask.Operation.{Operation}
use Rattle.cli_session.specs.declared.ask.Operation.TheVariants as operation
use Rattle.cli_session.specs.declared.turn.Turn.{Turn}
use Rattle.cli_session.specs.declared.turn.Turn.TheVariants as turn
use Rattle.cli_within.specs.Answers.{first_found, whole_text, service_text, channel_text}
use Rattle.cli_within.proofs.Beginnings.{begins_on, only_one}
use Rattle.cli_within.proofs.ClientTurns.{readied, hears_reply, TellsText as Tells, waits_text as waits, text_on as tells_on, text_last as tells_last, Stand, took}
use Rattle.cli_within.proofs.Creations.{none_due_at_first, no_mark, GoesSoText as GoesSo}
use Rattle.cli_within.proofs.Infos.{answer, answer_valued, answer_unvalued}
use Rattle.cli_within.proofs.Openings.{Opened}
use Rattle.cli_within.proofs.ServerTurns.{HasNoSubs, none_due, event_of, hears_it, heard_now, Answered, server_turn}

-- the argument of a call names its operation
pub named : (path name : List ℕ) → operation_in (Some (uri path name)) ≡ operation_named name
named path name = refl

module _ (ask : Ask) (site : SiteData) (channel : Channel) (is : channel_named site ask.name ≡ Some channel) (name : List ℕ) (op : ask.operation ≡ operation.Call name) where
  abbrev ty : Tree
  ty = type_of site channel

  abbrev text : List Mark → List ℕ
  text = answer ask site channel is

  text_so : (marks : List Mark) (r : Result RpcOp RpcRefusal) → has_values channel ≡ false → operation_named name ≡ r → text marks ≡ service_text site marks r
  text_so marks r valued same = answer_unvalued ask site channel is marks (operation.Call name) op valued ∙ ap (service_text site marks) same

  module _ (valued : has_values channel ≡ false) (c : State) (s : server.State) (order : Order) (segment : ℕ) (steps : List Step) (turns : c.turns ≡ turn.Call ∷ []) (req : c.req ≡ Some 1) (now : s.validated ≡ true)
      (there : channel_at s.channels c.sid ≡ Some channel) (here : at s.requests 1 ≡ Some (ask_of kinds.Rpc c.sid nothing_wanted)) (none : HasNoSubs s) (e : Event) (es : List Event) where
    abbrev call : Request
    call = requests.rpc c.sid 1 0x00 (Some (uri ask.name name))

    abbrev Stood : Type 0
    Stood = Stand ask site c s (written order segment (said call) ∷ []) steps (e ∷ es)

    abbrev Told_ : Type 0
    Told_ = Tells ask c (e ∷ es) (text (marks_of steps))

    heard_call : (r : Result RpcOp RpcRefusal) → operation_named name ≡ r → (place : ℕ) → IsWritable call → heard site s (event_of order place call) ≡ asks (called_for site 1 0x00 r) s.types
    heard_call r same place can =
        hears_it site s order place call (heard_now s (request_command call) now) can
        ∙ ap (λ (f : Result (Asked × Channel) (List ℕ)). asks (calling site 1 0x00 (Some (uri ask.name name)) f) s.types) (in_use s kinds.Rpc c.sid 1 channel there (ask_of kinds.Rpc c.sid nothing_wanted) here (eq-eqb c.sid c.sid refl) refl)
        ∙ ap (λ (r : Result RpcOp RpcRefusal). asks (called_for site 1 0x00 r) s.types) (named ask.name name ∙ same)

    abbrev Turn_ : Hearing → Type 0
    Turn_ hearing = Answered site s hearing (run ask c (e ∷ es)).sent steps (e ∷ es)

    turned : (hearing : Hearing) → ((place : ℕ) → IsWritable call → heard site s (event_of order place call) ≡ hearing) → Stood → Turn_ hearing
    turned hearing hears_so stand = server_turn site s order segment call hearing (none_due s none) hears_so steps (run ask c (e ∷ es)).sent e es stand.rules stand.heard_of stand.told_of

    -- a value is told
    tells_value : (t : Tree) (value : Data) (hearing : Hearing) (a : Turn_ hearing) → a.sent ≡ Rattle.srv_session.specs.Replies.said (called 1 0x00 t value) ∷ [] → text (marks_of steps) ≡ whole_text t value → Told_
    tells_value t value hearing a sent_is text_is =
        let r = reply.rpc 1 0x00 good (Some (t, value)) in
        let v = finished (readied s.order c) turn.Call (part (record { ty = t; mask = leaves t; value = value }) empty ∷ []) in
        let k = took ask site c s hearing steps e es r v a sent_is
        (λ place can. hears_reply ask c turn.Call [] s.order place r turns refl can (λ u same. absurd cc)
        ∙ ap (λ (q : Option ℕ). replied ask (readied s.order c) turn.Call [] r (unless_own q 1)) req) in
        tells_last ask c e es v (text (marks_of steps)) k.runs refl (append-nil (part_text (leaves t) empty t value) ∙ sym text_is)

    tells_refusal : (refusal_ : RpcRefusal) → operation_named name ≡ Err refusal_ → Stood → Told_
    tells_refusal refusal_ same stand =
        let status = error (call_refusal refusal_) in
        let hearing = asks (called_for site 1 0x00 (Err refusal_)) s.types in
        let a = turned hearing (heard_call (Err refusal_) same) stand in
        let r = reply.rpc 1 0x00 status None in
        let v = ended (readied s.order c) turn.Call (refusal status ∷ []) in
        let k = took ask site c s hearing steps e es r v a a.answer.sent_is
        (λ place can. hears_reply ask c turn.Call [] s.order place r turns refl can (λ u same. absurd cc)
        ∙ ap (λ (q : Option ℕ). replied ask (readied s.order c) turn.Call [] r (unless_own q 1)) req) in
        tells_last ask c e es v (text (marks_of steps)) k.runs refl (sym (text_so (marks_of steps) (Err refusal_) valued same))

    tells_snapshot : operation_named name ≡ Ok services.Snapshot → Stood → Told_
    tells_snapshot same stand =
        let hearing = asks (snapshot 1 0x00) s.types in
        let a = turned hearing (heard_call (Ok services.Snapshot) same) stand in
        let shot = a.answer.is_snapshot in
        let found : first_found (marks_of steps) ≡ shot.found =
        ap first_found a.marks_are ∙ ap (λ (ms : List Mark). first_found (ms ++ marks_of a.later)) shot.marks_are in
        let rows : rows_shown site.names (first_found (marks_of steps)) ≡ a.answer.rows = ap (rows_shown site.names) found ∙ sym shot.rows_are in
        tells_value snapshot_tree (rows_data a.answer.rows) hearing a a.answer.sent_is
        (text_so (marks_of steps) (Ok services.Snapshot) valued same ∙ ap (λ (rs : List RecRow). whole_text snapshot_tree (rows_data rs)) rows)

    tells_answer : (t : Tree) (value : Data) (r : Result RpcOp RpcRefusal) → operation_named name ≡ r → called_for site 1 0x00 r ≡ respond 1 0x00 (called 1 0x00 t value) → service_text site (marks_of steps) r ≡ whole_text t value → Stood → Told_
    tells_answer t value r same task text_is stand =
        let hearing = asks (respond 1 0x00 (called 1 0x00 t value)) s.types in
        let a = turned hearing (λ place can. heard_call r same place can ∙ ap (λ (x : Task). asks x s.types) task) stand in
        tells_value t value hearing a a.answer.sent_is (text_so (marks_of steps) r valued same ∙ text_is)

    call_taken : Stood → Told_
    call_taken stand = by (operation_named name) refl
      where
        by : (r : Result RpcOp RpcRefusal) → operation_named name ≡ r → Told_
        by (Ok services.Channels) same = tells_answer channels_tree (channels_data (names_of site)) (Ok services.Channels) same refl refl stand
        by (Ok services.Info) same = tells_answer info_tree (info_of site) (Ok services.Info) same refl refl stand
        by (Ok services.Snapshot) same = tells_snapshot same stand
        by (Err refusal_) same = tells_refusal refusal_ same stand

  call_last : (c : State) (s : server.State) (order : Order) (segment : ℕ) (steps : List Step) (es : List Event) → has_values channel ≡ false → c.turns ≡ turn.Call ∷ [] → c.req ≡ Some 1 → s.validated ≡ true → channel_at s.channels c.sid ≡ Some channel
      → at s.requests 1 ≡ Some (ask_of kinds.Rpc c.sid nothing_wanted) → HasNoSubs s
      → Stand ask site c s (written order segment (said (requests.rpc c.sid 1 0x00 (Some (uri ask.name name)))) ∷ []) steps es → Tells ask c es (text (marks_of steps))
  call_last c s order segment steps [] valued turns req now there here none stand = waits ask c (text (marks_of steps))
  call_last c s order segment steps (e ∷ es) valued turns req now there here none stand = call_taken valued c s order segment steps turns req now there here none e es stand

  module _ (c : State) (s : server.State) (opened : Opened c s channel) (steps : List Step) where
    abbrev t0 : Taken
    t0 = next ask c (turn.BeginCall ∷ turn.Call ∷ [])

    abbrev message : Request
    message = requests.rpc c.sid 1 0x08 call_request

    heard_so : (b : Bool) → has_values channel ≡ b → (place : ℕ) → IsWritable message
        → heard site s (event_of t0.state.order place message) ≡ asks (beginning_on site kinds.Rpc 1 0x08 c.sid call_request channel (unfit_for true b)) s.types
    heard_so b valued place can =
        hears_it site s t0.state.order place message (heard_now s (request_command message) opened.now) can
        ∙ ap (λ (x : Task). asks x s.types) (begins_on site s kinds.Rpc 1 0x08 c.sid call_request channel opened.there opened.none)
        ∙ ap (λ (v : Bool). asks (beginning_on site kinds.Rpc 1 0x08 c.sid call_request channel (unfit_for true v)) s.types) valued

    refuses : (e : Event) (es : List Event) → has_values channel ≡ true → Stand ask site t0.state s (written_of t0) steps (e ∷ es) → Tells ask t0.state (e ∷ es) (text (marks_of steps))
    refuses e es valued stand =
        let why = codes "no service here" in
        let hearing = asks (refuse (refused kinds.Rpc 1 0x08 why)) s.types in
        let a = server_turn site s t0.state.order t0.state.segment message hearing (none_due_at_first s opened.none) (heard_so true valued) steps (run ask t0.state (e ∷ es)).sent e es stand.rules stand.heard_of stand.told_of in
        let r = reply.rpc 1 0x08 (error why) None in
        let t = ended (readied s.order t0.state) turn.BeginCall (refusal (error why) ∷ []) in
        let k = took ask site t0.state s hearing steps e es r t a a.answer.sent_is
        (λ place can. hears_reply ask t0.state turn.BeginCall (turn.Call ∷ []) s.order place r refl refl can (λ u none. absurd cc)) in
        tells_last ask t0.state e es t (text (marks_of steps)) k.runs refl (sym (answer_valued ask site channel is (marks_of steps) (operation.Call name) op valued))

    begins_so : (e : Event) (es : List Event) → has_values channel ≡ false → Stand ask site t0.state s (written_of t0) steps (e ∷ es) → Tells ask t0.state (e ∷ es) (text (marks_of steps))
    begins_so e es valued stand =
        let hearing = asks (begin kinds.Rpc 1 0x08 c.sid channel nothing_wanted) s.types in
        let a = server_turn site s t0.state.order t0.state.segment message hearing (none_due_at_first s opened.none) (heard_so false valued) steps (run ask t0.state (e ∷ es)).sent e es stand.rules stand.heard_of stand.told_of in
        let r = reply.rpc 1 0x08 good None in
        let t = next ask (readied s.order t0.state) (turn.Call ∷ []) in
        let k = took ask site t0.state s hearing steps e es r t a a.answer.sent_is
        (λ place can. hears_reply ask t0.state turn.BeginCall (turn.Call ∷ []) s.order place r refl refl can (λ u none. absurd cc)) in
        let ask1 = ask_of kinds.Rpc c.sid nothing_wanted in
        let after = after_hearing site s hearing a.marks in
        let call_is : written_of t ≡ written t.state.order t.state.segment (said (requests.rpc c.sid 1 0x00 (Some (uri ask.name name)))) ∷ [] =
        ap (λ (o : Operation). map (written t.state.order t.state.segment) (map said (call_message ask.name c.sid o))) op in
        let marks = no_mark (marks_of steps) a.marks (marks_of a.later) a.marks_are a.answer.marks_are in
        tells_on ask t0.state e es t (text (marks_of steps)) k.runs refl
        (subst (λ (ms : List Mark). Tells ask t.state es (text ms)) (sym marks)
        (call_last t.state after t.state.order t.state.segment a.later es valued refl refl opened.now opened.there (got_inserted s.requests 1 ask1)
        (only_one s 1 ask1 opened.none refl) (subst (λ (ws : List Written). Stand ask site t.state after ws a.later es) call_is k.stand)))

    call_turn : (es : List Event) → Stand ask site t0.state s (written_of t0) steps es → Tells ask t0.state es (text (marks_of steps))
    call_turn [] stand = waits ask t0.state (text (marks_of steps))
    call_turn (e ∷ es) stand = by (has_values channel) refl
      where
        by : (b : Bool) → has_values channel ≡ b → Tells ask t0.state (e ∷ es) (text (marks_of steps))
        by true valued = refuses e es valued stand
        by false valued = begins_so e es valued stand

pub call_goes : (ask : Ask) (site : SiteData) (name : List ℕ) → ask.operation ≡ operation.Call name → GoesSo ask site (λ marks. channel_text site marks ask (channel_named site ask.name))
call_goes ask site name op channel is c s steps es opened left_ stand =
    subst
    (λ (ts : List Turn). Stand ask site (next ask c ts).state s (written_of (next ask c ts)) steps es → Tells ask (next ask c ts).state es (channel_text site (marks_of steps) ask (channel_named site ask.name)))
    (sym (ap own_turns op)) (call_turn ask site channel is name op c s opened steps es) stand
