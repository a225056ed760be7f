-- What is printed of a get.
use Rattle.std.proofs.Common.{◌≡◌, ℕ, Bool, true, false, ◌&&◌, eq-eqb, List, [], ◌∷◌, ◌++◌, map, Option, None, Some, Result, Ok, Err, refl, sym, ap, subst, ◌∙◌, arith}
use Rattle.std.proofs.lemmas.List.{append-nil}
use Rattle.std.specs.Prelude.{codes}
use Rattle.std.specs.FinMap.{get as at}
use Rattle.std.specs.FinSet.{empty}
use Rattle.pva_wire.specs.declared.order.Order.{Order}
use Rattle.pva_wire.specs.declared.status.Status.{Status}
use Rattle.pva_wire.specs.Spelling.{number_bytes}
use Rattle.pva_wire.specs.Status.{good}
use Rattle.pva_wire.proofs.Digits.{number_at_again}
use Rattle.pva_frames.specs.declared.event.Event.{Event}
use Rattle.pvd_type.specs.Tree.{Tree}
use Rattle.pvd_request.specs.Requests.{request_of}
use Rattle.pvd_request.specs.declared.request.Request.{Request as Wanted}
use Rattle.pvd_request.specs.declared.request.RequestFault.{RequestFault}
use Rattle.pvd_request.specs.declared.request.Root.TheVariants as roots
use Rattle.rec_kinds.specs.declared.state.RecState.{RecState}
use Rattle.pva_messages.specs.Fields.{PartData, byte, status}
use Rattle.pva_messages.specs.Laws.{IsWritable, reply_payload, seen_reply}
use Rattle.pva_messages.specs.Reading.{request_id, id_of}
use Rattle.pva_messages.specs.Replies as reply
use Rattle.pva_messages.specs.Replies.{reply_command, type_field, part_field}
use Rattle.pva_messages.specs.Requests as requests
use Rattle.pva_messages.specs.Requests.{Request, request_command}
use Rattle.pva_messages.specs.Rows.{byte_of, command_of}
use Rattle.pva_messages.specs.Subcommands.{begins, carries}
use Rattle.pva_messages.specs.Written.{canonical, seen_part}
use Rattle.pva_messages.specs.declared.command.Command.TheVariants as command
use Rattle.chan_table.specs.declared.ask.AskKind.TheVariants as kinds
use Rattle.desk_api.specs.Calls.{AreLooks, laid_by}
use Rattle.desk_api.specs.Sites.{channel_named, has_values}
use Rattle.desk_api.specs.Types.{type_of}
use Rattle.desk_api.specs.Views.{value_of, laid}
use Rattle.desk_api.specs.declared.channel.Channel.{Channel}
use Rattle.desk_api.specs.declared.history.SiteData.{SiteData}
use Rattle.desk_api.specs.declared.mark.Mark.{Mark}
use Rattle.srv_session.proofs.Finding.{in_use}
use Rattle.srv_session.proofs.Tables.{got_inserted}
use Rattle.srv_session.specs.Replies.{error, refused}
use Rattle.srv_session.specs.Rows.{ask_of}
use Rattle.srv_session.specs.State as server
use Rattle.srv_session.specs.State.{Asked, channel_at}
use Rattle.srv_session.specs.Steps.{Step, marks_of, after_hearing}
use Rattle.srv_session.specs.Tasks.{Task, asks, begin, refuse, get, getting, heard, fault_text, beginning_as, beginning_on, unfit_for}
use Rattle.cli_text.specs.Lines.{part_text}
use Rattle.cli_session.specs.Messages.{written, said, get_request, end_of}
use Rattle.cli_session.specs.State.{State}
use Rattle.cli_session.specs.Steps.{Taken, part, refusal, next, ended, finished, written_of, replied, type_for, run}
use Rattle.cli_session.specs.Answers.{unless_own}
use Rattle.cli_session.specs.Turns.{own_turns}
use Rattle.cli_session.specs.declared.ask.Ask.{Ask}
use Rattle.cli_session.specs.declared.ask.Operation.TheVariants as operation
use Rattle.cli_session.specs.declared.turn.Turn.{Turn}
use Rattle.cli_session.specs.declared.turn.Turn.TheVariants as turn
use Rattle.cli_within.specs.Answers.{found_by, shown_text, channel_text}
use Rattle.cli_within.proofs.Beginnings.{begins_on, only_one}
use Rattle.cli_within.proofs.ClientTurns.{readied, Knows, hears_reply, TellsText as Tells, waits_text as waits, text_on as tells_on, text_last as tells_last, Stand, took}
use Rattle.cli_within.proofs.Closings.{said_clear, quiet_end}
use Rattle.cli_within.proofs.Creations.{none_due_at_first, no_mark, GoesSoText as GoesSo}
use Rattle.cli_within.proofs.Infos.{answer, answer_valued, answer_unvalued}
use Rattle.cli_within.proofs.Openings.{Opened}
use Rattle.cli_within.proofs.SeenTexts.{seen_text}
use Rattle.cli_within.proofs.ServerTurns.{HasNoSubs, none_due, event_of, hears_it, heard_now, server_turn}

-- what the looks of a get found
pub looks_laid : (states : List RecState) (channel : Channel) (looks : List (List ℕ)) (marks : List Mark) → AreLooks channel looks marks → found_by states marks ≡ laid_by states marks
looks_laid states channel [] [] h = refl
looks_laid states channel [] (m ∷ marks) h = absurd h
looks_laid states channel (recs ∷ looks) [] h = absurd h
looks_laid states channel (recs ∷ looks) (m ∷ marks) h =
    let found = h.0.1.0 in
    ap (λ (x : Mark). found_by states (x ∷ marks)) h.0.1.1
    ∙ looks_laid (laid states recs found) channel looks marks h.1
    ∙ sym (ap (λ (x : Mark). laid_by states (x ∷ marks)) h.0.1.1)

-- the reply names the client's request
pub get_named : (order : Order) (sub : ℕ) (st : Status) (ty : Option Tree) (p : Option PartData) → request_id order (byte_of command.Get) (reply_payload order (reply.get 1 sub st ty p)) ≡ Some 1
unfolding command_of
get_named order sub st ty p =
    ap id_of (number_at_again order 4 (number_bytes order 4 1) (canonical order (byte sub ∷ status st ∷ (type_field (carries st && begins sub) ty ++ part_field p))) 1 (omega arith, refl))

module _ (ask : Ask) (site : SiteData) (channel : Channel) (is : channel_named site ask.name ≡ Some channel) (op : ask.operation ≡ operation.Get) where
  abbrev ty : Tree
  ty = type_of site channel

  abbrev text : List Mark → List ℕ
  text = answer ask site channel is

  abbrev wished : Result Wanted RequestFault
  wished = request_of ty roots.Field (get_request ask)

  text_so : (marks : List Mark) (w : Result Wanted RequestFault) → has_values channel ≡ true → wished ≡ w → text marks ≡ shown_text site marks channel w
  text_so marks w valued same = answer_valued ask site channel is marks operation.Get op valued ∙ ap (shown_text site marks channel) same

  module _ (wanted : Wanted) (valued : has_values channel ≡ true) (chosen : wished ≡ Ok wanted) where
    -- the value that is told
    abbrev told_part : List Mark → PartData
    told_part marks = record { ty = ty; mask = wanted.mask; value = value_of site channel (laid_by site.opening marks) }

    pub get_last : (c : State) (s : server.State) (order : Order) (segment : ℕ) (steps : List Step) (es : List Event) → c.turns ≡ turn.Get ∷ [] → c.req ≡ Some 1 → c.ty ≡ Some ty → s.validated ≡ true
        → channel_at s.channels c.sid ≡ Some channel → at s.requests 1 ≡ Some (ask_of kinds.Get c.sid wanted) → HasNoSubs s
        → Stand ask site c s (written order segment (said (requests.get c.sid 1 0x00 None)) ∷ []) steps es → Tells ask c es (text (marks_of steps))
    get_last c s order segment steps [] turns req typed now there here none stand = waits ask c (text (marks_of steps))
    get_last c s order segment steps (e ∷ es) turns req typed now there here none stand =
        let m = requests.get c.sid 1 0x00 None in
        let ask1 = ask_of kinds.Get c.sid wanted in
        let hearing = asks (get kinds.Get 1 0x00 ask1 channel) s.types in
        let hears_so : (place : ℕ) → IsWritable m → heard site s (event_of order place m) ≡ hearing =
        λ place can. hears_it site s order place m (heard_now s (request_command m) now) can
        ∙ ap (λ (f : Result (Asked × Channel) (List ℕ)). asks (getting kinds.Get 1 0x00 f) s.types) (in_use s kinds.Get c.sid 1 channel there ask1 here (eq-eqb c.sid c.sid refl) refl) in
        let a = server_turn site s order segment m hearing (none_due s none) hears_so steps (run ask c (e ∷ es)).sent e es stand.rules stand.heard_of stand.told_of in
        let p : PartData = record { ty = ty; mask = wanted.mask; value = a.answer.value } in
        let r = reply.get 1 0x00 good None (Some p) in
        let clear = said_clear site s hearing (run ask c (e ∷ es)).sent steps e es r a a.answer.sent_is in
        let known : Knows c s.order r =
        λ u same. ap (λ (q : Option ℕ). type_for q c.ty (request_id s.order (reply_command r) (reply_payload s.order r))) req
        ∙ ap (λ (y : Option Tree). type_for (Some 1) y (request_id s.order (reply_command r) (reply_payload s.order r))) typed
        ∙ ap (type_for (Some 1) (Some ty)) (get_named s.order 0x00 good None (Some p)) ∙ same in
        let t = finished (readied s.order c) turn.Get (part (seen_part p) empty ∷ []) in
        let k = took ask site c s hearing steps e es r t a a.answer.sent_is
        (λ place can. hears_reply ask c turn.Get [] s.order place r turns refl can known
        ∙ ap (λ (q : Option ℕ). replied ask (readied s.order c) turn.Get [] (seen_reply r) (unless_own q 1)) req) in
        let last : written_of t ≡ written t.state.order t.state.segment (said (requests.destroy_request c.sid 1)) ∷ [] =
        ap (λ (q : Option ℕ). map (written t.state.order t.state.segment) (map said (end_of c.sid q))) req in
        let rest = quiet_end ask site t (after_hearing site s hearing a.marks) a.later es t.state.order t.state.segment c.sid 1 refl last none now k.stand in
        let marks : marks_of steps ≡ a.marks = a.marks_are ∙ ap (λ (ms : List Mark). a.marks ++ ms) rest ∙ append-nil a.marks in
        let value : a.answer.value ≡ value_of site channel (found_by site.opening a.marks) =
        a.answer.is_get.value_is ∙ ap (value_of site channel) (sym (looks_laid site.opening channel _ a.marks a.answer.is_get.looks)) in
        let prints = append-nil (part_text p.mask empty ty (seen_part p).value) ∙ seen_text p empty clear.1.1.1.1.0.0
        ∙ (λ i. part_text wanted.mask empty ty (value i))
        ∙ sym (text_so a.marks (Ok wanted) valued chosen) ∙ ap text (sym marks) in
        tells_last ask c e es t (text (marks_of steps)) k.runs refl prints

  module _ (c : State) (s : server.State) (opened : Opened c s channel) (steps : List Step) where
    abbrev t0 : Taken
    t0 = next ask c (turn.BeginGet ∷ turn.Get ∷ [])

    abbrev message : Request
    message = requests.get c.sid 1 0x08 (get_request ask)

    heard_so : (b : Bool) → has_values channel ≡ b → (place : ℕ) → IsWritable message
        → heard site s (event_of t0.state.order place message) ≡ asks (beginning_on site kinds.Get 1 0x08 c.sid (get_request ask) channel (unfit_for false b)) s.types
    heard_so b valued place can =
        hears_it site s t0.state.order place message (heard_now s (request_command message) opened.now) can
        ∙ ap (λ (x : Task). asks x s.types) (begins_on site s kinds.Get 1 0x08 c.sid (get_request ask) channel opened.there opened.none)
        ∙ ap (λ (v : Bool). asks (beginning_on site kinds.Get 1 0x08 c.sid (get_request ask) channel (unfit_for false v)) s.types) valued

    refuses : (why : List ℕ) (e : Event) (es : List Event) → ((place : ℕ) → IsWritable message → heard site s (event_of t0.state.order place message) ≡ asks (refuse (refused kinds.Get 1 0x08 why)) s.types)
        → text (marks_of steps) ≡ [] → Stand ask site t0.state s (written_of t0) steps (e ∷ es) → Tells ask t0.state (e ∷ es) (text (marks_of steps))
    refuses why e es hears_so nothing stand =
        let hearing = asks (refuse (refused kinds.Get 1 0x08 why)) s.types in
        let a = server_turn site s t0.state.order t0.state.segment message hearing (none_due_at_first s opened.none) hears_so steps (run ask t0.state (e ∷ es)).sent e es stand.rules stand.heard_of stand.told_of in
        let r = reply.get 1 0x08 (error why) None None in
        let t = ended (readied s.order t0.state) turn.BeginGet (refusal (error why) ∷ []) in
        let k = took ask site t0.state s hearing steps e es r t a a.answer.sent_is
        (λ place can. hears_reply ask t0.state turn.BeginGet (turn.Get ∷ []) s.order place r refl refl can (λ u none. absurd cc)) in
        tells_last ask t0.state e es t (text (marks_of steps)) k.runs refl (sym nothing)

    begins_so : (wanted : Wanted) (e : Event) (es : List Event) → has_values channel ≡ true → wished ≡ Ok wanted → Stand ask site t0.state s (written_of t0) steps (e ∷ es) → Tells ask t0.state (e ∷ es) (text (marks_of steps))
    begins_so wanted e es valued chosen stand =
        let hearing = asks (begin kinds.Get 1 0x08 c.sid channel wanted) s.types in
        let hears_so : (place : ℕ) → IsWritable message → heard site s (event_of t0.state.order place message) ≡ hearing =
        λ place can. heard_so true valued place can ∙ ap (λ (w : Result Wanted RequestFault). asks (beginning_as kinds.Get 1 0x08 c.sid channel w) s.types) chosen in
        let a = server_turn site s t0.state.order t0.state.segment message hearing (none_due_at_first s opened.none) hears_so steps (run ask t0.state (e ∷ es)).sent e es stand.rules stand.heard_of stand.told_of in
        let r = reply.get 1 0x08 good (Some ty) None in
        let t = next ask (record (readied s.order t0.state) { ty = Some ty }) (turn.Get ∷ []) in
        let k = took ask site t0.state s hearing steps e es r t a a.answer.sent_is
        (λ place can. hears_reply ask t0.state turn.BeginGet (turn.Get ∷ []) s.order place r refl refl can (λ u none. absurd cc)) in
        let ask1 = ask_of kinds.Get c.sid wanted in
        let marks = no_mark (marks_of steps) a.marks (marks_of a.later) a.marks_are a.answer.marks_are in
        tells_on ask t0.state e es t (text (marks_of steps)) k.runs refl
        (subst (λ (ms : List Mark). Tells ask t.state es (text ms)) (sym marks)
        (get_last wanted valued chosen t.state (after_hearing site s hearing a.marks) t.state.order t.state.segment a.later es refl refl refl opened.now opened.there (got_inserted s.requests 1 ask1)
        (only_one s 1 ask1 opened.none refl) k.stand))

    get_turn : (es : List Event) → Stand ask site t0.state s (written_of t0) steps es → Tells ask t0.state es (text (marks_of steps))
    get_turn [] stand = waits ask t0.state (text (marks_of steps))
    get_turn (e ∷ es) stand = by (has_values channel) refl
      where
        chosen_by : (w : Result Wanted RequestFault) → wished ≡ w → has_values channel ≡ true → Tells ask t0.state (e ∷ es) (text (marks_of steps))
        chosen_by (Ok wanted) chosen valued = begins_so wanted e es valued chosen stand
        chosen_by (Err fault) chosen valued =
            refuses (fault_text fault) e es
            (λ place can. heard_so true valued place can ∙ ap (λ (w : Result Wanted RequestFault). asks (beginning_as kinds.Get 1 0x08 c.sid channel w) s.types) chosen)
            (text_so (marks_of steps) (Err fault) valued chosen) stand

        by : (b : Bool) → has_values channel ≡ b → Tells ask t0.state (e ∷ es) (text (marks_of steps))
        by true valued = chosen_by wished refl valued
        by false valued = refuses (codes "channel has no value") e es (heard_so false valued) (answer_unvalued ask site channel is (marks_of steps) operation.Get op valued) stand

pub get_goes : (ask : Ask) (site : SiteData) → ask.operation ≡ operation.Get → GoesSo ask site (λ marks. channel_text site marks ask (channel_named site ask.name))
get_goes ask site op channel is c s steps es opened left_ stand =
    subst
    (λ (ts : List Turn). Stand ask site (next ask c ts).state s (written_of (next ask c ts)) steps es → Tells ask (next ask c ts).state es (channel_text site (marks_of steps) ask (channel_named site ask.name)))
    (sym (ap own_turns op)) (get_turn ask site channel is op c s opened steps es) stand
