-- What is printed of a question for a type.
use Rattle.std.proofs.Common.{◌≡◌, ℕ, Bool, true, false, cond, List, [], ◌∷◌, Option, None, Some, refl, sym, ap, subst, ◌∙◌}
use Rattle.std.proofs.lemmas.List.{append-nil}
use Rattle.std.specs.Prelude.{codes}
use Rattle.pva_wire.specs.Status.{good}
use Rattle.pva_frames.specs.declared.event.Event.{Event}
use Rattle.pvd_type.specs.Tree.{Tree, leaf, node}
use Rattle.pvd_request.specs.Requests.{part_at as node_at}
use Rattle.pva_messages.specs.Replies as reply
use Rattle.pva_messages.specs.Laws.{IsWritable}
use Rattle.pva_messages.specs.Requests as requests
use Rattle.pva_messages.specs.Requests.{Request, request_command}
use Rattle.desk_api.specs.Sites.{channel_named, has_values}
use Rattle.desk_api.specs.Types.{type_of}
use Rattle.desk_api.specs.declared.channel.Channel.{Channel}
use Rattle.desk_api.specs.declared.history.SiteData.{SiteData}
use Rattle.desk_api.specs.declared.mark.Mark.{Mark}
use Rattle.srv_session.specs.Replies.{error, field_told, field_refused}
use Rattle.srv_session.specs.State as server
use Rattle.srv_session.specs.Steps.{Step, marks_of}
use Rattle.srv_session.specs.Tasks.{asks, tell, refuse, heard, told_field, asked_field}
use Rattle.cli_text.specs.Lines.{type_text}
use Rattle.cli_session.specs.State.{State}
use Rattle.cli_session.specs.Steps.{Taken, next, ended, finished, refusal, of_type, written_of, run}
use Rattle.cli_session.specs.Turns.{own_turns}
use Rattle.cli_session.specs.declared.ask.Ask.{Ask}
use Rattle.cli_session.specs.declared.ask.Operation.{Operation}
use Rattle.cli_session.specs.declared.ask.Operation.TheVariants as operation
use Rattle.cli_session.specs.declared.turn.Turn.{Turn}
use Rattle.cli_session.specs.declared.turn.Turn.TheVariants as turn
use Rattle.cli_within.specs.Answers.{valued_text, unvalued_text, channel_text}
use Rattle.cli_within.proofs.ClientTurns.{readied, hears_reply, TellsText as Tells, waits_text as waits, text_last as tells_last, Stand, took}
use Rattle.cli_within.proofs.Creations.{none_due_at_first, GoesSoText as GoesSo}
use Rattle.cli_within.proofs.Openings.{Opened}
use Rattle.cli_within.proofs.ServerTurns.{event_of, hears_it, heard_now, server_turn}

pub root_is : (t : Tree) → node_at [] t ≡ Some t
root_is (leaf l) = refl
root_is (node k id fs) = refl

module _ (ask : Ask) (site : SiteData) (channel : Channel) (is : channel_named site ask.name ≡ Some channel) where
  abbrev pub answer : List Mark → List ℕ
  answer marks = channel_text site marks ask (channel_named site ask.name)

  -- by whether it has values
  pub answer_valued : (marks : List Mark) (op : Operation) → ask.operation ≡ op → has_values channel ≡ true → answer marks ≡ valued_text site marks ask channel op
  answer_valued marks op same valued =
      ap (channel_text site marks ask) is
      ∙ ap (λ (b : Bool). cond b (valued_text site marks ask channel ask.operation) (unvalued_text site marks ask.operation)) valued
      ∙ ap (valued_text site marks ask channel) same

  pub answer_unvalued : (marks : List Mark) (op : Operation) → ask.operation ≡ op → has_values channel ≡ false → answer marks ≡ unvalued_text site marks op
  answer_unvalued marks op same valued =
      ap (channel_text site marks ask) is
      ∙ ap (λ (b : Bool). cond b (valued_text site marks ask channel ask.operation) (unvalued_text site marks ask.operation)) valued
      ∙ ap (unvalued_text site marks) same

  module _ (op : ask.operation ≡ operation.Info) (c : State) (s : server.State) (opened : Opened c s channel) (steps : List Step) where
    abbrev t0 : Taken
    t0 = next ask c (turn.Field ∷ [])

    abbrev ty : Tree
    ty = type_of site channel

    abbrev question : Request
    question = requests.get_field c.sid 1 []

    heard_so : (b : Bool) → has_values channel ≡ b → (place : ℕ) → IsWritable question
        → heard site s (event_of t0.state.order place question) ≡ asks (cond b (tell (field_told 1 ty)) (refuse (field_refused 1 (codes "channel has no value")))) s.types
    heard_so b valued place can =
        hears_it site s t0.state.order place question (heard_now s (request_command question) opened.now) can
        ∙ ap (λ (o : Option Channel). asks (asked_field site 1 [] o) s.types) opened.there
        ∙ ap (λ (v : Bool). asks (cond v (told_field 1 (node_at [] ty)) (refuse (field_refused 1 (codes "channel has no value")))) s.types) valued
        ∙ ap (λ (o : Option Tree). asks (cond b (told_field 1 o) (refuse (field_refused 1 (codes "channel has no value")))) s.types) (root_is ty)

    told_type : (e : Event) (es : List Event) → has_values channel ≡ true → Stand ask site t0.state s (written_of t0) steps (e ∷ es) → Tells ask t0.state (e ∷ es) (answer (marks_of steps))
    told_type e es valued stand =
        let hearing = asks (tell (field_told 1 ty)) s.types in
        let a = server_turn site s t0.state.order t0.state.segment question hearing (none_due_at_first s opened.none) (heard_so true valued) steps (run ask t0.state (e ∷ es)).sent e es stand.rules stand.heard_of stand.told_of in
        let r = reply.get_field 1 good (Some ty) in
        let t = finished (readied s.order t0.state) turn.Field (of_type ty ∷ []) in
        let k = took ask site t0.state s hearing steps e es r t a a.answer.sent_is (λ place can. hears_reply ask t0.state turn.Field [] s.order place r refl refl can (λ u none. absurd cc)) in
        tells_last ask t0.state e es t (answer (marks_of steps)) k.runs refl (append-nil (type_text ty) ∙ sym (answer_valued (marks_of steps) operation.Info op valued))

    refused_type : (e : Event) (es : List Event) → has_values channel ≡ false → Stand ask site t0.state s (written_of t0) steps (e ∷ es) → Tells ask t0.state (e ∷ es) (answer (marks_of steps))
    refused_type e es valued stand =
        let status = error (codes "channel has no value") in
        let hearing = asks (refuse (field_refused 1 (codes "channel has no value"))) s.types in
        let a = server_turn site s t0.state.order t0.state.segment question hearing (none_due_at_first s opened.none) (heard_so false valued) steps (run ask t0.state (e ∷ es)).sent e es stand.rules stand.heard_of stand.told_of in
        let r = reply.get_field 1 status None in
        let t = ended (readied s.order t0.state) turn.Field (refusal status ∷ []) in
        let k = took ask site t0.state s hearing steps e es r t a a.answer.sent_is (λ place can. hears_reply ask t0.state turn.Field [] s.order place r refl refl can (λ u none. absurd cc)) in
        tells_last ask t0.state e es t (answer (marks_of steps)) k.runs refl (sym (answer_unvalued (marks_of steps) operation.Info op valued))

    field_turn : (es : List Event) → Stand ask site t0.state s (written_of t0) steps es → Tells ask t0.state es (answer (marks_of steps))
    field_turn [] stand = waits ask t0.state (answer (marks_of steps))
    field_turn (e ∷ es) stand = by (has_values channel) refl
      where
        by : (b : Bool) → has_values channel ≡ b → Tells ask t0.state (e ∷ es) (answer (marks_of steps))
        by true valued = told_type e es valued stand
        by false valued = refused_type e es valued stand

pub info_goes : (ask : Ask) (site : SiteData) → ask.operation ≡ operation.Info → GoesSo ask site (λ marks. channel_text site marks ask (channel_named site ask.name))
info_goes ask site op channel is c s steps es opened left_ stand =
    subst
    (λ (ts : List Turn). Stand ask site (next ask c ts).state s (written_of (next ask c ts)) steps es → Tells ask (next ask c ts).state es (channel_text site (marks_of steps) ask (channel_named site ask.name)))
    (sym (ap own_turns op)) (field_turn ask site channel is op c s opened steps es) stand
