-- One turn of a client: what it makes of the next reply of a server.
use Rattle.std.proofs.Common.{◌≡◌, ℕ, Bool, true, false, cond, List, [], ◌∷◌, ◌++◌, Option, None, Some, Result, Ok, refl, sym, ap, subst, ◌∙◌}
use Rattle.std.proofs.lemmas.List.{append-nil}
use Rattle.std.specs.List.{flat_map}
use Rattle.pva_wire.specs.declared.order.Order.{Order}
use Rattle.pva_wire.specs.declared.status.Status.{Status}
use Rattle.pva_frames.specs.declared.event.Whole.{Whole}
use Rattle.pva_frames.specs.declared.event.Event.{Event}
use Rattle.pva_frames.specs.declared.event.Event.TheVariants.{Message}
use Rattle.pvd_type.specs.Tree.{Tree}
use Rattle.mon_queue.specs.declared.update.Update.{Update}
use Rattle.pva_messages.proofs.RepliesBack.{reply_back}
use Rattle.pva_messages.specs.Laws.{IsReplyWritable, reply_payload, reply_type, seen_reply}
use Rattle.pva_messages.specs.Reading.{reply_at, request_id}
use Rattle.pva_messages.specs.Replies.{Reply, reply_command}
use Rattle.histories.specs.History.{IsPrefixOf}
use Rattle.desk_api.specs.declared.history.SiteData.{SiteData}
use Rattle.srv_session.specs.Replies as replies
use Rattle.srv_session.specs.State as server
use Rattle.srv_session.specs.Steps.{Step, after_hearing, events_of}
use Rattle.srv_session.specs.Tasks.{Hearing}
use Rattle.cli_session.specs.Messages.{Written}
use Rattle.cli_session.specs.State.{State}
use Rattle.cli_session.specs.Steps.{Told, refusal, Taken, Run, quietly, written_of, and_then, going_on, is_reply, type_for, heard, heard_reply, step, step_at, run}
use Rattle.cli_session.specs.Text.{told_text}
use Rattle.cli_session.specs.declared.ask.Ask.{Ask}
use Rattle.cli_session.specs.declared.fault.ClientFault.{ClientFault}
use Rattle.cli_session.specs.declared.turn.Turn.{Turn}
use Rattle.cli_within.specs.Ends.{ending_of}
use Rattle.cli_within.specs.Updates.{AreUpdatesTold}
use Rattle.cli_within.specs.declared.stop.Ending.{Ending}
use Rattle.cli_within.proofs.Broken.{AreMade}
use Rattle.cli_within.proofs.Said.{AreRequests, AreReplies, speak, spoken}
use Rattle.cli_within.proofs.ServerTurns.{Answered}

-- a client behind the header of a message in this order
abbrev pub readied : Order → State → State
readied order s = record s { order = cond s.order_told order s.order; order_told = false }

-- a reply, wherever it stands
abbrev pub reply_event : Order → ℕ → Reply → Event
reply_event order place r = Message (record { order = order; command = reply_command r; payload = reply_payload order r; place = place })

-- the client knows the type of its part
abbrev pub Knows : State → Order → Reply → Type 0
Knows s order r = (t : Tree) → reply_type r ≡ Some t → type_for s.req s.ty (request_id order (reply_command r) (reply_payload order r)) ≡ Some t

-- it is read as the reply that was said
pub hears_reply : (ask : Ask) (s : State) (turn : Turn) (later : List Turn) (order : Order) (place : ℕ) (r : Reply) → s.turns ≡ turn ∷ later → is_reply (reply_command r) ≡ true → IsReplyWritable r → Knows s order r
    → step ask s (reply_event order place r) ≡ heard_reply ask (readied order s) turn later (seen_reply r)
hears_reply ask s turn later order place r turns awaited can knows =
    let w : Whole = record { order = order; command = reply_command r; payload = reply_payload order r; place = place } in
    let here = readied order s in
    let known = type_for s.req s.ty (request_id order (reply_command r) (reply_payload order r)) in
    ap (λ (ts : List Turn). step_at ask s ts (Message w)) turns
    ∙ ap (λ (b : Bool). cond b (heard ask here turn later w (reply_at order known (reply_command r) (reply_payload order r, s.types))) (Ok (quietly here))) awaited
    ∙ ap (heard ask here turn later w) (reply_back order s.types r known can knows)

-- an event that is taken
pub run_one : (ask : Ask) (s : State) (e : Event) (es : List Event) (t : Taken) → step ask s e ≡ Ok t → run ask s (e ∷ es) ≡ and_then t (run ask t.state es)
run_one ask s e es t is = ap (λ (r : Result Taken ClientFault). going_on s r (λ u. run ask u es)) is

-- behind its end an operation tells and sends nothing
pub nothing_told : (ask : Ask) (s : State) (es : List Event) → s.turns ≡ [] → (run ask s es).told ≡ []
nothing_told ask s [] none = refl
nothing_told ask s (e ∷ es) none =
    ap (λ (r : Run). r.told) (run_one ask s e es (quietly s) (ap (λ (ts : List Turn). step_at ask s ts e) none)) ∙ nothing_told ask s es none

pub nothing_sent : (ask : Ask) (s : State) (es : List Event) → s.turns ≡ [] → (run ask s es).sent ≡ []
nothing_sent ask s [] none = refl
nothing_sent ask s (e ∷ es) none =
    ap (λ (r : Run). r.sent) (run_one ask s e es (quietly s) (ap (λ (ts : List Turn). step_at ask s ts e) none)) ∙ nothing_sent ask s es none

-- What is to be told: the text, and of a monitor the type of its channel and its updates.
pub record Expected : Type 0 where
  pub text : List ℕ
  pub updates : Option (Tree × List Update)

-- a text alone
abbrev pub only : List ℕ → Expected
only text = record { text = text; updates = None }

abbrev pub AreUpdatesIf : List Told → Option (Tree × List Update) → Type 0
AreUpdatesIf told None = Unit {0}
AreUpdatesIf told (Some u) = AreUpdatesTold u.0 told u.1

none_told : (o : Option (Tree × List Update)) → AreUpdatesIf [] o
none_told None = tt
none_told (Some u) = tt

pub refusal_told : (status : Status) (o : Option (Tree × List Update)) → AreUpdatesIf (refusal status ∷ []) o
refusal_told status None = tt
refusal_told status (Some u) = refl

-- Where the operation ends over these events, this is printed, and otherwise a front of it; and the updates of a monitor are
-- told one after another.
pub record Tells (ask : Ask) (s : State) (es : List Event) (x : Expected) : Type 0 where
  pub whole : (end : Ending) → ending_of (run ask s es).told ≡ Some end → flat_map told_text (run ask s es).told ≡ x.text
  pub front : IsPrefixOf (flat_map told_text (run ask s es).told) x.text
  pub updates : AreUpdatesIf (run ask s es).told x.updates

pub waits : (ask : Ask) (s : State) (x : Expected) → Tells ask s [] x
waits ask s x = record { whole = λ end over. absurd cc; front = record { rest = x.text; whole = refl }; updates = none_told x.updates }

-- an event of which nothing is told
pub tells_on : (ask : Ask) (s : State) (e : Event) (es : List Event) (t : Taken) (x : Expected) → run ask s (e ∷ es) ≡ and_then t (run ask t.state es) → t.told ≡ [] → Tells ask t.state es x → Tells ask s (e ∷ es) x
tells_on ask s e es t x is quiet tells =
    let same : (run ask s (e ∷ es)).told ≡ (run ask t.state es).told = ap (λ (r : Run). r.told) is ∙ ap (λ (xs : List Told). xs ++ (run ask t.state es).told) quiet in
    record {
      whole = λ end over. ap (flat_map told_text) same ∙ tells.whole end (sym (ap ending_of same) ∙ over);
      front = subst (λ (xs : List Told). IsPrefixOf (flat_map told_text xs) x.text) (sym same) tells.front;
      updates = subst (λ (xs : List Told). AreUpdatesIf xs x.updates) (sym same) tells.updates;
    }

-- the event that ends it
pub tells_last : (ask : Ask) (s : State) (e : Event) (es : List Event) (t : Taken) (x : Expected) → run ask s (e ∷ es) ≡ and_then t (run ask t.state es) → t.state.turns ≡ [] → flat_map told_text t.told ≡ x.text → AreUpdatesIf t.told x.updates
    → Tells ask s (e ∷ es) x
tells_last ask s e es t x is none prints updates =
    let same : (run ask s (e ∷ es)).told ≡ t.told =
    ap (λ (r : Run). r.told) is ∙ ap (λ (xs : List Told). t.told ++ xs) (nothing_told ask t.state es none) ∙ append-nil t.told in
    let full : flat_map told_text (run ask s (e ∷ es)).told ≡ x.text = ap (flat_map told_text) same ∙ prints in
    record {
      whole = λ end over. full;
      front = record { rest = []; whole = sym full ∙ sym (append-nil (flat_map told_text (run ask s (e ∷ es)).told)) };
      updates = subst (λ (xs : List Told). AreUpdatesIf xs x.updates) (sym same) updates;
    }

-- The same of a text alone.

abbrev pub TellsText : Ask → State → List Event → List ℕ → Type 0
TellsText ask s es text = Tells ask s es (only text)

pub waits_text : (ask : Ask) (s : State) (text : List ℕ) → TellsText ask s [] text
waits_text ask s text = waits ask s (only text)

pub text_on : (ask : Ask) (s : State) (e : Event) (es : List Event) (t : Taken) (text : List ℕ) → run ask s (e ∷ es) ≡ and_then t (run ask t.state es) → t.told ≡ [] → TellsText ask t.state es text → TellsText ask s (e ∷ es) text
text_on ask s e es t text is quiet tells = tells_on ask s e es t (only text) is quiet tells

pub text_last : (ask : Ask) (s : State) (e : Event) (es : List Event) (t : Taken) (text : List ℕ) → run ask s (e ∷ es) ≡ and_then t (run ask t.state es) → t.state.turns ≡ [] → flat_map told_text t.told ≡ text → TellsText ask s (e ∷ es) text
text_last ask s e es t text is none prints = tells_last ask s e es t (only text) is none prints tt

-- A client and a server: these were sent and are not heard yet, and of what these steps say the client takes these events.
-- The last step may have broken off.
pub record Stand (ask : Ask) (site : SiteData) (c : State) (s : server.State) (ws : List Written) (steps : List Step) (es : List Event) : Type 0 where
  pub rules : AreMade site s steps
  pub heard_of : AreRequests (events_of steps) (ws ++ (run ask c es).sent)
  pub told_of : AreReplies es (spoken site s steps)

-- The client took the one reply of the server's turn.
pub record Took (ask : Ask) (site : SiteData) (c : State) (s : server.State) (steps : List Step) (e : Event) (es : List Event) (t : Taken) : Type 0 where
  pub runs : run ask c (e ∷ es) ≡ and_then t (run ask t.state es)
  pub stand : Stand ask site t.state s (written_of t) steps es

pub took : (ask : Ask) (site : SiteData) (c : State) (s : server.State) (hearing : Hearing) (steps : List Step) (e : Event) (es : List Event) (r : Reply) (t : Taken) (a : Answered site s hearing (run ask c (e ∷ es)).sent steps (e ∷ es))
    → a.sent ≡ replies.said r ∷ [] → ((place : ℕ) → IsReplyWritable r → step ask c (reply_event s.order place r) ≡ Ok t) → Took ask site c (after_hearing site s hearing a.marks) a.later e es t
took ask site c s hearing steps e es r t a sent_is takes =
    let next = after_hearing site s hearing a.marks in
    let told_now : AreReplies (e ∷ es) (speak s.order s.segment (replies.said r ∷ []) ++ spoken site next a.later) =
    subst (λ (xs : List replies.Sent). AreReplies (e ∷ es) (speak s.order s.segment xs ++ spoken site next a.later)) sent_is a.told in
    let runs_ = run_one ask c e es t (ap (step ask c) told_now.0.1 ∙ takes told_now.0.0 told_now.0.2) in
    record {
      runs = runs_;
      stand = record {
        rules = a.rules;
        heard_of = subst (AreRequests (events_of a.later)) (ap (λ (x : Run). x.sent) runs_) a.heard;
        told_of = told_now.1;
      };
    }
