-- A client of a monitor sends at most one message that begins one.
use Rattle.std.proofs.Common.{◌≡◌, ℕ, ◌==◌, Bool, true, false, cond, List, [], ◌∷◌, ◌++◌, map, Option, None, Some, Result, Ok, Err, refl, sym, ap, subst, inl, inr}
use Rattle.std.specs.Prelude.{◌⊎◌, nat_lt, ◌-◌}
use Rattle.pva_wire.specs.declared.order.Order.{Order}
use Rattle.pva_frames.specs.declared.event.Whole.{Whole}
use Rattle.pva_frames.specs.declared.event.Event.{Event}
use Rattle.pva_frames.specs.declared.event.Event.TheVariants.{Message, Control}
use Rattle.pvd_codec.specs.Reading.{Read, State as Source}
use Rattle.pvd_codec.specs.Written.{CanEach}
use Rattle.pva_messages.specs.Fields.{PartData}
use Rattle.pva_messages.specs.Replies.{Reply}
use Rattle.pva_messages.specs.Reading.{reply_at, request_id}
use Rattle.pva_messages.specs.Requests as requests
use Rattle.pva_messages.specs.Subcommands.{begins}
use Rattle.cli_text.specs.declared.fault.PutText.{PutText}
use Rattle.cli_session.specs.Answers.{Answer, greeted, accepted, created, begun, present, value, described, outcome, done, refused, update, answer_of, foreign_id}
use Rattle.cli_session.specs.Messages.{Sent, said, control, Written, written, validation, messages, monitor_beginning, last_messages, end_of, acknowledgement, window_of}
use Rattle.cli_session.specs.State.{State, opening, segment_for}
use Rattle.cli_session.specs.Steps.{Told, Taken, quietly, echoing, saying, next, finished, ended, update_told, words_of, read_words, put_next, after_answer, answered, replied, heard, is_reply, type_for, in_order, going_on, step, step_at, run, written_of, client_sent}
use Rattle.cli_session.specs.Turns.{own_turns}
use Rattle.cli_session.specs.declared.ask.Ask.{Ask}
use Rattle.cli_session.specs.declared.ask.Operation.{Operation}
use Rattle.cli_session.specs.declared.ask.Operation.TheVariants as operation
use Rattle.cli_session.specs.declared.fault.ClientFault.{ClientFault}
use Rattle.cli_session.specs.declared.turn.Turn.{Turn}
use Rattle.cli_session.specs.declared.turn.Turn.TheVariants as turn

-- what a client of a monitor sends besides the message that begins it
abbrev pub IsPlain : Sent → Type 0
IsPlain (control command number) = Unit {0}
IsPlain (said (requests.validation buffer registry qos method argument)) = Unit {0}
IsPlain (said (requests.create names)) = Unit {0}
IsPlain (said (requests.destroy_request sid req)) = Unit {0}
IsPlain (said (requests.monitor sid req sub v count)) = begins sub ≡ false
IsPlain (said m) = ⊥

abbrev pub IsPlainWritten : Written → Type 0
IsPlainWritten w = IsPlain w.sent

abbrev pub IsMonitor : Sent → Type 0
IsMonitor (control command number) = ⊥
IsMonitor (said (requests.monitor sid req sub v count)) = Unit {0}
IsMonitor (said m) = ⊥

-- at most one of these may begin a monitor, where one may yet, and else none
abbrev pub Lone : Bool → List Written → Type 0
Lone b [] = Unit {0}
Lone b (w ∷ ws) = (IsPlain w.sent × Lone b ws) ⊎ ((b ≡ true) × (IsMonitor w.sent × Lone false ws))

weaken : (b : Bool) (ws : List Written) → Lone false ws → Lone b ws
weaken b [] h = tt
weaken b (w ∷ ws) (inl h) = inl (h.0, weaken b ws h.1)
weaken b (w ∷ ws) (inr h) = let clash = h.0 in absurd cc

plain_then : (b : Bool) (xs ys : List Written) → CanEach IsPlainWritten xs → Lone b ys → Lone b (xs ++ ys)
plain_then b [] ys h k = k
plain_then b (x ∷ xs) ys h k = inl (h.0, plain_then b xs ys h.1 k)

lone_then : (b : Bool) (xs ys : List Written) → Lone b xs → Lone false ys → Lone b (xs ++ ys)
lone_then b [] ys h k = weaken b ys k
lone_then b (x ∷ xs) ys (inl h) k = inl (h.0, lone_then b xs ys h.1 k)
lone_then b (x ∷ xs) ys (inr h) k = inr (h.0, (h.1.0, lone_then false xs ys h.1.1 k))

-- turns whose messages are of these
abbrev IsPlainTurn : Turn → Type 0
IsPlainTurn turn.Greeting = Unit {0}
IsPlainTurn turn.Validation = Unit {0}
IsPlainTurn turn.Creation = Unit {0}
IsPlainTurn turn.Updates = Unit {0}
IsPlainTurn t = ⊥

abbrev Turns : Bool → List Turn → Type 0
Turns b [] = Unit {0}
Turns b (t ∷ ts) = (IsPlainTurn t × Turns b ts) ⊎ ((b ≡ true) × ((t ≡ turn.BeginMonitor) × Turns false ts))

-- those whose messages are still to be sent
abbrev Behind : Bool → List Turn → Type 0
Behind b [] = Unit {0}
Behind b (t ∷ ts) = Turns b ts

module _ (ask : Ask) where
  abbrev TakenSo : Bool → Result Taken ClientFault → Type 0
  TakenSo b (Ok t) = (CanEach IsPlainWritten (written_of t) × Behind b t.state.turns) ⊎ ((b ≡ true) × (Lone true (written_of t) × Behind false t.state.turns))
  TakenSo b (Err fault) = Unit {0}

  plain_validation : (user : Option (List ℕ × List ℕ)) (order : Order) (segment : ℕ) → CanEach IsPlainWritten (map (written order segment) (map said (validation user ∷ [])))
  plain_validation None order segment = (tt, tt)
  plain_validation (Some user) order segment = (tt, tt)

  plain_messages : (d : State) (t : Turn) → IsPlainTurn t → (order : Order) (segment : ℕ) → CanEach IsPlainWritten (map (written order segment) (map said (messages ask d t)))
  plain_messages d turn.Greeting plain order segment = tt
  plain_messages d turn.Validation plain order segment = plain_validation ask.user order segment
  plain_messages d turn.Creation plain order segment = (tt, tt)
  plain_messages d turn.Updates plain order segment = (refl, tt)
  plain_messages d t plain order segment = absurd plain

  lone_beginning : (fields : List (List ℕ)) (sid : ℕ) (op : Operation) (order : Order) (segment : ℕ) → Lone true (map (written order segment) (map said (monitor_beginning fields sid op)))
  lone_beginning fields sid (operation.Monitor queue window count) order segment = inr (refl, (tt, tt))
  lone_beginning fields sid op order segment = tt

  next_so : (b : Bool) (d : State) (ts : List Turn) → Turns b ts → TakenSo b (Ok (next ask d ts))
  next_so b d [] h = inl (tt, tt)
  next_so b d (t ∷ ts) (inl h) = inl (plain_messages (record d { turns = t ∷ ts }) t h.0 d.order d.segment, h.1)
  next_so b d (t ∷ ts) (inr h) =
      inr (h.0, (subst (λ (x : Turn). Lone true (written_of (next ask d (x ∷ ts)))) (sym h.1.0) (lone_beginning ask.fields.items d.sid ask.operation d.order d.segment), h.1.1))

  plain_end : (sid : ℕ) (req : Option ℕ) (order : Order) (segment : ℕ) → CanEach IsPlainWritten (map (written order segment) (map said (end_of sid req)))
  plain_end sid None order segment = tt
  plain_end sid (Some req) order segment = (tt, tt)

  plain_last : (d : State) (t : Turn) (order : Order) (segment : ℕ) → CanEach IsPlainWritten (map (written order segment) (map said (last_messages d t)))
  plain_last d turn.Field order segment = tt
  plain_last d t order segment = plain_end d.sid d.req order segment

  ended_so : (b : Bool) (d : State) (t : Turn) (told : List Told) → TakenSo b (Ok (ended d t told))
  ended_so b d t told = inl (plain_last d t d.order d.segment, tt)

  plain_ack : (sid : ℕ) (window : Option ℕ) (order : Order) (segment : ℕ) → CanEach IsPlainWritten (map (written order segment) (map said (acknowledgement sid window)))
  plain_ack sid None order segment = tt
  plain_ack sid (Some free) order segment = (refl, tt)

  updated_so : (b : Bool) (d : State) (t : Turn) (told : List Told) → Behind b d.turns → (more : Bool)
      → TakenSo b (Ok (cond more (saying (record d { left = d.left - 1 }) (acknowledgement d.sid (window_of ask.operation)) told) (finished d t told)))
  updated_so b d t told h true = inl (plain_ack d.sid (window_of ask.operation) d.order d.segment, h)
  updated_so b d t told h false = inl (plain_last d t d.order d.segment, tt)

  put_so : (b : Bool) (d : State) (later : List Turn) → Turns b later → (r : Result PartData PutText) → TakenSo b (put_next ask d later r)
  put_so b d later k (Ok p) = next_so b (record d { put = Some p }) later k
  put_so b d later k (Err f) = tt

  answer_so : (b : Bool) (d : State) (t : Turn) (later : List Turn) → Behind b d.turns → Turns b later → (a : Answer) → TakenSo b (after_answer ask d t later a)
  answer_so b d t later h k (greeted buffer) = next_so b (record d { segment = segment_for buffer }) later k
  answer_so b d t later h k accepted = next_so b d later k
  answer_so b d t later h k (created sid) = next_so b (record d { sid = sid }) later k
  answer_so b d t later h k (begun ty) = next_so b (record d { ty = ty }) later k
  answer_so b d t later h k (present p) = put_so b d later k (read_words (words_of ask.operation) p)
  answer_so b d t later h k (value p) = inl (plain_last d t d.order d.segment, tt)
  answer_so b d t later h k (described ty) = inl (plain_last d t d.order d.segment, tt)
  answer_so b d t later h k (outcome v) = inl (plain_last d t d.order d.segment, tt)
  answer_so b d t later h k done = inl (plain_last d t d.order d.segment, tt)
  answer_so b d t later h k (update u) = updated_so b d t (update_told u) h (nat_lt 1 d.left)
  answer_so b d t later h k (refused status) = inl (plain_last d t d.order d.segment, tt)

  answered_so : (b : Bool) (d : State) (t : Turn) (later : List Turn) → Behind b d.turns → Turns b later → (r : Result Answer ClientFault) → TakenSo b (answered ask d t later r)
  answered_so b d t later h k (Ok a) = answer_so b d t later h k a
  answered_so b d t later h k (Err f) = tt

  replied_so : (b : Bool) (d : State) (t : Turn) (later : List Turn) → Behind b d.turns → Turns b later → (r : Reply) (foreign : Option ℕ) → TakenSo b (replied ask d t later r foreign)
  replied_so b d t later h k r (Some id) = tt
  replied_so b d t later h k r None = answered_so b d t later h k (answer_of t r)

  read_so : (b : Bool) (d : State) (t : Turn) (later : List Turn) → Behind b d.turns → Turns b later → (whole : Whole) (read : Read Source Reply) → TakenSo b (heard ask d t later whole read)
  read_so b d t later h k whole (Ok (r, (rest, types))) = replied_so b (record d { types = types }) t later h k r (foreign_id (record d { types = types }) r)
  read_so b d t later h k whole (Err f) = tt

  whole_so : (b : Bool) (d : State) (t : Turn) (later : List Turn) → Behind b d.turns → Turns b later → (whole : Whole) (c : Bool) (read : Read Source Reply) → TakenSo b (cond c (heard ask d t later whole read) (Ok (quietly d)))
  whole_so b d t later h k whole true read = read_so b d t later h k whole read
  whole_so b d t later h k whole false read = inl (tt, h)

  control_so : (b : Bool) (d : State) → Behind b d.turns → (number : ℕ) (x y : Bool) → TakenSo b (Ok (cond x (quietly (record d { order_told = true })) (cond y (echoing d number) (quietly d))))
  control_so b d h number true y = inl (tt, h)
  control_so b d h number false true = inl ((tt, tt), h)
  control_so b d h number false false = inl (tt, h)

  step_so : (b : Bool) (d : State) (ts : List Turn) → Behind b d.turns → Behind b ts → (e : Event) → TakenSo b (step_at ask d ts e)
  step_so b d [] h k e = inl (tt, h)
  step_so b d (t ∷ later) h k (Control n number) = control_so b d h number (n == 2) (n == 3)
  step_so b d (t ∷ later) h k (Message whole) =
      let here = in_order d whole in
      whole_so b here t later h k whole (is_reply whole.command)
      (reply_at whole.order (type_for here.req here.ty (request_id whole.order whole.command whole.payload)) whole.command (whole.payload, here.types))

  goes_so : (b : Bool) (d : State) (es : List Event) (r : Result Taken ClientFault) → TakenSo b r → ((c : Bool) (n : State) → Behind c n.turns → Lone c (run ask n es).sent) → Lone b (going_on d r (λ t. run ask t es)).sent
  goes_so b d es (Ok t) (inl h) more = plain_then b (written_of t) (run ask t.state es).sent h.0 (more b t.state h.1)
  goes_so b d es (Ok t) (inr h) more = subst (λ (x : Bool). Lone x (written_of t ++ (run ask t.state es).sent)) (sym h.0) (lone_then true (written_of t) (run ask t.state es).sent h.1.0 (more false t.state h.1.1))
  goes_so b d es (Err f) h more = tt

  sends_so : (es : List Event) (b : Bool) (d : State) → Behind b d.turns → Lone b (run ask d es).sent
  sends_so [] b d h = tt
  sends_so (e ∷ es) b d h = goes_so b d es (step ask d e) (step_so b d d.turns h h e) (λ c n k. sends_so es c n k)

  -- of a monitor's client, from its beginning on
  pub sends_lone : (queue count : ℕ) (window : Option ℕ) → ask.operation ≡ operation.Monitor queue window count → (es : List Event) → Lone true (client_sent ask es)
  sends_lone queue count window is es = sends_so es true (opening ask) (inl (tt, inl (tt, subst (Turns true) (ap own_turns (sym is)) (inr (refl, (refl, inl (tt, tt)))))))
