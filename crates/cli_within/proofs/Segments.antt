-- What a client sends goes in segments that are no longer than a payload may be.
use Rattle.std.proofs.Common.{◌≡◌, ℕ, ◌-◌, ◌≤◌, ◌==◌, Bool, true, false, cond, List, [], ◌∷◌, ◌++◌, Option, None, Some, Result, Ok, Err, refl, arith, ltb-false}
use Rattle.std.specs.Prelude.{map, nat_lt}
use Rattle.pva_wire.specs.declared.order.Order.{Order}
use Rattle.pva_frames.specs.Messages.{limit}
use Rattle.pva_frames.specs.declared.event.Event.{Event}
use Rattle.pva_frames.specs.declared.event.Event.TheVariants.{Message, Control}
use Rattle.pva_frames.specs.declared.event.Whole.{Whole}
use Rattle.pvd_codec.specs.Reading.{Read, State as Source}
use Rattle.pvd_codec.specs.Written.{CanEach}
use Rattle.pva_messages.specs.Fields.{PartData}
use Rattle.pva_messages.specs.Reading.{reply_at, request_id}
use Rattle.pva_messages.specs.Replies.{Reply}
use Rattle.cli_text.specs.declared.fault.PutText.{PutText}
use Rattle.cli_session.specs.Answers.{Answer, greeted, accepted, created, begun, present, value, described, outcome, done, update, refused, answer_of, foreign_id}
use Rattle.cli_session.specs.Messages.{Sent, Written, written, acknowledgement, window_of}
use Rattle.cli_session.specs.State.{State, segment_for, opening}
use Rattle.cli_session.specs.Steps.{Told, Taken, quietly, echoing, saying, next, finished, updated, put_next, read_words, words_of, update_told, after_answer, answered, replied, heard, heard_whole, heard_control, is_reply, in_order, type_for, step_at, step, run, going_on, client_sent}
use Rattle.cli_session.specs.declared.ask.Ask.{Ask}
use Rattle.cli_session.specs.declared.fault.ClientFault.{ClientFault}
use Rattle.cli_session.specs.declared.turn.Turn.{Turn}

abbrev pub IsSmall : Written → Type 0
IsSmall w = w.segment ≤ limit

-- so it is behind an event
abbrev Keeps : Result Taken ClientFault → Type 0
Keeps (Ok t) = t.state.segment ≤ limit
Keeps (Err f) = Unit {0}

few : (a b : Bool) (size : ℕ) → (b ≡ false → size ≤ 65536) → cond a (1024 - 8) (cond b (65536 - 8) (size - 8)) ≤ limit
few true b size h = omega arith
few false true size h = omega arith
few false false size h = let less = h refl in omega (arith, less)

segment_few : (size : ℕ) → segment_for size ≤ limit
segment_few size = few (nat_lt size 1024) (nat_lt 65536 size) size (λ e. ltb-false 65536 size e)

either : (b : Bool) (x y : Taken) → x.state.segment ≤ limit → y.state.segment ≤ limit → (cond b x y).state.segment ≤ limit
either true x y h k = h
either false x y h k = k

either_keeps : (b : Bool) (x y : Result Taken ClientFault) → Keeps x → Keeps y → Keeps (cond b x y)
either_keeps true x y h k = h
either_keeps false x y h k = k

next_few : (ask : Ask) (s : State) (turns : List Turn) → s.segment ≤ limit → (next ask s turns).state.segment ≤ limit
next_few ask s [] small = small
next_few ask s (turn ∷ later) small = small

updated_few : (ask : Ask) (s : State) (turn : Turn) (told : List Told) → s.segment ≤ limit → (updated ask s turn told).state.segment ≤ limit
updated_few ask s turn told small = either (nat_lt 1 s.left) (saying (record s { left = s.left - 1 }) (acknowledgement s.sid (window_of ask.operation)) told) (finished s turn told) small small

put_few : (ask : Ask) (s : State) (later : List Turn) (r : Result PartData PutText) → s.segment ≤ limit → Keeps (put_next ask s later r)
put_few ask s later (Ok p) small = next_few ask (record s { put = Some p }) later small
put_few ask s later (Err f) small = tt

answer_few : (ask : Ask) (s : State) (turn : Turn) (later : List Turn) (a : Answer) → s.segment ≤ limit → Keeps (after_answer ask s turn later a)
answer_few ask s turn later (greeted buffer) small = next_few ask (record s { segment = segment_for buffer }) later (segment_few buffer)
answer_few ask s turn later accepted small = next_few ask s later small
answer_few ask s turn later (created sid) small = next_few ask (record s { sid = sid }) later small
answer_few ask s turn later (begun ty) small = next_few ask (record s { ty = ty }) later small
answer_few ask s turn later (present p) small = put_few ask s later (read_words (words_of ask.operation) p) small
answer_few ask s turn later (value p) small = small
answer_few ask s turn later (described ty) small = small
answer_few ask s turn later (outcome v) small = small
answer_few ask s turn later done small = small
answer_few ask s turn later (update u) small = updated_few ask s turn (update_told u) small
answer_few ask s turn later (refused status) small = small

answered_few : (ask : Ask) (s : State) (turn : Turn) (later : List Turn) (r : Result Answer ClientFault) → s.segment ≤ limit → Keeps (answered ask s turn later r)
answered_few ask s turn later (Ok a) small = answer_few ask s turn later a small
answered_few ask s turn later (Err f) small = tt

replied_few : (ask : Ask) (s : State) (turn : Turn) (later : List Turn) (r : Reply) (o : Option ℕ) → s.segment ≤ limit → Keeps (replied ask s turn later r o)
replied_few ask s turn later r (Some id) small = tt
replied_few ask s turn later r None small = answered_few ask s turn later (answer_of turn r) small

heard_few : (ask : Ask) (s : State) (turn : Turn) (later : List Turn) (whole : Whole) (r : Read Source Reply) → s.segment ≤ limit → Keeps (heard ask s turn later whole r)
heard_few ask s turn later whole (Ok (reply, (rest, types))) small = replied_few ask (record s { types = types }) turn later reply (foreign_id s reply) small
heard_few ask s turn later whole (Err f) small = tt

whole_few : (ask : Ask) (s : State) (turn : Turn) (later : List Turn) (whole : Whole) → s.segment ≤ limit → Keeps (heard_whole ask s turn later whole)
whole_few ask s turn later whole small =
    let r = reply_at whole.order (type_for s.req s.ty (request_id whole.order whole.command whole.payload)) whole.command (whole.payload, s.types) in
    either_keeps (is_reply whole.command) (heard ask s turn later whole r) (Ok (quietly s)) (heard_few ask s turn later whole r small) small

control_few : (s : State) (c number : ℕ) → s.segment ≤ limit → (heard_control s c number).state.segment ≤ limit
control_few s c number small =
    either (c == 2) (quietly (record s { order_told = true })) (cond (c == 3) (echoing s number) (quietly s)) small (either (c == 3) (echoing s number) (quietly s) small small)

step_few : (ask : Ask) (s : State) (turns : List Turn) (e : Event) → s.segment ≤ limit → Keeps (step_at ask s turns e)
step_few ask s [] e small = small
step_few ask s (turn ∷ later) (Control c number) small = control_few s c number small
step_few ask s (turn ∷ later) (Message whole) small = whole_few ask (in_order s whole) turn later whole small

written_few : (order : Order) (segment : ℕ) (xs : List Sent) (rest : List Written) → segment ≤ limit → CanEach IsSmall rest → CanEach IsSmall (map (written order segment) xs ++ rest)
written_few order segment [] rest small h = h
written_few order segment (x ∷ xs) rest small h = (small, written_few order segment xs rest small h)

going_few : (ask : Ask) (s : State) (events : List Event) (o : Result Taken ClientFault) → Keeps o → ((t : State) → t.segment ≤ limit → CanEach IsSmall (run ask t events).sent)
    → CanEach IsSmall (going_on s o (λ t. run ask t events)).sent
going_few ask s events (Ok t) small later = written_few t.state.order t.state.segment t.sent (run ask t.state events).sent small (later t.state small)
going_few ask s events (Err f) small later = tt

run_few : (ask : Ask) (s : State) (events : List Event) → s.segment ≤ limit → CanEach IsSmall (run ask s events).sent
run_few ask s [] small = tt
run_few ask s (e ∷ events) small = going_few ask s events (step ask s e) (step_few ask s s.turns e small) (λ t h. run_few ask t events h)

pub sent_small : (ask : Ask) (events : List Event) → CanEach IsSmall (client_sent ask events)
sent_small ask events = run_few ask (opening ask) events (segment_few 65536)
