-- What each end reads of the first bytes that the other one says, as the messages that were said.
use Rattle.std.proofs.Common.{◌≡◌, ℕ, suc, ◌<◌, ◌≤◌, true, false, List, [], ◌∷◌, ◌++◌, length, None, refl, sym, ap, ◌∙◌, append_assoc}
use Rattle.pva_wire.specs.declared.order.Order.{Order}
use Rattle.std.specs.Result.{result_err}
use Rattle.pva_frames.specs.Messages.{limit, events_from, left_from}
use Rattle.pva_frames.specs.declared.event.Event.{Event}
use Rattle.pva_frames.specs.declared.event.Event.TheVariants.{Message, Control}
use Rattle.pvd_codec.specs.Written.{CanEach}
use Rattle.pva_messages.specs.Laws.{IsWritable, IsReplyWritable, request_payload, reply_payload}
use Rattle.pva_messages.specs.Replies.{reply_command}
use Rattle.pva_messages.specs.Requests.{Request, request_command}
use Rattle.histories.specs.History.{IsPrefixOf}
use Rattle.desk_api.specs.declared.history.SiteData.{SiteData}
use Rattle.srv_session.specs.Replies as replies
use Rattle.srv_session.specs.State.{State}
use Rattle.srv_session.specs.Steps.{Step, sent_in, after_step, out_of}
use Rattle.cli_session.specs.Laws.{CanSent, CanWrite, IsShort}
use Rattle.cli_session.specs.Messages as requests
use Rattle.cli_session.specs.Messages.{Written, written_bytes}
use Rattle.cli_within.proofs.Segments.{IsSmall}
use Rattle.cli_within.proofs.Fronts.{Piece, whole, short, piece_bytes, pieces_bytes, CanPiece, IsReadable, IsEventOf, AreFirst, front_read, front_sound, sound_counted}
use Rattle.cli_within.specs.Clear.{IsShortIn}

-- Of the client.

-- it is this event, and a message has a spelling
abbrev pub IsRequest : Order → requests.Sent → Event → Type 0
IsRequest order (requests.said m) e =
    (at : ℕ)
    × (e ≡ Message (record { order = order; command = request_command m; payload = request_payload order m; place = at }))
    × IsWritable m
IsRequest order (requests.control command number) e = e ≡ Control command number

-- these events are the first of these
abbrev pub AreRequests : List Event → List Written → Type 0
AreRequests [] ws = Unit {0}
AreRequests (e ∷ es) [] = ⊥
AreRequests (e ∷ es) (w ∷ ws) = IsRequest w.order w.sent e × AreRequests es ws

pub requests_front : (es more : List Event) (ws : List Written) → AreRequests (es ++ more) ws → AreRequests es ws
requests_front [] more ws h = tt
requests_front (e ∷ es) more [] h = absurd h
requests_front (e ∷ es) more (w ∷ ws) h = (h.0, requests_front es more ws h.1)

-- and the first of more
pub requests_more : (es : List Event) (ws more : List Written) → AreRequests es ws → AreRequests es (ws ++ more)
requests_more [] ws more h = tt
requests_more (e ∷ es) [] more h = absurd h
requests_more (e ∷ es) (w ∷ ws) more h = (h.0, requests_more es ws more h.1)

abbrev request_piece : Order → ℕ → requests.Sent → Piece
request_piece order segment (requests.said m) = whole order (request_command m) (request_payload order m) segment
request_piece order segment (requests.control command number) = short order command number

abbrev request_pieces : List Written → List Piece
request_pieces [] = []
request_pieces (w ∷ ws) = request_piece w.order w.segment w.sent ∷ request_pieces ws

one_request : (order : Order) (segment : ℕ) (x : requests.Sent) → requests.spelled order segment x ≡ piece_bytes false (request_piece order segment x)
one_request order segment (requests.said m) = refl
one_request order segment (requests.control command number) = refl

requests_bytes : (ws : List Written) → written_bytes ws ≡ pieces_bytes false (request_pieces ws)
requests_bytes [] = refl
requests_bytes (w ∷ ws) = λ i. one_request w.order w.segment w.sent i ++ requests_bytes ws i

can_request : (order : Order) (segment : ℕ) (x : requests.Sent) → CanSent segment x → segment ≤ limit → CanPiece (request_piece order segment x)
can_request order segment (requests.said m) can small = (can.0, small)
can_request order segment (requests.control command number) can small = can

can_requests : (ws : List Written) → CanEach CanWrite ws → CanEach IsSmall ws → CanEach CanPiece (request_pieces ws)
can_requests [] can small = tt
can_requests (w ∷ ws) can small = (can_request w.order w.segment w.sent can.0 small.0, can_requests ws can.1 small.1)

is_request : (order : Order) (segment : ℕ) (x : requests.Sent) (e : Event) → IsEventOf (request_piece order segment x) e → CanSent segment x → IsRequest order x e
is_request order segment (requests.said m) e is can = (is.0, is.1, can.1)
is_request order segment (requests.control command number) e is can = is

are_requests : (es : List Event) (ws : List Written) → AreFirst es (request_pieces ws) → CanEach CanWrite ws → AreRequests es ws
are_requests [] ws h can = tt
are_requests (e ∷ es) [] h can = absurd h
are_requests (e ∷ es) (w ∷ ws) h can = (is_request w.order w.segment w.sent e h.0 can.0, are_requests es ws h.1 can.1)

-- a server reads of the first bytes of what a client sent the first messages of it
pub sent_read : (ws : List Written) (front : List ℕ) → IsPrefixOf front (written_bytes ws) → CanEach CanWrite ws → CanEach IsSmall ws → AreRequests (events_from 0 None front) ws
sent_read ws front begins can small =
    are_requests (events_from 0 None front) ws
    (front_read false (request_pieces ws) front (record { rest = begins.rest; whole = sym (requests_bytes ws) ∙ begins.whole }) (can_requests ws can small)) can

-- Of the server.

-- what was said, with the order and the size of segments in which it was
pub record Spoken : Type 0 where
  pub order : Order
  pub segment : ℕ
  pub sent : replies.Sent

abbrev pub speak : Order → ℕ → List replies.Sent → List Spoken
speak order segment [] = []
speak order segment (x ∷ xs) = record { order = order; segment = segment; sent = x } ∷ speak order segment xs

-- what these steps say
abbrev pub spoken : SiteData → State → List Step → List Spoken
spoken site s [] = []
spoken site s (x ∷ xs) = speak s.order s.segment (sent_in x) ++ spoken site (after_step site s x) xs

abbrev pub spoken_bytes : List Spoken → List ℕ
spoken_bytes [] = []
spoken_bytes (x ∷ xs) = replies.spelled x.order x.segment x.sent ++ spoken_bytes xs

pub spoken_append : (xs ys : List Spoken) → spoken_bytes (xs ++ ys) ≡ spoken_bytes xs ++ spoken_bytes ys
spoken_append [] ys = refl
spoken_append (x ∷ xs) ys =
    let bytes = replies.spelled x.order x.segment x.sent in
    ap (λ (more : List ℕ). bytes ++ more) (spoken_append xs ys) ∙ sym (append_assoc bytes (spoken_bytes xs) (spoken_bytes ys))

pub speak_bytes : (order : Order) (segment : ℕ) (xs : List replies.Sent) → replies.spelled_all order segment xs ≡ spoken_bytes (speak order segment xs)
speak_bytes order segment [] = refl
speak_bytes order segment (x ∷ xs) = ap (λ (more : List ℕ). replies.spelled order segment x ++ more) (speak_bytes order segment xs)

pub out_is_spoken : (site : SiteData) (s : State) (steps : List Step) → out_of site s steps ≡ spoken_bytes (spoken site s steps)
out_is_spoken site s [] = refl
out_is_spoken site s (x ∷ xs) =
    let here = speak s.order s.segment (sent_in x) in
    let next = after_step site s x in
    ap (λ (bytes : List ℕ). bytes ++ out_of site next xs) (speak_bytes s.order s.segment (sent_in x))
    ∙ ap (λ (more : List ℕ). spoken_bytes here ++ more) (out_is_spoken site next xs)
    ∙ sym (spoken_append here (spoken site next xs))

-- it has a spelling, in segments that are no longer than a payload may be
abbrev pub IsClear : Order → ℕ → replies.Sent → Type 0
IsClear order segment x = (0 < segment) × (segment ≤ limit) × replies.IsSayable x

abbrev pub IsSpokenClear : Spoken → Type 0
IsSpokenClear x = IsClear x.order x.segment x.sent

abbrev pub IsReply : Order → replies.Sent → Event → Type 0
IsReply order (replies.said r) e =
    (at : ℕ)
    × (e ≡ Message (record { order = order; command = reply_command r; payload = reply_payload order r; place = at }))
    × IsReplyWritable r × replies.HasLeafBits r
IsReply order (replies.control command number) e = e ≡ Control command number

-- these events are the first of these
abbrev pub AreReplies : List Event → List Spoken → Type 0
AreReplies [] xs = Unit {0}
AreReplies (e ∷ es) [] = ⊥
AreReplies (e ∷ es) (x ∷ xs) = IsReply x.order x.sent e × AreReplies es xs

abbrev reply_piece : Order → ℕ → replies.Sent → Piece
reply_piece order segment (replies.said r) = whole order (reply_command r) (reply_payload order r) segment
reply_piece order segment (replies.control command number) = short order command number

abbrev reply_pieces : List Spoken → List Piece
reply_pieces [] = []
reply_pieces (x ∷ xs) = reply_piece x.order x.segment x.sent ∷ reply_pieces xs

one_reply : (order : Order) (segment : ℕ) (x : replies.Sent) → replies.spelled order segment x ≡ piece_bytes true (reply_piece order segment x)
one_reply order segment (replies.said r) = refl
one_reply order segment (replies.control command number) = refl

replies_bytes : (xs : List Spoken) → spoken_bytes xs ≡ pieces_bytes true (reply_pieces xs)
replies_bytes [] = refl
replies_bytes (x ∷ xs) = λ i. one_reply x.order x.segment x.sent i ++ replies_bytes xs i

can_reply : (order : Order) (segment : ℕ) (x : replies.Sent) → IsClear order segment x → CanPiece (reply_piece order segment x)
can_reply order segment (replies.said r) clear = (clear.0, clear.1)
can_reply order segment (replies.control command number) clear = clear.2

can_replies : (xs : List Spoken) → CanEach IsSpokenClear xs → CanEach CanPiece (reply_pieces xs)
can_replies [] clear = tt
can_replies (x ∷ xs) clear = (can_reply x.order x.segment x.sent clear.0, can_replies xs clear.1)

is_reply : (order : Order) (segment : ℕ) (x : replies.Sent) (e : Event) → IsEventOf (reply_piece order segment x) e → IsClear order segment x → IsReply order x e
is_reply order segment (replies.said r) e is clear = (is.0, is.1, clear.2.0, clear.2.1)
is_reply order segment (replies.control command number) e is clear = is

are_replies : (es : List Event) (xs : List Spoken) → AreFirst es (reply_pieces xs) → CanEach IsSpokenClear xs → AreReplies es xs
are_replies [] xs h clear = tt
are_replies (e ∷ es) [] h clear = absurd h
are_replies (e ∷ es) (x ∷ xs) h clear = (is_reply x.order x.segment x.sent e h.0 clear.0, are_replies es xs h.1 clear.1)

-- a client reads of the first bytes of what a server said the first messages of it
pub said_read : (xs : List Spoken) (front : List ℕ) → IsPrefixOf front (spoken_bytes xs) → CanEach IsSpokenClear xs → AreReplies (events_from 0 None front) xs
said_read xs front begins clear =
    are_replies (events_from 0 None front) xs
    (front_read true (reply_pieces xs) front (record { rest = begins.rest; whole = sym (replies_bytes xs) ∙ begins.whole }) (can_replies xs clear)) clear

-- Where no payload is too long, no header of the first bytes is refused. Where none of all the bytes is, all messages are read.

sent_readable : (order : Order) (segment : ℕ) (x : requests.Sent) → CanSent segment x → ((m : Request) → x ≡ requests.said m → length (request_payload order m) ≤ limit) → IsReadable (request_piece order segment x)
sent_readable order segment (requests.said m) can few = (can.0, few m refl)
sent_readable order segment (requests.control command number) can few = can

all_sent_readable : (ws : List Written) → CanEach CanWrite ws → CanEach IsShort ws → CanEach IsReadable (request_pieces ws)
all_sent_readable [] can few = tt
all_sent_readable (w ∷ ws) can few = (sent_readable w.order w.segment w.sent can.0 few.0, all_sent_readable ws can.1 few.1)

pub sent_sound : (ws : List Written) (front : List ℕ) → IsPrefixOf front (written_bytes ws) → CanEach CanWrite ws → CanEach IsShort ws → result_err (left_from 0 None front) ≡ None
sent_sound ws front begins can few =
    front_sound false (request_pieces ws) front (record { rest = begins.rest; whole = sym (requests_bytes ws) ∙ begins.whole }) (all_sent_readable ws can few)

requests_counted : (ws : List Written) → length (request_pieces ws) ≡ length ws
requests_counted [] = refl
requests_counted (w ∷ ws) = ap suc (requests_counted ws)

pub sent_counted : (ws : List Written) (all : List ℕ) → all ≡ written_bytes ws → CanEach CanWrite ws → CanEach IsSmall ws → result_err (left_from 0 None all) ≡ None → length (events_from 0 None all) ≡ length ws
sent_counted ws all is can small sound =
    let same = is ∙ requests_bytes ws in
    ap (λ (bytes : List ℕ). length (events_from 0 None bytes)) same
    ∙ sound_counted false (request_pieces ws) (can_requests ws can small) (ap (λ (bytes : List ℕ). result_err (left_from 0 None bytes)) (sym same) ∙ sound)
    ∙ requests_counted ws

abbrev pub IsSpokenShort : Spoken → Type 0
IsSpokenShort x = IsShortIn x.order x.sent

said_readable : (order : Order) (segment : ℕ) (x : replies.Sent) → IsClear order segment x → IsShortIn order x → IsReadable (reply_piece order segment x)
said_readable order segment (replies.said r) clear few = (clear.0, few)
said_readable order segment (replies.control command number) clear few = clear.2

all_said_readable : (xs : List Spoken) → CanEach IsSpokenClear xs → CanEach IsSpokenShort xs → CanEach IsReadable (reply_pieces xs)
all_said_readable [] clear few = tt
all_said_readable (x ∷ xs) clear few = (said_readable x.order x.segment x.sent clear.0 few.0, all_said_readable xs clear.1 few.1)

pub said_sound : (xs : List Spoken) (front : List ℕ) → IsPrefixOf front (spoken_bytes xs) → CanEach IsSpokenClear xs → CanEach IsSpokenShort xs → result_err (left_from 0 None front) ≡ None
said_sound xs front begins clear few =
    front_sound true (reply_pieces xs) front (record { rest = begins.rest; whole = sym (replies_bytes xs) ∙ begins.whole }) (all_said_readable xs clear few)

replies_counted : (xs : List Spoken) → length (reply_pieces xs) ≡ length xs
replies_counted [] = refl
replies_counted (x ∷ xs) = ap suc (replies_counted xs)

pub said_counted : (xs : List Spoken) (all : List ℕ) → all ≡ spoken_bytes xs → CanEach IsSpokenClear xs → result_err (left_from 0 None all) ≡ None → length (events_from 0 None all) ≡ length xs
said_counted xs all is clear sound =
    let same = is ∙ replies_bytes xs in
    ap (λ (bytes : List ℕ). length (events_from 0 None bytes)) same
    ∙ sound_counted true (reply_pieces xs) (can_replies xs clear) (ap (λ (bytes : List ℕ). result_err (left_from 0 None bytes)) (sym same) ∙ sound)
    ∙ replies_counted xs
