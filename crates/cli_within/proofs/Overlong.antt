-- A message that is longer than a reader takes brings no event, nor does anything behind it, and its header is refused.
use Rattle.std.proofs.Common.{◌≡◌, ℕ, zero, suc, ◌+◌, ◌≤◌, ◌<◌, ◌^◌, Bool, true, false, cond, eqb, leb, eq-eqb, List, [], ◌∷◌, ◌++◌, length, take, drop, Option, None, Some, Result, Ok, Err, refl, sym, ap, ◌∙◌, subst, arith, length-append}
use Rattle.std.proofs.lemmas.List.{append-nil, length-drop, length-take-le, drop_at}
use Rattle.std.proofs.lemmas.Bool.{le-leb, lt-leb, leb-true, leb-false}
use Rattle.byteorder.specs.Numbers.{little_number-reads_back, big_number-reads_back}
use Rattle.pva_wire.specs.declared.order.Order.{Order}
use Rattle.pva_wire.specs.declared.order.Order.TheVariants.{Little, Big}
use Rattle.pva_frames.specs.declared.event.Whole.{Whole}
use Rattle.pva_frames.specs.declared.event.Event.{Event}
use Rattle.pva_frames.specs.declared.event.Event.TheVariants.{Message, Control}
use Rattle.pva_frames.specs.declared.header.Header.{Header}
use Rattle.pva_frames.specs.declared.header.Segment.{Segment}
use Rattle.pva_frames.specs.declared.header.Segment.TheVariants.{Single, First, Middle, Last}
use Rattle.pva_frames.specs.declared.fault.FrameFault.{FrameFault}
use Rattle.pva_frames.specs.declared.fault.FrameFault.TheVariants.{TooLong}
use Rattle.pva_frames.specs.Numbers.{number_of, number_bytes}
use Rattle.pva_frames.specs.Headers.{order_of, header_of, is_control, segment_of}
use Rattle.pva_frames.specs.Frames.{Frame, size_of}
use Rattle.pva_frames.specs.Messages.{Unfinished, limit, refusal, refusal_by, refusal_of_rest, length_refusal, segment_refusal, foreign, joined, ends, event_of, run_after, events_from, left_from}
use Rattle.pva_frames.specs.Assembled.{Assembled, fed_on}
use Rattle.pva_frames.specs.Laws.{boundary}
use Rattle.pva_frames.specs.Spelling.{order_flag, server_flag, header_bytes, frame_bytes, later_segments, message_bytes}
use Rattle.pva_frames.proofs.Bringing.{brings-frame}
use Rattle.pva_frames.proofs.Joins.{read-join, read-by_cut, refused-at-once, events-join}
use Rattle.pva_frames.proofs.ReadBack.{header-size}
use Rattle.pva_frames.proofs.Written.{later-middle, later-last}

-- One frame of an application message, as it is written and read.

number-back : (order : Order) (x : ℕ) (rest : List ℕ) → x < 2 ^ 32 → number_of order (number_bytes order x ++ rest) ≡ x
number-back Little x rest h = little_number-reads_back 4 x rest h
number-back Big x rest h = big_number-reads_back 4 x rest h

-- bits 4 and 5 of the flags
kind_of : Segment → ℕ
kind_of Single = 0
kind_of First = 16
kind_of Middle = 48
kind_of Last = 32

-- the flags of a header that was written
flags_of : Order → Bool → ℕ → ℕ
flags_of order server kind = order_flag order + server_flag server + kind

-- the header that was written
abbrev head_of : Order → Bool → ℕ → ℕ → ℕ → Header
head_of order server kind command number = record { order = order; flags = flags_of order server kind; command = command; number = number }

flags-order : (order : Order) (server : Bool) (segment : Segment) → order_of (flags_of order server (kind_of segment)) ≡ order
unfolding flags_of kind_of
flags-order Little true Single = refl
flags-order Little true First = refl
flags-order Little true Middle = refl
flags-order Little true Last = refl
flags-order Little false Single = refl
flags-order Little false First = refl
flags-order Little false Middle = refl
flags-order Little false Last = refl
flags-order Big true Single = refl
flags-order Big true First = refl
flags-order Big true Middle = refl
flags-order Big true Last = refl
flags-order Big false Single = refl
flags-order Big false First = refl
flags-order Big false Middle = refl
flags-order Big false Last = refl

flags-control : (order : Order) (server : Bool) (segment : Segment) (command number : ℕ) → is_control (head_of order server (kind_of segment) command number) ≡ false
unfolding flags_of kind_of
flags-control Little true Single command number = refl
flags-control Little true First command number = refl
flags-control Little true Middle command number = refl
flags-control Little true Last command number = refl
flags-control Little false Single command number = refl
flags-control Little false First command number = refl
flags-control Little false Middle command number = refl
flags-control Little false Last command number = refl
flags-control Big true Single command number = refl
flags-control Big true First command number = refl
flags-control Big true Middle command number = refl
flags-control Big true Last command number = refl
flags-control Big false Single command number = refl
flags-control Big false First command number = refl
flags-control Big false Middle command number = refl
flags-control Big false Last command number = refl

flags-segment : (order : Order) (server : Bool) (segment : Segment) (command number : ℕ) → segment_of (head_of order server (kind_of segment) command number) ≡ segment
unfolding flags_of kind_of
flags-segment Little true Single command number = refl
flags-segment Little true First command number = refl
flags-segment Little true Middle command number = refl
flags-segment Little true Last command number = refl
flags-segment Little false Single command number = refl
flags-segment Little false First command number = refl
flags-segment Little false Middle command number = refl
flags-segment Little false Last command number = refl
flags-segment Big true Single command number = refl
flags-segment Big true First command number = refl
flags-segment Big true Middle command number = refl
flags-segment Big true Last command number = refl
flags-segment Big false Single command number = refl
flags-segment Big false First command number = refl
flags-segment Big false Middle command number = refl
flags-segment Big false Last command number = refl

-- a header that was written is read as it was
header-written : (order : Order) (server : Bool) (kind command number : ℕ) (rest : List ℕ) → order_of (flags_of order server kind) ≡ order → number < 2 ^ 32 → header_of (header_bytes order server kind command number ++ rest) ≡ head_of order server kind command number
unfolding header_of flags_of
header-written order server kind command number rest is fits =
    let flags = order_flag order + server_flag server + kind in
    ap (λ (o : Order). let h : Header = record { order = o; flags = flags; command = command; number = number_of o (number_bytes order number ++ rest) } in h) is
    ∙ ap (λ (n : ℕ). let h : Header = record { order = order; flags = flags; command = command; number = n } in h) (number-back order number rest fits)

-- what bytes bring
abbrev read : ℕ → Option Whole → List ℕ → Assembled
read at run bytes = record { events = events_from at run bytes; left = left_from at run bytes }

abbrev brought : List Event → ℕ → Option Whole → Assembled
brought events at run = record { events = events; left = Ok (record { place = at; run = run; held = [] }) }

-- the message so far, with one more payload
abbrev part : Option Whole → Order → ℕ → List ℕ → ℕ → Whole
part None order command payload at = record { order = order; command = command; payload = payload; place = at }
part (Some run) order command payload at = record { order = run.order; command = run.command; payload = run.payload ++ payload; place = run.place }

joined-part : (run : Option Whole) (frame : Frame) (head : Header) (payload : List ℕ) → header_of frame.bytes ≡ head → drop 8 frame.bytes ≡ payload → joined run frame ≡ part run head.order head.command payload frame.place
joined-part None frame head payload is body =
    ap (λ (h : Header). let w : Whole = record { order = h.order; command = h.command; payload = drop 8 frame.bytes; place = frame.place } in w) is
    ∙ ap (λ (l : List ℕ). let w : Whole = record { order = head.order; command = head.command; payload = l; place = frame.place } in w) body
joined-part (Some run) frame head payload is body =
    ap (λ (l : List ℕ). let w : Whole = record { order = run.order; command = run.command; payload = run.payload ++ l; place = run.place } in w) body

-- one frame of an application message
frame-read : (order : Order) (server : Bool) (segment : Segment) (command : ℕ) (payload : List ℕ) (run : Option Whole) (at : ℕ) → length payload ≤ limit → refusal_by segment run (head_of order server (kind_of segment) command (length payload)) at ≡ None
    → read at run (frame_bytes order server (kind_of segment) command payload) ≡ brought (cond (ends segment) (Message (part run order command payload at) ∷ []) []) (at + length (frame_bytes order server (kind_of segment) command payload)) (cond (ends segment) None (Some (part run order command payload at)))
frame-read order server segment command payload run at fits accepted =
    let kind = kind_of segment in
    let size = length payload in
    let head = head_of order server kind command size in
    let front = header_bytes order server kind command size in
    let bytes = frame_bytes order server kind command payload in
    let frame : Frame = record { place = at; bytes = bytes } in
    let is : header_of bytes ≡ head = header-written order server kind command size payload (flags-order order server segment) (omega arith) in
    let eight = header-size order server kind command size in
    let body : drop 8 bytes ≡ payload = drop_at front payload 8 eight in
    let control : is_control (header_of bytes) ≡ false = ap is_control is ∙ flags-control order server segment command size in
    let which : segment_of (header_of bytes) ≡ segment = ap segment_of is ∙ flags-segment order server segment command size in
    let whole : length bytes ≡ size_of bytes =
    length-append front payload ∙ ap (λ (n : ℕ). n + size) eight ∙ ap (λ (h : Header). 8 + h.number) (sym is) ∙ ap (λ (b : Bool). 8 + cond b 0 (header_of bytes).number) (sym control) in
    let sound : refusal run (header_of bytes) at ≡ None =
    ap (λ (h : Header). refusal run h at) is
    ∙ ap (λ (b : Bool). cond b None (refusal_by (segment_of head) run head at)) (flags-control order server segment command size)
    ∙ ap (λ (s : Segment). refusal_by s run head at) (flags-segment order server segment command size) ∙ accepted in
    let message = joined-part run frame head payload is body in
    let event : event_of run frame ≡ cond (ends segment) (Message (part run order command payload at) ∷ []) [] =
    ap (λ (b : Bool). cond b (Control (header_of bytes).command (header_of bytes).number ∷ []) (cond (ends (segment_of (header_of bytes))) (Message (joined run frame) ∷ []) [])) control
    ∙ ap (λ (s : Segment). cond (ends s) (Message (joined run frame) ∷ []) []) which
    ∙ ap (λ (w : Whole). cond (ends segment) (Message w ∷ []) []) message in
    let stands : run_after run frame ≡ cond (ends segment) None (Some (part run order command payload at)) =
    ap (λ (b : Bool). cond b run (cond (ends (segment_of (header_of bytes))) None (Some (joined run frame)))) control
    ∙ ap (λ (s : Segment). cond (ends s) None (Some (joined run frame))) which
    ∙ ap (λ (w : Whole). cond (ends segment) None (Some w)) message in
    brings-frame [] at run bytes refl whole sound
    ∙ ap (λ (es : List Event). brought es (at + length bytes) (run_after run frame)) event
    ∙ ap (λ (r : Option Whole). brought (cond (ends segment) (Message (part run order command payload at) ∷ []) []) (at + length bytes) r) stands

-- the length isn't refused
short-enough : (n : ℕ) (head : Header) (at : ℕ) → n + head.number ≤ limit → length_refusal n head at ≡ None
short-enough n head at fits = ap (λ (b : Bool). cond b None (Some (TooLong (n + head.number) at))) (le-leb (n + head.number) limit fits)

of-the-run : (run : Whole) (head : Header) (at : ℕ) → eqb run.command head.command ≡ true → length run.payload + head.number ≤ limit → segment_refusal run head at ≡ None
of-the-run run head at same fits =
    ap (λ (b : Bool). cond b (length_refusal (length run.payload) head at) (foreign (Some run.command) head at)) same ∙ short-enough (length run.payload) head at fits

-- one part, and what is behind it
then-read : (at : ℕ) (run : Option Whole) (xs ys : List ℕ) (es : List Event) (mid : ℕ) (stands : Option Whole) (fs : List Event) (end_ : ℕ) (last : Option Whole) → read at run xs ≡ brought es mid stands → read mid stands ys ≡ brought fs end_ last → read at run (xs ++ ys) ≡ brought (es ++ fs) end_ last
then-read at run xs ys es mid stands fs end_ last a b =
    sym (read-join at run xs ys) ∙ ap (λ (x : Assembled). fed_on x.events x.left ys) a ∙ ap (λ (x : Assembled). let y : Assembled = record { events = es ++ x.events; left = x.left } in y) b

-- A header that is refused: no event comes of its frame, nor of what is behind it.

abbrev failed : FrameFault → Assembled
failed fault = record { events = []; left = Err fault }

Fails : ℕ → Option Whole → List ℕ → Type 0
Fails at run bytes = (fault : FrameFault) × (read at run bytes ≡ failed fault)

frame-refused : (order : Order) (server : Bool) (segment : Segment) (command : ℕ) (payload : List ℕ) (run : Option Whole) (at : ℕ) (fault : FrameFault) → length payload ≤ limit
    → refusal_by segment run (head_of order server (kind_of segment) command (length payload)) at ≡ Some fault → Fails at run (frame_bytes order server (kind_of segment) command payload)
unfolding Fails
frame-refused order server segment command payload run at fault fits refused =
    let kind = kind_of segment in
    let size = length payload in
    let head = head_of order server kind command size in
    let bytes = frame_bytes order server kind command payload in
    let is : header_of bytes ≡ head = header-written order server kind command size payload (flags-order order server segment) (omega arith) in
    let eight = header-size order server kind command size in
    let long : 8 ≤ length bytes = omega (arith, eight, length-append (header_bytes order server kind command size) payload) in
    let judged : refusal run (header_of bytes) at ≡ Some fault =
    ap (λ (h : Header). refusal run h at) is
    ∙ ap (λ (b : Bool). cond b None (refusal_by (segment_of head) run head at)) (flags-control order server segment command size)
    ∙ ap (λ (s : Segment). refusal_by s run head at) (flags-segment order server segment command size) ∙ refused in
    let rest : refusal_of_rest run bytes at ≡ Some fault = ap (λ (b : Bool). cond b (refusal run (header_of bytes) at) None) (le-leb 8 (length bytes) long) ∙ judged in
    (fault, sym (read-by_cut at run bytes) ∙ refused-at-once run at bytes fault rest)

-- the length is refused
too-long : (n : ℕ) (head : Header) (at : ℕ) → limit < n + head.number → length_refusal n head at ≡ Some (TooLong (n + head.number) at)
too-long n head at long = ap (λ (b : Bool). cond b None (Some (TooLong (n + head.number) at))) (lt-leb (n + head.number) limit long)

over-the-run : (run : Whole) (head : Header) (at : ℕ) → eqb run.command head.command ≡ true → limit < length run.payload + head.number
    → cond (eqb run.command head.command) (length_refusal (length run.payload) head at) (foreign (Some run.command) head at) ≡ Some (TooLong (length run.payload + head.number) at)
over-the-run run head at same long =
    ap (λ (b : Bool). cond b (length_refusal (length run.payload) head at) (foreign (Some run.command) head at)) same ∙ too-long (length run.payload) head at long

-- a part that is taken, and then one that is refused
then-fails : (at : ℕ) (run : Option Whole) (xs ys : List ℕ) (mid : ℕ) (stands : Option Whole) → read at run xs ≡ brought [] mid stands → Fails mid stands ys → Fails at run (xs ++ ys)
unfolding Fails
then-fails at run xs ys mid stands a b = (b.0, sym (read-join at run xs ys) ∙ ap (λ (x : Assembled). fed_on x.events x.left ys) a ∙ b.1)

first-fails : (at : ℕ) (run : Option Whole) (xs ys : List ℕ) → Fails at run xs → Fails at run (xs ++ ys)
unfolding Fails
first-fails at run xs ys b = (b.0, sym (read-join at run xs ys) ∙ ap (λ (x : Assembled). fed_on x.events x.left ys) b.1)

-- the segments behind the first
later-fails : (n : ℕ) (order : Order) (server : Bool) (command segment : ℕ) (payload : List ℕ) (run : Whole) (at : ℕ) → 0 < segment → segment ≤ limit → length payload ≤ n → eqb run.command command ≡ true
    → length run.payload ≤ limit → limit < length run.payload + length payload → Fails at (Some run) (later_segments order server command segment payload)
unfolding kind_of
later-fails zero order server command segment payload run at some small h same short long = absurd (omega (arith, h, short, long))
later-fails (suc n) order server command segment payload run at some small h same short long =
    let first = take segment payload in
    let rest = drop segment payload in
    let frame = frame_bytes order server 48 command first in
    let later = later_segments order server command segment rest in
    let all = later_segments order server command segment payload in
    let step : (b : Bool) → leb (length payload) segment ≡ b → Fails at (Some run) all =
    λ b. elim b as (λ (b : Bool). leb (length payload) segment ≡ b → Fails at (Some run) all) [
      | true ↦ λ is.
          let few = leb-true (length payload) segment is in
          subst (Fails at (Some run)) (sym (later-last order server command segment payload some few))
          (frame-refused order server Last command payload (Some run) at (TooLong (length run.payload + length payload) at) (omega (arith, few, small))
          (over-the-run run (head_of order server (kind_of Last) command (length payload)) at same long))
      | false ↦ λ is.
          let more = leb-false (length payload) segment is in
          let size = length-take-le segment payload (omega (arith, more)) in
          let left = length-drop segment payload in
          let longer = part (Some run) order command first at in
          let sum = length-append run.payload first in
          let by : (c : Bool) → leb (length run.payload + segment) limit ≡ c → Fails at (Some run) (frame ++ later) =
          λ c. elim c as (λ (c : Bool). leb (length run.payload + segment) limit ≡ c → Fails at (Some run) (frame ++ later)) [
            | true ↦ λ within.
                let fits = leb-true (length run.payload + segment) limit within in
                let a = frame-read order server Middle command first (Some run) at (omega (arith, size, small)) (of-the-run run (head_of order server (kind_of Middle) command (length first)) at same (omega (arith, size, fits))) in
                then-fails at (Some run) frame later (at + length frame) (Some longer) a
                (later-fails n order server command segment rest longer (at + length frame) some small (omega (arith, left, h, some, more)) same (omega (arith, sum, size, fits)) (omega (arith, sum, size, left, long, more)))
            | false ↦ λ over.
                let beyond = leb-false (length run.payload + segment) limit over in
                first-fails at (Some run) frame later
                (frame-refused order server Middle command first (Some run) at (TooLong (length run.payload + length first) at) (omega (arith, size, small))
                (over-the-run run (head_of order server (kind_of Middle) command (length first)) at same (omega (arith, size, beyond))))
          ] in
          subst (Fails at (Some run)) (sym (later-middle order server command segment payload some more)) (by (leb (length run.payload + segment) limit) refl)
    ] in
    step (leb (length payload) segment) refl

-- a message
message-fails : (order : Order) (server : Bool) (command segment : ℕ) (payload : List ℕ) (at : ℕ) → 0 < segment → segment ≤ limit → limit < length payload → Fails at None (message_bytes order server command payload segment)
unfolding kind_of
message-fails order server command segment payload at some small long =
    let first = take segment payload in
    let rest = drop segment payload in
    let frame = frame_bytes order server 16 command first in
    let later = later_segments order server command segment rest in
    let size = length-take-le segment payload (omega (arith, small, long)) in
    let left = length-drop segment payload in
    let begun = part None order command first at in
    let several : leb (length payload) segment ≡ false = lt-leb (length payload) segment (omega (arith, small, long)) in
    let a = frame-read order server First command first None at (omega (arith, size, small)) (short-enough 0 (head_of order server (kind_of First) command (length first)) at (omega (arith, size, small))) in
    let b = later-fails (length rest) order server command segment rest begun (at + length frame) some small (omega arith) (eq-eqb command command refl) (omega (arith, size, small)) (omega (arith, size, left, long, small)) in
    subst (λ (b : Bool). Fails at None (cond b (frame_bytes order server 0 command payload) (frame ++ later))) (sym several)
    (then-fails at None frame later (at + length frame) (Some begun) a b)

-- Behind a boundary it brings none, whatever follows.
pub overlong_brings_none : (before after payload : List ℕ) (at : ℕ) (order : Order) (server : Bool) (command segment : ℕ) → left_from 0 None before ≡ Ok (boundary at) → 0 < segment → segment ≤ limit → limit < length payload
    → events_from 0 None (before ++ (message_bytes order server command payload segment ++ after)) ≡ events_from 0 None before
unfolding Fails
overlong_brings_none before after payload at order server command segment stands some small long =
    let message = message_bytes order server command payload segment in
    let fails = first-fails at None message after (message-fails order server command segment payload at some small long) in
    events-join 0 None before (message ++ after) (boundary at) stands
    ∙ ap (λ (es : List Event). events_from 0 None before ++ es) (ap (λ (a : Assembled). a.events) fails.1)
    ∙ append-nil (events_from 0 None before)

-- and one of its headers is refused
pub overlong_is_refused : (before after payload : List ℕ) (at : ℕ) (order : Order) (server : Bool) (command segment : ℕ) → left_from 0 None before ≡ Ok (boundary at) → 0 < segment → segment ≤ limit → limit < length payload
    → (fault : FrameFault) × (left_from 0 None (before ++ (message_bytes order server command payload segment ++ after)) ≡ Err fault)
unfolding Fails
overlong_is_refused before after payload at order server command segment stands some small long =
    let message = message_bytes order server command payload segment in
    let fails = first-fails at None message after (message-fails order server command segment payload at some small long) in (
      fails.0,
      sym (ap (λ (a : Assembled). a.left) (read-join 0 None before (message ++ after)))
          ∙ ap (λ (l : Result Unfinished FrameFault). (fed_on (events_from 0 None before) l (message ++ after)).left) stands
          ∙ ap (λ (a : Assembled). a.left) fails.1,
    )
