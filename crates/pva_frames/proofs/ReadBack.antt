-- What was written is read back.
use Rattle.std.proofs.Common.{◌≡◌, ℕ, zero, suc, ◌+◌, ◌≤◌, ◌<◌, ◌^◌, Bool, true, false, cond, eqb, leb, eq-eqb, List, [], ◌∷◌, ◌++◌, length, take, drop, Option, None, Some, Result, Ok, refl, sym, ap, ◌∙◌, subst, arith, append_assoc, length-append}
use Rattle.std.proofs.lemmas.List.{append-nil, length-drop, length-take-le, take-append-drop, drop_at}
use Rattle.std.proofs.lemmas.Bool.{le-leb, leb-true, leb-false}
use Rattle.byteorder.specs.Numbers.{length-bytes_low_first, length-bytes_high_first, little_number-reads_back, big_number-reads_back}
use Rattle.pva_wire.specs.declared.order.Order.{Order}
use Rattle.pva_wire.specs.declared.order.Order.TheVariants.{Little, Big}
use Rattle.pva_frames.specs.declared.event.Whole.{Whole}
use Rattle.pva_frames.specs.declared.event.Event.{Event}
use Rattle.pva_frames.specs.declared.event.Event.TheVariants.{Message, Control}
use Rattle.pva_frames.specs.declared.header.Header.{Header}
use Rattle.pva_frames.specs.declared.header.Segment.{Segment}
use Rattle.pva_frames.specs.declared.header.Segment.TheVariants.{Single, First, Middle, Last}
use Rattle.pva_frames.specs.declared.fault.FrameFault.{FrameFault}
use Rattle.pva_frames.specs.declared.fault.FrameFault.TheVariants.{TooLong}
use Rattle.pva_frames.specs.Numbers.{number_of, number_bytes}
use Rattle.pva_frames.specs.Headers.{order_of, header_of, is_control, segment_of}
use Rattle.pva_frames.specs.Frames.{Frame, size_of}
use Rattle.pva_frames.specs.Messages.{limit, refusal, refusal_by, length_refusal, segment_refusal, foreign, joined, ends, event_of, run_after, Unfinished, events_from, left_from}
use Rattle.pva_frames.specs.Assembled.{Assembled, fed_on}
use Rattle.pva_frames.proofs.Joins.{read-join}
use Rattle.pva_frames.specs.Spelling.{order_flag, server_flag, header_bytes, frame_bytes, control_bytes, later_segments, message_bytes}
use Rattle.pva_frames.proofs.Bringing.{brings-frame}
use Rattle.pva_frames.specs.Laws.{stream, and_then, MessageReadsBack, ControlReadsBack}
use Rattle.pva_frames.proofs.Written.{later-middle, later-last}

number-size : (order : Order) (x : ℕ) → length (number_bytes order x) ≡ 4
number-size Little x = length-bytes_low_first 0 4 x
number-size Big x = length-bytes_high_first 4 x

number-back : (order : Order) (x : ℕ) (rest : List ℕ) → x < 2 ^ 32 → number_of order (number_bytes order x ++ rest) ≡ x
number-back Little x rest h = little_number-reads_back 4 x rest h
number-back Big x rest h = big_number-reads_back 4 x rest h

-- bits 4 and 5 of the flags
kind_of : Segment → ℕ
kind_of Single = 0
kind_of First = 16
kind_of Middle = 48
kind_of Last = 32

-- the flags of a header that was written
flags_of : Order → Bool → ℕ → ℕ
flags_of order server kind = order_flag order + server_flag server + kind

-- the header that was written
abbrev head_of : Order → Bool → ℕ → ℕ → ℕ → Header
head_of order server kind command number = record { order = order; flags = flags_of order server kind; command = command; number = number }

flags-order : (order : Order) (server : Bool) (segment : Segment) → order_of (flags_of order server (kind_of segment)) ≡ order
unfolding flags_of kind_of
flags-order Little true Single = refl
flags-order Little true First = refl
flags-order Little true Middle = refl
flags-order Little true Last = refl
flags-order Little false Single = refl
flags-order Little false First = refl
flags-order Little false Middle = refl
flags-order Little false Last = refl
flags-order Big true Single = refl
flags-order Big true First = refl
flags-order Big true Middle = refl
flags-order Big true Last = refl
flags-order Big false Single = refl
flags-order Big false First = refl
flags-order Big false Middle = refl
flags-order Big false Last = refl

flags-control : (order : Order) (server : Bool) (segment : Segment) (command number : ℕ) → is_control (head_of order server (kind_of segment) command number) ≡ false
unfolding flags_of kind_of
flags-control Little true Single command number = refl
flags-control Little true First command number = refl
flags-control Little true Middle command number = refl
flags-control Little true Last command number = refl
flags-control Little false Single command number = refl
flags-control Little false First command number = refl
flags-control Little false Middle command number = refl
flags-control Little false Last command number = refl
flags-control Big true Single command number = refl
flags-control Big true First command number = refl
flags-control Big true Middle command number = refl
flags-control Big true Last command number = refl
flags-control Big false Single command number = refl
flags-control Big false First command number = refl
flags-control Big false Middle command number = refl
flags-control Big false Last command number = refl

flags-segment : (order : Order) (server : Bool) (segment : Segment) (command number : ℕ) → segment_of (head_of order server (kind_of segment) command number) ≡ segment
unfolding flags_of kind_of
flags-segment Little true Single command number = refl
flags-segment Little true First command number = refl
flags-segment Little true Middle command number = refl
flags-segment Little true Last command number = refl
flags-segment Little false Single command number = refl
flags-segment Little false First command number = refl
flags-segment Little false Middle command number = refl
flags-segment Little false Last command number = refl
flags-segment Big true Single command number = refl
flags-segment Big true First command number = refl
flags-segment Big true Middle command number = refl
flags-segment Big true Last command number = refl
flags-segment Big false Single command number = refl
flags-segment Big false First command number = refl
flags-segment Big false Middle command number = refl
flags-segment Big false Last command number = refl

control-order : (order : Order) (server : Bool) → order_of (flags_of order server 1) ≡ order
unfolding flags_of
control-order Little true = refl
control-order Little false = refl
control-order Big true = refl
control-order Big false = refl

control-flag : (order : Order) (server : Bool) (command number : ℕ) → is_control (head_of order server 1 command number) ≡ true
unfolding flags_of
control-flag Little true command number = refl
control-flag Little false command number = refl
control-flag Big true command number = refl
control-flag Big false command number = refl

-- a header that was written is read as it was
header-written : (order : Order) (server : Bool) (kind command number : ℕ) (rest : List ℕ) → order_of (flags_of order server kind) ≡ order → number < 2 ^ 32 → header_of (header_bytes order server kind command number ++ rest) ≡ head_of order server kind command number
unfolding header_of flags_of
header-written order server kind command number rest is fits =
    let flags = order_flag order + server_flag server + kind in
    ap (λ (o : Order). let h : Header = record { order = o; flags = flags; command = command; number = number_of o (number_bytes order number ++ rest) } in h) is
    ∙ ap (λ (n : ℕ). let h : Header = record { order = order; flags = flags; command = command; number = n } in h) (number-back order number rest fits)

pub header-size : (order : Order) (server : Bool) (kind command number : ℕ) → length (header_bytes order server kind command number) ≡ 8
header-size order server kind command number = let e = number-size order number in omega (arith, e)

-- what bytes bring
abbrev read : ℕ → Option Whole → List ℕ → Assembled
read at run bytes = record { events = events_from at run bytes; left = left_from at run bytes }

abbrev brought : List Event → ℕ → Option Whole → Assembled
brought events at run = record { events = events; left = Ok (record { place = at; run = run; held = [] }) }

-- the message so far, with one more payload
abbrev part : Option Whole → Order → ℕ → List ℕ → ℕ → Whole
part None order command payload at = record { order = order; command = command; payload = payload; place = at }
part (Some run) order command payload at = record { order = run.order; command = run.command; payload = run.payload ++ payload; place = run.place }

joined-part : (run : Option Whole) (frame : Frame) (head : Header) (payload : List ℕ) → header_of frame.bytes ≡ head → drop 8 frame.bytes ≡ payload → joined run frame ≡ part run head.order head.command payload frame.place
joined-part None frame head payload is body =
    ap (λ (h : Header). let w : Whole = record { order = h.order; command = h.command; payload = drop 8 frame.bytes; place = frame.place } in w) is
    ∙ ap (λ (l : List ℕ). let w : Whole = record { order = head.order; command = head.command; payload = l; place = frame.place } in w) body
joined-part (Some run) frame head payload is body =
    ap (λ (l : List ℕ). let w : Whole = record { order = run.order; command = run.command; payload = run.payload ++ l; place = run.place } in w) body

-- one frame of an application message
frame-read : (order : Order) (server : Bool) (segment : Segment) (command : ℕ) (payload : List ℕ) (run : Option Whole) (at : ℕ) → length payload ≤ limit → refusal_by segment run (head_of order server (kind_of segment) command (length payload)) at ≡ None
    → read at run (frame_bytes order server (kind_of segment) command payload) ≡ brought (cond (ends segment) (Message (part run order command payload at) ∷ []) []) (at + length (frame_bytes order server (kind_of segment) command payload)) (cond (ends segment) None (Some (part run order command payload at)))
frame-read order server segment command payload run at fits accepted =
    let kind = kind_of segment in
    let size = length payload in
    let head = head_of order server kind command size in
    let front = header_bytes order server kind command size in
    let bytes = frame_bytes order server kind command payload in
    let frame : Frame = record { place = at; bytes = bytes } in
    let is : header_of bytes ≡ head = header-written order server kind command size payload (flags-order order server segment) (omega arith) in
    let eight = header-size order server kind command size in
    let body : drop 8 bytes ≡ payload = drop_at front payload 8 eight in
    let control : is_control (header_of bytes) ≡ false = ap is_control is ∙ flags-control order server segment command size in
    let which : segment_of (header_of bytes) ≡ segment = ap segment_of is ∙ flags-segment order server segment command size in
    let whole : length bytes ≡ size_of bytes =
    length-append front payload ∙ ap (λ (n : ℕ). n + size) eight ∙ ap (λ (h : Header). 8 + h.number) (sym is) ∙ ap (λ (b : Bool). 8 + cond b 0 (header_of bytes).number) (sym control) in
    let sound : refusal run (header_of bytes) at ≡ None =
    ap (λ (h : Header). refusal run h at) is
    ∙ ap (λ (b : Bool). cond b None (refusal_by (segment_of head) run head at)) (flags-control order server segment command size)
    ∙ ap (λ (s : Segment). refusal_by s run head at) (flags-segment order server segment command size) ∙ accepted in
    let message = joined-part run frame head payload is body in
    let event : event_of run frame ≡ cond (ends segment) (Message (part run order command payload at) ∷ []) [] =
    ap (λ (b : Bool). cond b (Control (header_of bytes).command (header_of bytes).number ∷ []) (cond (ends (segment_of (header_of bytes))) (Message (joined run frame) ∷ []) [])) control
    ∙ ap (λ (s : Segment). cond (ends s) (Message (joined run frame) ∷ []) []) which
    ∙ ap (λ (w : Whole). cond (ends segment) (Message w ∷ []) []) message in
    let stands : run_after run frame ≡ cond (ends segment) None (Some (part run order command payload at)) =
    ap (λ (b : Bool). cond b run (cond (ends (segment_of (header_of bytes))) None (Some (joined run frame)))) control
    ∙ ap (λ (s : Segment). cond (ends s) None (Some (joined run frame))) which
    ∙ ap (λ (w : Whole). cond (ends segment) None (Some w)) message in
    brings-frame [] at run bytes refl whole sound
    ∙ ap (λ (es : List Event). brought es (at + length bytes) (run_after run frame)) event
    ∙ ap (λ (r : Option Whole). brought (cond (ends segment) (Message (part run order command payload at) ∷ []) []) (at + length bytes) r) stands

-- the length isn't refused
short-enough : (n : ℕ) (head : Header) (at : ℕ) → n + head.number ≤ limit → length_refusal n head at ≡ None
short-enough n head at fits = ap (λ (b : Bool). cond b None (Some (TooLong (n + head.number) at))) (le-leb (n + head.number) limit fits)

of-the-run : (run : Whole) (head : Header) (at : ℕ) → eqb run.command head.command ≡ true → length run.payload + head.number ≤ limit → segment_refusal run head at ≡ None
of-the-run run head at same fits =
    ap (λ (b : Bool). cond b (length_refusal (length run.payload) head at) (foreign (Some run.command) head at)) same ∙ short-enough (length run.payload) head at fits

-- one part, and what is behind it
then-read : (at : ℕ) (run : Option Whole) (xs ys : List ℕ) (es : List Event) (mid : ℕ) (stands : Option Whole) (fs : List Event) (end_ : ℕ) (last : Option Whole) → read at run xs ≡ brought es mid stands → read mid stands ys ≡ brought fs end_ last → read at run (xs ++ ys) ≡ brought (es ++ fs) end_ last
then-read at run xs ys es mid stands fs end_ last a b =
    sym (read-join at run xs ys) ∙ ap (λ (x : Assembled). fed_on x.events x.left ys) a ∙ ap (λ (x : Assembled). let y : Assembled = record { events = es ++ x.events; left = x.left } in y) b

-- bytes that are read as one message
IsRead : ℕ → Option Whole → List ℕ → Whole → Type 0
IsRead at run bytes whole = read at run bytes ≡ brought (Message whole ∷ []) (at + length bytes) None

last-read : (order : Order) (server : Bool) (command segment : ℕ) (payload : List ℕ) (run : Whole) (at : ℕ) → 0 < segment → length payload ≤ segment → eqb run.command command ≡ true → length run.payload + length payload ≤ limit
    → IsRead at (Some run) (later_segments order server command segment payload) (part (Some run) order command payload at)
unfolding IsRead kind_of
last-read order server command segment payload run at some short same fits =
    let family : List ℕ → Type 0 = λ bytes. IsRead at (Some run) bytes (part (Some run) order command payload at) in
    subst family (sym (later-last order server command segment payload some short))
    (frame-read order server Last command payload (Some run) at (omega arith) (of-the-run run (head_of order server (kind_of Last) command (length payload)) at same fits))

-- the segments behind the first
later-read : (n : ℕ) (order : Order) (server : Bool) (command segment : ℕ) (payload : List ℕ) (run : Whole) (at : ℕ) → 0 < segment → length payload ≤ n → eqb run.command command ≡ true → length run.payload + length payload ≤ limit
    → IsRead at (Some run) (later_segments order server command segment payload) (part (Some run) order command payload at)
unfolding IsRead kind_of
later-read zero order server command segment payload run at some h same fits = last-read order server command segment payload run at some (omega arith) same fits
later-read (suc n) order server command segment payload run at some h same fits =
    let step : (b : Bool) → leb (length payload) segment ≡ b → IsRead at (Some run) (later_segments order server command segment payload) (part (Some run) order command payload at) =
    λ b. elim b as (λ (b : Bool). leb (length payload) segment ≡ b → IsRead at (Some run) (later_segments order server command segment payload) (part (Some run) order command payload at)) [
      | true ↦ λ is. last-read order server command segment payload run at some (leb-true (length payload) segment is) same fits
      | false ↦ λ is.
          let more = leb-false (length payload) segment is in
          let first = take segment payload in
          let rest = drop segment payload in
          let long = length-take-le segment payload (omega (arith, more)) in
          let left = length-drop segment payload in
          let frame = frame_bytes order server 48 command first in
          let later = later_segments order server command segment rest in
          let longer = part (Some run) order command first at in
          let size = length-append run.payload first in
          let a = frame-read order server Middle command first (Some run) at (omega (arith, long, fits, more)) (of-the-run run (head_of order server (kind_of Middle) command (length first)) at same (omega (arith, long, fits, more))) in
          let b = later-read n order server command segment rest longer (at + length frame) some (omega (arith, left)) same (omega (arith, size, long, left, fits, more)) in
          let all : longer.payload ++ rest ≡ run.payload ++ payload = append_assoc run.payload first rest ∙ ap (λ (l : List ℕ). run.payload ++ l) (take-append-drop segment payload) in
          let place : at + length frame + length later ≡ at + length (frame ++ later) = omega (arith, length-append frame later) in
          let joined_ = then-read at (Some run) frame later [] (at + length frame) (Some longer) (Message (part (Some longer) order command rest (at + length frame)) ∷ []) (at + length frame + length later) None a b in
          let family : List ℕ → Type 0 = λ bytes. IsRead at (Some run) bytes (part (Some run) order command payload at) in
          subst family (sym (later-middle order server command segment payload some more))
          (joined_ ∙ ap (λ (l : List ℕ). brought (Message (record { order = run.order; command = run.command; payload = l; place = run.place }) ∷ []) (at + length frame + length later) None) all
          ∙ ap (λ (m : ℕ). brought (Message (part (Some run) order command payload at) ∷ []) m None) place)
    ] in
    step (leb (length payload) segment) refl

-- a message at a boundary
message-read : (order : Order) (server : Bool) (command segment : ℕ) (payload : List ℕ) (at : ℕ) → 0 < segment → length payload ≤ limit
    → IsRead at None (message_bytes order server command payload segment) (part None order command payload at)
unfolding IsRead kind_of
message-read order server command segment payload at some fits =
    let whole : Whole = part None order command payload at in
    let single = frame_bytes order server 0 command payload in
    let first = take segment payload in
    let rest = drop segment payload in
    let frame = frame_bytes order server 16 command first in
    let later = later_segments order server command segment rest in
    let family : Bool → Type 0 = λ b. IsRead at None (cond b single (frame ++ later)) whole in
    let step : (b : Bool) → leb (length payload) segment ≡ b → family b =
    λ b. elim b as (λ (b : Bool). leb (length payload) segment ≡ b → family b) [
      | true ↦ λ is. frame-read order server Single command payload None at fits (short-enough 0 (head_of order server (kind_of Single) command (length payload)) at (omega arith))
      | false ↦ λ is.
          let more = leb-false (length payload) segment is in
          let long = length-take-le segment payload (omega (arith, more)) in
          let left = length-drop segment payload in
          let begun = part None order command first at in
          let a = frame-read order server First command first None at (omega (arith, long, fits, more)) (short-enough 0 (head_of order server (kind_of First) command (length first)) at (omega (arith, long, fits, more))) in
          let b = later-read (length rest) order server command segment rest begun (at + length frame) some (omega arith) (eq-eqb command command refl) (omega (arith, long, left, fits, more)) in
          let place : at + length frame + length later ≡ at + length (frame ++ later) = omega (arith, length-append frame later) in
          then-read at None frame later [] (at + length frame) (Some begun) (Message (part (Some begun) order command rest (at + length frame)) ∷ []) (at + length frame + length later) None a b
          ∙ ap (λ (l : List ℕ). brought (Message (record { order = order; command = command; payload = l; place = at }) ∷ []) (at + length frame + length later) None) (take-append-drop segment payload)
          ∙ ap (λ (m : ℕ). brought (Message whole ∷ []) m None) place
    ] in
    step (leb (length payload) segment) refl

-- behind a boundary, and before further bytes
in-stream : (before middle after : List ℕ) (at : ℕ) (run : Option Whole) (event : Event) → left_from 0 None before ≡ Ok (record { place = at; run = run; held = [] }) → read at run middle ≡ brought (event ∷ []) (at + length middle) run
    → stream (before ++ middle ++ after) ≡ and_then (events_from 0 None before) event (at + length middle) run after
in-stream before middle after at run event left is =
    let es = events_from 0 None before in
    let one : stream (before ++ middle) ≡ brought (es ++ event ∷ []) (at + length middle) run =
    then-read 0 None before middle es at run (event ∷ []) (at + length middle) run (ap (λ (r : Result Unfinished FrameFault). let a : Assembled = record { events = es; left = r } in a) left) is in
    sym (read-join 0 None (before ++ middle) after) ∙ ap (λ (x : Assembled). fed_on x.events x.left after) one
    ∙ ap (λ (l : List Event). let a : Assembled = record { events = l; left = left_from (at + length middle) run after } in a) (append_assoc es (event ∷ []) (events_from (at + length middle) run after))

pub message_reads_back : MessageReadsBack
unfolding IsRead
message_reads_back before after payload at order server command segment left some fits =
    in-stream before (message_bytes order server command payload segment) after at None (Message (part None order command payload at)) left (message-read order server command segment payload at some fits)

control-read : (order : Order) (server : Bool) (command number : ℕ) (run : Option Whole) (at : ℕ) → number < 2 ^ 32 → read at run (control_bytes order server command number) ≡ brought (Control command number ∷ []) (at + 8) run
control-read order server command number run at fits =
    let bytes = control_bytes order server command number in
    let head = head_of order server 1 command number in
    let frame : Frame = record { place = at; bytes = bytes } in
    let is : header_of bytes ≡ head = ap header_of (sym (append-nil bytes)) ∙ header-written order server 1 command number [] (control-order order server) fits in
    let eight = header-size order server 1 command number in
    let control : is_control (header_of bytes) ≡ true = ap is_control is ∙ control-flag order server command number in
    let whole : length bytes ≡ size_of bytes = eight ∙ ap (λ (b : Bool). 8 + cond b 0 (header_of bytes).number) (sym control) in
    let sound : refusal run (header_of bytes) at ≡ None = ap (λ (b : Bool). cond b None (refusal_by (segment_of (header_of bytes)) run (header_of bytes) at)) control in
    let event : event_of run frame ≡ Control command number ∷ [] =
    ap (λ (b : Bool). cond b (Control (header_of bytes).command (header_of bytes).number ∷ []) (cond (ends (segment_of (header_of bytes))) (Message (joined run frame) ∷ []) [])) control
    ∙ ap (λ (h : Header). Control h.command h.number ∷ []) is in
    let stands : run_after run frame ≡ run = ap (λ (b : Bool). cond b run (cond (ends (segment_of (header_of bytes))) None (Some (joined run frame)))) control in
    brings-frame [] at run bytes refl whole sound
    ∙ ap (λ (es : List Event). brought es (at + length bytes) (run_after run frame)) event
    ∙ ap (λ (r : Option Whole). brought (Control command number ∷ []) (at + length bytes) r) stands
    ∙ ap (λ (n : ℕ). brought (Control command number ∷ []) (at + n) run) eight

pub control_reads_back : ControlReadsBack
control_reads_back before after at run order server command number left fits =
    let bytes = control_bytes order server command number in
    let eight = header-size order server 1 command number in
    let is = control-read order server command number run at fits ∙ ap (λ (n : ℕ). brought (Control command number ∷ []) (at + n) run) (sym eight) in
    in-stream before bytes after at run (Control command number) left is ∙ ap (λ (n : ℕ). and_then (events_from 0 None before) (Control command number) (at + n) run after) eight
