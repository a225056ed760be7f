-- A frame whose bytes are all there.
use Rattle.std.proofs.Common.{◌≡◌, ℕ, ◌+◌, Bool, false, cond, List, [], ◌∷◌, ◌++◌, length, take, drop, slice_index, Option, None, Some, sym, ap, ◌∙◌, subst, arith}
use Rattle.std.proofs.lemmas.List.{take-append-drop, drop_all}
use Rattle.pva_frames.specs.declared.event.Whole.{Whole}
use Rattle.pva_frames.specs.declared.event.Event.{Event}
use Rattle.pva_frames.specs.declared.event.Event.TheVariants.{Message, Control}
use Rattle.pva_frames.specs.declared.header.Header.{Header}
use Rattle.pva_frames.specs.declared.reader.Run.{Run}
use Rattle.pva_frames.specs.declared.reader.Mark.{Mark}
use Rattle.pva_frames.specs.Headers.{magic, header_of, is_control, segment_of}
use Rattle.pva_frames.specs.Frames.{Frame, size_of}
use Rattle.pva_frames.specs.Frames as frames
use Rattle.pva_frames.specs.Messages.{refusal, joined, ends, run_after, event_of, Unfinished}
use Rattle.pva_frames.specs.Reader.{run_of, run_size, unfinished_of, Brings, message_of, message_event, EndsFrame}
use Rattle.pva_frames.proofs.Bringing.{brings-frame}

-- the frame's payload stands behind the run's
joined-message : (run : Option Run) (payload : List ℕ) (frame : Frame) → frames.payload frame ≡ drop (run_size run) payload → joined (run_of run payload) frame ≡ message_of run (header_of frame.bytes) frame.place payload
joined-message None payload frame e = ap (λ (l : List ℕ). let w : Whole = record { order = (header_of frame.bytes).order; command = (header_of frame.bytes).command; payload = l; place = frame.place } in w) e
joined-message (Some run) payload frame e =
    ap (λ (l : List ℕ). let w : Whole = record { order = run.order; command = run.command; payload = take run.length payload ++ l; place = run.place } in w) e
    ∙ ap (λ (l : List ℕ). let w : Whole = record { order = run.order; command = run.command; payload = l; place = run.place } in w) (take-append-drop run.length payload)

-- an event, or what is left, by two tests
by_tests : {X : Type 0} → Bool → Bool → X → X → X → X
by_tests control last x y z = cond control x (cond last y z)

ends-here : (es : List Event) (old : Mark) (payload bytes : List ℕ) (new : Mark) (after : List ℕ) → EndsFrame old payload (header_of bytes) new after → is_control (header_of bytes) ≡ false → slice_index bytes 0 ≡ magic → drop 8 bytes ≡ drop (run_size old.run) payload → length bytes ≡ 8 + (header_of bytes).number → refusal (run_of old.run payload) (header_of bytes) old.place ≡ None
    → Brings es old.place (run_of old.run payload) bytes (es ++ message_event old.run (header_of bytes) old.place payload) None (unfinished_of new after)
ends-here es old payload bytes new after e control first body size sound =
    let head = header_of bytes in
    let run = run_of old.run payload in
    let frame : Frame = record { place = old.place; bytes = bytes } in
    let whole : length bytes ≡ size_of bytes = size ∙ ap (λ (b : Bool). 8 + cond b 0 head.number) (sym control) in
    let message = joined-message old.run payload frame body in
    let event : event_of run frame ≡ message_event old.run head old.place payload =
    ap (λ (b : Bool). cond b (Control head.command head.number ∷ []) (cond (ends (segment_of head)) (Message (joined run frame) ∷ []) [])) control
    ∙ ap (λ (w : Whole). cond (ends (segment_of head)) (Message w ∷ []) []) message in
    let stands : run_after run frame ≡ run_of new.run after =
    ap (λ (b : Bool). cond b run (cond (ends (segment_of head)) None (Some (joined run frame)))) control
    ∙ ap (λ (w : Whole). cond (ends (segment_of head)) None (Some w)) message ∙ sym e.run in
    let place : old.place + length bytes ≡ new.place = omega (arith, size, e.place) in
    let held : [] ≡ take new.filled new.head ++ drop (run_size new.run) after =
    sym (ap (λ (n : ℕ). take n new.head ++ drop (run_size new.run) after) e.filled ∙ drop_all (run_size new.run) after (omega (arith, e.size))) in
    let left : (let u : Unfinished = record { place = old.place + length bytes; run = run_after run frame; held = [] } in u) ≡ unfinished_of new after =
    rw (place, stands) (ap (λ (l : List ℕ). let u : Unfinished = record { place = new.place; run = run_of new.run after; held = l } in u) held) in
    subst (λ (u : Unfinished). Brings es old.place run bytes (es ++ message_event old.run head old.place payload) None u) left
    (subst (λ (x : List Event). Brings es old.place run bytes (es ++ x) None (record { place = old.place + length bytes; run = run_after run frame; held = [] })) event
    (brings-frame es old.place run bytes first whole sound))

-- the same, where the header was read from other bytes
pub ends-brings : (es : List Event) (old : Mark) (payload bytes : List ℕ) (head : Header) (new : Mark) (after : List ℕ) → EndsFrame old payload head new after → head ≡ header_of bytes → is_control head ≡ false → slice_index bytes 0 ≡ magic → drop 8 bytes ≡ drop (run_size old.run) payload → length bytes ≡ 8 + head.number → refusal (run_of old.run payload) head old.place ≡ None
    → Brings es old.place (run_of old.run payload) bytes (es ++ message_event old.run head old.place payload) None (unfinished_of new after)
ends-brings es old payload bytes head new after e is control first body size sound =
    let family : Header → Type 0 = λ h. EndsFrame old payload h new after → is_control h ≡ false → length bytes ≡ 8 + h.number → refusal (run_of old.run payload) h old.place ≡ None
    → Brings es old.place (run_of old.run payload) bytes (es ++ message_event old.run h old.place payload) None (unfinished_of new after) in
    subst family (sym is) (λ e control size sound. ends-here es old payload bytes new after e control first body size sound) e control size sound
