-- A header whose eight bytes are all there, and which is not refused.
use Rattle.std.proofs.Common.{◌≡◌, ℕ, ◌+◌, ◌≤◌, ◌<◌, Bool, true, false, cond, leb, eq-eqb, ◌&&◌, List, [], ◌∷◌, ◌++◌, length, take, drop, slice_index, Option, None, Some, sym, ap, ◌∙◌, subst, arith}
use Rattle.std.proofs.lemmas.List.{append-nil, take_all, drop_all}
use Rattle.std.proofs.lemmas.Bool.{lt-leb}
use Rattle.pva_frames.specs.declared.event.Whole.{Whole}
use Rattle.pva_frames.specs.declared.event.Event.{Event}
use Rattle.pva_frames.specs.declared.event.Event.TheVariants.{Message, Control}
use Rattle.pva_frames.specs.declared.header.Header.{Header}
use Rattle.pva_frames.specs.declared.reader.Run.{Run}
use Rattle.pva_frames.specs.declared.reader.Mark.{Mark}
use Rattle.pva_frames.specs.Headers.{magic, header_of, is_control, segment_of, payload_size}
use Rattle.pva_frames.specs.Frames.{Frame, size_of}
use Rattle.pva_frames.specs.Messages.{refusal, joined, ends, run_after, event_of, Unfinished}
use Rattle.pva_frames.proofs.Joins.{refusal-header}
use Rattle.pva_frames.specs.Reader.{run_of, run_size, unfinished_of, is_unfinished, Brings}
use Rattle.pva_frames.proofs.Bringing.{brings-frame, unfinished-rests}

-- a control message
control-here : (es : List Event) (at : ℕ) (run : Option Run) (payload bytes : List ℕ) (new : Mark) → is_control (header_of bytes) ≡ true → slice_index bytes 0 ≡ magic → length bytes ≡ 8 → length payload ≡ run_size run → refusal (run_of run payload) (header_of bytes) at ≡ None → new.place ≡ at + 8 → new.filled ≡ 0 → new.run ≡ run
    → Brings es at (run_of run payload) bytes (es ++ Control (header_of bytes).command (header_of bytes).number ∷ []) None (unfinished_of new payload)
control-here es at run payload bytes new control first eight size sound place filled same =
    let head = header_of bytes in
    let stands = run_of run payload in
    let frame : Frame = record { place = at; bytes = bytes } in
    let whole : length bytes ≡ size_of bytes = eight ∙ ap (λ (b : Bool). 8 + cond b 0 head.number) (sym control) in
    let event : event_of stands frame ≡ Control head.command head.number ∷ [] =
    ap (λ (b : Bool). cond b (Control head.command head.number ∷ []) (cond (ends (segment_of head)) (Message (joined stands frame) ∷ []) [])) control in
    let kept : run_after stands frame ≡ run_of new.run payload =
    ap (λ (b : Bool). cond b stands (cond (ends (segment_of head)) None (Some (joined stands frame)))) control ∙ ap (λ (r : Option Run). run_of r payload) (sym same) in
    let next : at + length bytes ≡ new.place = omega (arith, eight, place) in
    let held : [] ≡ take new.filled new.head ++ drop (run_size new.run) payload =
    sym (ap (λ (n : ℕ). take n new.head ++ drop (run_size new.run) payload) filled ∙ ap (λ (r : Option Run). drop (run_size r) payload) same ∙ drop_all (run_size run) payload (omega (arith, size))) in
    let left : (let u : Unfinished = record { place = at + length bytes; run = run_after stands frame; held = [] } in u) ≡ unfinished_of new payload =
    rw (next, kept) (ap (λ (l : List ℕ). let u : Unfinished = record { place = new.place; run = run_of new.run payload; held = l } in u) held) in
    subst (λ (u : Unfinished). Brings es at stands bytes (es ++ Control head.command head.number ∷ []) None u) left
    (subst (λ (x : List Event). Brings es at stands bytes (es ++ x) None (record { place = at + length bytes; run = run_after stands frame; held = [] })) event
    (brings-frame es at stands bytes first whole sound))

pub control-brings : (es : List Event) (at : ℕ) (run : Option Run) (payload bytes : List ℕ) (head : Header) (new : Mark) → head ≡ header_of bytes → is_control head ≡ true → slice_index bytes 0 ≡ magic → length bytes ≡ 8 → length payload ≡ run_size run → refusal (run_of run payload) head at ≡ None → new.place ≡ at + 8 → new.filled ≡ 0 → new.run ≡ run
    → Brings es at (run_of run payload) bytes (es ++ Control head.command head.number ∷ []) None (unfinished_of new payload)
control-brings es at run payload bytes head new is control first eight size sound place filled same =
    let family : Header → Type 0 = λ h. is_control h ≡ true → refusal (run_of run payload) h at ≡ None → Brings es at (run_of run payload) bytes (es ++ Control h.command h.number ∷ []) None (unfinished_of new payload) in
    subst family (sym is) (λ control sound. control-here es at run payload bytes new control first eight size sound place filled same) control sound

-- the payload is still to come
pub begun : (at : ℕ) (run : Option Whole) (bytes : List ℕ) (head : Header) → head ≡ header_of bytes → is_control head ≡ false → slice_index bytes 0 ≡ magic → 8 ≤ length bytes → length bytes < 8 + head.number → refusal run head at ≡ None
    → is_unfinished (record { place = at; run = run; held = bytes }) ≡ true
begun at run [] head is control first eight more sound = absurd (omega arith)
begun at run (b ∷ bytes) head is control first eight more sound =
    let size : size_of (b ∷ bytes) ≡ 8 + head.number =
    ap (λ (h : Header). 8 + payload_size h) (sym is) ∙ ap (λ (c : Bool). 8 + cond c 0 head.number) control in
    unfinished-rests (record { place = at; run = run; held = b ∷ bytes }) (record {
      unwhole = ap (λ (t : Bool). t && leb (size_of (b ∷ bytes)) (length (b ∷ bytes))) (eq-eqb b magic first) ∙ lt-leb (size_of (b ∷ bytes)) (length (b ∷ bytes)) (omega (arith, size));
      sound = refusal-header run at b bytes (eq-eqb b magic first) eight ∙ ap (λ (h : Header). refusal run h at) (sym is) ∙ sound;
    })

-- a mark whose header is whole, before any payload
pub whole_header : (at : ℕ) (run : Option Run) (payload bytes : List ℕ) → length payload ≡ run_size run → length bytes ≡ 8 → (let left : Unfinished = record { place = at; run = run_of run payload; held = bytes } in left) ≡ unfinished_of (record { place = at; head = bytes; filled = 8; run = run }) payload
whole_header at run payload bytes none eight =
    let held : bytes ≡ take 8 bytes ++ drop (run_size run) payload =
    sym (ap (λ (l : List ℕ). take 8 bytes ++ l) (drop_all (run_size run) payload (omega (arith, none))) ∙ append-nil (take 8 bytes) ∙ take_all 8 bytes (omega (arith, eight))) in
    ap (λ (l : List ℕ). let left : Unfinished = record { place = at; run = run_of run payload; held = l } in left) held
