-- A message that stands whole in front of a piece.
use Rattle.std.proofs.Common.{◌≡◌, ℕ, ◌+◌, ◌-◌, ◌≤◌, Bool, false, cond, List, [], ◌∷◌, ◌++◌, length, take, drop, replicate, Option, None, Some, refl, sym, ap, ◌∙◌, subst, arith}
use Rattle.std.proofs.lemmas.List.{get_or-take, length-take-le, length-drop, drop-take, drop_all}
use Rattle.std.proofs.lemmas.Bool.{le-leb}
use Rattle.pva_frames.specs.declared.event.Whole.{Whole}
use Rattle.pva_frames.specs.declared.event.Event.{Event}
use Rattle.pva_frames.specs.declared.event.Event.TheVariants.{Message}
use Rattle.pva_frames.specs.declared.fault.FrameFault.TheVariants.{TooLong}
use Rattle.pva_frames.specs.declared.header.Header.{Header}
use Rattle.pva_frames.specs.declared.header.Segment.{Segment}
use Rattle.pva_frames.specs.declared.header.Segment.TheVariants.{Single}
use Rattle.pva_frames.specs.declared.reader.Run.{Run}
use Rattle.pva_frames.specs.declared.reader.Mark.{Mark}
use Rattle.pva_frames.specs.Headers.{header_of, is_control, segment_of, IsSingle}
use Rattle.pva_frames.proofs.Cutting.{header-take}
use Rattle.pva_frames.specs.Messages.{limit, refusal, refusal_by, ends, Unfinished}
use Rattle.pva_frames.specs.Reader.{run_of, run_size, unfinished_of, Brings, message_of, message_event, EndsFrame, Takes, IsLent}
use Rattle.pva_frames.proofs.Ending.{ends-brings}

-- a length within the limit isn't refused
unrefused : (head : Header) (at : ℕ) → is_control head ≡ false → segment_of head ≡ Single → head.number ≤ limit → refusal None head at ≡ None
unrefused head at application single small =
    ap (λ (b : Bool). cond b None (refusal_by (segment_of head) None head at)) application
    ∙ ap (λ (s : Segment). refusal_by s None head at) single
    ∙ ap (λ (b : Bool). cond b None (Some (TooLong (0 + head.number) at))) (le-leb (0 + head.number) limit (omega (arith, small)))

-- nothing is unfinished: what is left has no bytes
boundary : (place : ℕ) (mark : Mark) (payload : List ℕ) → mark.place ≡ place → mark.filled ≡ 0 → mark.run ≡ None → length payload ≡ 0 → unfinished_of mark payload ≡ record { place = place; run = None; held = [] }
boundary place mark payload at filled none empty =
    let run : run_of mark.run payload ≡ None = ap (λ (r : Option Run). run_of r payload) none in
    let held : take mark.filled mark.head ++ drop (run_size mark.run) payload ≡ [] =
    ap (λ (n : ℕ). take n mark.head ++ drop (run_size mark.run) payload) filled ∙ drop_all (run_size mark.run) payload (omega (arith, empty)) in
    rw (at, run) (ap (λ (l : List ℕ). let u : Unfinished = record { place = place; run = None; held = l } in u) held)

-- the bytes of the frame, and what they bring at the boundary of a message
brought : (place : ℕ) (piece : List ℕ) (head : Header) → IsSingle piece head → head.number ≤ limit → head.number ≤ length piece - 8
    → Brings [] place None (take (8 + head.number) piece) (Message (record { order = head.order; command = head.command; payload = take head.number (drop 8 piece); place = place }) ∷ []) None (record { place = place + (8 + head.number); run = None; held = [] })
brought place piece head is small within =
    let long = is.long in
    let bytes = take (8 + head.number) piece in
    let body = drop 8 bytes in
    let size : length bytes ≡ 8 + head.number = length-take-le (8 + head.number) piece (omega (arith, long, within)) in
    let head_is : head ≡ header_of bytes = is.is ∙ sym (header-take (8 + head.number) piece (omega arith) (omega (arith, long, within))) in
    let first = get_or-take (8 + head.number) piece 0 0 (omega arith) ∙ is.first in
    let old : Mark = record { place = place; head = replicate 8 0; filled = 0; run = None } in
    let new : Mark = record { place = place + (8 + head.number); head = replicate 8 0; filled = 0; run = None } in
    let ended : EndsFrame old body head new [] = record {
      place = omega arith;
      filled = refl;
      head = refl;
      run = sym (ap (λ (s : Segment). cond (ends s) None (Some (message_of None head place body))) is.single);
      size = refl;
    } in
    let brings = ends-brings [] old body bytes head new [] ended head_is is.application first refl size (unrefused head place is.application is.single small) in
    let event : message_event None head place body ≡ Message (record { order = head.order; command = head.command; payload = take head.number (drop 8 piece); place = place }) ∷ [] =
    ap (λ (s : Segment). cond (ends s) (Message (message_of None head place body) ∷ []) []) is.single
    ∙ ap (λ (l : List ℕ). Message (record { order = head.order; command = head.command; payload = l; place = place }) ∷ []) (drop-take 8 head.number piece) in
    subst (λ (l : List Event). Brings [] place None bytes l None (record { place = place + (8 + head.number); run = None; held = [] })) event brings

pub lent : (mark new : Mark) (payload piece : List ℕ) (head : Header) (whole : Whole) → mark.filled ≡ 0 → mark.run ≡ None → length payload ≡ 0 → IsSingle piece head → head.number ≤ limit → head.number ≤ length piece - 8
    → new.place ≡ mark.place + (8 + head.number) → new.filled ≡ 0 → new.run ≡ None
    → whole ≡ record { order = head.order; command = head.command; payload = take head.number (drop 8 piece); place = mark.place }
    → IsLent (unfinished_of mark payload) piece whole (unfinished_of new payload)
lent mark new payload piece head whole filled none empty is small within place nfilled nnone whole_is =
    let long = is.long in
    let size : length whole.payload ≡ head.number = ap (λ (w : Whole). length w.payload) whole_is ∙ length-take-le head.number (drop 8 piece) (omega (arith, within, length-drop 8 piece)) in
    let before = boundary mark.place mark payload refl filled none empty in
    let after = boundary (mark.place + (8 + head.number)) new payload place nfilled nnone empty in
    let brings = brought mark.place piece head is small within in
    record {
      within = omega (arith, size, long, within);
      brings =
          subst (λ (n : ℕ). Takes [] (unfinished_of mark payload) (take (8 + n) piece) (Message whole ∷ []) None (unfinished_of new payload)) (sym size)
          (subst (λ (w : Whole). Takes [] (unfinished_of mark payload) (take (8 + head.number) piece) (Message w ∷ []) None (unfinished_of new payload)) (sym whole_is)
          (subst (λ (u : Unfinished). Takes [] u (take (8 + head.number) piece) (Message (record { order = head.order; command = head.command; payload = take head.number (drop 8 piece); place = mark.place }) ∷ []) None (unfinished_of new payload)) (sym before)
          (subst (λ (u : Unfinished). Brings [] mark.place None (take (8 + head.number) piece) (Message (record { order = head.order; command = head.command; payload = take head.number (drop 8 piece); place = mark.place }) ∷ []) None u) (sym after) brings)));
    }
