-- Bytes of a payload.
use Rattle.std.proofs.Common.{◌≡◌, ℕ, ◌+◌, ◌-◌, ◌≤◌, ◌<◌, Bool, true, false, cond, eqb, leb, ◌&&◌, List, [], ◌∷◌, ◌++◌, length, take, drop, slice_index, Option, None, Some, refl, sym, ap, ◌∙◌, subst, arith, append_assoc, length-append}
use Rattle.std.proofs.lemmas.List.{take_all, drop_all, take-append-le, drop-append-le, length-take-le, length-drop, get_or_append_left}
use Rattle.std.proofs.lemmas.Option.{none-some}
use Rattle.std.proofs.lemmas.Bool.{leb-true, leb-false, eqb-true}
use Rattle.pva_frames.specs.declared.event.Whole.{Whole}
use Rattle.pva_frames.specs.declared.event.Event.{Event}
use Rattle.pva_frames.specs.declared.header.Header.{Header}
use Rattle.pva_frames.specs.declared.header.Segment.{Segment}
use Rattle.pva_frames.specs.declared.header.Segment.TheVariants.{Single, First, Middle, Last}
use Rattle.pva_frames.specs.declared.fault.FrameFault.TheVariants.{TooLong}
use Rattle.pva_frames.specs.declared.reader.Run.{Run}
use Rattle.pva_frames.specs.declared.reader.Mark.{Mark}
use Rattle.pva_frames.specs.Headers.{magic, header_of, is_control, segment_of, payload_size}
use Rattle.pva_frames.specs.Frames.{size_of}
use Rattle.pva_frames.specs.Messages.{limit, length_refusal, foreign, segment_refusal, refusal_by, refusal, refusal_of_rest, Unfinished}
use Rattle.pva_frames.proofs.Cutting.{header-append}
use Rattle.pva_frames.proofs.Joins.{refusal-header, refusal-magic}
use Rattle.pva_frames.specs.Reader.{run_of, run_size, unfinished_of, is_unfinished, IsSound, Brings, Takes, message_event, EndsFrame}
use Rattle.pva_frames.proofs.Bringing.{rests, brings-unfinished}
use Rattle.pva_frames.proofs.Beginning.{begun}
use Rattle.pva_frames.proofs.Ending.{ends-brings}
use Rattle.pva_frames.proofs.Marks.{held-size}

-- a frame that was ended leaves a boundary
pub ends-sound : {old : Mark} {payload : List ℕ} {head : Header} (new : Mark) (after : List ℕ) → EndsFrame old payload head new after → IsSound new after
ends-sound new after e =
    let held : [] ≡ take new.filled new.head ++ drop (run_size new.run) after =
    sym (ap (λ (n : ℕ). take n new.head ++ drop (run_size new.run) after) e.filled ∙ drop_all (run_size new.run) after (omega (arith, e.size))) in
    record {
      head = e.head;
      filled = omega (arith, e.filled);
      run = omega (arith, e.size);
      header = λ less. sym e.size;
      unfinished = ap (λ (l : List ℕ). is_unfinished (record { place = new.place; run = run_of new.run after; held = l })) (sym held);
    }

-- a length that isn't refused
length-accepted : (joined : ℕ) (head : Header) (at : ℕ) → length_refusal joined head at ≡ None → joined + head.number ≤ limit
length-accepted joined head at is =
    let step : (b : Bool) → leb (joined + head.number) limit ≡ b → joined + head.number ≤ limit =
    λ b. elim b as (λ (b : Bool). leb (joined + head.number) limit ≡ b → joined + head.number ≤ limit) [
      | true ↦ λ e. leb-true (joined + head.number) limit e
      | false ↦ λ e. absurd (none-some _ (sym is ∙ ap (λ (b : Bool). cond b None (Some (TooLong (joined + head.number) at))) e))
    ] in
    step (leb (joined + head.number) limit) refl

segment-accepted : (run : Whole) (head : Header) (at : ℕ) → segment_refusal run head at ≡ None → length run.payload + head.number ≤ limit
segment-accepted run head at is =
    let step : (b : Bool) → eqb run.command head.command ≡ b → length run.payload + head.number ≤ limit =
    λ b. elim b as (λ (b : Bool). eqb run.command head.command ≡ b → length run.payload + head.number ≤ limit) [
      | true ↦ λ e. length-accepted (length run.payload) head at (sym (ap (λ (b : Bool). cond b (length_refusal (length run.payload) head at) (foreign (Some run.command) head at)) e) ∙ is)
      | false ↦ λ e. absurd (none-some _ (sym is ∙ ap (λ (b : Bool). cond b (length_refusal (length run.payload) head at) (foreign (Some run.command) head at)) e))
    ] in
    step (eqb run.command head.command) refl

accepted-by : (s : Segment) (run : Option Run) (payload : List ℕ) (head : Header) (at : ℕ) → run_size run ≤ length payload → refusal_by s (run_of run payload) head at ≡ None → run_size run + head.number ≤ limit
accepted-by Single None payload head at short is = length-accepted 0 head at is
accepted-by First None payload head at short is = length-accepted 0 head at is
accepted-by Middle None payload head at short is = absurd (none-some _ (sym is))
accepted-by Last None payload head at short is = absurd (none-some _ (sym is))
accepted-by Single (Some run) payload head at short is = absurd (none-some _ (sym is))
accepted-by First (Some run) payload head at short is = absurd (none-some _ (sym is))
accepted-by Middle (Some run) payload head at short is =
    let r : Whole = record { order = run.order; command = run.command; payload = take run.length payload; place = run.place } in
    omega (arith, segment-accepted r head at is, length-take-le run.length payload short)
accepted-by Last (Some run) payload head at short is =
    let r : Whole = record { order = run.order; command = run.command; payload = take run.length payload; place = run.place } in
    omega (arith, segment-accepted r head at is, length-take-le run.length payload short)

-- a header that isn't refused doesn't pass the limit
pub accepted : (run : Option Run) (payload : List ℕ) (head : Header) (at : ℕ) → run_size run ≤ length payload → is_control head ≡ false → refusal (run_of run payload) head at ≡ None → run_size run + head.number ≤ limit
accepted run payload head at short control is =
    accepted-by (segment_of head) run payload head at short (sym (ap (λ (b : Bool). cond b None (refusal_by (segment_of head) (run_of run payload) head at)) control) ∙ is)

-- a whole header whose payload is on its way
pub record Coming (mark : Mark) (payload : List ℕ) : Type 0 where
  pub control : is_control (header_of mark.head) ≡ false
  pub first : slice_index mark.head 0 ≡ magic
  pub missing : length payload < run_size mark.run + (header_of mark.head).number
  pub fits : run_size mark.run + (header_of mark.head).number ≤ limit
  pub sound : refusal (run_of mark.run payload) (header_of mark.head) mark.place ≡ None

-- bytes that begin with CA, since nothing refuses them
first-byte : (run : Option Whole) (at b : ℕ) (bytes : List ℕ) → refusal_of_rest run (b ∷ bytes) at ≡ None → eqb b magic ≡ true
first-byte run at b bytes is =
    let step : (t : Bool) → eqb b magic ≡ t → eqb b magic ≡ true =
    λ t. elim t as (λ (t : Bool). eqb b magic ≡ t → eqb b magic ≡ true) [
      | true ↦ λ e. e
      | false ↦ λ e. absurd (none-some _ (sym is ∙ refusal-magic run at b bytes e))
    ] in
    step (eqb b magic) refl

-- of a frame that isn't whole
pub record Partial (run : Option Whole) (bytes : List ℕ) (at : ℕ) : Type 0 where
  pub first : eqb (slice_index bytes 0) magic ≡ true
  pub missing : length bytes < size_of bytes
  pub sound : refusal run (header_of bytes) at ≡ None

partial : (run : Option Whole) (at : ℕ) (bytes : List ℕ) → is_unfinished (record { place = at; run = run; held = bytes }) ≡ true → 8 ≤ length bytes → Partial run bytes at
partial run at [] is long = absurd (omega arith)
partial run at (b ∷ bytes) is long =
    let r = rests (record { place = at; run = run; held = b ∷ bytes }) is in
    let first = first-byte run at b bytes r.sound in record {
      first = first;
      missing = leb-false (size_of (b ∷ bytes)) (length (b ∷ bytes)) (sym (ap (λ (t : Bool). t && leb (size_of (b ∷ bytes)) (length (b ∷ bytes))) first) ∙ r.unwhole);
      sound = sym (refusal-header run at b bytes first long) ∙ r.sound;
    }

-- a payload that misses bytes has some
not-control : (head : Header) (n : ℕ) → n < payload_size head → (is_control head ≡ false) × (n < head.number)
not-control head n less =
    let step : (b : Bool) → is_control head ≡ b → (is_control head ≡ false) × (n < head.number) =
    λ b. elim b as (λ (b : Bool). is_control head ≡ b → (is_control head ≡ false) × (n < head.number)) [
      | true ↦ λ e. let none : payload_size head ≡ 0 = ap (λ (b : Bool). cond b 0 head.number) e in absurd (omega (arith, none, less))
      | false ↦ λ e. let all : payload_size head ≡ head.number = ap (λ (b : Bool). cond b 0 head.number) e in (e, omega (arith, all, less))
    ] in
    step (is_control head) refl

-- the bytes of the header and of the payload so far
pub held-whole : (mark : Mark) (payload : List ℕ) → length mark.head ≡ 8 → mark.filled ≡ 8 → (unfinished_of mark payload).held ≡ mark.head ++ drop (run_size mark.run) payload
held-whole mark payload eight filled =
    ap (λ (l : List ℕ). l ++ drop (run_size mark.run) payload) (ap (λ (n : ℕ). take n mark.head) filled ∙ take_all 8 mark.head (omega (arith, eight)))

pub coming : (mark : Mark) (payload : List ℕ) → IsSound mark payload → mark.filled ≡ 8 → Coming mark payload
coming mark payload s filled =
    let run = run_of mark.run payload in
    let body = drop (run_size mark.run) payload in
    let bytes = mark.head ++ body in
    let held = held-whole mark payload s.head filled in
    let size : length bytes ≡ 8 + (length payload - run_size mark.run) = omega (arith, length-append mark.head body, length-drop (run_size mark.run) payload, s.head) in
    let p = partial run mark.place bytes (ap (λ (l : List ℕ). is_unfinished (record { place = mark.place; run = run; held = l })) (sym held) ∙ s.unfinished) (omega (arith, size)) in
    let same : header_of bytes ≡ header_of mark.head = header-append mark.head body (omega (arith, s.head)) in
    let missing : length payload - run_size mark.run < payload_size (header_of mark.head) =
    let e = ap payload_size same in omega (arith, p.missing, size, e) in
    let n = not-control (header_of mark.head) (length payload - run_size mark.run) missing in
    let sound : refusal run (header_of mark.head) mark.place ≡ None = ap (λ (h : Header). refusal run h mark.place) (sym same) ∙ p.sound in record {
      control = n.0;
      first = sym (get_or_append_left mark.head body 0 0 (omega (arith, s.head))) ∙ eqb-true (slice_index bytes 0) magic p.first;
      missing = let less = n.1 in omega (arith, less, s.run);
      fits = accepted mark.run payload (header_of mark.head) mark.place s.run n.0 sound;
      sound = sound;
    }

-- more bytes of the payload leave the run as it is
run-longer : (run : Option Run) (payload x : List ℕ) → run_size run ≤ length payload → run_of run (payload ++ x) ≡ run_of run payload
run-longer None payload x h = refl
run-longer (Some run) payload x h =
    ap (λ (l : List ℕ). let w : Whole = record { order = run.order; command = run.command; payload = l; place = run.place } in Some w) (take-append-le run.length payload x h)

pub unfinished-longer : (mark : Mark) (payload x : List ℕ) → run_size mark.run ≤ length payload → unfinished_of mark (payload ++ x) ≡ record { place = mark.place; run = run_of mark.run payload; held = (unfinished_of mark payload).held ++ x }
unfinished-longer mark payload x h =
    let held : take mark.filled mark.head ++ drop (run_size mark.run) (payload ++ x) ≡ (take mark.filled mark.head ++ drop (run_size mark.run) payload) ++ x =
    ap (λ (l : List ℕ). take mark.filled mark.head ++ l) (drop-append-le (run_size mark.run) payload x h) ∙ sym (append_assoc (take mark.filled mark.head) (drop (run_size mark.run) payload) x) in
    rw (run-longer mark.run payload x h) (ap (λ (l : List ℕ). let u : Unfinished = record { place = mark.place; run = run_of mark.run payload; held = l } in u) held)

-- the payload goes on
pub record GoesOn (es : List Event) (mark : Mark) (payload x : List ℕ) : Type 0 where
  pub sound : IsSound mark (payload ++ x)
  pub brings : Takes es (unfinished_of mark payload) x es None (unfinished_of mark (payload ++ x))

pub goes-on : (es : List Event) (mark : Mark) (payload x : List ℕ) → IsSound mark payload → mark.filled ≡ 8 → length payload + length x < run_size mark.run + (header_of mark.head).number → GoesOn es mark payload x
goes-on es mark payload x s filled less =
    let c = coming mark payload s filled in
    let run = run_of mark.run payload in
    let body = drop (run_size mark.run) payload in
    let held = (unfinished_of mark payload).held in
    let bytes = held ++ x in
    let e : bytes ≡ mark.head ++ (body ++ x) = ap (λ (l : List ℕ). l ++ x) (held-whole mark payload s.head filled) ∙ append_assoc mark.head body x in
    let same : header_of mark.head ≡ header_of bytes = sym (ap header_of e ∙ header-append mark.head (body ++ x) (omega (arith, s.head))) in
    let first : slice_index bytes 0 ≡ magic = ap (λ (l : List ℕ). slice_index l 0) e ∙ get_or_append_left mark.head (body ++ x) 0 0 (omega (arith, s.head)) ∙ c.first in
    let size : length bytes ≡ mark.filled + (length payload - run_size mark.run) + length x = length-append held x ∙ ap (λ (n : ℕ). n + length x) (held-size mark payload (omega (arith, filled, s.head))) in
    let left : Unfinished = record { place = mark.place; run = run; held = bytes } in
    let is : is_unfinished left ≡ true = begun mark.place run bytes (header_of mark.head) same c.control first (omega (arith, size, filled)) (omega (arith, size, filled, less, s.run)) c.sound in
    let after = unfinished-longer mark payload x s.run in record {
      sound = record {
        head = s.head;
        filled = s.filled;
        run = omega (arith, s.run, length-append payload x);
        header = λ h. absurd (omega (arith, h, filled));
        unfinished = ap is_unfinished after ∙ is;
      };
      brings = subst (λ (u : Unfinished). Takes es (unfinished_of mark payload) x es None u) (sym after) (brings-unfinished es left is);
    }

-- the payload is whole
pub goes-to-end : (es : List Event) (mark : Mark) (payload x : List ℕ) (new : Mark) (after : List ℕ) → IsSound mark payload → mark.filled ≡ 8 → length payload + length x ≡ run_size mark.run + (header_of mark.head).number → EndsFrame mark (payload ++ x) (header_of mark.head) new after
    → Takes es (unfinished_of mark payload) x (es ++ message_event mark.run (header_of mark.head) mark.place (payload ++ x)) None (unfinished_of new after)
goes-to-end es mark payload x new after s filled all ends =
    let c = coming mark payload s filled in
    let body = drop (run_size mark.run) payload in
    let held = (unfinished_of mark payload).held in
    let bytes = held ++ x in
    let e : bytes ≡ mark.head ++ (body ++ x) = ap (λ (l : List ℕ). l ++ x) (held-whole mark payload s.head filled) ∙ append_assoc mark.head body x in
    let same : header_of mark.head ≡ header_of bytes = sym (ap header_of e ∙ header-append mark.head (body ++ x) (omega (arith, s.head))) in
    let first : slice_index bytes 0 ≡ magic = ap (λ (l : List ℕ). slice_index l 0) e ∙ get_or_append_left mark.head (body ++ x) 0 0 (omega (arith, s.head)) ∙ c.first in
    let size : length bytes ≡ mark.filled + (length payload - run_size mark.run) + length x = length-append held x ∙ ap (λ (n : ℕ). n + length x) (held-size mark payload (omega (arith, filled, s.head))) in
    let behind : drop 8 bytes ≡ drop (run_size mark.run) (payload ++ x) =
    ap (drop 8) e ∙ drop-append-le 8 mark.head (body ++ x) (omega (arith, s.head)) ∙ ap (λ (l : List ℕ). l ++ (body ++ x)) (drop_all 8 mark.head (omega (arith, s.head))) ∙ sym (drop-append-le (run_size mark.run) payload x s.run) in
    let stands = run-longer mark.run payload x s.run in
    subst (λ (r : Option Whole). Brings es mark.place r bytes (es ++ message_event mark.run (header_of mark.head) mark.place (payload ++ x)) None (unfinished_of new after)) stands
    (ends-brings es mark (payload ++ x) bytes (header_of mark.head) new after ends same c.control first behind (omega (arith, size, filled, all, s.run)) (ap (λ (r : Option Whole). refusal r (header_of mark.head) mark.place) stands ∙ c.sound))

-- bytes were appended or not
pub sound-appended : (b : Bool) (es : List Event) (mark : Mark) (payload x : List ℕ) → IsSound mark payload → mark.filled ≡ 8 → length payload + length x < run_size mark.run + (header_of mark.head).number → IsSound mark (cond b (payload ++ x) payload)
sound-appended true es mark payload x s filled less = (goes-on es mark payload x s filled less).sound
sound-appended false es mark payload x s filled less = s

-- the same, with names for what the parts are
pub goes-to-end-as : (es : List Event) (mark : Mark) (payload x : List ℕ) (longer : List ℕ) (head : Header) (new : Mark) (after : List ℕ) (reserved ready : List Event) → IsSound mark payload → mark.filled ≡ 8 → longer ≡ payload ++ x → head ≡ header_of mark.head → length longer ≡ run_size mark.run + head.number → EndsFrame mark longer head new after → reserved ≡ es → ready ≡ reserved ++ message_event mark.run head mark.place longer
    → Takes es (unfinished_of mark payload) x ready None (unfinished_of new after)
goes-to-end-as es mark payload x longer head new after reserved ready s filled appended is all ends same event =
    let number = ap (λ (h : Header). h.number) is in
    let size : length payload + length x ≡ run_size mark.run + (header_of mark.head).number = omega (arith, all, number, ap length appended, length-append payload x) in
    let family : List ℕ → Type 0 = λ p. EndsFrame mark p (header_of mark.head) new after in
    let ends' : EndsFrame mark (payload ++ x) (header_of mark.head) new after = subst family appended (subst (λ (h : Header). EndsFrame mark longer h new after) is ends) in
    let e : es ++ message_event mark.run (header_of mark.head) mark.place (payload ++ x) ≡ ready =
    ap (λ (h : Header). es ++ message_event mark.run h mark.place (payload ++ x)) (sym is)
    ∙ ap (λ (p : List ℕ). es ++ message_event mark.run head mark.place p) (sym appended)
    ∙ ap (λ (l : List Event). l ++ message_event mark.run head mark.place longer) (sym same) ∙ sym event in
    subst (λ (l : List Event). Takes es (unfinished_of mark payload) x l None (unfinished_of new after)) e (goes-to-end es mark payload x new after s filled size ends')
