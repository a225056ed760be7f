-- Bytes of a stream, and then further bytes: the pieces don't matter.
use Rattle.std.proofs.Common.{◌≡◌, ℕ, ◌+◌, ◌≤◌, Bool, true, false, cond, eqb, leb, List, [], ◌∷◌, ◌++◌, length, take, drop, eq-eqb, ◌<◌, Option, None, Some, Result, Ok, Err, refl, sym, ap, ◌∙◌, arith, append_assoc, length-append}
use Rattle.std.proofs.lemmas.List.{append-nil}
use Rattle.std.proofs.lemmas.Option.{none-some}
use Rattle.std.proofs.lemmas.Bool.{le-leb, leb-true, leb-false, lt-leb}
use Rattle.pva_frames.specs.declared.event.Whole.{Whole}
use Rattle.pva_frames.specs.declared.event.Event.{Event}
use Rattle.pva_frames.specs.declared.header.Header.{Header}
use Rattle.pva_frames.specs.declared.fault.FrameFault.{FrameFault}
use Rattle.pva_frames.specs.declared.fault.FrameFault.TheVariants.{BadMagic}
use Rattle.pva_frames.specs.Headers.{magic, header_of}
use Rattle.pva_frames.specs.Frames.{Frame, Cut, size_of, has_frame, front, uncut, with_frame, cut}
use Rattle.pva_frames.specs.Messages.{Standing, refusal, run_after, event_of, unless_refused, gives, after, given, events_of, standing_after, refusal_of_rest, Unfinished, left_by, events_from, left_from}
use Rattle.pva_frames.specs.Assembled.{Assembled, fed, fed_on}
use Rattle.pva_frames.proofs.Cutting.{header-append, header-take, frame_in_front, cut-frame, cut-none, cut-join, cut_more, held-unwhole, cut-size}

pub events-append : (s : Standing) (xs ys : List Frame) → events_of s (xs ++ ys) ≡ events_of s xs ++ events_of (standing_after s xs) ys
unfolding events_of standing_after
events-append s [] ys = refl
events-append s (x ∷ xs) ys = ap (λ (l : List Event). given s x ++ l) (events-append (after s x) xs ys) ∙ sym (append_assoc (given s x) (events_of (after s x) xs) (events_of (standing_after (after s x) xs) ys))

pub standing-append : (s : Standing) (xs ys : List Frame) → standing_after s (xs ++ ys) ≡ standing_after (standing_after s xs) ys
unfolding standing_after
standing-append s [] ys = refl
standing-append s (x ∷ xs) ys = standing-append (after s x) xs ys

-- behind a header that is refused nothing counts
pub events-refused : (fault : FrameFault) (xs : List Frame) → events_of (Err fault) xs ≡ []
unfolding events_of
events-refused fault [] = refl
events-refused fault (x ∷ xs) = events-refused fault xs

pub standing-refused : (fault : FrameFault) (xs : List Frame) → standing_after (Err fault) xs ≡ Err fault
unfolding standing_after
standing-refused fault [] = refl
standing-refused fault (x ∷ xs) = standing-refused fault xs

-- what a stream brings, by its frames
unfoldable pub by_cut : Option Whole → Cut → Assembled
by_cut run c = record { events = events_of (Ok run) c.frames; left = left_by (standing_after (Ok run) c.frames) c.place c.held }

refused-uncut : (run : Option Whole) (at : ℕ) (xs : List ℕ) (fault : FrameFault) → refusal_of_rest run xs at ≡ Some fault → by_cut run (uncut at xs) ≡ record { events = []; left = Err fault }
unfolding by_cut events_of standing_after
refused-uncut run at xs fault is =
    ap (λ (r : Option FrameFault). let a : Assembled = record { events = []; left = unless_refused r (record { place = at; run = run; held = xs }) } in a) is

-- the refusal of a rest: by its first byte
pub refusal-magic : (run : Option Whole) (at b : ℕ) (bytes : List ℕ) → eqb b magic ≡ false → refusal_of_rest run (b ∷ bytes) at ≡ Some (BadMagic b at)
refusal-magic run at b bytes is =
    ap (λ (t : Bool). cond t (cond (leb 8 (length (b ∷ bytes))) (refusal run (header_of (b ∷ bytes)) at) None) (Some (BadMagic b at))) is

-- by its whole header
pub refusal-header : (run : Option Whole) (at b : ℕ) (bytes : List ℕ) → eqb b magic ≡ true → 8 ≤ length (b ∷ bytes) → refusal_of_rest run (b ∷ bytes) at ≡ refusal run (header_of (b ∷ bytes)) at
refusal-header run at b bytes is long =
    ap (λ (t : Bool). cond t (cond (leb 8 (length (b ∷ bytes))) (refusal run (header_of (b ∷ bytes)) at) None) (Some (BadMagic b at))) is
    ∙ ap (λ (t : Bool). cond t (refusal run (header_of (b ∷ bytes)) at) None) (le-leb 8 (length (b ∷ bytes)) long)

-- nothing can be said yet
pub refusal-short : (run : Option Whole) (at b : ℕ) (bytes : List ℕ) → eqb b magic ≡ true → length (b ∷ bytes) < 8 → refusal_of_rest run (b ∷ bytes) at ≡ None
refusal-short run at b bytes is short =
    ap (λ (t : Bool). cond t (cond (leb 8 (length (b ∷ bytes))) (refusal run (header_of (b ∷ bytes)) at) None) (Some (BadMagic b at))) is
    ∙ ap (λ (t : Bool). cond t (refusal run (header_of (b ∷ bytes)) at) None) (lt-leb 8 (length (b ∷ bytes)) short)

-- the refusal of a rest stays when further bytes come
refusal-append : (run : Option Whole) (at : ℕ) (xs ys : List ℕ) (fault : FrameFault) → refusal_of_rest run xs at ≡ Some fault → refusal_of_rest run (xs ++ ys) at ≡ Some fault
refusal-append run at [] ys fault is = absurd (none-some fault is)
refusal-append run at (b ∷ bytes) ys fault is =
    let step : (t : Bool) → eqb b magic ≡ t → refusal_of_rest run (b ∷ (bytes ++ ys)) at ≡ Some fault =
    λ t. elim t as (λ (t : Bool). eqb b magic ≡ t → refusal_of_rest run (b ∷ (bytes ++ ys)) at ≡ Some fault) [
      | false ↦ λ e. refusal-magic run at b (bytes ++ ys) e ∙ sym (refusal-magic run at b bytes e) ∙ is
      | true ↦ λ e.
          let whole : (u : Bool) → leb 8 (length (b ∷ bytes)) ≡ u → refusal_of_rest run (b ∷ (bytes ++ ys)) at ≡ Some fault =
          λ u. elim u as (λ (u : Bool). leb 8 (length (b ∷ bytes)) ≡ u → refusal_of_rest run (b ∷ (bytes ++ ys)) at ≡ Some fault) [
            | true ↦ λ l.
                let long = leb-true 8 (length (b ∷ bytes)) l in
                refusal-header run at b (bytes ++ ys) e (omega (arith, long, length-append (b ∷ bytes) ys))
                ∙ ap (λ (h : Header). refusal run h at) (header-append (b ∷ bytes) ys long)
                ∙ sym (refusal-header run at b bytes e long) ∙ is
            | false ↦ λ l. absurd (none-some fault (sym (refusal-short run at b bytes e (leb-false 8 (length (b ∷ bytes)) l)) ∙ is))
          ] in
          whole (leb 8 (length (b ∷ bytes))) refl
    ] in
    step (eqb b magic) refl

-- a header that is refused in front of some bytes
refused-frame : (run : Option Whole) (at : ℕ) (c : Cut) (frame : Frame) (fault : FrameFault) → refusal run (header_of frame.bytes) frame.place ≡ Some fault → by_cut run (with_frame frame c) ≡ record { events = []; left = Err fault }
unfolding by_cut events_of standing_after
refused-frame run at c frame fault is =
    ap (λ (r : Option FrameFault). let a : Assembled = record { events = gives r (event_of run frame) ++ events_of (unless_refused r (run_after run frame)) c.frames; left = left_by (standing_after (unless_refused r (run_after run frame)) c.frames) c.place c.held } in a) is
    ∙ ap (λ (l : List Event). let a : Assembled = record { events = l; left = left_by (standing_after (Err fault) c.frames) c.place c.held } in a) (events-refused fault c.frames)
    ∙ ap (λ (s : Standing). let a : Assembled = record { events = []; left = left_by s c.place c.held } in a) (standing-refused fault c.frames)

pub refused-at-once : (run : Option Whole) (at : ℕ) (xs : List ℕ) (fault : FrameFault) → refusal_of_rest run xs at ≡ Some fault → by_cut run (cut at xs) ≡ record { events = []; left = Err fault }
refused-at-once run at [] fault is = absurd (none-some fault is)
refused-at-once run at (b ∷ bytes) fault is =
    let xs = b ∷ bytes in
    let step : (t : Bool) → has_frame xs ≡ t → by_cut run (cut at xs) ≡ record { events = []; left = Err fault } =
    λ t. elim t as (λ (t : Bool). has_frame xs ≡ t → by_cut run (cut at xs) ≡ record { events = []; left = Err fault }) [
      | true ↦ λ h.
          let f = frame_in_front xs h in
          let long : 8 ≤ length xs = omega (arith, f.whole) in
          let judged : refusal run (header_of (take (size_of xs) xs)) at ≡ Some fault =
          ap (λ (h : Header). refusal run h at) (header-take (size_of xs) xs (omega arith) f.whole) ∙ sym (refusal-header run at b bytes (eq-eqb b magic f.first) long) ∙ is in
          ap (by_cut run) (cut-frame at xs h) ∙ refused-frame run at (cut (at + size_of xs) (drop (size_of xs) xs)) (front at xs) fault judged
      | false ↦ λ h. ap (by_cut run) (cut-none at xs h) ∙ refused-uncut run at xs fault is
    ] in
    step (has_frame xs) refl

-- what bytes bring
pub read-by_cut : (at : ℕ) (run : Option Whole) (xs : List ℕ) → by_cut run (cut at xs) ≡ record { events = events_from at run xs; left = left_from at run xs }
unfolding by_cut left_from
read-by_cut at run xs = refl

-- what frames bring, and then those of their rest and further bytes
join-by : (s : Standing) (events : List Event) (c : Cut) (ys : List ℕ) → has_frame c.held ≡ false → fed_on events (left_by s c.place c.held) ys ≡ (let d = cut c.place (c.held ++ ys) in let a : Assembled = record { events = events ++ events_of s d.frames; left = left_by (standing_after s d.frames) d.place d.held } in a)
unfolding left_from
join-by (Err fault) events c ys unwhole =
    let d = cut c.place (c.held ++ ys) in
    ap (λ (l : List Event). let a : Assembled = record { events = l; left = Err fault } in a) (sym (append-nil events) ∙ ap (λ (l : List Event). events ++ l) (sym (events-refused fault d.frames)))
    ∙ ap (λ (s : Standing). let a : Assembled = record { events = events ++ events_of (Err fault) d.frames; left = left_by s d.place d.held } in a) (sym (standing-refused fault d.frames))
join-by (Ok run) events c ys unwhole =
    let d = cut c.place (c.held ++ ys) in
    let left : Unfinished = record { place = c.place; run = run; held = c.held } in
    let all : Assembled = record { events = events ++ events_of (Ok run) d.frames; left = left_by (standing_after (Ok run) d.frames) d.place d.held } in
    let step : (r : Option FrameFault) → refusal_of_rest run c.held c.place ≡ r → fed_on events (unless_refused r left) ys ≡ all =
    λ r. elim r as (λ (r : Option FrameFault). refusal_of_rest run c.held c.place ≡ r → fed_on events (unless_refused r left) ys ≡ all) [
      | None ↦ λ is. refl
      | Some fault ↦ λ is.
          let e = sym (read-by_cut c.place run (c.held ++ ys)) ∙ refused-at-once run c.place (c.held ++ ys) fault (refusal-append run c.place c.held ys fault is) in
          sym (ap (λ (a : Assembled). let b : Assembled = record { events = events ++ a.events; left = a.left } in b) e
          ∙ ap (λ (l : List Event). let a : Assembled = record { events = l; left = Err fault } in a) (append-nil events))
    ] in
    step (refusal_of_rest run c.held c.place) refl

-- the law of pieces: some bytes, then further bytes behind what those leave
pub read-join : (at : ℕ) (run : Option Whole) (xs ys : List ℕ) → fed_on (events_from at run xs) (left_from at run xs) ys ≡ record { events = events_from at run (xs ++ ys); left = left_from at run (xs ++ ys) }
unfolding left_from cut_more
read-join at run xs ys =
    let c = cut at xs in
    let d = cut c.place (c.held ++ ys) in
    join-by (standing_after (Ok run) c.frames) (events_of (Ok run) c.frames) c ys (held-unwhole at xs)
    ∙ ap (λ (l : List Event). let a : Assembled = record { events = l; left = left_by (standing_after (standing_after (Ok run) c.frames) d.frames) d.place d.held } in a) (sym (events-append (Ok run) c.frames d.frames))
    ∙ ap (λ (s : Standing). let a : Assembled = record { events = events_of (Ok run) (c.frames ++ d.frames); left = left_by s d.place d.held } in a) (sym (standing-append (Ok run) c.frames d.frames))
    ∙ ap (λ (e : Cut). let a : Assembled = record { events = events_of (Ok run) e.frames; left = left_by (standing_after (Ok run) e.frames) e.place e.held } in a) (sym (cut-join at xs ys))

-- events that stand before
fed_on-append : (es fs : List Event) (left : Result Unfinished FrameFault) (ys : List ℕ) → fed_on (es ++ fs) left ys ≡ (let a = fed_on fs left ys in let b : Assembled = record { events = es ++ a.events; left = a.left } in b)
fed_on-append es fs (Err fault) ys = refl
fed_on-append es fs (Ok l) ys = ap (λ (e : List Event). let b : Assembled = record { events = e; left = left_from l.place l.run (l.held ++ ys) } in b) (append_assoc es fs (events_from l.place l.run (l.held ++ ys)))

fed-join-by : (events : List Event) (left : Result Unfinished FrameFault) (xs ys : List ℕ) → fed (fed_on events left xs) ys ≡ fed_on events left (xs ++ ys)
fed-join-by events (Err fault) xs ys = refl
fed-join-by events (Ok l) xs ys =
    let zs = l.held ++ xs in
    fed_on-append events (events_from l.place l.run zs) (left_from l.place l.run zs) ys
    ∙ ap (λ (a : Assembled). let b : Assembled = record { events = events ++ a.events; left = a.left } in b) (read-join l.place l.run zs ys)
    ∙ ap (λ (bytes : List ℕ). let b : Assembled = record { events = events ++ events_from l.place l.run bytes; left = left_from l.place l.run bytes } in b) (append_assoc l.held xs ys)

-- one piece and then another are the two joined
pub fed-join : (a : Assembled) (xs ys : List ℕ) → fed (fed a xs) ys ≡ fed a (xs ++ ys)
fed-join a xs ys = fed-join-by a.events a.left xs ys

ok-injective : {X : Type 0} {x y : X} → (let r : Result X FrameFault = Ok x in r) ≡ Ok y → x ≡ y
ok-injective e = cc

ok-err : {X : Type 0} {x : X} {fault : FrameFault} → (let r : Result X FrameFault = Err fault in r) ≡ Ok x → ⊥
ok-err e = cc

unless-ok : (refused : Option FrameFault) (at : ℕ) (run : Option Whole) (held : List ℕ) (left : Unfinished) → unless_refused refused (record { place = at; run = run; held = held }) ≡ Ok left → left.place + length left.held ≡ at + length held
unless-ok None at run held left is = ap (λ (u : Unfinished). u.place + length u.held) (sym (ok-injective is))
unless-ok (Some fault) at run held left is = absurd (ok-err is)

left-size-by : (s : Standing) (at : ℕ) (held : List ℕ) (left : Unfinished) → left_by s at held ≡ Ok left → left.place + length left.held ≡ at + length held
left-size-by (Err fault) at held left is = absurd (ok-err is)
left-size-by (Ok run) at held left is = unless-ok (refusal_of_rest run held at) at run held left is

-- what is left ends where the bytes end
pub left-size : (at : ℕ) (run : Option Whole) (xs : List ℕ) (left : Unfinished) → left_from at run xs ≡ Ok left → left.place + length left.held ≡ at + length xs
unfolding left_from
left-size at run xs left is = left-size-by (standing_after (Ok run) (cut at xs).frames) (cut at xs).place (cut at xs).held left is ∙ cut-size at xs

-- The law of pieces in its parts. Where no header of xs is refused, the events are those of xs and then those that ys
-- bring behind what xs leave.
pub events-join : (at : ℕ) (run : Option Whole) (xs ys : List ℕ) (left : Unfinished) → left_from at run xs ≡ Ok left → events_from at run (xs ++ ys) ≡ events_from at run xs ++ events_from left.place left.run (left.held ++ ys)
events-join at run xs ys left is =
    sym (ap (λ (a : Assembled). a.events) (sym (ap (λ (l : Result Unfinished FrameFault). fed_on (events_from at run xs) l ys) is) ∙ read-join at run xs ys))

pub left-join : (at : ℕ) (run : Option Whole) (xs ys : List ℕ) (left : Unfinished) → left_from at run xs ≡ Ok left → left_from at run (xs ++ ys) ≡ left_from left.place left.run (left.held ++ ys)
left-join at run xs ys left is =
    sym (ap (λ (a : Assembled). a.left) (sym (ap (λ (l : Result Unfinished FrameFault). fed_on (events_from at run xs) l ys) is) ∙ read-join at run xs ys))

-- behind a header that is refused nothing counts
pub fault-stays : (at : ℕ) (run : Option Whole) (xs ys : List ℕ) (fault : FrameFault) → left_from at run xs ≡ Err fault → (events_from at run (xs ++ ys) ≡ events_from at run xs) × (left_from at run (xs ++ ys) ≡ Err fault)
fault-stays at run xs ys fault is =
    let e = sym (ap (λ (l : Result Unfinished FrameFault). fed_on (events_from at run xs) l ys) is) ∙ read-join at run xs ys in
    (sym (ap (λ (a : Assembled). a.events) e), sym (ap (λ (a : Assembled). a.left) e))

-- further bytes only add events
events-grow-by : (left : Result Unfinished FrameFault) (at : ℕ) (run : Option Whole) (xs ys : List ℕ) → left_from at run xs ≡ left → (more : List Event) × (events_from at run (xs ++ ys) ≡ events_from at run xs ++ more)
events-grow-by (Ok left) at run xs ys is = (events_from left.place left.run (left.held ++ ys), events-join at run xs ys left is)
events-grow-by (Err fault) at run xs ys is = ([], (fault-stays at run xs ys fault is).0 ∙ sym (append-nil (events_from at run xs)))

pub events-grow : (at : ℕ) (run : Option Whole) (xs ys : List ℕ) → (more : List Event) × (events_from at run (xs ++ ys) ≡ events_from at run xs ++ more)
events-grow at run xs ys = events-grow-by (left_from at run xs) at run xs ys refl
