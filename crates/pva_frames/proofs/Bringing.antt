-- What the bytes that a reader takes bring.
use Rattle.std.proofs.Common.{◌≡◌, ℕ, ◌+◌, Bool, true, false, not, ◌&&◌, List, [], ◌++◌, length, slice_index, Option, None, Some, Ok, Err, refl, sym, ap, ◌∙◌, arith}
use Rattle.std.specs.Prelude.{is_none}
use Rattle.std.proofs.lemmas.List.{append-nil, take_all, drop_all}
use Rattle.std.proofs.lemmas.Bool.{false≢true}
use Rattle.pva_frames.specs.declared.event.Whole.{Whole}
use Rattle.pva_frames.specs.declared.event.Event.{Event}
use Rattle.pva_frames.specs.declared.fault.FrameFault.{FrameFault}
use Rattle.pva_frames.specs.Headers.{magic, header_of}
use Rattle.pva_frames.specs.Frames.{Frame, Cut, size_of, has_frame, front, uncut, with_frame, cut}
use Rattle.pva_frames.specs.Messages.{refusal, run_after, event_of, unless_refused, gives, events_of, standing_after, refusal_of_rest, Unfinished, left_by, events_from, left_from}
use Rattle.pva_frames.specs.Assembled.{Assembled}
use Rattle.pva_frames.proofs.Cutting.{has_frame-true, cut-frame, cut-none}
use Rattle.pva_frames.proofs.Joins.{by_cut, read-by_cut, refused-at-once}
use Rattle.pva_frames.specs.Reader.{Brings, is_unfinished}

-- events before
before : (events : List Event) (a b : Assembled) → a ≡ b → (let c : Assembled = record { events = events ++ a.events; left = a.left } in c) ≡ record { events = events ++ b.events; left = b.left }
before events a b e = ap (λ (a : Assembled). let c : Assembled = record { events = events ++ a.events; left = a.left } in c) e

-- a header is refused
pub brings-refused : (events : List Event) (at : ℕ) (run : Option Whole) (bytes : List ℕ) (fault : FrameFault) (left : Unfinished) → refusal_of_rest run bytes at ≡ Some fault → Brings events at run bytes events (Some fault) left
brings-refused events at run bytes fault left is =
    before events (record { events = events_from at run bytes; left = left_from at run bytes }) (record { events = []; left = Err fault }) (sym (read-by_cut at run bytes) ∙ refused-at-once run at bytes fault is)
    ∙ ap (λ (l : List Event). let c : Assembled = record { events = l; left = Err fault } in c) (append-nil events)

is_none-is : {X : Type 0} (o : Option X) → is_none o ≡ true → o ≡ None
is_none-is None h = refl
is_none-is (Some x) h = absurd (false≢true h)

and-both : (a b : Bool) → (a && b) ≡ true → (a ≡ true) × (b ≡ true)
and-both true b h = (refl, h)
and-both false b h = absurd (false≢true h)

not-is : (a : Bool) → not a ≡ true → a ≡ false
not-is true h = absurd (false≢true h)
not-is false h = refl

-- the two facts of what is unfinished
pub record Rests (left : Unfinished) : Type 0 where
  pub unwhole : has_frame left.held ≡ false
  pub sound : refusal_of_rest left.run left.held left.place ≡ None

pub rests : (left : Unfinished) → is_unfinished left ≡ true → Rests left
rests left is =
    let both = and-both (not (has_frame left.held)) (is_none (refusal_of_rest left.run left.held left.place)) is in
    record { unwhole = not-is _ both.0; sound = is_none-is _ both.1 }

pub unfinished-rests : (left : Unfinished) → Rests left → is_unfinished left ≡ true
unfinished-rests left r =
    ap (λ (b : Bool). not b && is_none (refusal_of_rest left.run left.held left.place)) r.unwhole ∙ ap (λ (o : Option FrameFault). is_none o) r.sound

-- no frame is whole yet
pub brings-unfinished : (events : List Event) (left : Unfinished) → is_unfinished left ≡ true → Brings events left.place left.run left.held events None left
unfolding by_cut events_of standing_after
brings-unfinished events left is =
    let r = rests left is in
    before events (record { events = events_from left.place left.run left.held; left = left_from left.place left.run left.held }) (record { events = []; left = Ok left })
    (sym (read-by_cut left.place left.run left.held) ∙ ap (by_cut left.run) (cut-none left.place left.held r.unwhole)
    ∙ ap (λ (o : Option FrameFault). let c : Assembled = record { events = []; left = unless_refused o left } in c) r.sound)
    ∙ ap (λ (l : List Event). let c : Assembled = record { events = l; left = Ok left } in c) (append-nil events)

-- exactly one frame, and its header isn't refused
pub brings-frame : (events : List Event) (at : ℕ) (run : Option Whole) (bytes : List ℕ) → slice_index bytes 0 ≡ magic → length bytes ≡ size_of bytes → refusal run (header_of bytes) at ≡ None → (let frame : Frame = record { place = at; bytes = bytes } in Brings events at run bytes (events ++ event_of run frame) None (record { place = at + length bytes; run = run_after run frame; held = [] }))
unfolding by_cut events_of standing_after
brings-frame events at run bytes first whole sound =
    let frame : Frame = record { place = at; bytes = bytes } in
    let here : has_frame bytes ≡ true = has_frame-true bytes (record { first = first; whole = omega (arith, whole) }) in
    let rest : Cut = uncut (at + length bytes) [] in
    let alone : cut at bytes ≡ with_frame frame rest =
    cut-frame at bytes here
    ∙ ap (λ (l : List ℕ). with_frame (front at bytes) (cut (at + size_of bytes) l)) (drop_all (size_of bytes) bytes (omega (arith, whole)))
    ∙ ap (λ (c : Cut). with_frame (front at bytes) c) (cut-none (at + size_of bytes) [] refl)
    ∙ ap (λ (n : ℕ). with_frame (front at bytes) (uncut (at + n) [])) (sym whole)
    ∙ ap (λ (l : List ℕ). let f : Frame = record { place = at; bytes = l } in with_frame f rest) (take_all (size_of bytes) bytes (omega (arith, whole))) in
    before events (record { events = events_from at run bytes; left = left_from at run bytes }) (record { events = event_of run frame; left = Ok (record { place = at + length bytes; run = run_after run frame; held = [] }) })
    (sym (read-by_cut at run bytes) ∙ ap (by_cut run) alone
    ∙ ap (λ (o : Option FrameFault). let c : Assembled = record { events = gives o (event_of run frame) ++ events_of (unless_refused o (run_after run frame)) []; left = left_by (standing_after (unless_refused o (run_after run frame)) []) rest.place rest.held } in c) sound
    ∙ ap (λ (l : List Event). let c : Assembled = record { events = l; left = Ok (record { place = at + length bytes; run = run_after run frame; held = [] }) } in c) (append-nil (event_of run frame)))
