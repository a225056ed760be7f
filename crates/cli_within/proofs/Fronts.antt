-- What an end reads of the first bytes that the other one says: the first of its messages, one after another.
use Rattle.std.proofs.Common.{◌≡◌, ℕ, ◌+◌, ◌<◌, ◌≤◌, ◌^◌, Bool, true, false, leb, List, [], ◌∷◌, ◌++◌, length, None, Ok, refl, sym, ap, subst, ◌∙◌, append_assoc, Some, Result, Err, arith}
use Rattle.std.proofs.lemmas.Bool.{leb-true, leb-false}
use Rattle.std.proofs.lemmas.List.{append-nil}
use Rattle.pva_wire.specs.declared.order.Order.{Order}
use Rattle.std.specs.Result.{result_err}
use Rattle.pva_frames.proofs.Joins.{events-grow, fault-stays}
use Rattle.pva_frames.proofs.ReadBack.{message_reads_back, control_reads_back}
use Rattle.pva_frames.specs.Assembled.{Assembled}
use Rattle.pva_frames.specs.Frames.{cut, cut_in}
use Rattle.pva_frames.specs.Laws.{boundary}
use Rattle.pva_frames.specs.Messages.{limit, events_from, left_from, events_of, standing_after, Unfinished}
use Rattle.pva_frames.specs.declared.fault.FrameFault.{FrameFault}
use Rattle.pva_frames.specs.Spelling.{message_bytes, control_bytes}
use Rattle.pva_frames.specs.declared.event.Event.{Event}
use Rattle.pva_frames.specs.declared.event.Event.TheVariants.{Message, Control}
use Rattle.pvd_codec.specs.Written.{CanEach}
use Rattle.histories.specs.History.{IsPrefixOf}
use Rattle.cli_within.proofs.Overlong.{overlong_brings_none, overlong_is_refused}

-- a message in an order, in segments of so many bytes; a control message
pub data Piece : Type 0 where
  whole : Order → ℕ → List ℕ → ℕ → Piece
  short : Order → ℕ → ℕ → Piece

abbrev pub piece_bytes : Bool → Piece → List ℕ
piece_bytes server (whole order command payload segment) = message_bytes order server command payload segment
piece_bytes server (short order command number) = control_bytes order server command number

abbrev pub pieces_bytes : Bool → List Piece → List ℕ
pieces_bytes server [] = []
pieces_bytes server (p ∷ ps) = piece_bytes server p ++ pieces_bytes server ps

pub pieces_append : (server : Bool) (ps qs : List Piece) → pieces_bytes server (ps ++ qs) ≡ pieces_bytes server ps ++ pieces_bytes server qs
pieces_append server [] qs = refl
pieces_append server (p ∷ ps) qs =
    ap (λ (bytes : List ℕ). piece_bytes server p ++ bytes) (pieces_append server ps qs)
    ∙ sym (append_assoc (piece_bytes server p) (pieces_bytes server ps) (pieces_bytes server qs))

-- its segments aren't empty, and no longer than a payload may be
abbrev pub CanPiece : Piece → Type 0
CanPiece (whole order command payload segment) = (0 < segment) × (segment ≤ limit)
CanPiece (short order command number) = number < 2 ^ 32

-- it is read
abbrev pub IsReadable : Piece → Type 0
IsReadable (whole order command payload segment) = (0 < segment) × (length payload ≤ limit)
IsReadable (short order command number) = number < 2 ^ 32

-- it is this event, wherever it stands
abbrev pub IsEventOf : Piece → Event → Type 0
IsEventOf (whole order command payload segment) e =
    (at : ℕ) × (e ≡ Message (record { order = order; command = command; payload = payload; place = at }))
IsEventOf (short order command number) e = e ≡ Control command number

-- these events are the first of these
abbrev pub AreFirst : List Event → List Piece → Type 0
AreFirst [] ps = Unit {0}
AreFirst (e ∷ es) [] = ⊥
AreFirst (e ∷ es) (p ∷ ps) = IsEventOf p e × AreFirst es ps

first_front : (es more : List Event) (ps : List Piece) → AreFirst (es ++ more) ps → AreFirst es ps
first_front [] more ps h = tt
first_front (e ∷ es) more [] h = absurd h
first_front (e ∷ es) more (p ∷ ps) h = (h.0, first_front es more ps h.1)

nothing_left : (at : ℕ) → left_from at None [] ≡ Ok (boundary at)
unfolding cut cut_in events_of standing_after left_from
nothing_left at = refl

nothing_read : (at : ℕ) → events_from at None [] ≡ []
unfolding cut cut_in events_of standing_after left_from
nothing_read at = refl

-- what one of them brings behind these bytes
record One (before bytes : List ℕ) (p : Piece) : Type 0 where
  event : Event
  behind : ℕ
  is : IsEventOf p event
  left : left_from 0 None ((before ++ bytes) ++ []) ≡ Ok (boundary behind)
  events : events_from 0 None ((before ++ bytes) ++ []) ≡ events_from 0 None before ++ event ∷ []

one_more : (server : Bool) (before : List ℕ) (at : ℕ) → left_from 0 None before ≡ Ok (boundary at) → (p : Piece) → IsReadable p → One before (piece_bytes server p) p
one_more server before at stands (whole order command payload segment) can =
    let is = message_reads_back before [] payload at order server command segment stands can.0 can.1 in
    let behind = at + length (message_bytes order server command payload segment) in
    let event : Event = Message (record { order = order; command = command; payload = payload; place = at }) in
    record {
      event = event;
      behind = behind;
      is = (at, refl);
      left = ap (λ (a : Assembled). a.left) is ∙ nothing_left behind;
      events = ap (λ (a : Assembled). a.events) is ∙ ap (λ (es : List Event). events_from 0 None before ++ event ∷ es) (nothing_read behind);
    }
one_more server before at stands (short order command number) can =
    let is = control_reads_back before [] at None order server command number stands can in
    let event : Event = Control command number in
    record {
      event = event;
      behind = at + 8;
      is = refl;
      left = ap (λ (a : Assembled). a.left) is ∙ nothing_left (at + 8);
      events = ap (λ (a : Assembled). a.events) is ∙ ap (λ (es : List Event). events_from 0 None before ++ event ∷ es) (nothing_read (at + 8));
    }

record Brought (server : Bool) (before : List ℕ) (ps : List Piece) : Type 0 where
  these : List Event
  events : events_from 0 None (before ++ pieces_bytes server ps) ≡ events_from 0 None before ++ these
  first : AreFirst these ps

-- one of them is read, and then the others
read_on : (server : Bool) (p : Piece) (ps : List Piece) (before : List ℕ) (one : One before (piece_bytes server p) p) → Brought server ((before ++ piece_bytes server p) ++ []) ps → Brought server before (p ∷ ps)
read_on server p ps before one later =
    let bytes = piece_bytes server p in
    let more = pieces_bytes server ps in
    let longer = (before ++ bytes) ++ [] in
    let cut_is : before ++ (bytes ++ more) ≡ longer ++ more =
    sym (append_assoc before bytes more) ∙ ap (λ (xs : List ℕ). xs ++ more) (sym (append-nil (before ++ bytes))) in
    record {
      these = one.event ∷ later.these;
      events =
          ap (events_from 0 None) cut_is ∙ later.events
          ∙ ap (λ (es : List Event). es ++ later.these) one.events
          ∙ append_assoc (events_from 0 None before) (one.event ∷ []) later.these;
      first = (one.is, later.first);
    }

-- it is too long, and nothing more is read
cut_off : (server : Bool) (order : Order) (command : ℕ) (payload : List ℕ) (segment : ℕ) (ps : List Piece) (before : List ℕ) (at : ℕ) → left_from 0 None before ≡ Ok (boundary at) → 0 < segment → segment ≤ limit → limit < length payload
    → Brought server before (whole order command payload segment ∷ ps)
cut_off server order command payload segment ps before at stands some small long = record {
  these = [];
  events =
      overlong_brings_none before (pieces_bytes server ps) payload at order server command segment stands some small long
      ∙ sym (append-nil (events_from 0 None before));
  first = tt;
}

by_length : (P : Type 0) (n : ℕ) → (n ≤ limit → P) → (limit < n → P) → P
by_length P n read cut_ = by_test (leb n limit) refl
  where
    by_test : (b : Bool) → leb n limit ≡ b → P
    by_test true is = read (leb-true n limit is)
    by_test false is = cut_ (leb-false n limit is)

all_read : (server : Bool) (ps : List Piece) (before : List ℕ) (at : ℕ) → left_from 0 None before ≡ Ok (boundary at) → CanEach CanPiece ps → Brought server before ps
all_read server [] before at stands can = record {
  these = [];
  events = ap (events_from 0 None) (append-nil before) ∙ sym (append-nil (events_from 0 None before));
  first = tt;
}
all_read server (whole order command payload segment ∷ ps) before at stands can =
    by_length (Brought server before (whole order command payload segment ∷ ps)) (length payload)
    (λ few.
    let p = whole order command payload segment in
    let one = one_more server before at stands p (can.0.0, few) in
    read_on server p ps before one (all_read server ps ((before ++ piece_bytes server p) ++ []) one.behind one.left can.1))
    (λ long. cut_off server order command payload segment ps before at stands can.0.0 can.0.1 long)
all_read server (short order command number ∷ ps) before at stands can =
    let p = short order command number in
    let one = one_more server before at stands p can.0 in
    read_on server p ps before one (all_read server ps ((before ++ piece_bytes server p) ++ []) one.behind one.left can.1)

-- of the first bytes the first events
pub front_read : (server : Bool) (ps : List Piece) (front : List ℕ) → IsPrefixOf front (pieces_bytes server ps) → CanEach CanPiece ps → AreFirst (events_from 0 None front) ps
front_read server ps front begins can =
    let all = all_read server ps [] 0 (nothing_left 0) can in
    let grown = events-grow 0 None front begins.rest in
    let these_are : all.these ≡ events_from 0 None front ++ grown.0 =
    sym (all.events ∙ ap (λ (es : List Event). es ++ all.these) (nothing_read 0)) ∙ ap (events_from 0 None) begins.whole ∙ grown.1 in
    first_front (events_from 0 None front) grown.0 ps (subst (λ (es : List Event). AreFirst es ps) these_are all.first)

-- Where each can be read, all of them are, and no header is refused.

record AllBrought (server : Bool) (before : List ℕ) (ps : List Piece) : Type 0 where
  these : List Event
  events : events_from 0 None (before ++ pieces_bytes server ps) ≡ events_from 0 None before ++ these
  count : length these ≡ length ps
  sound : result_err (left_from 0 None (before ++ pieces_bytes server ps)) ≡ None

all_brought : (server : Bool) (ps : List Piece) (before : List ℕ) (at : ℕ) → left_from 0 None before ≡ Ok (boundary at) → CanEach IsReadable ps → AllBrought server before ps
all_brought server [] before at stands can = record {
  these = [];
  events = ap (events_from 0 None) (append-nil before) ∙ sym (append-nil (events_from 0 None before));
  count = refl;
  sound = ap (λ (xs : List ℕ). result_err (left_from 0 None xs)) (append-nil before) ∙ ap result_err stands;
}
all_brought server (p ∷ ps) before at stands can =
    let bytes = piece_bytes server p in
    let more = pieces_bytes server ps in
    let one = one_more server before at stands p can.0 in
    let longer = (before ++ bytes) ++ [] in
    let later = all_brought server ps longer one.behind one.left can.1 in
    let more_ = later.count in
    let cut_is : before ++ (bytes ++ more) ≡ longer ++ more =
    sym (append_assoc before bytes more) ∙ ap (λ (xs : List ℕ). xs ++ more) (sym (append-nil (before ++ bytes))) in
    record {
      these = one.event ∷ later.these;
      events =
          ap (events_from 0 None) cut_is ∙ later.events
          ∙ ap (λ (es : List Event). es ++ later.these) one.events
          ∙ append_assoc (events_from 0 None before) (one.event ∷ []) later.these;
      count = omega (arith, more_);
      sound = ap (λ (xs : List ℕ). result_err (left_from 0 None xs)) cut_is ∙ later.sound;
    }

-- no header of the first bytes is refused
pub front_sound : (server : Bool) (ps : List Piece) (front : List ℕ) → IsPrefixOf front (pieces_bytes server ps) → CanEach IsReadable ps → result_err (left_from 0 None front) ≡ None
front_sound server ps front begins can = by (left_from 0 None front) refl
  where
    whole_sound : result_err (left_from 0 None (front ++ begins.rest)) ≡ None
    whole_sound = ap (λ (xs : List ℕ). result_err (left_from 0 None xs)) (sym begins.whole) ∙ (all_brought server ps [] 0 (nothing_left 0) can).sound

    by : (r : Result Unfinished FrameFault) → left_from 0 None front ≡ r → result_err (left_from 0 None front) ≡ None
    by (Ok left) is = ap result_err is
    by (Err fault) is = absurd (let clash : Some fault ≡ None = sym (ap result_err (fault-stays 0 None front begins.rest fault is).1) ∙ whole_sound in cc)

-- of all the bytes all events
all_counted : (server : Bool) (ps : List Piece) → CanEach IsReadable ps → length (events_from 0 None (pieces_bytes server ps)) ≡ length ps
all_counted server ps can =
    let all = all_brought server ps [] 0 (nothing_left 0) can in
    ap (λ (es : List Event). length es) (all.events ∙ ap (λ (es : List Event). es ++ all.these) (nothing_read 0)) ∙ all.count

-- Where all were said and no header is refused, each can be read: none is too long.

sound_on : (server : Bool) (p : Piece) (ps : List Piece) (before : List ℕ) → result_err (left_from 0 None (before ++ pieces_bytes server (p ∷ ps))) ≡ None
    → result_err (left_from 0 None (((before ++ piece_bytes server p) ++ []) ++ pieces_bytes server ps)) ≡ None
sound_on server p ps before sound =
    let bytes = piece_bytes server p in
    let more = pieces_bytes server ps in
    let cut_is : before ++ (bytes ++ more) ≡ ((before ++ bytes) ++ []) ++ more =
    sym (append_assoc before bytes more) ∙ ap (λ (xs : List ℕ). xs ++ more) (sym (append-nil (before ++ bytes))) in
    ap (λ (xs : List ℕ). result_err (left_from 0 None xs)) (sym cut_is) ∙ sound

all_readable : (server : Bool) (ps : List Piece) (before : List ℕ) (at : ℕ) → left_from 0 None before ≡ Ok (boundary at) → CanEach CanPiece ps → result_err (left_from 0 None (before ++ pieces_bytes server ps)) ≡ None → CanEach IsReadable ps
all_readable server [] before at stands can sound = tt
all_readable server (whole order command payload segment ∷ ps) before at stands can sound =
    let p = whole order command payload segment in
    by_length (CanEach IsReadable (p ∷ ps)) (length payload)
    (λ few.
    let one = one_more server before at stands p (can.0.0, few) in
    ((can.0.0, few), all_readable server ps ((before ++ piece_bytes server p) ++ []) one.behind one.left can.1 (sound_on server p ps before sound)))
    (λ long.
    let refused = overlong_is_refused before (pieces_bytes server ps) payload at order server command segment stands can.0.0 can.0.1 long in
    absurd (let clash : Some refused.0 ≡ None = sym (ap result_err refused.1) ∙ sound in cc))
all_readable server (short order command number ∷ ps) before at stands can sound =
    let p = short order command number in
    let one = one_more server before at stands p can.0 in
    (can.0, all_readable server ps ((before ++ piece_bytes server p) ++ []) one.behind one.left can.1 (sound_on server p ps before sound))

-- and so all events come of all the bytes
pub sound_counted : (server : Bool) (ps : List Piece) → CanEach CanPiece ps → result_err (left_from 0 None (pieces_bytes server ps)) ≡ None → length (events_from 0 None (pieces_bytes server ps)) ≡ length ps
sound_counted server ps can sound = all_counted server ps (all_readable server ps [] 0 (nothing_left 0) can sound)
