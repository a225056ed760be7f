-- A server reads what a client has sent.
use Rattle.std.proofs.Common.{◌≡◌, ℕ, ◌+◌, ◌≤◌, false, List, [], ◌∷◌, ◌++◌, length, None, Ok, Result, refl, ap, sym, subst, ◌∙◌, append_assoc, arith}
use Rattle.std.proofs.lemmas.List.{append-nil, length-append}
use Rattle.pva_wire.specs.declared.order.Order.{Order}
use Rattle.pva_frames.proofs.ReadBack.{message_reads_back, control_reads_back, header-size}
use Rattle.pva_frames.specs.Assembled.{Assembled}
use Rattle.pva_frames.specs.Laws.{stream, boundary, and_then}
use Rattle.pva_frames.specs.Frames.{cut, cut_in}
use Rattle.pva_frames.specs.Messages.{limit, events_from, left_from, events_of, standing_after, Unfinished}
use Rattle.pva_frames.specs.declared.event.Event.{Event}
use Rattle.pva_frames.specs.declared.event.Event.TheVariants.{Control}
use Rattle.pva_frames.specs.declared.fault.FrameFault.{FrameFault}
use Rattle.pvd_codec.specs.Written.{CanEach}
use Rattle.pva_messages.proofs.ReadBack.{request_back}
use Rattle.pva_messages.proofs.PartBack.{part_back}
use Rattle.pva_messages.specs.Laws.{request_payload}
use Rattle.pva_messages.specs.Requests.{Request, request_command}
use Rattle.cli_session.specs.Laws.{CanSent, CanWrite, IsShort, event_at, events_at, IsHeard, SentIsHeard}
use Rattle.cli_session.specs.Messages.{Sent, said, control, Written, spelled, written_bytes}

-- nothing brings nothing
nothing_left : (at : ℕ) → left_from at None [] ≡ Ok (boundary at)
unfolding cut cut_in events_of standing_after left_from
nothing_left at = refl

nothing_read : (at : ℕ) → events_from at None [] ≡ []
unfolding cut cut_in events_of standing_after left_from
nothing_read at = refl

module _ (before : List ℕ) (at : ℕ) (stands : left_from 0 None before ≡ Ok (boundary at)) where
  -- one that follows these bytes
  one_more : (order : Order) (segment : ℕ) (x : Sent) → CanSent segment x → ((m : Request) → x ≡ said m → length (request_payload order m) ≤ limit)
      → stream ((before ++ spelled order segment x) ++ [])
      ≡ and_then (events_from 0 None before) (event_at at order x) (at + length (spelled order segment x)) None []
  one_more order segment (said m) can short =
      message_reads_back before [] (request_payload order m) at order false (request_command m) segment stands can.0 (short m refl)
  one_more order segment (control command number) can short =
      control_reads_back before [] at None order false command number stands can
      ∙ ap (λ (n : ℕ). and_then (events_from 0 None before) (Control command number) (at + n) None []) (sym (header-size order false 1 command number))

abbrev read_as : List Event → ℕ → Assembled
read_as events at = record { events = events; left = Ok (boundary at) }

all_heard : (ws : List Written) (before : List ℕ) (at : ℕ) → left_from 0 None before ≡ Ok (boundary at) → CanEach CanWrite ws → CanEach IsShort ws
    → stream (before ++ written_bytes ws) ≡ read_as (events_from 0 None before ++ events_at at ws) (at + length (written_bytes ws))
all_heard [] before at stands can short =
    let none : at ≡ at + 0 = omega arith in
    ap stream (append-nil before)
    ∙ ap (λ (l : Result Unfinished FrameFault). record { events = events_from 0 None before; left = l }) stands
    ∙ ap (λ (n : ℕ). read_as (events_from 0 None before) n) none
    ∙ ap (λ (es : List Event). read_as es (at + 0)) (sym (append-nil (events_from 0 None before)))
all_heard (w ∷ ws) before at stands can short =
    let bytes = spelled w.order w.segment w.sent in
    let event = event_at at w.order w.sent in
    let longer = (before ++ bytes) ++ [] in
    let behind = at + length bytes in
    let more = written_bytes ws in
    let is = one_more before at stands w.order w.segment w.sent can.0 short.0 in
    let left_is : left_from 0 None longer ≡ Ok (boundary behind) = ap (λ (a : Assembled). a.left) is ∙ nothing_left behind in
    let events_are : events_from 0 None longer ≡ events_from 0 None before ++ event ∷ [] =
    ap (λ (a : Assembled). a.events) is ∙ ap (λ (es : List Event). events_from 0 None before ++ event ∷ es) (nothing_read behind) in
    let cut : before ++ (bytes ++ more) ≡ longer ++ more =
    sym (append_assoc before bytes more) ∙ ap (λ (xs : List ℕ). xs ++ more) (sym (append-nil (before ++ bytes))) in
    let size : behind + length more ≡ at + length (bytes ++ more) = omega (arith, length-append bytes more) in
    ap stream cut
    ∙ all_heard ws longer behind left_is can.1 short.1
    ∙ ap (λ (es : List Event). read_as (es ++ events_at behind ws) (behind + length more)) events_are
    ∙ ap (λ (es : List Event). read_as es (behind + length more)) (append_assoc (events_from 0 None before) (event ∷ []) (events_at behind ws))
    ∙ ap (λ (n : ℕ). read_as (events_from 0 None before ++ event ∷ events_at behind ws) n) size

each_heard : (ws : List Written) → CanEach CanWrite ws → CanEach IsHeard ws
each_heard [] can = tt
each_heard (w ∷ ws) can = (this_heard, each_heard ws can.1) where
  this_heard : IsHeard w
  this_heard m is types =
      let writable = (subst (λ (x : Sent). CanSent w.segment x) is can.0).1 in
      (request_back w.order types m writable, λ p has. part_back w.order types m p writable has)

pub sent_is_heard : SentIsHeard
sent_is_heard sent can short = record {
  events =
      all_heard sent [] 0 (nothing_left 0) can short
      ∙ ap (λ (es : List Event). read_as (es ++ events_at 0 sent) (0 + length (written_bytes sent))) (nothing_read 0)
      ∙ ap (λ (n : ℕ). read_as (events_at 0 sent) n) (omega arith);
  messages = each_heard sent can;
}
