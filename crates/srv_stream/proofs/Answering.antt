-- Events of a stream, answered by a session.
use Rattle.std.proofs.Common.{◌≡◌, ℕ, List, [], ◌∷◌, ◌++◌, Some, Err, refl, sym, ◌∙◌, ap, subst}
use Rattle.std.proofs.lemmas.Bool.{false≢true}
use Rattle.pva_frames.specs.Assembled.{Assembled}
use Rattle.pva_frames.specs.declared.event.Whole.{Whole}
use Rattle.pva_frames.specs.declared.event.Event.{Event}
use Rattle.pva_frames.specs.declared.event.Event.TheVariants.{Message}
use Rattle.pvd_type.specs.declared.memory.NoMemory.{NoMemory}
use Rattle.desk_api.proofs.Adding.{adds_nothing}
use Rattle.desk_api.specs.declared.mark.Seat.{Seat}
use Rattle.srv_session.specs.Calls.{Shown, site_of, Handled, GaveUp, Responds, Stopped, Handles}
use Rattle.srv_session.specs.State.{State, slots_of}
use Rattle.srv_session.specs.Steps.{hears, IsStep, after_step, bytes_of, PartOf, EventPart, left_by_hearing}
use Rattle.srv_session.specs.Tasks.{Hearing, unreadable, over_range, heard}
use Rattle.srv_stream.specs.Streams.{View, stop_at, stop_of, stop_as, AnsweredEvent, UnansweredEvent, PartOfEvent, AnswersEventErr, AnswersEvent, Passed, FedUpTo, FedPart, FedErr}
use Rattle.srv_session.specs.declared.stop.SessionStop.{SessionStop}
use Rattle.srv_session.specs.declared.stop.SessionStop.TheVariants as stops
use Rattle.mon_window.specs.declared.window.WindowFault.TheVariants.{OverRange}
use Rattle.srv_stream.specs.declared.ended.Ended.{Ended}
use Rattle.srv_stream.specs.declared.ended.Ended.TheVariants as ends
use Rattle.srv_stream.proofs.Passing.{passed_step, fed_stopped, fed_part, left_slots, no_event_part, none_left_there}
use Rattle.srv_session.proofs.Covered.{after_part_is}
use Rattle.srv_stream.proofs.Stopping.{event_stops}
use Rattle.journal_core.specs.Moments.{Moment}

-- what a session shows, behind this stream
abbrev pub behind : Shown → Assembled → View
behind x stream = record { state = x.state; stream = stream; pending = x.output }

pub answered : (old new : Shown) (moment : Moment) (e : Event) (stream : Assembled) → Handled old new moment e → AnsweredEvent old.seat new.seat moment (behind old stream) (behind new stream) e
answered old new moment e stream x = record {
  marks = x.marks;
  sent = x.sent;
  rule = (x.answers, x.sayable);
  state = x.state;
  adds = x.adds;
  moments = x.moments;
  out = x.output;
  stream = refl;
}

part_answered : (old new : Shown) (moment : Moment) (e : Event) (stream : Assembled) → GaveUp old new moment (PartOf (site_of old) old.state (heard (site_of old) old.state e)) (left_by_hearing (site_of old) old.state (heard (site_of old) old.state e))
    → PartOfEvent old.seat new.seat moment (behind old stream) (behind new stream) e
part_answered old new moment e stream x = record { marks = x.marks; part = x.part_is; subscribed = x.subscribed; adds = x.adds; moments = x.moments; out = x.output }

unanswered : (old new : Shown) (m : Whole) (hearing : Hearing) (ended : Ended) (stream : Assembled) → Stopped old new (heard (site_of old) old.state (Message m)) hearing → stop_at m hearing ≡ Some ended
    → UnansweredEvent old.seat new.seat (behind old stream) (behind new stream) (Message m) ended
unanswered old new m hearing ended stream x is = record { seat = x.seat; subscribed = x.subscribed; stop = ap (stop_at m) x.heard_is ∙ is; out = x.output }

-- a control message was answered, or memory ran out
pub control_answers : (old new : Shown) (moment : Moment) (e : Event) (stream : Assembled) (no_memory : NoMemory) → Responds old new moment e (Err no_memory) → AnswersEvent old.seat new.seat moment (behind old stream) (behind new stream) e (Err ends.NoMemory)
control_answers old new moment e stream no_memory x = part_answered old new moment e stream x

-- a message wasn't
pub message_stops : (old new : Shown) (moment : Moment) (m : Whole) (stream : Assembled) (stop : SessionStop) → Handles old new moment (Message m) (Err stop)
    → AnswersEvent old.seat new.seat moment (behind old stream) (behind new stream) (Message m) (Err (stop_as m.place stop))
message_stops old new moment m stream (stops.Message fault) x = unanswered old new m (unreadable fault) _ stream x refl
message_stops old new moment m stream (stops.Window OverRange) x = unanswered old new m over_range _ stream x refl
message_stops old new moment m stream stops.NoMemory x = part_answered old new moment (Message m) stream x

module _ {old mid : Seat} {moment : Moment} {v u : View} {xs : List ℕ} (a : Passed old mid (Some moment) v u xs) where
  -- the next event was answered; before, the stream had it in front
  pub ready_answered : {new : Seat} (v1 w : View) (e : Event) → u.stream.events ≡ e ∷ v1.stream.events → v1.stream.left ≡ u.stream.left → v1.state ≡ u.state → v1.pending ≡ u.pending
      → AnsweredEvent mid new moment v1 w e → Passed old new (Some moment) v w xs
  ready_answered v1 w e events left state pending x =
      passed_step a w e x.marks x.sent
      (subst (λ (s : State). IsStep mid.seen.base.site s (hears e x.marks x.sent)) state x.rule)
      (events ∙ ap (λ (b : Assembled). e ∷ b.events) (sym x.stream))
      (ap (λ (b : Assembled). b.left) x.stream ∙ left)
      (x.state ∙ ap (λ (s : State). after_step mid.seen.base.site s (hears e x.marks x.sent)) state)
      x.adds x.moments
      (x.out ∙ ap (λ (z : List ℕ). z ++ bytes_of v1.state (hears e x.marks x.sent)) pending ∙ ap (λ (s : State). u.pending ++ bytes_of s (hears e x.marks x.sent)) state)

  ready_stopped : {new : Seat} (v1 w : View) (ys : List ℕ) (e : Event) (ended : Ended) → u.stream.events ≡ e ∷ v1.stream.events → v1.state ≡ u.state → v1.pending ≡ u.pending
      → UnansweredEvent mid new v1 w e ended → FedUpTo old new (Some moment) v w (xs ++ ys) ended
  ready_stopped v1 w ys e ended events state pending x =
      fed_stopped a w ys e v1.stream.events ended events (subst (λ (s : State). stop_of mid.seen.base.site s e ≡ Some ended) state x.stop) x.seat (x.subscribed ∙ ap (λ (s : State). slots_of s.requests) state) (x.out ∙ pending)

  ready_part : {new : Seat} (v1 w : View) (ys : List ℕ) (e : Event) → u.stream.events ≡ e ∷ v1.stream.events → v1.state ≡ u.state → v1.pending ≡ u.pending
      → PartOfEvent mid new moment v1 w e → FedPart old new (Some moment) v w (xs ++ ys)
  ready_part v1 w ys e events state pending x =
      let site = mid.seen.base.site in
      let part = subst (λ (s : State). PartOf site s (heard site s e) x.marks) state x.part in
      let left = subst (λ (s : State). slots_of w.state.requests ≡ slots_of (left_by_hearing site s (heard site s e) x.marks).requests) state x.subscribed in
      fed_part a w ys x.marks
      (subst (λ (l : List Event). EventPart site u.state l x.marks) (sym events) part)
      (left ∙ sym (after_part_is site u.state e v1.stream.events x.marks part) ∙ ap (λ (l : List Event). left_slots site u.state l x.marks) (sym events))
      x.adds x.moments (x.out ∙ pending)

  -- the next event wasn't answered, whatever bytes follow
  pub ready_err : (new : Seat) (v1 w : View) (ys : List ℕ) (e : Event) (ended : Ended) → u.stream.events ≡ e ∷ v1.stream.events → v1.state ≡ u.state → v1.pending ≡ u.pending
      → AnswersEventErr mid new moment v1 w e ended → FedErr old new (Some moment) v w (xs ++ ys) ended
  ready_err new v1 w ys e (ends.Bad fault place) events state pending x = ready_stopped v1 w ys e (ends.Bad fault place) events state pending x
  ready_err new v1 w ys e ends.NoMemory events state pending x = ready_part v1 w ys e events state pending x
  ready_err new v1 w ys e ends.Closed events state pending x = absurd (false≢true (event_stops mid.seen.base.site v1.state e ends.Closed (sym x.stop)))
  ready_err new v1 w ys e (ends.Truncated place) events state pending x = absurd (false≢true (event_stops mid.seen.base.site v1.state e (ends.Truncated place) (sym x.stop)))
  ready_err new v1 w ys e ends.ReadFault events state pending x = absurd (false≢true (event_stops mid.seen.base.site v1.state e ends.ReadFault (sym x.stop)))
  ready_err new v1 w ys e ends.WriteFault events state pending x = absurd (false≢true (event_stops mid.seen.base.site v1.state e ends.WriteFault (sym x.stop)))
  ready_err new v1 w ys e (ends.Spent calls) events state pending x = absurd (false≢true (event_stops mid.seen.base.site v1.state e (ends.Spent calls) (sym x.stop)))

  -- memory ran out before the next event
  pub ready_without : (w : View) (ys : List ℕ) → w.state ≡ u.state → w.pending ≡ u.pending → FedPart old mid (Some moment) v w (xs ++ ys)
  ready_without w ys state pending =
      let site = mid.seen.base.site in
      fed_part a w ys [] (no_event_part site u.state u.stream.events) (ap (λ (s : State). slots_of s.requests) state ∙ sym (none_left_there site u.state u.stream.events)) (adds_nothing mid a.adds.legal) tt pending
