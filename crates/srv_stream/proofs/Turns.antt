-- One task of a connection, from invariant to invariant or to its end.
use Rattle.std.proofs.Common.{◌≡◌, ℕ, ◌+◌, ◌<◌, ◌⊎◌, inl, inr, Bool, true, false, not, List, [], ◌∷◌, ◌≤◌, length, Option, None, Some, Result, Ok, Err, refl, sym, ◌∙◌, ap, subst, arith}
use Rattle.std.proofs.lemmas.Bool.{false≢true}
use Rattle.pva_outside.specs.Wire.{Wire, CameToEnd}
use Rattle.pva_wire.specs.declared.order.Order.{Order}
use Rattle.pva_frames.specs.Assembled.{Assembled, opening as unread, fed, rest_of}
use Rattle.desk_api.specs.History.{IsLegal}
use Rattle.desk_api.specs.declared.mark.Seat.{Seat}
use Rattle.srv_session.specs.State.{opening, slots_of}
use Rattle.srv_session.specs.Steps.{state_after, IsDrained}
use Rattle.srv_session.specs.Calls.{AreLiving, Finished, Holds, IsOf, Pumped, PumpStopped}
use Rattle.srv_stream.specs.Streams.{View, Feeds, SameStream, shown_in}
use Rattle.srv_stream.specs.Turning.{WritesSome, ReadsSome, Piece, piece_bytes, Untouched, ReadEnd, ReadUpTo, EndIsDue, IsOpen, may_pump, over_by, ended_inside}
use Rattle.srv_stream.specs.Views.{first_view}
use Rattle.srv_stream.specs.Served.{Served}
use Rattle.srv_stream.specs.Faults.{EndsAtFirstFault}
use Rattle.srv_stream.specs.declared.ended.Ended.{Ended}
use Rattle.srv_stream.specs.declared.ended.Ended.TheVariants as ends
use Rattle.srv_stream.proofs.Stopping.{is_stop, trouble_stops}
use Rattle.srv_stream.proofs.Going.{Going, Idling, Standing, trouble_of, is_met, RestIs}
use Rattle.srv_stream.proofs.GoingOn.{going_start, going_idle, going_took, going_end, going_fed, going_refused, going_on_site, going_holds, going_living, going_pumped, pumped_out, pumped_some}
use Rattle.srv_stream.proofs.Ending.{write_failed, spent_writing, in_trouble, closed, truncated, read_failed, spent_reading, broken_by_call, broken_by_feed, broken_by_pump}
use Rattle.journal_core.specs.Moments.{Moment}

-- one where nothing is to be written and something may be unread
unfoldable pub is_to_pump : List ℕ → Bool → ℕ
is_to_pump [] false = 1
is_to_pump [] true = 0
is_to_pump (x ∷ xs) pumped = 0

pub one_to_pump : (pending : List ℕ) (pumped : Bool) → pending ≡ [] → pumped ≡ false → is_to_pump pending pumped ≡ 1
unfolding is_to_pump
one_to_pump [] false empty not_yet = refl
one_to_pump [] true empty not_yet = absurd (false≢true (sym not_yet))
one_to_pump (x ∷ xs) pumped empty not_yet = absurd (omega (arith, ap length empty))

pub most_to_pump : (pending : List ℕ) (pumped : Bool) → is_to_pump pending pumped ≤ 1
unfolding is_to_pump
most_to_pump [] false = omega arith
most_to_pump [] true = omega arith
most_to_pump (x ∷ xs) pumped = omega arith

pub none_to_pump : (pending : List ℕ) (more : Bool) → (more ≡ true → 0 < length pending) → is_to_pump pending (not more) ≡ 0
unfolding is_to_pump
none_to_pump [] false some = refl
none_to_pump [] true some = let e = some refl in absurd (omega (arith, e))
none_to_pump (x ∷ xs) more some = refl

pub standing_start : (old : Seat) (start : Wire) (told : Option Moment) (order : Order) → IsLegal old.seen → Standing old old start start told order (first_view order) None false 0
standing_start old start told order legal = record { going = going_start old start told order legal; rest = tt; dry = λ e. absurd (false≢true e) }

-- all is written, nothing ends it yet, and nothing is unread that may be sent
abbrev pub idling : {old new : Seat} {start wire : Wire} {told : Option Moment} {order : Order} {v : View} {over : Option Ended} {pumped : Bool} {calls : ℕ} → Standing old new start wire told order v over pumped calls
    → IsOpen v.pending over pumped → Idling old new start wire told order v None false calls
idling {old} {new} {start} {wire} {told} {order} {v} {over} {pumped} {calls} s x =
    let t = subst (λ (z : Option Ended). Standing old new start wire told order v z pumped calls) x.over_is s in record { going = t.going; empty = x.written; dry = λ _. t.dry x.pumped_is }

pub open_on_site : {old new : Seat} {start wire : Wire} {told : Option Moment} {order : Order} {v : View} {over : Option Ended} {pumped : Bool} {calls : ℕ} → Standing old new start wire told order v over pumped calls → over ≡ None → IsOf new.seen.base.site v.state
open_on_site s none = going_on_site s.going (ap trouble_of none)

pub open_holds : {old new : Seat} {start wire : Wire} {told : Option Moment} {order : Order} {v : View} {over : Option Ended} {pumped : Bool} {calls : ℕ} → Standing old new start wire told order v over pumped calls → over ≡ None → Holds new.log v.state
open_holds s none = going_holds s.going (ap trouble_of none)

-- A fault of the stream is all that may be wrong.

-- what is wrong in a stream is no fault of the link
no_fault : {old new : Seat} {start wire : Wire} {told : Option Moment} {order : Order} {v : View} {at_end : Bool} {calls : ℕ} (ended : Ended) → is_stop ended ≡ false
    → Going old new start wire told order v (Some ended) at_end calls → ⊥
no_fault {old} {new} {start} {wire} {told} {order} {v} {at_end} {calls} ended other a =
    let site = old.seen.base.site in
    false≢true (sym other ∙ trouble_stops site (state_after site (opening order) a.steps) a.follows.remaining (fed unread a.read).left ended a.follows.stands)

-- where the monitors may be popped, nothing is wrong
pub pump_calm : {old new : Seat} {start wire : Wire} {told : Option Moment} {order : Order} {v : View} {pumped : Bool} {calls : ℕ} (over : Option Ended) → Standing old new start wire told order v over pumped calls
    → may_pump over ≡ true → trouble_of over ≡ None
pump_calm None s may = refl
pump_calm (Some ends.Closed) s may = refl
pump_calm (Some (ends.Truncated place)) s may = refl
pump_calm (Some (ends.Bad fault place)) s may = absurd (false≢true may)
pump_calm (Some ends.ReadFault) s may = absurd (no_fault ends.ReadFault refl s.going)
pump_calm (Some ends.WriteFault) s may = absurd (no_fault ends.WriteFault refl s.going)
pump_calm (Some (ends.Spent n)) s may = absurd (no_fault (ends.Spent n) refl s.going)
pump_calm (Some ends.NoMemory) s may = absurd (no_fault ends.NoMemory refl s.going)

-- A pump.

is_not : (b : Bool) → not b ≡ true → b ≡ false
is_not true e = absurd (false≢true e)
is_not false e = refl

module _ {old new : Seat} {start wire : Wire} {told : Option Moment} {order : Order} {v : View} {over : Option Ended} {pumped : Bool} {calls : ℕ} (s : Standing old new start wire told order v over pumped calls)
    (may : may_pump over ≡ true) where
  calm_going : Going old new start wire told order v None (is_met over) calls
  calm_going = subst (λ (z : Option Ended). Going old new start wire told order v z (is_met over) calls) (pump_calm over s may) s.going

  pub pump_on_site : IsOf new.seen.base.site v.state
  pump_on_site = going_on_site s.going (pump_calm over s may)

  pub pump_holds : Holds new.log v.state
  pump_holds = going_holds s.going (pump_calm over s may)

  pub pumped_on : {new2 : Seat} (w : View) (more : Bool) → Pumped (shown_in new v) (shown_in new2 w) more → SameStream v w → Standing old new2 start wire told order w over (not more) calls
  pumped_on {new2} w more p same =
      let next : (g : Going old new2 start wire told order w None (is_met over) calls) × (not more ≡ true → IsDrained old.seen.base.site (opening order) g.steps) =
      (going_pumped calm_going more p same, λ e. pumped_out calm_going more p same (is_not more e)) in
      let as_was = subst (λ (z : Option Ended). (g : Going old new2 start wire told order w z (is_met over) calls) × (not more ≡ true → IsDrained old.seen.base.site (opening order) g.steps))
      (sym (pump_calm over s may)) next in record {
        going = as_was.0;
        rest = subst (λ (c : Assembled). RestIs over (rest_of c.left)) (sym same) s.rest;
        dry = as_was.1;
      }

  -- either nothing is unread any more, or there is something to be written
  pub pumped_less : {new2 : Seat} (w : View) (more : Bool) → Pumped (shown_in new v) (shown_in new2 w) more → SameStream v w → more ≡ true → 0 < length w.pending
  pumped_less w more p same some = pumped_some calm_going more p same some

  pub pump_ended : {new2 last : Seat} (w : View) (turns : ℕ) → PumpStopped (shown_in new v) (shown_in new2 w) → Finished (shown_in new2 w) last → Served old last start wire told order turns ends.NoMemory
  pump_ended w turns p f = broken_by_pump calm_going w turns p f

-- A write.

pub wrote_on : {old new : Seat} {start wire : Wire} {told : Option Moment} {order : Order} {v : View} {over : Option Ended} {pumped : Bool} {calls : ℕ} (wire2 : Wire) (w : View) → Standing old new start wire told order v over pumped calls
    → WritesSome wire wire2 v w (Ok tt) → Standing old new start wire2 told order w over pumped (calls + 1)
wrote_on {old} {new} {start} {wire} {told} {order} {v} {over} {pumped} {calls} wire2 w s (inl x) = record {
  going = going_took s.going wire2 w x.count x.taken x.view;
  rest = subst (λ (z : View). RestIs over (rest_of z.stream.left)) (sym x.view) s.rest;
  dry = s.dry;
}
wrote_on {old} {new} {start} {wire} {told} {order} {v} {over} {pumped} {calls} wire2 w s (inr x) =
    subst (λ (z : View). Standing old new start wire2 told order z over pumped (calls + 1)) (sym x.view) (record { going = going_idle s.going wire2 x.idled; rest = s.rest; dry = s.dry })

wrote_view : (wire wire2 : Wire) (v w : View) (ended : Ended) → WritesSome wire wire2 v w (Err ended) → w ≡ v
wrote_view wire wire2 v w ends.WriteFault x = x.view
wrote_view wire wire2 v w ends.NoMemory x = x.view
wrote_view wire wire2 v w ends.Closed x = absurd x
wrote_view wire wire2 v w (ends.Truncated place) x = absurd x
wrote_view wire wire2 v w (ends.Bad fault place) x = absurd x
wrote_view wire wire2 v w ends.ReadFault x = absurd x
wrote_view wire wire2 v w (ends.Spent calls) x = absurd x

-- the session is as it was, so that its subscriptions live
pub unwritten_living : {old new : Seat} {start wire : Wire} {told : Option Moment} {order : Order} {v : View} {over : Option Ended} {pumped : Bool} {calls : ℕ} (wire2 : Wire) (w : View) (ended : Ended)
    → Standing old new start wire told order v over pumped calls → WritesSome wire wire2 v w (Err ended) → AreLiving new.log (slots_of w.state.requests)
unwritten_living {old} {new} {start} {wire} {told} {order} {v} wire2 w ended s x =
    subst (λ (z : View). AreLiving new.log (slots_of z.state.requests)) (sym (wrote_view wire wire2 v w ended x)) (going_living s.going)

unwritten_finished : {new last : Seat} {v w : View} → w ≡ v → Finished (shown_in new w) last → Finished (shown_in new v) last
unwritten_finished {new} {last} is f = subst (λ (z : View). Finished (shown_in new z) last) is f

pub write_ended : {old new : Seat} {start wire : Wire} {told : Option Moment} {order : Order} {v : View} {over : Option Ended} {pumped : Bool} {calls : ℕ} {last : Seat} (turns : ℕ) (wire2 : Wire) (w : View) (ended : Ended)
    → Standing old new start wire told order v over pumped calls → Finished (shown_in new w) last → 0 < length v.pending → WritesSome wire wire2 v w (Err ended) → Served old last start wire2 told order turns ended
write_ended turns wire2 w ends.WriteFault s f some x = write_failed s.going (unwritten_finished x.view f) turns wire2 some x.failed
write_ended turns wire2 w ends.NoMemory s f some x = broken_by_call s.going turns wire2 x.unchanged (unwritten_finished x.view f)
write_ended turns wire2 w ends.Closed s f some x = absurd x
write_ended turns wire2 w (ends.Truncated place) s f some x = absurd x
write_ended turns wire2 w (ends.Bad fault place) s f some x = absurd x
write_ended turns wire2 w ends.ReadFault s f some x = absurd x
write_ended turns wire2 w (ends.Spent calls) s f some x = absurd x

-- A read, where all was written.
module _ {old new : Seat} {start wire : Wire} {told : Option Moment} {order : Order} {v : View} {calls : ℕ} (i : Idling old new start wire told order v None false calls) (wire2 : Wire) (new2 : Seat) (w : View) where
  read_end : (ended : Ended) (rest : Option ℕ) → trouble_of (Some ended) ≡ None → is_met (Some ended) ≡ true → (rest_of v.stream.left ≡ rest → RestIs (Some ended) (rest_of v.stream.left))
      → ReadEnd new new2 wire wire2 v w rest → Standing old new2 start wire2 told order w (Some ended) false (calls + 1)
  read_end ended rest none met is x =
      subst (λ (z : Seat). Standing old z start wire2 told order w (Some ended) false (calls + 1)) (sym x.untouched.seat)
      (subst (λ (z : View). Standing old new start wire2 told order z (Some ended) false (calls + 1)) (sym x.untouched.view) (record {
        going = subst (λ (b : Bool). Going old new start wire2 told order v (trouble_of (Some ended)) b (calls + 1)) (sym met)
            (subst (λ (o : Option Ended). Going old new start wire2 told order v o true (calls + 1)) (sym none) (going_end i wire2 x.came));
        rest = is x.rest_is;
        dry = λ e. absurd (false≢true e);
      }))

  read_up_to : (ended : Ended) → ReadUpTo new new2 wire wire2 told v w ended → Going old new2 start wire2 told order w (Some ended) false (calls + 1)
  read_up_to ended x = going_refused i wire2 x.piece.count x.piece.buffer x.piece.gave x.piece.small x.fed

  pub read_on : (found : Option Ended) → ReadsSome new new2 wire wire2 told v w (Ok found) → Standing old new2 start wire2 told order w found false (calls + 1)
  read_on None (inl x) = record { going = going_fed i wire2 x.piece.count x.piece.buffer x.piece.gave x.piece.small x.fed; rest = tt; dry = λ e. absurd (false≢true e) }
  read_on None (inr x) =
      subst (λ (z : Seat). Standing old z start wire2 told order w None false (calls + 1)) (sym x.untouched.seat)
      (subst (λ (z : View). Standing old new start wire2 told order z None false (calls + 1)) (sym x.untouched.view)
      (record { going = going_idle i.going wire2 x.idled; rest = tt; dry = λ e. absurd (false≢true e) }))
  read_on (Some ends.Closed) x = read_end ends.Closed None refl refl (λ is. is) x
  read_on (Some (ends.Truncated place)) x = read_end (ends.Truncated place) (Some place) refl refl (λ is. is) x
  read_on (Some (ends.Bad fault place)) x = record { going = read_up_to (ends.Bad fault place) x; rest = tt; dry = λ e. absurd (false≢true e) }
  read_on (Some ends.ReadFault) x = record { going = read_up_to ends.ReadFault x; rest = tt; dry = λ e. absurd (false≢true e) }
  read_on (Some ends.WriteFault) x = record { going = read_up_to ends.WriteFault x; rest = tt; dry = λ e. absurd (false≢true e) }
  read_on (Some (ends.Spent n)) x = record { going = read_up_to (ends.Spent n) x; rest = tt; dry = λ e. absurd (false≢true e) }
  read_on (Some ends.NoMemory) x = record { going = read_up_to ends.NoMemory x; rest = tt; dry = λ e. absurd (false≢true e) }

  module _ {last : Seat} (f : Finished (shown_in new2 w) last) where
    -- as if nothing had happened to the session
    unmoved : Untouched new new2 v w → Finished (shown_in new v) last
    unmoved x = subst (λ (z : Seat). Finished (shown_in z v) last) x.seat (subst (λ (z : View). Finished (shown_in new2 z) last) x.view f)

    pub read_ended : (turns : ℕ) (ended : Ended) → ReadsSome new new2 wire wire2 told v w (Err ended) → Served old last start wire2 told order turns ended
    read_ended turns ends.ReadFault x = read_failed turns wire2 i (unmoved x.untouched) x.failed
    read_ended turns ends.NoMemory (inl x) = broken_by_call i.going turns wire2 x.unchanged (unmoved x.untouched)
    read_ended turns ends.NoMemory (inr x) = broken_by_feed i wire2 x.piece.count x.piece.buffer x.piece.gave x.piece.small turns x.fed f
    read_ended turns ends.Closed x = absurd x
    read_ended turns (ends.Truncated place) x = absurd x
    read_ended turns (ends.Bad fault place) x = absurd x
    read_ended turns ends.WriteFault x = absurd x
    read_ended turns (ends.Spent n) x = absurd x

-- The end.

module _ {old new : Seat} {start wire : Wire} {told : Option Moment} {order : Order} {v : View} {pumped : Bool} {calls : ℕ} where
  -- it ends so
  pub ending : {over : Option Ended} (ended : Ended) → Standing old new start wire told order v over pumped calls → over ≡ Some ended → Standing old new start wire told order v (Some ended) pumped calls
  ending ended s is = subst (λ (z : Option Ended). Standing old new start wire told order v z pumped calls) is s

  met_end : (ended : Ended) (s : Standing old new start wire told order v (Some ended) pumped calls) → pumped ≡ true → v.pending ≡ [] → Idling old new start wire told order v (trouble_of (Some ended)) (is_met (Some ended)) calls
  met_end ended s out empty = record { going = s.going; empty = empty; dry = λ _. s.dry out }

  -- the connection ends as was found, once all is written
  pub all_ended : {last : Seat} (turns : ℕ) (ended : Ended) → Standing old new start wire told order v (Some ended) pumped calls → EndIsDue v.pending (Some ended) pumped ended → Finished (shown_in new v) last
      → Served old last start wire told order turns ended
  all_ended turns ends.Closed s x f = closed turns (met_end ends.Closed s (x.pumped_out refl) x.written) f s.rest
  all_ended turns (ends.Truncated place) s x f = truncated turns place (met_end (ends.Truncated place) s (x.pumped_out refl) x.written) f s.rest
  all_ended turns (ends.Bad fault place) s x f = in_trouble turns (ends.Bad fault place) s.going x.written f
  all_ended turns ends.ReadFault s x f = in_trouble turns ends.ReadFault s.going x.written f
  all_ended turns ends.WriteFault s x f = in_trouble turns ends.WriteFault s.going x.written f
  all_ended turns (ends.Spent n) s x f = in_trouble turns (ends.Spent n) s.going x.written f
  all_ended turns ends.NoMemory s x f = in_trouble turns ends.NoMemory s.going x.written f

  pub all_faultless : {L : Type 0} (wire_of : L → Wire) (first last : L) (ended : Ended) → Standing old new start wire told order v (Some ended) pumped calls → EndsAtFirstFault wire_of first last ended
  all_faultless wire_of first last ends.Closed s = tt
  all_faultless wire_of first last (ends.Truncated place) s = tt
  all_faultless wire_of first last (ends.Bad fault place) s = tt
  all_faultless wire_of first last ends.ReadFault s = absurd (no_fault ends.ReadFault refl s.going)
  all_faultless wire_of first last ends.WriteFault s = absurd (no_fault ends.WriteFault refl s.going)
  all_faultless wire_of first last (ends.Spent n) s = tt
  all_faultless wire_of first last ends.NoMemory s = tt

-- a call failed, before which no fault was counted

pub write_fault : {L : Type 0} (wire_of : L → Wire) (first before last : L) (v w : View) (ended : Ended) → (wire_of before).faults ≡ (wire_of first).faults
    → WritesSome (wire_of before) (wire_of last) v w (Err ended) → EndsAtFirstFault wire_of first last ended
write_fault wire_of first before last v w ends.WriteFault none x = record { before = before; faults = none; call = x.failed }
write_fault wire_of first before last v w ends.ReadFault none x = absurd x
write_fault wire_of first before last v w ends.NoMemory none x = tt
write_fault wire_of first before last v w ends.Closed none x = tt
write_fault wire_of first before last v w (ends.Truncated place) none x = tt
write_fault wire_of first before last v w (ends.Bad fault place) none x = tt
write_fault wire_of first before last v w (ends.Spent calls) none x = tt

pub read_fault : {L : Type 0} (wire_of : L → Wire) (first before last : L) (old new : Seat) (told : Option Moment) (v w : View) (ended : Ended) → (wire_of before).faults ≡ (wire_of first).faults
    → ReadsSome old new (wire_of before) (wire_of last) told v w (Err ended) → EndsAtFirstFault wire_of first last ended
read_fault wire_of first before last old new told v w ends.ReadFault none x = record { before = before; faults = none; call = x.failed }
read_fault wire_of first before last old new told v w ends.WriteFault none x = absurd x
read_fault wire_of first before last old new told v w ends.NoMemory none x = tt
read_fault wire_of first before last old new told v w ends.Closed none x = tt
read_fault wire_of first before last old new told v w (ends.Truncated place) none x = tt
read_fault wire_of first before last old new told v w (ends.Bad fault place) none x = tt
read_fault wire_of first before last old new told v w (ends.Spent calls) none x = tt

-- with the end that is due
pub end_due : (pending : List ℕ) (over : Option Ended) (pumped : Bool) (ended : Ended) → EndIsDue pending over pumped ended → EndIsDue pending (Some ended) pumped ended
end_due pending over pumped ended x = record {
  written = x.written;
  over_is = refl;
  pumped_out = subst (λ (z : Option Ended). may_pump z ≡ true → pumped ≡ true) x.over_is x.pumped_out;
}

-- and it is told so
pub told_so : {old new : Seat} {start end : Wire} {told : Option Moment} {order : Order} {turns : ℕ} (result ended : Ended) → result ≡ ended → Served old new start end told order turns ended → Served old new start end told order turns result
told_so {old} {new} {start} {end} {told} {order} {turns} result ended is x = subst (λ (z : Ended). Served old new start end told order turns z) (sym is) x

pub fault_told : {L : Type 0} (wire_of : L → Wire) (first last : L) (result ended : Ended) → result ≡ ended → EndsAtFirstFault wire_of first last ended → EndsAtFirstFault wire_of first last result
fault_told wire_of first last result ended is x = subst (λ (z : Ended). EndsAtFirstFault wire_of first last z) (sym is) x

-- The turns are spent.
pub all_spent : {old new : Seat} {start wire : Wire} {told : Option Moment} {order : Order} {v : View} {over : Option Ended} {pumped : Bool} {calls : ℕ} {last : Seat} (turns : ℕ)
    → Standing old new start wire told order v over pumped calls → calls ≡ turns → (0 < length v.pending) ⊎ IsOpen v.pending over pumped → Finished (shown_in new v) last
    → Served old last start wire told order turns (ends.Spent calls)
all_spent turns s all (inl some) f = spent_writing s.going f turns some all
all_spent turns s all (inr x) f = spent_reading turns (idling s x) f all

-- What a read came to.

read_by : (old new : Seat) (start end : Wire) (told : Option Moment) (v w : View) (piece : Piece start end) (fed : Result (Unit {0}) Ended) → Feeds old new told v w (piece_bytes piece) fed
    → ReadsSome old new start end told v w (over_by fed)
read_by old new start end told v w piece (Ok u) x = inl (record { piece = piece; fed = x })
read_by old new start end told v w piece (Err (ends.Bad fault place)) x = record { piece = piece; fed = x }
read_by old new start end told v w piece (Err ends.NoMemory) x = inr (record { piece = piece; fed = x })
read_by old new start end told v w piece (Err ends.Closed) x = absurd x
read_by old new start end told v w piece (Err (ends.Truncated place)) x = absurd x
read_by old new start end told v w piece (Err ends.ReadFault) x = absurd x
read_by old new start end told v w piece (Err ends.WriteFault) x = absurd x
read_by old new start end told v w piece (Err (ends.Spent calls)) x = absurd x

pub piece_read : (old new : Seat) (start end : Wire) (told : Option Moment) (v w : View) (piece : Piece start end) (fed : Result (Unit {0}) Ended) (result : Result (Option Ended) Ended) → result ≡ over_by fed
    → Feeds old new told v w (piece_bytes piece) fed → ReadsSome old new start end told v w result
piece_read old new start end told v w piece fed result is x = subst (λ (z : Result (Option Ended) Ended). ReadsSome old new start end told v w z) (sym is) (read_by old new start end told v w piece fed x)

end_by : (seat : Seat) (start end : Wire) (told : Option Moment) (v : View) (rest : Option ℕ) → rest ≡ rest_of v.stream.left → CameToEnd start end → ReadsSome seat seat start end told v v (Ok (Some (ended_inside rest)))
end_by seat start end told v None is came = record { came = came; untouched = record { seat = refl; view = refl }; rest_is = sym is }
end_by seat start end told v (Some place) is came = record { came = came; untouched = record { seat = refl; view = refl }; rest_is = sym is }

pub end_read : (seat : Seat) (start end : Wire) (told : Option Moment) (v : View) (rest : Option ℕ) (ended : Ended) → ended ≡ ended_inside rest → rest ≡ rest_of v.stream.left → CameToEnd start end
    → ReadsSome seat seat start end told v v (Ok (Some ended))
end_read seat start end told v rest ended so is came = subst (λ (z : Ended). ReadsSome seat seat start end told v v (Ok (Some z))) (sym so) (end_by seat start end told v rest is came)
