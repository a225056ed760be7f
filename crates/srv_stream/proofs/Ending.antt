-- A connection has ended.
use Rattle.std.proofs.Common.{◌≡◌, ℕ, ◌+◌, ◌<◌, ◌≤◌, ◌⊎◌, inl, inr, Bool, true, false, cond, List, [], ◌∷◌, ◌++◌, length, take, Option, None, Some, is_some, Result, Ok, Err, refl, sym, ◌∙◌, ap, subst, arith, append_assoc}
use Rattle.std.proofs.lemmas.List.{append-nil}
use Rattle.std.proofs.lemmas.Option.{none-some}
use Rattle.std.proofs.lemmas.Bool.{false≢true}
use Rattle.pva_outside.specs.Count.{Rose}
use Rattle.pva_outside.specs.Wire.{Wire, Failed, Gave, Unchanged}
use Rattle.pva_wire.specs.declared.order.Order.{Order}
use Rattle.pva_frames.specs.Messages.{Unfinished, events_from, left_from}
use Rattle.pva_frames.specs.Assembled.{opening as unread, fed, place_of_fault, rest_of, rest_from}
use Rattle.pva_frames.specs.declared.event.Event.{Event}
use Rattle.pva_frames.specs.declared.fault.FrameFault.{FrameFault}
use Rattle.histories.specs.History.{IsPrefixOf}
use Rattle.desk_api.proofs.Adding.{adds_more, adds_nothing, moments_append}
use Rattle.desk_api.specs.Calls.{Adds, HaveMoment}
use Rattle.desk_api.specs.History.{IsLegal}
use Rattle.desk_api.specs.declared.history.SiteData.{SiteData}
use Rattle.desk_api.specs.declared.mark.Mark.{Mark}
use Rattle.desk_api.specs.declared.mark.Seat.{Seat}
use Rattle.srv_session.specs.Calls.{Finished, PumpStopped}
use Rattle.srv_session.specs.State.{State, slots_of, opening}
use Rattle.srv_session.specs.Rows.{AreEndingsOf}
use Rattle.srv_session.specs.Replies.{greeting}
use Rattle.srv_session.specs.Steps.{Step, AreSteps, AreEndings, NextPart, PopPart, after_part, state_after, events_of, marks_of, turns_of, out_of}
use Rattle.srv_stream.specs.Streams.{refused, Stands, FedPart, View, shown_in}
use Rattle.srv_stream.specs.Views.{first_view}
use Rattle.srv_stream.specs.Moves.{Moves}
use Rattle.srv_stream.specs.Served.{Settled, Whole, IsProperPrefixOf, AtEnd, AtTrouble, AllAnswered, IsSmooth, Completes, HasCause, Served}
use Rattle.srv_stream.specs.declared.ended.Ended.{Ended}
use Rattle.srv_stream.specs.declared.ended.Ended.TheVariants as ends
use Rattle.srv_stream.proofs.Going.{Going, Idling, SawEnd}
use Rattle.srv_stream.proofs.GoingOn.{settled_log, passed, untaken_part, settle, long, from_there, popped_rules, popped_all, popped_bytes, popped_adds, popped_moments, popped_settled, popped_same}
use Rattle.srv_stream.proofs.Finishing.{endings_told, folds_behind, folds_ended, none_at_first, next_slots, next_told}
use Rattle.srv_stream.proofs.Moving.{moves_got, moves_nothing, moves_rest}
use Rattle.srv_stream.proofs.Passing.{fed_part_more, left_slots, none_left_there}
use Rattle.srv_session.proofs.Rows.{no_next_part}
use Rattle.srv_session.proofs.Steps.{after_append, marks_append}
use Rattle.srv_session.proofs.Windowed.{windows_hold}
use Rattle.srv_stream.proofs.Stopping.{is_stop, trouble_stops}
use Rattle.journal_core.specs.Moments.{Moment}

-- A smooth connection is closed.

-- a header that is refused leaves something unfinished
no_refusal : (left : Result Unfinished FrameFault) (ended : Ended) → rest_of left ≡ None → Some ended ≡ refused left → ⊥
no_refusal (Ok left) ended whole is = none-some ended (sym is)
no_refusal (Err fault) ended whole is = none-some (place_of_fault fault) (sym whole)

-- nothing stands behind the events that were answered
unstopped : (site : SiteData) (order : Order) (read : List ℕ) (log : List Mark) (steps : List Step) (remaining : List Event) (ended : Ended)
    → AreSteps site (opening order) steps → AllAnswered site order (events_from 0 None read) log (turns_of steps) → events_from 0 None read ≡ events_of steps ++ remaining
    → IsPrefixOf (marks_of steps) log → rest_from 0 None read ≡ None → Stands site (state_after site (opening order) steps) remaining (left_from 0 None read) (Some ended) → ⊥
unstopped site order read log steps [] ended rules turns all front whole stands = no_refusal (left_from 0 None read) ended whole stands
unstopped site order read log steps (e ∷ more) ended rules turns all front whole stands =
    false≢true (ap (λ (o : Option Ended). is_some o) (sym (turns steps e more rules all front (record { rest = []; whole = sym (append-nil (turns_of steps)) }))) ∙ stands.1)

no_trouble : {site : SiteData} {order : Order} {read : List ℕ} {log : List Mark} {out : List ℕ} {ended : Ended} (w : Whole site order read log out (Some ended))
    → AllAnswered site order (events_from 0 None read) log (turns_of w.dialogue.talk.steps) → rest_from 0 None read ≡ None → ⊥
no_trouble {site} {order} {read} {log} {out} {ended} w answered whole =
    let talk = w.dialogue.talk in
    unstopped site order read log talk.steps w.remaining ended talk.rules answered
    (w.all ∙ ap (λ (l : List Event). l ++ w.remaining) (sym talk.events_are))
    (record { rest = w.dialogue.endings; whole = sym w.dialogue.marks_are ∙ ap (λ (l : List Mark). l ++ w.dialogue.endings) (sym talk.marks_are) })
    whole w.stands

completes : (site : SiteData) (order : Order) (start end : Wire) (turns : ℕ) (read written : List ℕ) (log : List Mark) (result : Ended)
    (a : HasCause site order start end turns read written log result) → Completes site order start end turns read written log result a
completes site order start end turns read written log ends.Closed a i = inl refl
completes site order start end turns read written log (ends.Truncated place) a i = absurd (none-some place (sym (sym a.rest_is ∙ i.whole)))
completes site order start end turns read written log (ends.Bad fault place) a i = absurd (no_trouble a.whole i.answered i.whole)
completes site order start end turns read written log ends.ReadFault a i = absurd (i.faults a.faults)
completes site order start end turns read written log ends.WriteFault a i = absurd (i.faults a.faults)
completes site order start end turns read written log (ends.Spent calls) a i = let bound = a.bound i.idles in absurd (omega (arith, a.all, i.turns_))
completes site order start end turns read written log ends.NoMemory a i = inr refl

-- The answers.

-- the bound on turns
spent_bound : (at_end : Bool) (a b c d : ℕ) → a ≤ b + c + d + cond at_end 1 0 → a ≤ b + c + d + 1
spent_bound true a b c d h = h
spent_bound false a b c d h = omega arith

-- The session has ended, and its subscriptions with it.
module _ {old new : Seat} {start wire : Wire} {told : Option Moment} {order : Order} {v : View} {trouble : Option Ended} {at_end : Bool} {calls : ℕ} (a : Going old new start wire told order v trouble at_end calls)
    {last : Seat} (f : Finished (shown_in new v) last) where
  abbrev site : SiteData
  site = old.seen.base.site

  abbrev pub log_of : List Mark
  log_of = marks_of a.steps ++ f.marks

  pub endings_are : AreEndings (state_after site (opening order) a.steps) f.marks
  endings_are = subst (λ (l : List ℕ). AreEndingsOf l f.marks) a.slots f.endings

  abbrev pub whole : (out : List ℕ) → greeting order ++ out_of site (opening order) a.steps ≡ out → Whole old.seen.base.site order a.read log_of out trouble
  whole out is = record {
    events = events_of a.steps;
    remaining = a.follows.remaining;
    all = a.follows.all;
    dialogue = record {
      said = marks_of a.steps;
      endings = f.marks;
      talk = record { steps = a.steps; rules = a.follows.rules; events_are = refl; marks_are = refl; out_is = is; windows = windows_hold site order a.steps a.follows.rules };
      marks_are = refl;
      ends = endings_are;
    };
    stands = a.follows.stands;
  }

  -- all was written
  complete : v.pending ≡ [] → greeting order ++ out_of site (opening order) a.steps ≡ a.written
  complete empty = a.bytes ∙ ap (λ (z : List ℕ). a.written ++ z) empty ∙ append-nil a.written

  short : 0 < length v.pending → IsProperPrefixOf a.written (greeting order ++ out_of site (opening order) a.steps)
  short some = record { rest = v.pending; whole = a.bytes; some = some }

  -- the clause, by its answer, where the link is now in another state
  served : (turns : ℕ) (end : Wire) (result : Ended) → Moves start end a.read a.written → HasCause old.seen.base.site order start end turns a.read a.written log_of result
      → Served old last start end told order turns result
  served turns end result moves answer =
      let adds = adds_more a.adds f.adds in record {
        log = log_of;
        read = a.read;
        written = a.written;
        adds = adds;
        moments = moments_append told (marks_of a.steps) f.marks a.moments (endings_told told (slots_of v.state.requests) f.marks f.endings);
        folds = folds_ended site order a.steps f.marks old last a.follows.rules endings_are adds;
        moves = moves;
        settled = settled_log f.marks a.settled;
        answer = answer;
        complete = completes old.seen.base.site order start end turns a.read a.written log_of result answer;
      }

  -- a write failed
  pub write_failed : (turns : ℕ) (end : Wire) → 0 < length v.pending → Failed wire end → Served old last start end told order turns ends.WriteFault
  write_failed turns end some x =
      served turns end ends.WriteFault (moves_rest a.moves x.rests) (record {
        out = greeting order ++ out_of site (opening order) a.steps;
        trouble = trouble;
        whole = whole (greeting order ++ out_of site (opening order) a.steps) refl;
        short = short some;
        faults = subst (λ (z : ℕ). Rose z end.faults) a.faults x.faults;
      })

  -- the turns are spent, and something is to be written
  pub spent_writing : (turns : ℕ) → 0 < length v.pending → calls ≡ turns → Served old last start wire told order turns (ends.Spent calls)
  spent_writing turns some all =
      served turns wire (ends.Spent calls) a.moves (record {
        out = greeting order ++ out_of site (opening order) a.steps;
        trouble = trouble;
        whole = whole (greeting order ++ out_of site (opening order) a.steps) refl;
        due = inl (short some);
        all = all;
        bound = λ low. spent_bound at_end (start.idles + calls) wire.idles (length a.read) (length a.written) (a.quota low);
        faults = a.faults;
      })

module _ {old new : Seat} {start wire : Wire} {told : Option Moment} {order : Order} {v : View} {calls : ℕ} {last : Seat} where
  -- the client ended its stream, and nothing is to be written
  at_end : (rest : Option ℕ) (i : Idling old new start wire told order v None true calls) (f : Finished (shown_in new v) last) → rest_of v.stream.left ≡ rest
      → AtEnd old.seen.base.site order start wire i.going.read i.going.written (log_of i.going f) rest
  at_end rest i f is = let a = i.going in record {
    whole = whole a f a.written (complete a f i.empty);
    drained = i.dry refl;
    rest_is = ap rest_of (sym (a.keeps refl).left) ∙ is;
    all = a.all refl;
    ends = a.ends;
    faults = a.faults;
  }

  pub closed : (turns : ℕ) → Idling old new start wire told order v None true calls → Finished (shown_in new v) last → rest_of v.stream.left ≡ None → Served old last start wire told order turns ends.Closed
  closed turns i f is = served i.going f turns wire ends.Closed i.going.moves (at_end None i f is)

  pub truncated : (turns : ℕ) (place : ℕ) → Idling old new start wire told order v None true calls → Finished (shown_in new v) last → rest_of v.stream.left ≡ Some place
      → Served old last start wire told order turns (ends.Truncated place)
  truncated turns place i f is = served i.going f turns wire (ends.Truncated place) i.going.moves (at_end (Some place) i f is)

  -- a read failed
  pub read_failed : (turns : ℕ) (end : Wire) → Idling old new start wire told order v None false calls → Finished (shown_in new v) last → Failed wire end → Served old last start end told order turns ends.ReadFault
  read_failed turns end i f x = let a = i.going in
      served a f turns end ends.ReadFault (moves_rest a.moves x.rests) (record {
        whole = whole a f a.written (complete a f i.empty);
        drained = i.dry refl;
        ends = x.ends ∙ a.ends;
        faults = subst (λ (z : ℕ). Rose z end.faults) a.faults x.faults;
      })

  -- the turns are spent, and a read is due
  pub spent_reading : (turns : ℕ) → Idling old new start wire told order v None false calls → Finished (shown_in new v) last → calls ≡ turns → Served old last start wire told order turns (ends.Spent calls)
  spent_reading turns i f all = let a = i.going in
      served a f turns wire (ends.Spent calls) a.moves (record {
        out = greeting order ++ out_of old.seen.base.site (opening order) a.steps;
        trouble = None;
        whole = whole a f (greeting order ++ out_of old.seen.base.site (opening order) a.steps) refl;
        due = inr (record { taken = sym (complete a f i.empty); trouble_is = refl; ends = a.ends });
        all = all;
        bound = λ low. spent_bound false (start.idles + calls) wire.idles (length a.read) (length a.written) (a.quota low);
        faults = a.faults;
      })

-- Memory ran out.

-- behind these steps, and marks that may stand of what came next
pub without_memory : (old mid last : Seat) (start end : Wire) (told : Option Moment) (order : Order) (turns : ℕ) (v : View) (read written : List ℕ) (steps : List Step) (rest : List Event) (more : List Mark)
    → AreSteps old.seen.base.site (opening order) steps → events_from 0 None read ≡ events_of steps ++ rest → NextPart old.seen.base.site (state_after old.seen.base.site (opening order) steps) rest more
    → slots_of v.state.requests ≡ left_slots old.seen.base.site (state_after old.seen.base.site (opening order) steps) rest more → Adds old mid (marks_of steps ++ more) → HaveMoment told (marks_of steps ++ more)
    → greeting order ++ out_of old.seen.base.site (opening order) steps ≡ written ++ v.pending → Moves start end read written → (read ≡ []) ⊎ Settled old.seen.base.site order read written (marks_of steps ++ more)
    → end.faults ≡ start.faults → Finished (shown_in mid v) last → Served old last start end told order turns ends.NoMemory
without_memory old mid last start end told order turns v read written steps rest more rules all part slots adds moments bytes moves settled faults f =
    let site = old.seen.base.site in
    let there = state_after site (opening order) steps in
    let endings : AreEndings (after_part site there rest more) f.marks = subst (λ (l : List ℕ). AreEndingsOf l f.marks) slots f.endings in
    let both = adds_more adds f.adds in record {
      log = (marks_of steps ++ more) ++ f.marks;
      read = read;
      written = written;
      adds = both;
      moments = moments_append told (marks_of steps ++ more) f.marks moments (endings_told told (slots_of v.state.requests) f.marks f.endings);
      folds = folds_behind site order steps rest more f.marks old last rules part endings both;
      moves = moves;
      settled = settled_log f.marks settled;
      answer = record {
        events = events_of steps;
        said = marks_of steps;
        more = more;
        endings = f.marks;
        out = greeting order ++ out_of site (opening order) steps;
        talk = record { steps = steps; rules = rules; events_are = refl; marks_are = refl; out_is = refl; windows = windows_hold site order steps rules };
        front = record { rest = rest; whole = all };
        part = part;
        ends = endings;
        log_is = refl;
        begins = record { rest = v.pending; whole = bytes };
        faults = faults;
      };
      complete = λ i. inr refl;
    }

-- in a call of the link
pub broken_by_call : {old new : Seat} {start wire : Wire} {told : Option Moment} {order : Order} {v : View} {trouble : Option Ended} {at_end : Bool} {calls : ℕ} {last : Seat} → Going old new start wire told order v trouble at_end calls
    → (turns : ℕ) (wire2 : Wire) → Unchanged wire wire2 → Finished (shown_in new v) last → Served old last start wire2 told order turns ends.NoMemory
broken_by_call {old} {new} {start} {wire} {told} {order} {v} {trouble} {at_end} {calls} {last} a turns wire2 x f =
    let site = old.seen.base.site in
    let there = state_after site (opening order) a.steps in
    let none = append-nil (marks_of a.steps) in
    without_memory old new last start wire2 told order turns v a.read a.written a.steps a.follows.remaining [] a.follows.rules a.follows.all
    (no_next_part site there a.follows.remaining) (a.slots ∙ sym (none_left_there site there a.follows.remaining))
    (subst (λ (l : List Mark). Adds old new l) (sym none) a.adds) (subst (HaveMoment told) (sym none) a.moments) a.bytes (moves_rest a.moves x.rests) (settled_log [] a.settled) (x.counts.faults ∙ a.faults) f

-- while a piece was answered
pub broken_by_feed : {old new : Seat} {start wire : Wire} {told : Option Moment} {order : Order} {v : View} {calls : ℕ} (i : Idling old new start wire told order v None false calls) (wire2 : Wire) (n : ℕ) (buffer : List ℕ)
    → Gave wire wire2 n buffer → length buffer ≤ 4096 → {new2 last : Seat} {w : View} (turns : ℕ) → FedPart new new2 told v w (take n buffer) → Finished (shown_in new2 w) last
    → Served old last start wire2 told order turns ends.NoMemory
broken_by_feed {old} {new} {start} {wire} {told} {order} {v} {calls} i wire2 n buffer x small {new2} {last} {w} turns b f =
    let site = old.seen.base.site in
    let c = fed_part_more (passed i wire2) (untaken_part i.going.written b) in
    let marks : marks_of i.going.steps ++ (marks_of b.steps ++ b.more) ≡ marks_of c.steps ++ b.more =
    sym (append_assoc (marks_of i.going.steps) (marks_of b.steps) b.more) ∙ ap (λ (z : List Mark). z ++ b.more) (sym (marks_append i.going.steps b.steps)) in
    let read2 = i.going.read ++ take n buffer in
    let settled = subst (λ (z : List Mark). (read2 ≡ []) ⊎ Settled site order read2 i.going.written z) marks
    (settle i wire2 (take n buffer) (marks_of b.steps ++ b.more) (omega (arith, long i wire2 n buffer x small, x.fits))) in
    without_memory old new2 last start wire2 told order turns w read2 i.going.written c.steps c.front.rest b.more c.rules c.front.whole (inl c.part) c.subscribed c.adds c.moments (sym c.out)
    (moves_got i.going.moves x) settled (x.counts.faults ∙ i.going.faults) f

-- in a pump
pub broken_by_pump : {old new : Seat} {start wire : Wire} {told : Option Moment} {order : Order} {v : View} {at_end : Bool} {calls : ℕ} → Going old new start wire told order v None at_end calls
    → {new2 last : Seat} (w : View) (turns : ℕ) → PumpStopped (shown_in new v) (shown_in new2 w) → Finished (shown_in new2 w) last → Served old last start wire told order turns ends.NoMemory
broken_by_pump {old} {new} {start} {wire} {told} {order} {v} {at_end} {calls} a {new2} {last} w turns p f =
    let site = old.seen.base.site in
    let steps = a.steps ++ p.steps in
    let there = state_after site (opening order) steps in
    let next : PopPart there p.next =
    subst (λ (s : State). PopPart s p.next) (sym (after_append site (opening order) a.steps p.steps))
    (from_there a (λ (z : SiteData) (s : State). PopPart (state_after z s p.steps) p.next) (p.req, p.next_is)) in
    let slots : slots_of w.state.requests ≡ left_slots site there a.follows.remaining p.next =
    p.subscribed ∙ sym (popped_same a w p.reqs p.steps p.next p.some) ∙ sym (next_slots site there a.follows.remaining p.next next) in
    without_memory old new2 last start wire told order turns w a.read a.written steps a.follows.remaining p.next
    (popped_rules a w p.reqs p.steps p.next p.some) (popped_all a w p.reqs p.steps p.next p.some) (inr next) slots
    (popped_adds a w p.reqs p.steps p.next p.some)
    (moments_append told (marks_of steps) p.next (popped_moments a w p.reqs p.steps p.next p.some) (next_told told there p.next next))
    (popped_bytes a w p.reqs p.steps p.next p.some) a.moves (settled_log p.next (popped_settled a w p.reqs p.steps p.next p.some)) a.faults f

-- the end wasn't met
not_met : (at_end : Bool) (a b : ℕ) → (at_end ≡ true → ⊥) → SawEnd at_end a b → b ≡ a
not_met true a b never saw = absurd (never refl)
not_met false a b never saw = saw

by_stop : (base : SiteData) (order : Order) (start wire : Wire) (turns : ℕ) (read written : List ℕ) (log : List Mark) (ended : Ended) → is_stop ended ≡ true
    → AtTrouble base order start wire read written log ended → HasCause base order start wire turns read written log ended
by_stop base order start wire turns read written log (ends.Bad fault place) stops x = x
by_stop base order start wire turns read written log ends.Closed stops x = absurd (false≢true stops)
by_stop base order start wire turns read written log (ends.Truncated place) stops x = absurd (false≢true stops)
by_stop base order start wire turns read written log ends.ReadFault stops x = absurd (false≢true stops)
by_stop base order start wire turns read written log ends.WriteFault stops x = absurd (false≢true stops)
by_stop base order start wire turns read written log (ends.Spent calls) stops x = absurd (false≢true stops)
by_stop base order start wire turns read written log ends.NoMemory stops x = absurd (false≢true stops)

-- the stream is at fault, and nothing is to be written
pub in_trouble : {old new : Seat} {start wire : Wire} {told : Option Moment} {order : Order} {v : View} {at_end : Bool} {calls : ℕ} {last : Seat} (turns : ℕ) (ended : Ended)
    → Going old new start wire told order v (Some ended) at_end calls → v.pending ≡ [] → Finished (shown_in new v) last → Served old last start wire told order turns ended
in_trouble {old} {new} {start} {wire} {told} {order} {v} {at_end} {calls} turns ended a empty f =
    let base = old.seen.base.site in
    served a f turns wire ended a.moves
    (by_stop base order start wire turns a.read a.written (log_of a f) ended
    (trouble_stops base (state_after base (opening order) a.steps) a.follows.remaining (fed unread a.read).left ended a.follows.stands)
    (record {
      whole = whole a f a.written (complete a f empty);
      ends = not_met at_end start.ends wire.ends (λ met. none-some ended (sym (a.calm met))) a.ends;
      faults = a.faults;
    }))

-- memory ran out before a connection began
pub never_served : (old : Seat) (start : Wire) (told : Option Moment) (order : Order) (turns : ℕ) → IsLegal old.seen → Served old old start start told order turns ends.NoMemory
never_served old start told order turns legal =
    let site = old.seen.base.site in
    without_memory old old old start start told order turns (first_view order) [] [] [] (events_from 0 None []) [] tt refl (no_next_part site (opening order) (events_from 0 None []))
    (sym (none_left_there site (opening order) (events_from 0 None []))) (adds_nothing old legal) tt (append-nil (greeting order)) (moves_nothing start) (inl refl) refl
    (record { marks = []; endings = none_at_first order; adds = adds_nothing old legal })
