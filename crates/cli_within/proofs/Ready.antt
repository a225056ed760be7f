-- The events that the client's stream has brought, and its bytes.
use Rattle.std.proofs.Common.{◌≡◌, ℕ, List, [], ◌∷◌, ◌++◌, Option, None, Result, Ok, Err, refl, sym, ◌∙◌, ap, subst, append_assoc}
use Rattle.std.proofs.lemmas.List.{append-nil}
use Rattle.std.specs.Result.{result_err}
use Rattle.pva_frames.specs.Assembled.{Assembled, opening as unread, fed}
use Rattle.pva_frames.specs.Messages.{left_from}
use Rattle.pva_frames.specs.declared.event.Event.{Event}
use Rattle.pva_frames.specs.declared.fault.FrameFault.{FrameFault}
use Rattle.cli_session.specs.Calls.{Stands}
use Rattle.cli_session.specs.Steps.{Told, client_told}
use Rattle.cli_session.specs.Text.{client_text}
use Rattle.cli_session.specs.declared.ask.Ask.{Ask}
use Rattle.prog_source.specs.Printing.{IsPart}
use Rattle.cli_within.specs.Ends.{BeginsBy, ClientView, HasHeard, HasPrinted, HasTaken, Hears, IsRefused, ending_of, events_in, text_for}
use Rattle.cli_within.specs.Telling.{HearsEvent, HearsEvents, IsEmptied, Refuses}
use Rattle.cli_within.specs.declared.stop.Stop.{Stop}
use Rattle.cli_within.specs.declared.stop.Stop.TheVariants as stops
use Rattle.cli_within.proofs.Growing.{text_grows}
use Rattle.cli_within.proofs.Hearing.{begins_so, begins_with}
use Rattle.srv_stream.proofs.Passing.{joined}
use Rattle.cli_within.proofs.Printed.{part_of_printed}
use Rattle.srv_stream.proofs.Resting.{rests}

-- What was heard so far of what stood ready.
pub record ReadySoFar (old now : ClientView) (w w' : Option (List ℕ)) (n n' : ℕ) : Type 0 where
  pub heard : List Event
  pub events : old.stream.events ≡ heard ++ now.stream.events
  pub left : now.stream.left ≡ old.stream.left
  pub hears : (ask : Ask) (start : Option (List ℕ)) (before : ℕ) (events : List Event) (given : List ℕ) → HasHeard ask events given old → HasPrinted start w before n (client_text ask events)
      → HearsEvents ask (events ++ heard) given now start w' before n' (Ok tt)

pub ready_none : (old : ClientView) (w : Option (List ℕ)) (n : ℕ) → ReadySoFar old old w w n n
ready_none old w n = record {
  heard = [];
  events = refl;
  left = refl;
  hears = λ ask start before events given h p. subst (λ (l : List Event). HearsEvents ask l given old start w before n (Ok tt)) (sym (append-nil events)) (h, p);
}

module _ {old now : ClientView} {w w' : Option (List ℕ)} {n n' : ℕ} (s : ReadySoFar old now w w' n n') (e : Event) (mid : ClientView) (first : now.stream.events ≡ e ∷ mid.stream.events) (same : mid.stream.left ≡ now.stream.left)
    (as_before : (ask : Ask) (events : List Event) (given : List ℕ) → HasHeard ask events given now → HasHeard ask events given mid) where
  -- one more
  pub ready_one : (new : ClientView) (w2 : Option (List ℕ)) (n2 : ℕ) → new.stream ≡ mid.stream
      → ((ask : Ask) (start : Option (List ℕ)) (before : ℕ) (events : List Event) (given : List ℕ) → HasHeard ask events given mid → HasPrinted start w' before n' (client_text ask events) → HearsEvent ask events e given new start w2 before n2 (Ok tt))
      → ReadySoFar old new w w2 n n2
  ready_one new w2 n2 stream hears = record {
    heard = s.heard ++ e ∷ [];
    events = s.events ∙ ap (λ (l : List Event). s.heard ++ l) (first ∙ ap (λ (a : Assembled). e ∷ a.events) (sym stream)) ∙ sym (append_assoc s.heard (e ∷ []) new.stream.events);
    left = ap (λ (a : Assembled). a.left) stream ∙ same ∙ s.left;
    hears = λ ask start before events given h p.
        let x = s.hears ask start before events given h p in
        subst (λ (l : List Event). HearsEvents ask l given new start w2 before n2 (Ok tt)) (append_assoc events s.heard (e ∷ []))
        (hears ask start before (events ++ s.heard) given (as_before ask (events ++ s.heard) given x.0) x.1);
  }

  -- one more, at which it stopped
  pub ready_stopped : (new : ClientView) (w2 : Option (List ℕ)) (n2 : ℕ) (stop : Stop)
      → ((ask : Ask) (start : Option (List ℕ)) (before : ℕ) (events : List Event) (given : List ℕ) → HasHeard ask events given mid → HasPrinted start w' before n' (client_text ask events) → HearsEvent ask events e given new start w2 before n2 (Err stop))
      → (ask : Ask) (start : Option (List ℕ)) (before : ℕ) (events : List Event) (given : List ℕ) → HasHeard ask events given old → HasPrinted start w before n (client_text ask events)
      → HearsEvents ask (events ++ old.stream.events) given new start w2 before n2 (Err stop)
  ready_stopped new w2 n2 stop hears ask start before events given h p =
      let x = s.hears ask start before events given h p in
      let all : (events ++ s.heard) ++ e ∷ mid.stream.events ≡ events ++ old.stream.events =
      append_assoc events s.heard (e ∷ mid.stream.events) ∙ ap (λ (l : List Event). events ++ l) (ap (λ (l : List Event). s.heard ++ l) (sym first) ∙ sym s.events) in
      subst (λ (l : List Event). HearsEvents ask l given new start w2 before n2 (Err stop)) all
      (hears ask start before (events ++ s.heard) given (as_before ask (events ++ s.heard) given x.0) x.1 mid.stream.events)

module _ {old now : ClientView} {w w' : Option (List ℕ)} {n n' : ℕ} (s : ReadySoFar old now w w' n n') where
  -- all that stood ready was heard
  pub ready_all : now.stream.events ≡ [] → (ask : Ask) (start : Option (List ℕ)) (before : ℕ) (events : List Event) (given : List ℕ) → HasHeard ask events given old → HasPrinted start w before n (client_text ask events)
      → HearsEvents ask (events ++ old.stream.events) given now start w' before n' (Ok tt)
  ready_all none ask start before events given h p =
      let all : s.heard ≡ old.stream.events = sym (append-nil s.heard) ∙ ap (λ (l : List Event). s.heard ++ l) (sym none) ∙ sym s.events in
      subst (λ (l : List Event). HearsEvents ask (events ++ l) given now start w' before n' (Ok tt)) all (s.hears ask start before events given h p)

  -- or so many, before a header that is refused, or before memory ran out
  pub ready_refused : now.stream.events ≡ [] → now.ended ≡ None → (fault : FrameFault) → (ask : Ask) (start : Option (List ℕ)) (before : ℕ) (events : List Event) (given : List ℕ) → HasHeard ask events given old → HasPrinted start w before n (client_text ask events)
      → HearsEvents ask (events ++ old.stream.events) given now start w' before n' (Err (stops.Frame fault))
  ready_refused none unended fault ask start before events given h p =
      let x = ready_all none ask start before events given h p in
      ((x.1, (x.0.stands.readable, sym x.0.ended ∙ unended)), begins_so ask (events ++ old.stream.events) (client_told ask (events ++ old.stream.events)) given now.client x.0.stands.accounts)

  pub ready_short : (ask : Ask) (start : Option (List ℕ)) (before : ℕ) (events : List Event) (given : List ℕ) → HasHeard ask events given old → HasPrinted start w before n (client_text ask events)
      → HearsEvents ask (events ++ old.stream.events) given now start w' before n' (Err stops.NoMemory)
  ready_short ask start before events given h p =
      let x = s.hears ask start before events given h p in
      let all : (events ++ s.heard) ++ now.stream.events ≡ events ++ old.stream.events = append_assoc events s.heard now.stream.events ∙ ap (λ (l : List Event). events ++ l) (sym s.events) in
      subst (λ (l : List Event). HearsEvents ask l given now start w' before n' (Err stops.NoMemory)) all (
        (part_of_printed x.1 (text_grows ask (events ++ s.heard) now.stream.events), x.1.same),
        begins_with ask (events ++ s.heard) (client_told ask (events ++ s.heard)) given now.client x.0.stands.accounts now.stream.events,
      )

-- Bytes.

-- what more bytes bring
pub taken_joined : {ask : Ask} {taken given : List ℕ} {v : ClientView} → HasTaken ask taken given v → (bytes : List ℕ)
    → (events_in (taken ++ bytes) ≡ events_in taken ++ (fed v.stream bytes).events) × (left_from 0 None (taken ++ bytes) ≡ (fed v.stream bytes).left)
taken_joined {ask} {taken} {given} {v} h bytes =
    let is = joined unread v.stream (events_in taken) taken bytes (sym (append-nil (events_in taken)) ∙ ap (λ (l : List Event). events_in taken ++ l) (sym h.none)) h.left in
    (ap (λ (a : Assembled). a.events) is, ap (λ (a : Assembled). a.left) is)

-- All events of the bytes were heard.
pub taken_more : {ask : Ask} {taken given : List ℕ} {old : ClientView} (bytes : List ℕ) (mid new : ClientView) (start w : Option (List ℕ)) (before n : ℕ) → HasTaken ask taken given old → mid.stream ≡ fed old.stream bytes
    → HearsEvents ask (events_in taken ++ mid.stream.events) given new start w before n (Ok tt) → new.stream.left ≡ mid.stream.left → new.stream.events ≡ [] → (new.ended ≡ None → result_err new.stream.left ≡ None)
    → Hears ask (taken ++ bytes) given new start w before n (Ok tt)
taken_more {ask} {taken} {given} {old} bytes mid new start w before n h stream x left none sound =
    let is = taken_joined h bytes in
    let events : events_in taken ++ mid.stream.events ≡ events_in (taken ++ bytes) = ap (λ (a : Assembled). events_in taken ++ a.events) stream ∙ sym is.0 in
    let y = subst (λ (l : List Event). HearsEvents ask l given new start w before n (Ok tt)) events x in
    (record { heard = y.0; none = none; left = left ∙ ap (λ (a : Assembled). a.left) stream ∙ sym is.1; sound = sound }, y.1)

refused_so : (stop : Stop) (taken : List ℕ) (v : ClientView) → Refuses v (Err stop) → v.stream.left ≡ left_from 0 None taken → IsRefused taken stop
refused_so (stops.Frame fault) taken v r is = ap result_err (sym is ∙ r)
refused_so (stops.Client fault) taken v r is = tt
refused_so stops.Sink taken v r is = tt
refused_so stops.NoMemory taken v r is = tt

pub taken_stopped : {ask : Ask} {taken given : List ℕ} {old : ClientView} (bytes : List ℕ) (mid new : ClientView) (start w : Option (List ℕ)) (before n : ℕ) (stop : Stop) → HasTaken ask taken given old → mid.stream ≡ fed old.stream bytes
    → HearsEvents ask (events_in taken ++ mid.stream.events) given new start w before n (Err stop) → new.stream.left ≡ mid.stream.left → Refuses new (Err stop)
    → Hears ask (taken ++ bytes) given new start w before n (Err stop)
taken_stopped {ask} {taken} {given} {old} bytes mid new start w before n stop h stream x left refuses =
    let is = taken_joined h bytes in
    let events : events_in taken ++ mid.stream.events ≡ events_in (taken ++ bytes) = ap (λ (a : Assembled). events_in taken ++ a.events) stream ∙ sym is.0 in
    let y = subst (λ (l : List Event). HearsEvents ask l given new start w before n (Err stop)) events x in
    (record { stopped = y.0; refused = refused_so stop (taken ++ bytes) new refuses (left ∙ ap (λ (a : Assembled). a.left) stream ∙ sym is.1) }, y.1)

-- Nothing of the bytes could be kept.
pub taken_short : {ask : Ask} {taken given : List ℕ} {old : ClientView} (bytes : List ℕ) (new : ClientView) (start w : Option (List ℕ)) (before n : ℕ) → HasTaken ask taken given old → HasPrinted start w before n (text_for ask taken)
    → Hears ask (taken ++ bytes) given new start w before n (Err stops.NoMemory)
taken_short {ask} {taken} {given} {old} bytes new start w before n h p =
    let is = taken_joined h bytes in
    let more = (fed old.stream bytes).events in
    let text : IsPart start w (text_for ask (taken ++ bytes)) = subst (λ (l : List Event). IsPart start w (client_text ask l)) (sym is.0) (part_of_printed p (text_grows ask (events_in taken) more)) in
    let begins : BeginsBy ask (events_in (taken ++ bytes)) given =
    subst (λ (l : List Event). BeginsBy ask l given) (sym is.0) (begins_with ask (events_in taken) (client_told ask (events_in taken)) given old.client h.heard.stands.accounts more) in
    (record { stopped = (text, p.same); refused = tt }, begins)

-- A client that has heard nothing yet.
pub taken_nothing : (ask : Ask) (v : ClientView) → v.ask ≡ ask → Stands ask [] [] [] v.client → v.stream ≡ unread → v.ended ≡ None → HasTaken ask [] [] v
taken_nothing ask v asks stands stream ended =
    let none : events_in [] ≡ [] = ap (λ (a : Assembled). a.events) (rests unread refl) in record {
      heard = record {
        asks = asks;
        stands = subst (λ (l : List Event). Stands ask l (client_told ask l) [] v.client) (sym none) stands;
        ended = ended ∙ ap (λ (l : List Event). ending_of (client_told ask l)) (sym none);
      };
      none = ap (λ (a : Assembled). a.events) stream;
      left = ap (λ (a : Assembled). a.left) stream ∙ sym (ap (λ (a : Assembled). a.left) (rests unread refl));
      sound = λ unended. ap (λ (a : Assembled). result_err a.left) stream;
    }

-- more of its bytes were given
pub given_more : {ask : Ask} {taken given : List ℕ} {old : ClientView} (bytes : List ℕ) (new : ClientView) → HasTaken ask taken given old → new.ask ≡ old.ask → new.stream ≡ old.stream → new.ended ≡ old.ended
    → ((events : List Event) (told : List Told) (given : List ℕ) → Stands old.ask events told given old.client → Stands old.ask events told (given ++ bytes) new.client) → HasTaken ask taken (given ++ bytes) new
given_more {ask} {taken} {given} {old} bytes new h asks stream ended stands = record {
  heard = record {
    asks = asks ∙ h.heard.asks;
    stands = subst (λ (b : Ask). Stands b (events_in taken) (client_told ask (events_in taken)) given old.client → Stands b (events_in taken) (client_told ask (events_in taken)) (given ++ bytes) new.client) h.heard.asks
        (stands (events_in taken) (client_told ask (events_in taken)) given) h.heard.stands;
    ended = ended ∙ h.heard.ended;
  };
  none = ap (λ (a : Assembled). a.events) stream ∙ h.none;
  left = ap (λ (a : Assembled). a.left) stream ∙ h.left;
  sound = λ unended. ap (λ (a : Assembled). result_err a.left) stream ∙ h.sound (sym ended ∙ unended);
}

-- what stands ready, behind a look at the stream that changed nothing
pub ready_next : {old now : ClientView} {w w' : Option (List ℕ)} {n n' : ℕ} → ReadySoFar old now w w' n n' → (s : Assembled) → s ≡ now.stream → ReadySoFar old (let v : ClientView = record now { stream = s } in v) w w' n n'
ready_next {old} {now} {w} {w'} {n} {n'} r s is = subst (λ (a : Assembled). ReadySoFar old (let v : ClientView = record now { stream = a } in v) w w' n n') (sym is) r

-- Bytes were fed, and their events heard.
pub taken_result : (old new : ClientView) (s : Assembled) (w0 w : Option (List ℕ)) (n0 n : ℕ) (bytes : List ℕ) (r : Result (Unit {0}) Stop) → s ≡ fed old.stream bytes
    → ((ask : Ask) (start : Option (List ℕ)) (before : ℕ) (events : List Event) (given : List ℕ) → HasHeard ask events given (let v : ClientView = record old { stream = s } in v) → HasPrinted start w0 before n0 (client_text ask events)
    → HearsEvents ask (events ++ s.events) given new start w before n r)
    → new.stream.left ≡ s.left → IsEmptied new r → Refuses new r
    → (ask : Ask) (start : Option (List ℕ)) (before : ℕ) (taken given : List ℕ) → HasTaken ask taken given old → HasPrinted start w0 before n0 (text_for ask taken) → Hears ask (taken ++ bytes) given new start w before n r
taken_result old new s w0 w n0 n bytes (Ok u) is hears left emptied refuses = λ ask start before taken given h p.
    taken_more bytes (let v : ClientView = record old { stream = s } in v) new start w before n h is
    (hears ask start before (events_in taken) given (record { asks = h.heard.asks; stands = h.heard.stands; ended = h.heard.ended }) p) left emptied refuses
taken_result old new s w0 w n0 n bytes (Err stop) is hears left emptied refuses = λ ask start before taken given h p.
    taken_stopped bytes (let v : ClientView = record old { stream = s } in v) new start w before n stop h is
    (hears ask start before (events_in taken) given (record { asks = h.heard.asks; stands = h.heard.stands; ended = h.heard.ended }) p) left refuses
