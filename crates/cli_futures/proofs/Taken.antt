-- A client behind the bytes of its server, from call to call.
use Rattle.std.proofs.Common.{◌≡◌, ◌<◌, ℕ, Bool, true, false, ◌||◌, List, [], ◌∷◌, ◌++◌, length, Option, None, Some, Result, Ok, Err, inl, inr, refl, sym, ◌∙◌, ap, subst, append_assoc, arith}
use Rattle.std.proofs.lemmas.Bool.{false≢true}
use Rattle.std.proofs.lemmas.List.{append-nil}
use Rattle.std.proofs.lemmas.List.Folds.{list_any-append}
use Rattle.std.specs.Result.{result_err}
use Rattle.histories.specs.History.{IsPrefixOf}
use Rattle.pva_frames.specs.Assembled.{Assembled, Gave, Refused, Waits, fed, opening as unread}
use Rattle.pva_frames.specs.Laws.{stream}
use Rattle.pva_frames.specs.declared.event.Event.{Event}
use Rattle.pva_frames.specs.declared.fault.FrameFault.{FrameFault}
use Rattle.cli_session.specs.Calls.{Fell, Gives, Stands}
use Rattle.cli_session.specs.Steps.{Told, client_bytes, client_fault, client_told}
use Rattle.cli_session.specs.Views as client
use Rattle.cli_session.specs.declared.ask.Ask.{Ask}
use Rattle.cli_session.specs.declared.fault.ClientFault.{ClientFault}
use Rattle.cli_session.specs.declared.fault.ClientFault.TheVariants as faults
use Rattle.cli_futures.specs.Taking.{ClientView, HandsOut, HasStopped, HasTaken, HearsNext, HeardNext, IsSound, IsStop, IsStopped, IsUntaken, IsWaiting, Refuses, Stops, ends_it, end_for, events_in, has_end, said_to, told_to}
use Rattle.cli_futures.specs.declared.end.ExchangeEnd.{ExchangeEnd}
use Rattle.cli_futures.specs.declared.end.ExchangeEnd.TheVariants as ends
use Rattle.cli_futures.proofs.Growing.{bytes_grow, front_on, joined, told_grows, told_stays, unread_is}

-- A client that has heard nothing yet.
pub taken_nothing : (ask : Ask) (v : ClientView) → v.ask ≡ ask → Stands ask [] [] [] v.client → v.stream ≡ unread → v.over ≡ false → HasTaken ask [] [] [] v
taken_nothing ask v asks stands is over = record {
  asks = asks;
  heard = [];
  stands = stands;
  events = ap (λ (a : Assembled). a.events) (unread_is ∙ sym is);
  left = ap (λ (a : Assembled). a.left) (is ∙ sym unread_is);
  over = over;
}

module _ {ask : Ask} {read written : List ℕ} {told : List Told} {v : ClientView} (h : HasTaken ask read written told v) where
  -- what was handed out and written are the first of what it tells and says
  pub told_front : IsPrefixOf told (told_to ask read)
  told_front = subst (λ (l : List Event). IsPrefixOf told (client_told ask l)) (sym h.events)
      (front_on (record { rest = v.client.told; whole = sym h.stands.accounts.told }) (told_grows ask h.heard v.stream.events))

  pub said_front : IsPrefixOf written (said_to ask read)
  said_front = subst (λ (l : List Event). IsPrefixOf written (client_bytes ask l)) (sym h.events)
      (front_on (record { rest = v.client.output; whole = sym h.stands.accounts.bytes }) (bytes_grow ask h.heard v.stream.events))

  -- where no event is left
  module _ (none : v.stream.events ≡ []) where
    all_heard : h.heard ≡ events_in read
    all_heard = sym (append-nil h.heard) ∙ ap (λ (l : List Event). h.heard ++ l) (sym none) ∙ sym h.events

    pub unfaulted : client_fault ask (events_in read) ≡ None
    unfaulted = ap (client_fault ask) (sym all_heard) ∙ h.stands.readable

    pub all_said : written ++ v.client.output ≡ said_to ask read
    all_said = h.stands.accounts.bytes ∙ ap (client_bytes ask) all_heard

    pub all_told : v.client.told ≡ [] → told ≡ told_to ask read
    all_told handed = sym (append-nil told) ∙ ap (λ (l : List Told). told ++ l) (sym handed) ∙ h.stands.accounts.told ∙ ap (client_told ask) all_heard

  -- so many more bytes were written
  pub written_more : (bytes : List ℕ) (w : ClientView) → w.ask ≡ v.ask → w.stream ≡ v.stream → w.over ≡ v.over
      → ((events : List Event) (told : List Told) (written : List ℕ) → Stands v.ask events told written v.client → Stands v.ask events told (written ++ bytes) w.client) → HasTaken ask read (written ++ bytes) told w
  written_more bytes w asks is over stands = record {
    asks = asks ∙ h.asks;
    heard = h.heard;
    stands = subst (λ (a : Ask). Stands a h.heard told written v.client → Stands a h.heard told (written ++ bytes) w.client) h.asks (stands h.heard told written) h.stands;
    events = h.events ∙ ap (λ (a : Assembled). h.heard ++ a.events) (sym is);
    left = ap (λ (a : Assembled). a.left) is ∙ h.left;
    over = over ∙ h.over;
  }

  -- more was handed out
  pub told_more : (next : List Told) (w : ClientView) → w.ask ≡ v.ask → w.stream ≡ v.stream → w.over ≡ v.over || has_end next
      → ((events : List Event) (told : List Told) (written : List ℕ) → Stands v.ask events told written v.client → Stands v.ask events (told ++ next) written w.client) → HasTaken ask read written (told ++ next) w
  told_more next w asks is over stands = record {
    asks = asks ∙ h.asks;
    heard = h.heard;
    stands = subst (λ (a : Ask). Stands a h.heard told written v.client → Stands a h.heard (told ++ next) written w.client) h.asks (stands h.heard told written) h.stands;
    events = h.events ∙ ap (λ (a : Assembled). h.heard ++ a.events) (sym is);
    left = ap (λ (a : Assembled). a.left) is ∙ h.left;
    over = over ∙ ap (λ (b : Bool). b || has_end next) h.over ∙ sym (list_any-append ends_it told next);
  }

  -- more bytes came
  pub fed_more : (bytes : List ℕ) (w : ClientView) → w ≡ (let x : ClientView = record v { stream = fed v.stream bytes } in x) → HasTaken ask (read ++ bytes) written told w
  fed_more bytes w is =
      let all = joined v.stream h.heard read bytes h.events (h.left) in
      let x : ClientView = record v { stream = fed v.stream bytes } in
      subst (HasTaken ask (read ++ bytes) written told) (sym is) (record {
        asks = h.asks;
        heard = h.heard;
        stands = h.stands;
        events = ap (λ (a : Assembled). a.events) all;
        left = ap (λ (a : Assembled). a.left) (sym all);
        over = h.over;
      })

  -- the next event was heard
  pub heard_more : (e : Event) (w : ClientView) → v.stream.events ≡ e ∷ w.stream.events → w.stream.left ≡ v.stream.left → w.ask ≡ v.ask → w.over ≡ v.over
      → ((events : List Event) (told : List Told) (written : List ℕ) → Stands v.ask events told written v.client → Stands v.ask (events ++ e ∷ []) told written w.client) → HasTaken ask read written told w
  heard_more e w first left asks over stands = record {
    asks = asks ∙ h.asks;
    heard = h.heard ++ e ∷ [];
    stands = subst (λ (a : Ask). Stands a h.heard told written v.client → Stands a (h.heard ++ e ∷ []) told written w.client) h.asks (stands h.heard told written) h.stands;
    events = h.events ∙ ap (λ (l : List Event). h.heard ++ l) first ∙ sym (append_assoc h.heard (e ∷ []) w.stream.events);
    left = left ∙ h.left;
    over = over ∙ h.over;
  }

  -- the client didn't take the next event
  module _ (e : Event) (later : List Event) (first : v.stream.events ≡ e ∷ later) (c : client.View) (f : ClientFault) (fell : Fell ask h.heard told written c e f) (handed : v.client.told ≡ []) where
    events_are : events_in read ≡ h.heard ++ e ∷ later
    events_are = h.events ∙ ap (λ (l : List Event). h.heard ++ l) first

    told_are : told ≡ client_told ask h.heard
    told_are = sym (append-nil told) ∙ ap (λ (l : List Told). told ++ l) (sym handed) ∙ h.stands.accounts.told

    untaken_so : ((more : List Event) → client_fault ask (h.heard ++ e ∷ more) ≡ Some f) → IsUntaken ask read told f
    untaken_so each = record {
      first = ap (client_fault ask) events_are ∙ each later;
      all = told_are ∙ sym (told_stays ask h.heard e later f h.stands.readable (each [])) ∙ ap (client_told ask) (sym events_are);
    }

    untaken_by : ((f ≡ faults.NoMemory) → ⊥) → IsUntaken ask read told f
    untaken_by some = elim fell.why [
      | inl none ↦ absurd (some none)
      | inr each ↦ untaken_so each
    ]

-- The client stops here.
module _ {ask : Ask} {read written : List ℕ} {told : List Told} {v : ClientView} (h : HasTaken ask read written told v) (e : Event) (later : List Event) (first : v.stream.events ≡ e ∷ later) (c : client.View) (handed : v.client.told ≡ []) where
  stopped_by : (f : ClientFault) → Fell ask h.heard told written c e f → IsStopped ask read told (end_for f)
  stopped_by faults.NoMemory fell = told_front h
  stopped_by (faults.UnknownReply id) fell = untaken_by h e later first c (faults.UnknownReply id) fell handed (λ is. cc)
  stopped_by (faults.WrongCommand a b) fell = untaken_by h e later first c (faults.WrongCommand a b) fell handed (λ is. cc)
  stopped_by (faults.WrongPhase a) fell = untaken_by h e later first c (faults.WrongPhase a) fell handed (λ is. cc)
  stopped_by (faults.Message m) fell = untaken_by h e later first c (faults.Message m) fell handed (λ is. cc)
  stopped_by (faults.Words w) fell = untaken_by h e later first c (faults.Words w) fell handed (λ is. cc)

stop_for : (f : ClientFault) → IsStop (end_for f)
stop_for faults.NoMemory = tt
stop_for (faults.UnknownReply id) = tt
stop_for (faults.WrongCommand a b) = tt
stop_for (faults.WrongPhase a) = tt
stop_for (faults.Message m) = tt
stop_for (faults.Words w) = tt

pub stops_untaken : (v : ClientView) (e : Event) (later : List Event) (c : client.View) (f : ClientFault) (end : ExchangeEnd) → end ≡ end_for f → v.stream.events ≡ e ∷ later
    → ((events : List Event) (told : List Told) (written : List ℕ) → Stands v.ask events told written v.client → Fell v.ask events told written c e f) → IsStop end × Stops v end
stops_untaken v e later c f end is first fell = (
  subst IsStop (sym is) (stop_for f),
  λ ask read written told h handed.
      let at : Fell ask h.heard told written c e f = subst (λ (a : Ask). Stands a h.heard told written v.client → Fell a h.heard told written c e f) h.asks (fell h.heard told written) h.stands in
      record { stopped = subst (IsStopped ask read told) (sym is) (stopped_by h e later first c handed f at); begins = said_front h },
)

pub stops_short : (v : ClientView) → IsStop ends.NoMemory × Stops v ends.NoMemory
stops_short v = (tt, λ ask read written told h handed. record { stopped = told_front h; begins = said_front h })

pub stops_refused : (v w : ClientView) (fault : FrameFault) (result : Result Bool ExchangeEnd) → Refused v.stream w.stream fault → w.ask ≡ v.ask → w.client ≡ v.client → w.over ≡ v.over → Refuses v.over fault result → HearsNext v w result
stops_refused v w fault result x asks same over r = by v.over refl r
  where
    same_view : w ≡ v
    same_view = λ i. record { ask = asks i; client = same i; stream = x.unchanged i; over = over i }

    by : (b : Bool) → v.over ≡ b → Refuses b fault result → HearsNext v w result
    by true is r = subst (HearsNext v w) (sym r) (record { same = same_view; heard = x.none; sound = λ unended. absurd (false≢true (sym unended ∙ is)) })
    by false is r = subst (HearsNext v w) (sym r) (
      tt,
      λ ask read written told h handed. record {
        stopped = record {
          events = unfaulted h x.none;
          first = ap result_err (sym h.left ∙ x.first);
          unended = sym h.over ∙ is;
          all = all_told h x.none handed;
        };
        begins = said_front h;
      },
    )

-- All was handed out and heard.
pub is_sound : {ask : Ask} {read written : List ℕ} {told : List Told} {v : ClientView} → HasTaken ask read written told v → IsWaiting v → IsSound ask read
is_sound {ask} {read} {written} {told} {v} h w = record {
  events = unfaulted h w.heard;
  headers = λ unended. ap result_err (sym h.left) ∙ w.sound (h.over ∙ ap has_end (all_told h w.heard w.told) ∙ unended);
}

pub or_false : (b : Bool) → b ≡ b || false
or_false true = refl
or_false false = refl

-- A look at what was told that gave nothing.
pub hands_none : (v w : ClientView) → HandsOut v w [] → (ask : Ask) (read written : List ℕ) (told : List Told) → HasTaken ask read written told v → HasTaken ask read written told w
hands_none v w x ask read written told h = subst (λ (l : List Told). HasTaken ask read written l w) (append-nil told) (x.keeps ask read written told h)

-- nothing was told, so nothing has changed but that
pub hands_nothing : (v w : ClientView) → Gives v.client w.client [] → w.ask ≡ v.ask → w.stream ≡ v.stream → w.over ≡ v.over
    → ((events : List Event) (told : List Told) (written : List ℕ) → Stands v.ask events told written v.client → Stands v.ask events (told ++ []) written w.client) → HandsOut v w []
hands_nothing v w g asks is over stands = record {
  keeps = λ ask read written told h. told_more h [] w asks is (over ∙ or_false v.over) stands;
  all = λ none. sym g.told ∙ g.all refl;
  stream = is;
}

pub hands_one : (v w : ClientView) (t : Told) → w.ask ≡ v.ask → w.stream ≡ v.stream → w.over ≡ v.over || ends_it t
    → ((events : List Event) (told : List Told) (written : List ℕ) → Stands v.ask events told written v.client → Stands v.ask events (told ++ t ∷ []) written w.client) → HandsOut v w (t ∷ [])
hands_one v w t asks is over stands = record {
  keeps = λ ask read written told h. told_more h (t ∷ []) w asks is (over ∙ ap (λ (b : Bool). v.over || b) (or_false (ends_it t))) stands;
  all = λ none. absurd (omega (arith, ap length none));
  stream = is;
}

-- The next event was heard.
pub hears_one : (v w : ClientView) (e : Event) → Gave v.stream w.stream e → w.ask ≡ v.ask → w.over ≡ v.over
    → ((events : List Event) (told : List Told) (written : List ℕ) → Stands v.ask events told written v.client → Stands v.ask (events ++ e ∷ []) told written w.client) → HeardNext v w
hears_one v w e g asks over stands = record {
  keeps = λ ask read written told h. heard_more h e w g.first g.left asks over stands;
  fewer = omega (arith, ap length g.first);
}

-- No event was left.
pub hears_all : (v w : ClientView) → Waits v.stream w.stream → w.ask ≡ v.ask → w.client ≡ v.client → w.over ≡ v.over → HearsNext v w (Ok false)
hears_all v w x asks same over = record { same = λ i. record { ask = asks i; client = same i; stream = x.unchanged i; over = over i }; heard = x.none; sound = λ unended. x.sound }

-- The next event was heard, or none was left, as the answer says.

pub heard_so : (v w : ClientView) (heard : Bool) → heard ≡ true → HearsNext v w (Ok heard) → (ask : Ask) (read written : List ℕ) (told : List Told) → HasTaken ask read written told v → HasTaken ask read written told w
heard_so v w true is x = x.keeps
heard_so v w false is x = absurd (false≢true is)

pub fewer_so : (u v w : ClientView) (heard : Bool) → heard ≡ true → HandsOut u v [] → HearsNext v w (Ok heard) → length w.stream.events < length u.stream.events
fewer_so u v w true is o x = omega (arith, x.fewer, ap (λ (a : Assembled). length a.events) o.stream)
fewer_so u v w false is o x = absurd (false≢true is)

pub waits_so : (u v w : ClientView) (heard : Bool) → heard ≡ false → HandsOut u v [] → HearsNext v w (Ok heard) → (ask : Ask) (read written : List ℕ) (told : List Told) → HasTaken ask read written told u → HasTaken ask read written told w × IsWaiting w
waits_so u v w true is o x = absurd (false≢true (sym is))
waits_so u v w false is o x = λ ask read written told h.
    let waits : IsWaiting v = record { told = o.all refl; heard = x.heard; sound = x.sound } in
    (subst (HasTaken ask read written told) (sym x.same) (hands_none u v o ask read written told h), subst IsWaiting (sym x.same) waits)
