-- What the client's end has heard and told.
use Rattle.std.proofs.Common.{◌≡◌, ℕ, List, [], ◌∷◌, ◌++◌, Option, None, Some, Result, Ok, Err, inl, inr, refl, sym, ◌∙◌, ap, subst, append_assoc}
use Rattle.std.proofs.lemmas.Grind.{flat_map-append}
use Rattle.std.proofs.lemmas.List.{append-nil}
use Rattle.pva_frames.specs.declared.event.Event.{Event}
use Rattle.cli_session.specs.Calls.{Accounts, Stands, Fell, Gives}
use Rattle.cli_session.specs.Steps.{Told, part, of_type, refusal, finish, client_told, client_fault}
use Rattle.cli_session.specs.Text.{told_text, client_text}
use Rattle.cli_session.specs.Views as client
use Rattle.cli_session.specs.declared.ask.Ask.{Ask}
use Rattle.cli_session.specs.declared.fault.ClientFault.{ClientFault}
use Rattle.cli_session.specs.declared.fault.ClientFault.TheVariants as faults
use Rattle.cli_within.specs.Ends.{BeginsBy, ClientView, HasHeard, HasPrinted, IsStopped, ending_of}
use Rattle.cli_within.specs.Telling.{Puts, Tells, HearsEvent, IsUnframed, Refuses, first_ending, lines_of, stop_for}
use Rattle.cli_within.specs.declared.stop.Ending.{Ending}
use Rattle.cli_within.specs.declared.stop.Stop.{Stop}
use Rattle.cli_within.specs.declared.stop.Stop.TheVariants as stops
use Rattle.cli_within.proofs.Growing.{text_grows, text_more, text_stays}
use Rattle.cli_within.proofs.Printed.{part_of_printed, printed_as, printed_more, printed_nothing, puts_as, puts_behind}

-- Endings.

pub first_assoc : (a b c : Option Ending) → first_ending (first_ending a b) c ≡ first_ending a (first_ending b c)
first_assoc None b c = refl
first_assoc (Some e) b c = refl

pub ending_append : (xs ys : List Told) → ending_of (xs ++ ys) ≡ first_ending (ending_of xs) (ending_of ys)
ending_append [] ys = refl
ending_append (part p overrun ∷ xs) ys = ending_append xs ys
ending_append (of_type t ∷ xs) ys = ending_append xs ys
ending_append (refusal status ∷ xs) ys = refl
ending_append (finish ∷ xs) ys = refl

-- Two lists with one front.
pub same_rest : (xs ys zs : List Told) → xs ++ ys ≡ xs ++ zs → ys ≡ zs
same_rest [] ys zs e = e
same_rest (x ∷ xs) ys zs e = same_rest xs ys zs (ap tail e)
  where
    tail : List Told → List Told
    tail [] = []
    tail (t ∷ ts) = ts

-- What was handed out and printed so far.
pub record ToldSoFar (old now : ClientView) (start written : Option (List ℕ)) (before after : ℕ) : Type 0 where
  pub said : List Told
  pub told : old.client.told ≡ said ++ now.client.told
  pub stands : (ask : Ask) (events : List Event) (told : List Told) (given : List ℕ) → old.ask ≡ ask → Stands ask events told given old.client → Stands ask events (told ++ said) given now.client
  pub printed : HasPrinted start written before after (lines_of said)
  pub ended : now.ended ≡ first_ending old.ended (ending_of said)
  pub ask : now.ask ≡ old.ask
  pub stream : now.stream ≡ old.stream

first_none : (a : Option Ending) → a ≡ first_ending a None
first_none None = refl
first_none (Some e) = refl

pub told_nothing : (old : ClientView) (start : Option (List ℕ)) (before : ℕ) → ToldSoFar old old start start before before
told_nothing old start before = record {
  said = [];
  told = refl;
  stands = λ ask events told given is s. subst (λ (l : List Told). Stands ask events l given old.client) (sym (append-nil told)) s;
  printed = printed_nothing start before;
  ended = first_none old.ended;
  ask = refl;
  stream = refl;
}

-- the next was handed out and printed
pub told_one : (old now new : ClientView) (start written written2 : Option (List ℕ)) (before after after2 : ℕ) (t : Told) → ToldSoFar old now start written before after
    → now.client.told ≡ t ∷ new.client.told
    → ((events : List Event) (told : List Told) (given : List ℕ) → Stands now.ask events told given now.client → Stands now.ask events (told ++ t ∷ []) given new.client)
    → new.ended ≡ first_ending now.ended (ending_of (t ∷ [])) → new.ask ≡ now.ask → new.stream ≡ now.stream → HasPrinted written written2 after after2 (told_text t)
    → ToldSoFar old new start written2 before after2
told_one old now new start written written2 before after after2 t s first stands ended ask stream printed = record {
  said = s.said ++ t ∷ [];
  told = s.told ∙ ap (λ (l : List Told). s.said ++ l) first ∙ sym (append_assoc s.said (t ∷ []) new.client.told);
  stands = λ a events told given is x.
      let here : Stands a events (told ++ s.said) given now.client = s.stands a events told given is x in
      subst (λ (l : List Told). Stands a events l given new.client) (append_assoc told s.said (t ∷ []))
      (subst (λ (b : Ask). Stands b events (told ++ s.said) given now.client → Stands b events ((told ++ s.said) ++ t ∷ []) given new.client) (s.ask ∙ is) (stands events (told ++ s.said) given) here);
  printed = printed_as (ap (λ (z : List ℕ). lines_of s.said ++ z) (sym (append-nil (told_text t))) ∙ sym (flat_map-append told_text s.said (t ∷ []))) (printed_more s.printed printed);
  ended = ended ∙ ap (λ (o : Option Ending). first_ending o (ending_of (t ∷ []))) s.ended ∙ first_assoc old.ended (ending_of s.said) (ending_of (t ∷ []))
      ∙ ap (first_ending old.ended) (sym (ending_append s.said (t ∷ [])));
  ask = ask ∙ s.ask;
  stream = stream ∙ s.stream;
}

-- all was told
pub told_all : (old now : ClientView) (start written : Option (List ℕ)) (before after : ℕ) → ToldSoFar old now start written before after → now.client.told ≡ []
    → Tells old now start written before after (Ok tt)
told_all old now start written before after s none =
    let all : s.said ≡ old.client.told = sym (append-nil s.said) ∙ ap (λ (l : List Told). s.said ++ l) (sym none) ∙ sym s.told in (
      record {
        stands = λ a events told given is x. subst (λ (l : List Told). Stands a events (told ++ l) given now.client) all (s.stands a events told given is x);
        ended = s.ended ∙ ap (λ (l : List Told). first_ending old.ended (ending_of l)) all;
      },
      printed_as (ap lines_of all) s.printed,
    )

-- the next was handed out, and couldn't be printed
pub told_stopped : (old now : ClientView) (start written written2 : Option (List ℕ)) (before after after2 : ℕ) (t : Told) (later : List Told) (stop : Stop) → ToldSoFar old now start written before after
    → now.client.told ≡ t ∷ later → Puts written written2 after after2 (told_text t) (Err stop) → Puts start written2 before after2 (lines_of old.client.told) (Err stop)
told_stopped old now start written written2 before after after2 t later stop s first p =
    let is : lines_of s.said ++ (told_text t ++ lines_of later) ≡ lines_of old.client.told = sym (flat_map-append told_text s.said (t ∷ later)) ∙ ap lines_of (ap (λ (l : List Told). s.said ++ l) (sym first) ∙ sym s.told) in
    puts_as start written2 before after2 stop is (puts_behind written2 after2 (told_text t) (lines_of later) stop s.printed p)

-- The bytes given are a front of those that the client sends, also behind more events.
pub begins_with : (ask : Ask) (events : List Event) (told : List Told) (given : List ℕ) (v : client.View) → Accounts ask events told given v → (more : List Event) → BeginsBy ask (events ++ more) given
begins_with ask events told given v a more = record { heard = events; later = more; all = refl; written = a.written; front = record { rest = v.output; whole = sym a.bytes } }

pub begins_so : (ask : Ask) (events : List Event) (told : List Told) (given : List ℕ) (v : client.View) → Accounts ask events told given v → BeginsBy ask events given
begins_so ask events told given v a = subst (λ (l : List Event). BeginsBy ask l given) (append-nil events) (begins_with ask events told given v a [])

-- as stopped, of a print
pub stopped_print : (ask : Ask) (events : List Event) (start now : Option (List ℕ)) (before after : ℕ) (stop : Stop) → Puts start now before after (client_text ask events) (Err stop) → IsStopped ask events start now before after stop
stopped_print ask events start now before after stops.Sink p = p
stopped_print ask events start now before after stops.NoMemory p = p
stopped_print ask events start now before after (stops.Client f) p = absurd p
stopped_print ask events start now before after (stops.Frame f) p = absurd p

-- An event was handled, and all that it told was printed, or it couldn't be.

module _ (ask : Ask) (events : List Event) (e : Event) (given : List ℕ) (start written : Option (List ℕ)) (before after : ℕ) (old mid new : ClientView)
    (heard : HasHeard ask events given old) (printed : HasPrinted start written before after (client_text ask events)) where
  module _ (stands : Stands ask (events ++ e ∷ []) (client_told ask events) given mid.client) (same_ask : mid.ask ≡ ask) (same_ended : mid.ended ≡ old.ended) where
    pub told_then : client_told ask events ++ mid.client.told ≡ client_told ask (events ++ e ∷ [])
    told_then = stands.accounts.told

    text_then : client_text ask (events ++ e ∷ []) ≡ client_text ask events ++ lines_of mid.client.told
    text_then = text_more ask (client_told ask events) (client_told ask (events ++ e ∷ [])) mid.client.told (sym told_then)

    pub event_heard : (written2 : Option (List ℕ)) (after2 : ℕ) → new.ask ≡ mid.ask → Tells mid new written written2 after after2 (Ok tt) → HearsEvent ask events e given new start written2 before after2 (Ok tt)
    event_heard written2 after2 asks t = (
      record {
        asks = asks ∙ same_ask;
        stands = subst (λ (l : List Told). Stands ask (events ++ e ∷ []) l given new.client) told_then (t.0.stands ask (events ++ e ∷ []) (client_told ask events) given same_ask stands);
        ended = t.0.ended ∙ ap (λ (o : Option Ending). first_ending o (ending_of mid.client.told)) (same_ended ∙ heard.ended) ∙ sym (ending_append (client_told ask events) mid.client.told) ∙ ap ending_of told_then;
      },
      printed_as (sym text_then) (printed_more printed t.1),
    )

    pub event_unprinted : (written2 : Option (List ℕ)) (after2 : ℕ) (stop : Stop) → Tells mid new written written2 after after2 (Err stop) → HearsEvent ask events e given new start written2 before after2 (Err stop)
    event_unprinted written2 after2 stop t = λ more.
        let g = text_grows ask (events ++ e ∷ []) more in
        let all : (events ++ e ∷ []) ++ more ≡ events ++ e ∷ more = append_assoc events (e ∷ []) more in
        let is : client_text ask events ++ (lines_of mid.client.told ++ g.rest) ≡ client_text ask (events ++ e ∷ more) =
        sym (append_assoc (client_text ask events) (lines_of mid.client.told) g.rest) ∙ ap (λ (z : List ℕ). z ++ g.rest) (sym text_then) ∙ sym g.whole ∙ ap (client_text ask) all in (
          stopped_print ask (events ++ e ∷ more) start written2 before after2 stop (puts_as start written2 before after2 stop is (puts_behind written2 after2 (lines_of mid.client.told) g.rest stop printed t)),
          subst (λ (l : List Event). BeginsBy ask l given) all (begins_with ask (events ++ e ∷ []) (client_told ask events) given mid.client stands.accounts more),
        )

  fell_on : (v : client.View) (f : ClientFault) (more : List Event) → Fell ask events (client_told ask events) given v e f → client_fault ask (events ++ e ∷ more) ≡ Some f → client_fault ask (events ++ e ∷ []) ≡ Some f
      → HasPrinted start written before after (client_text ask (events ++ e ∷ more)) × (client_fault ask (events ++ e ∷ more) ≡ Some f)
  fell_on v f more fell some once = (printed_as (sym (text_stays ask events e more f heard.stands.readable once)) printed, some)

  -- want of memory
  pub event_short : (more : List Event) → IsStopped ask (events ++ e ∷ more) start written before after stops.NoMemory
  event_short more = (part_of_printed printed (text_grows ask events (e ∷ more)), printed.same)

  fell_by : (v : client.View) (f : ClientFault) (more : List Event) → Fell ask events (client_told ask events) given v e f → ((f ≡ faults.NoMemory) → ⊥) → HasPrinted start written before after (client_text ask (events ++ e ∷ more)) × (client_fault ask (events ++ e ∷ more) ≡ Some f)
  fell_by v f more fell some = elim fell.why [
    | inl none ↦ absurd (some none)
    | inr each ↦ fell_on v f more fell (each more) (each [])
  ]

  stopped_by : (v : client.View) (f : ClientFault) (more : List Event) → Fell ask events (client_told ask events) given v e f → IsStopped ask (events ++ e ∷ more) start written before after (stop_for f)
  stopped_by v faults.NoMemory more fell = event_short more
  stopped_by v (faults.UnknownReply id) more fell = fell_by v (faults.UnknownReply id) more fell (λ is. cc)
  stopped_by v (faults.WrongCommand a b) more fell = fell_by v (faults.WrongCommand a b) more fell (λ is. cc)
  stopped_by v (faults.WrongPhase a) more fell = fell_by v (faults.WrongPhase a) more fell (λ is. cc)
  stopped_by v (faults.Message m) more fell = fell_by v (faults.Message m) more fell (λ is. cc)
  stopped_by v (faults.Words w) more fell = fell_by v (faults.Words w) more fell (λ is. cc)

  pub event_untaken : (v : client.View) (f : ClientFault) → Fell ask events (client_told ask events) given v e f → HearsEvent ask events e given new start written before after (Err (stop_for f))
  event_untaken v f fell = λ more. (stopped_by v f more fell, begins_with ask events (client_told ask events) given v fell.accounts (e ∷ more))

-- A call of the client.

pub handled_ok : (old mid new : ClientView) (e : Event) (written written2 : Option (List ℕ)) (after after2 : ℕ) (r : Result (Unit {0}) Stop) → mid.ask ≡ old.ask → mid.ended ≡ old.ended → new.ask ≡ mid.ask
    → ((events : List Event) (told : List Told) (given : List ℕ) → Stands old.ask events told given old.client → Stands old.ask (events ++ e ∷ []) told given mid.client) → Tells mid new written written2 after after2 r
    → (ask : Ask) (start : Option (List ℕ)) (before : ℕ) (events : List Event) (given : List ℕ) → HasHeard ask events given old → HasPrinted start written before after (client_text ask events)
    → HearsEvent ask events e given new start written2 before after2 r
handled_ok old mid new e written written2 after after2 (Ok u) same ended asks stands t = λ ask start before events given h p.
    event_heard ask events e given start written before after old mid new h p
    (subst (λ (b : Ask). Stands b events (client_told ask events) given old.client → Stands b (events ++ e ∷ []) (client_told ask events) given mid.client) h.asks (stands events (client_told ask events) given) h.stands)
    (same ∙ h.asks) ended written2 after2 asks t
handled_ok old mid new e written written2 after after2 (Err stop) same ended asks stands t = λ ask start before events given h p.
    event_unprinted ask events e given start written before after old mid new h p
    (subst (λ (b : Ask). Stands b events (client_told ask events) given old.client → Stands b (events ++ e ∷ []) (client_told ask events) given mid.client) h.asks (stands events (client_told ask events) given) h.stands)
    (same ∙ h.asks) ended written2 after2 stop t

pub handled_err : (old new : ClientView) (e : Event) (written : Option (List ℕ)) (after : ℕ) (f : ClientFault) (stop : Stop) → stop ≡ stop_for f
    → ((events : List Event) (told : List Told) (given : List ℕ) → Stands old.ask events told given old.client → Fell old.ask events told given new.client e f)
    → (ask : Ask) (start : Option (List ℕ)) (before : ℕ) (events : List Event) (given : List ℕ) → HasHeard ask events given old → HasPrinted start written before after (client_text ask events)
    → HearsEvent ask events e given new start written before after (Err stop)
handled_err old new e written after f stop is fell = λ ask start before events given h p.
    subst (λ (s : Stop). HearsEvent ask events e given new start written before after (Err s)) (sym is)
    (event_untaken ask events e given start written before after old old new h p new.client f
    (subst (λ (b : Ask). Stands b events (client_told ask events) given old.client → Fell b events (client_told ask events) given new.client e f) h.asks (fell events (client_told ask events) given) h.stands))

pub told_unframed : (old new : ClientView) (start now : Option (List ℕ)) (before after : ℕ) (r : Result (Unit {0}) Stop) → Tells old new start now before after r → IsUnframed r
told_unframed old new start now before after (Ok u) t = tt
told_unframed old new start now before after (Err stops.Sink) t = tt
told_unframed old new start now before after (Err stops.NoMemory) t = tt
told_unframed old new start now before after (Err (stops.Client fault)) t = tt
told_unframed old new start now before after (Err (stops.Frame fault)) t = absurd t

pub stop_unframed : (f : ClientFault) (stop : Stop) → stop ≡ stop_for f → IsUnframed (Err stop)
stop_unframed faults.NoMemory stop is = subst (λ (s : Stop). IsUnframed (Err s)) (sym is) tt
stop_unframed (faults.UnknownReply id) stop is = subst (λ (s : Stop). IsUnframed (Err s)) (sym is) tt
stop_unframed (faults.WrongCommand a b) stop is = subst (λ (s : Stop). IsUnframed (Err s)) (sym is) tt
stop_unframed (faults.WrongPhase a) stop is = subst (λ (s : Stop). IsUnframed (Err s)) (sym is) tt
stop_unframed (faults.Message m) stop is = subst (λ (s : Stop). IsUnframed (Err s)) (sym is) tt
stop_unframed (faults.Words w) stop is = subst (λ (s : Stop). IsUnframed (Err s)) (sym is) tt

pub refuses_unframed : (v : ClientView) (stop : Stop) → IsUnframed (Err stop) → Refuses v (Err stop)
refuses_unframed v stops.Sink u = tt
refuses_unframed v stops.NoMemory u = tt
refuses_unframed v (stops.Client fault) u = tt
refuses_unframed v (stops.Frame fault) u = absurd u

-- nothing more was told
pub told_end : (old now new : ClientView) (start written : Option (List ℕ)) (before after : ℕ) → ToldSoFar old now start written before after → Gives now.client new.client [] → new.ended ≡ now.ended → Tells old new start written before after (Ok tt)
told_end old now new start written before after s g ended =
    let same : new.client ≡ now.client = g.others ∙ ap (λ (l : List Told). let v : client.View = record now.client { told = l } in v) (sym g.told) in
    let t = told_all old now start written before after s (g.all refl) in (
      record {
        stands = λ a events told given is x. subst (λ (v : client.View). Stands a events (told ++ old.client.told) given v) (sym same) (t.0.stands a events told given is x);
        ended = ended ∙ t.0.ended;
      },
      t.1,
    )
