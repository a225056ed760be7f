-- What follows for each run of a server of many clients.
use Rattle.std.proofs.Common.{◌≡◌, ◌⊎◌, inl, inr, ℕ, ℤ, ◌+◌, ◌<◌, ◌≤◌, ◌^◌, true, List, length, Option, None, Some, Result, Ok, Err, refl, sym, ◌∙◌, ap, subst, arith}
use mathlib.Core.Logic.{dite}
use native.Mathlib.Decide.{dec_lt}
use Rattle.std.specs.Prelude.{⊤}
use Rattle.std.specs.Io.KnownBytes.{Appends}
use Rattle.journal_core.specs.Moments.{Moment}
use Rattle.pva_outside.specs.Bindings.{Bindings, Binds, and_asked, and_bound}
use Rattle.pva_outside.specs.Count.{Rose, RoseByOne}
use Rattle.pva_outside.specs.Counted.{counted}
use Rattle.pva_outside.specs.Doors.{AcceptEnded, AcceptFailed, BindsDoor, Door, with_back}
use Rattle.pva_outside.specs.Files.{FilesView}
use Rattle.pva_outside.specs.Traffic.{BindsDatagrams, DatagramsView}
use Rattle.pva_outside.specs.Wire.{Wire}
use Rattle.pva_outside.specs.declared.binding.BindStep.{BindStep}
use Rattle.pva_outside.specs.declared.binding.BindStep.TheVariants as binding
use Rattle.pva_outside.specs.declared.peer.Peer.{Peer}
use Rattle.db_text.specs.Macros.{Macros}
use Rattle.desk_api.specs.declared.fault.SiteFault.{SiteFault}
use Rattle.desk_api.specs.declared.history.SiteData.{SiteData}
use Rattle.desk_shared.specs.Records.{Sight}
use Rattle.pva_search.specs.declared.setup.Setup.{Setup}
use Rattle.srv_stream.specs.Streams.{moment_told}
use Rattle.srv_host.specs.Accepts.{Accepted, Stopped, StoppedBy}
use Rattle.srv_host.specs.Hosting.{AreBegun, Hosts, IsDone, StoppedSo}
use Rattle.srv_host.specs.Sessions.{Session, starts_of}
use Rattle.srv_host.specs.declared.accepting.Stop.{Stop}
use Rattle.srv_host.specs.declared.accepting.Stop.TheVariants as stops
use Rattle.srv_host.specs.declared.hosted.Hosted.{Hosted}
use Rattle.srv_host.specs.declared.hosted.Hosted.TheVariants as hosts
use Rattle.prog_source.specs.Opening.{Opens}
use Rattle.prog_source.specs.Printing.{IsPrinted}
use Rattle.prog_source.specs.Words.{Source, single, file}
use Rattle.prog_source.specs.declared.loading.SourceStop.{SourceStop}
use Rattle.prog_source.specs.declared.loading.SourceStop.TheVariants as sources
use Rattle.prog_source.specs.declared.printing.Printed.{Printed}
use Rattle.prog_source.specs.declared.printing.Printed.TheVariants as printing
use Rattle.prog_listen.specs.Laws.{AcceptedAll, AskedOnce, Because, BindsAtMostOnce, EveryEndHasItsCause, FaultlessRunsFinish, IsFaultless, WasOpen}
use Rattle.prog_listen.specs.Listening.{Announces, Around, BindsDatagramsOf, BindsListenerOf, FollowsDatagrams, FollowsLine, FollowsListener, FollowsPorts, FollowsSource, Front, HasHosted, HasStopped, Listens, MakesPortsOf, first_sight, end_of_host, listening_line}
use Rattle.prog_listen.specs.Setups.{searches_at}
use Rattle.prog_listen.specs.declared.asked.Listening.{Listening}
use Rattle.prog_listen.specs.declared.listened.Listened.{Listened}
use Rattle.prog_listen.specs.declared.listened.Listened.TheVariants as ends

-- Counts.

rose_behind : (a n b : ℕ) → RoseByOne (counted a n) b → Rose a b
rose_behind a n b r =
    dite (dec_lt (counted a n + 1) (2 ^ 64)) (λ below. let e = r.one below in record { kept = omega (arith, e); more = λ small. omega (arith, e) })
    (λ full. let e = r.still (omega (arith, full)) in record { kept = omega (arith, e); more = λ small. absurd (omega (arith, e, small, full)) })

-- What a host leaves as it was, and why it stopped.

module _ (before mid : Door) (most : ℕ) (turns : List (Option Wire)) where
  stopped_bindings : (stop : Stop) → Stopped before mid most turns stop → mid.bindings ≡ before.bindings
  stopped_bindings stops.End s = s.last.none.asks.bindings ∙ s.accepted.bindings
  stopped_bindings stops.Turns s = s.0.bindings
  stopped_bindings stops.Fault s = s.last.none.asks.bindings ∙ s.accepted.bindings
  stopped_bindings stops.NoMemory s = s.0.bindings

  ended_all : StoppedBy AcceptEnded before mid most turns → Rose before.accepts mid.accepts × (mid.at_end ≡ true)
  ended_all s = (rose_behind before.accepts (length turns) mid.accepts (subst (λ (n : ℕ). RoseByOne n mid.accepts) s.accepted.accepts s.last.none.asks.accepts), s.last.at_end)

  finished_all : (stop : Stop) → (stop ≡ stops.End) ⊎ (stop ≡ stops.Turns) → Stopped before mid most turns stop → AcceptedAll most before mid × (mid.faults ≡ before.faults)
  finished_all stop (inl end) s = let h = subst (λ (t : Stop). Stopped before mid most turns t) end s in (inl (ended_all h), h.last.faults ∙ h.accepted.faults)
  finished_all stop (inr spent) s =
      let h = subst (λ (t : Stop). Stopped before mid most turns t) spent s in
      (inr (h.0.accepts ∙ ap (counted before.accepts) h.1), h.0.faults)

  failed_rose : (stop : Stop) → stop ≡ stops.Fault → Stopped before mid most turns stop → Rose before.faults mid.faults
  failed_rose stop fault s =
      let h = subst (λ (t : Stop). Stopped before mid most turns t) fault s in
      subst (λ (n : ℕ). Rose n mid.faults) h.accepted.faults h.last.faults

module _ (site : SiteData) (setup : Setup) (beacon : Option Peer) (told : Option Moment) (most : ℕ) (old new : Sight) (before after : Door) (heard then_ : DatagramsView) where
  -- the links taken back are all that changed behind the last accept
  back_of : (hosted : Hosted) (mid : Door) (turns : List (Option Wire)) (sessions : List Session) (stop : Stop) → IsDone hosted site setup beacon mid after heard then_ turns sessions stop → (taken : List (Option (List ℕ))) × (after ≡ with_back mid taken)
  back_of (hosts.Finished served) mid turns sessions stop done = (_, done.back)
  back_of (hosts.AcceptFault served) mid turns sessions stop done = (_, done.back)
  back_of (hosts.NoMemory served) mid turns sessions stop done = (done.back.taken, done.back.door)

  begun_bindings : (turns : List (Option Wire)) (links : List Wire) (stop : Stop) → AreBegun site setup beacon heard then_ turns links stop → then_.bindings ≡ heard.bindings
  begun_bindings turns links stops.End b = b.datagrams.went.bindings
  begun_bindings turns links stops.Turns b = b.datagrams.went.bindings
  begun_bindings turns links stops.Fault b = b.datagrams.went.bindings
  begun_bindings turns links stops.NoMemory (inl b) = b.datagrams.went.bindings
  begun_bindings turns links stops.NoMemory (inr (inl b)) = b.begun.datagrams.went.bindings
  begun_bindings turns links stops.NoMemory (inr (inr b)) = b.datagrams.first.went.bindings ∙ b.datagrams.whole.went.bindings

  datagrams_of : (hosted : Hosted) (mid : Door) (turns : List (Option Wire)) (sessions : List Session) (stop : Stop) → IsDone hosted site setup beacon mid after heard then_ turns sessions stop → then_.bindings ≡ heard.bindings
  datagrams_of (hosts.Finished served) mid turns sessions stop done = done.datagrams.went.bindings
  datagrams_of (hosts.AcceptFault served) mid turns sessions stop done = done.datagrams.went.bindings
  datagrams_of (hosts.NoMemory served) mid turns sessions stop done = begun_bindings turns (starts_of sessions) stop done.begun

  door_bindings : (hosted : Hosted) → Hosts site setup beacon told most old new before after heard then_ hosted → after.bindings ≡ before.bindings
  door_bindings hosted h =
      let back = back_of hosted h.mid h.turns h.sessions h.stop h.done in
      ap (λ (d : Door). d.bindings) back.1 ∙ stopped_bindings before h.mid most h.turns h.stop h.stopped

  datagrams_bindings : (hosted : Hosted) → Hosts site setup beacon told most old new before after heard then_ hosted → then_.bindings ≡ heard.bindings
  datagrams_bindings hosted h = datagrams_of hosted h.mid h.turns h.sessions h.stop h.done

  finishes : (served : ℕ) → Hosts site setup beacon told most old new before after heard then_ (hosts.Finished served) → AcceptedAll most before after × (after.faults ≡ before.faults)
  finishes served h =
      let back = back_of (hosts.Finished served) h.mid h.turns h.sessions h.stop h.done in
      let all = finished_all before h.mid most h.turns h.stop h.stop_is h.stopped in
      (subst (λ (d : Door). AcceptedAll most before d) (sym back.1) all.0, ap (λ (d : Door). d.faults) back.1 ∙ all.1)

  fails : (served : ℕ) → Hosts site setup beacon told most old new before after heard then_ (hosts.AcceptFault served) → Rose before.faults after.faults
  fails served h =
      let back = back_of (hosts.AcceptFault served) h.mid h.turns h.sessions h.stop h.done in
      subst (λ (d : Door). Rose before.faults d.faults) (sym back.1) (failed_rose before h.mid most h.turns h.stop h.stop_is h.stopped)

-- Each of the two is bound at most once.

bound_once : (old new : Option Bindings) (faults faults' : ℕ) (step : BindStep) (at : Peer) → Binds old new faults faults' step at → AskedOnce old new at
bound_once old new faults faults' (binding.Bound port) at b = inr (inr b.1)
bound_once old new faults faults' binding.Failed at b = inr (inl b.0)
bound_once old new faults faults' binding.NoMemory at b = inl b.0

-- both, between two fronts
abbrev Once : Listening → Front → Front → Type 0
Once asked old new =
    AskedOnce old.door.bindings new.door.bindings asked.at × AskedOnce old.datagrams.bindings new.datagrams.bindings (searches_at asked)

same_once : (asked : Listening) (old new : Front) → new ≡ old → Once asked old new
same_once asked old new same = (inl (ap (λ (f : Front). f.door.bindings) same), inl (ap (λ (f : Front). f.datagrams.bindings) same))

-- what follows the line binds nothing
abbrev Kept : Front → Front → Type 0
Kept old new = (new.door.bindings ≡ old.door.bindings) × (new.datagrams.bindings ≡ old.datagrams.bindings)

same_kept : (old new : Front) → new ≡ old → Kept old new
same_kept old new same = (ap (λ (f : Front). f.door.bindings) same, ap (λ (f : Front). f.datagrams.bindings) same)

line_keeps : (asked : Listening) (site : SiteData) (told : Option (ℤ × ℕ)) (port : ℕ) (printed : Printed) (old new : Front) (ended : Listened) → FollowsLine asked site told port printed old new ended → Kept old new
line_keeps asked site told port printing.Whole old new ended h = (door_bindings _ _ _ _ _ _ _ _ _ _ _ h.hosted h.hosts, datagrams_bindings _ _ _ _ _ _ _ _ _ _ _ h.hosted h.hosts)
line_keeps asked site told port printing.Failed old new ended h = same_kept old new h.untouched
line_keeps asked site told port printing.NoMemory old new ended h = same_kept old new h.untouched

as_bindings : (a b old : Option Bindings) (at : Peer) → b ≡ a → AskedOnce old a at → AskedOnce old b at
as_bindings a b old at same once = subst (λ (x : Option Bindings). AskedOnce old x at) (sym same) once

datagrams_once : (asked : Listening) (site : SiteData) (told : Option (ℤ × ℕ)) (port : ℕ) (old new : Front) (ended : Listened) → BindsDatagramsOf asked site told port old new ended
    → (new.door.bindings ≡ old.door.bindings) × AskedOnce old.datagrams.bindings new.datagrams.bindings (searches_at asked)
datagrams_once asked site told port old new ended b = by_step b.step b.binds.binds b.follows
  where
    mid : Front
    mid = record old { datagrams = b.datagrams }

    by_step : (step : BindStep) → Binds old.datagrams.bindings b.datagrams.bindings old.datagrams.faults b.datagrams.faults step (searches_at asked) → FollowsDatagrams asked site told port step mid new ended
        → (new.door.bindings ≡ old.door.bindings) × AskedOnce old.datagrams.bindings new.datagrams.bindings (searches_at asked)
    by_step (binding.Bound udp) is h =
        let kept = line_keeps asked site told port h.result (record mid { printed = h.printed; print_faults = h.print_faults }) new ended h.follows in
        (kept.0, as_bindings _ _ old.datagrams.bindings (searches_at asked) kept.1 (inr (inr is.1)))
    by_step binding.Failed is h = let kept = same_kept mid new h.untouched in (kept.0, as_bindings _ _ old.datagrams.bindings (searches_at asked) kept.1 (inr (inl is.0)))
    by_step binding.NoMemory is h = let kept = same_kept mid new h.untouched in (kept.0, as_bindings _ _ old.datagrams.bindings (searches_at asked) kept.1 (inl is.0))

listener_once : (asked : Listening) (site : SiteData) (told : Option (ℤ × ℕ)) (old new : Front) (ended : Listened) → BindsListenerOf asked site told old new ended → Once asked old new
listener_once asked site told old new ended b = by_step b.step b.binds.binds b.follows
  where
    mid : Front
    mid = record old { door = b.door }

    by_step : (step : BindStep) → Binds old.door.bindings b.door.bindings old.door.faults b.door.faults step asked.at → FollowsListener asked site told step mid new ended → Once asked old new
    by_step (binding.Bound port) is h = let later = datagrams_once asked site told port mid new ended h in (as_bindings _ _ old.door.bindings asked.at later.0 (inr (inr is.1)), later.1)
    by_step binding.Failed is h = let kept = same_kept mid new h.untouched in (as_bindings _ _ old.door.bindings asked.at kept.0 (inr (inl is.0)), inl kept.1)
    by_step binding.NoMemory is h = let kept = same_kept mid new h.untouched in (as_bindings _ _ old.door.bindings asked.at kept.0 (inl is.0), inl kept.1)

ports_once : (asked : Listening) (site : SiteData) (told : Option (ℤ × ℕ)) (old new : Front) (ended : Listened) → FollowsPorts asked site told old new ended → Once asked old new
ports_once asked site told old new ended (inl b) = listener_once asked site told old new ended b
ports_once asked site told old new ended (inr h) = same_once asked old new h.untouched

pub binds_once : BindsAtMostOnce
binds_once asked macros source told old new ended run = by_found run.found run.follows
  where
    by_found : (found : Result SiteData SourceStop) → FollowsSource asked found told old.ports new.ports old.front new.front ended → Once asked old.front new.front
    by_found (Err stop) h = same_once asked old.front new.front h.1.untouched
    by_found (Ok site) (inl h) = ports_once asked site told old.front new.front ended h.1
    by_found (Ok site) (inr (inl h)) = same_once asked old.front new.front h.1.untouched
    by_found (Ok site) (inr (inr h)) = same_once asked old.front new.front h.1.untouched

-- Each end has its cause.

-- what is to be said of a front, for an end that isn't that of a source or of its ports
abbrev FrontBecause : Listening → Front → Front → Listened → Type 0
FrontBecause asked old new ends.Finished = WasOpen asked old new × AcceptedAll asked.turns old.door new.door × (new.door.faults ≡ old.door.faults)
FrontBecause asked old new ends.Unread = ⊥
FrontBecause asked old new ends.Faulty = ⊥
FrontBecause asked old new ends.Unmade = ⊥
FrontBecause asked old new ends.Unbound = Rose old.door.faults new.door.faults
FrontBecause asked old new ends.Unsearchable = Rose old.datagrams.faults new.datagrams.faults
FrontBecause asked old new ends.Unprinted = Rose old.print_faults new.print_faults
FrontBecause asked old new ends.AcceptFault = WasOpen asked old new × Rose old.door.faults new.door.faults
FrontBecause asked old new ends.NoMemory = ⊤

-- behind a listener that is bound, as many were accepted and as often it failed as before
accepted_since : (turns : ℕ) (a b c : Door) → b.accepts ≡ a.accepts → AcceptedAll turns b c → AcceptedAll turns a c
accepted_since turns a b c same (inl rose) = inl (subst (λ (n : ℕ). Rose n c.accepts) same rose.0, rose.1)
accepted_since turns a b c same (inr all) = inr (all ∙ ap (λ (n : ℕ). counted n turns) same)

module _ (asked : Listening) (site : SiteData) (told : Option (ℤ × ℕ)) (old new : Front) (ended : Listened) where
  for_end : (why : Listened) → ended ≡ why → FrontBecause asked old new why → FrontBecause asked old new ended
  for_end why same cause = subst (FrontBecause asked old new) (sym same) cause

  module _ (door : Door) (port : ℕ) (listener : BindsDoor old.door door (binding.Bound port) asked.at) (datagrams : DatagramsView) (udp : ℕ)
      (searches : BindsDatagrams old.datagrams datagrams (binding.Bound udp) (searches_at asked)) where
    hosted_cause : (mid : Front) → mid.door ≡ door → mid.datagrams ≡ datagrams → Appends old.printed mid.printed listening_line → mid.print_faults ≡ old.print_faults → HasHosted asked site told port mid new ended
        → FrontBecause asked old new ended
    hosted_cause mid at_door at_datagrams text kept h = by_host h.hosted h.hosts h.ended_is
      where
        accepts : mid.door.accepts ≡ old.door.accepts
        accepts = ap (λ (d : Door). d.accepts) (at_door ∙ listener.others)

        faults : mid.door.faults ≡ old.door.faults
        faults = ap (λ (d : Door). d.faults) at_door ∙ listener.binds.2

        open_ : new.door.bindings ≡ mid.door.bindings → new.datagrams.bindings ≡ mid.datagrams.bindings → WasOpen asked old new
        open_ d g = record {
          listener = d ∙ ap (λ (d : Door). d.bindings) at_door ∙ listener.binds.1;
          datagrams = g ∙ ap (λ (d : DatagramsView). d.bindings) at_datagrams ∙ searches.binds.1;
          printed = subst (λ (o : Option (List ℕ)). Appends old.printed o listening_line) (sym h.printed) text;
          print_faults = h.print_faults ∙ kept;
        }

        by_host : (hosted : Hosted) → Hosts site h.setup asked.beacon (moment_told told) asked.turns (first_sight asked site) h.sight mid.door new.door mid.datagrams new.datagrams hosted → ended ≡ end_of_host hosted
            → FrontBecause asked old new ended
        by_host (hosts.Finished served) is same =
            let all = finishes _ _ _ _ _ _ _ _ _ _ _ served is in
            for_end ends.Finished same (open_ (door_bindings _ _ _ _ _ _ _ _ _ _ _ (hosts.Finished served) is) (datagrams_bindings _ _ _ _ _ _ _ _ _ _ _ (hosts.Finished served) is), accepted_since asked.turns old.door mid.door new.door accepts all.0, all.1 ∙ faults)
        by_host (hosts.AcceptFault served) is same =
            for_end ends.AcceptFault same
            (open_ (door_bindings _ _ _ _ _ _ _ _ _ _ _ (hosts.AcceptFault served) is) (datagrams_bindings _ _ _ _ _ _ _ _ _ _ _ (hosts.AcceptFault served) is), subst (λ (n : ℕ). Rose n new.door.faults) faults (fails _ _ _ _ _ _ _ _ _ _ _ served is))
        by_host (hosts.NoMemory served) is same = for_end ends.NoMemory same tt

    line_cause : (printed : Printed) (text : Option (List ℕ)) (faults : ℕ) → IsPrinted old.printed text old.print_faults faults listening_line printed
        → FollowsLine asked site told port printed (record { door = door; datagrams = datagrams; printed = text; print_faults = faults }) new ended → FrontBecause asked old new ended
    line_cause printing.Whole text faults is h = hosted_cause (record { door = door; datagrams = datagrams; printed = text; print_faults = faults }) refl refl is.0 is.1 h
    line_cause printing.Failed text faults is h =
        for_end ends.Unprinted h.ended_is (subst (λ (f : Front). Rose old.print_faults f.print_faults) (sym h.untouched) is.1)
    line_cause printing.NoMemory text faults is h = for_end ends.NoMemory h.ended_is tt

  datagrams_cause : (door : Door) (port : ℕ) → BindsDoor old.door door (binding.Bound port) asked.at → (datagrams : DatagramsView) (step : BindStep) → BindsDatagrams old.datagrams datagrams step (searches_at asked)
      → FollowsDatagrams asked site told port step (record { door = door; datagrams = datagrams; printed = old.printed; print_faults = old.print_faults }) new ended → FrontBecause asked old new ended
  datagrams_cause door port listener datagrams (binding.Bound udp) is h = line_cause door port listener datagrams udp is h.result h.printed h.print_faults h.prints h.follows
  datagrams_cause door port listener datagrams binding.Failed is h =
      for_end ends.Unsearchable h.ended_is (subst (λ (f : Front). Rose old.datagrams.faults f.datagrams.faults) (sym h.untouched) is.binds.1)
  datagrams_cause door port listener datagrams binding.NoMemory is h = for_end ends.NoMemory h.ended_is tt

  listener_cause : (door : Door) (step : BindStep) → BindsDoor old.door door step asked.at
      → FollowsListener asked site told step (record { door = door; datagrams = old.datagrams; printed = old.printed; print_faults = old.print_faults }) new ended → FrontBecause asked old new ended
  listener_cause door (binding.Bound port) is h = datagrams_cause door port is h.datagrams h.step h.binds h.follows
  listener_cause door binding.Failed is h = for_end ends.Unbound h.ended_is (subst (λ (f : Front). Rose old.door.faults f.door.faults) (sym h.untouched) is.binds.1)
  listener_cause door binding.NoMemory is h = for_end ends.NoMemory h.ended_is tt

  front_cause : FollowsPorts asked site told old new ended → FrontBecause asked old new ended
  front_cause (inl b) = listener_cause b.door b.step b.binds b.follows
  front_cause (inr h) = for_end ends.NoMemory h.ended_is tt

because_of_front : (asked : Listening) (found : Result SiteData SourceStop) (old new : Around) (ended : Listened) → FrontBecause asked old.front new.front ended → Because asked found old new ended
because_of_front asked found old new ends.Finished cause = cause
because_of_front asked found old new ends.Unread cause = absurd cause
because_of_front asked found old new ends.Faulty cause = absurd cause
because_of_front asked found old new ends.Unmade cause = absurd cause
because_of_front asked found old new ends.Unbound cause = cause
because_of_front asked found old new ends.Unsearchable cause = cause
because_of_front asked found old new ends.Unprinted cause = cause
because_of_front asked found old new ends.AcceptFault cause = cause
because_of_front asked found old new ends.NoMemory cause = tt

unread_rose : (macros : Macros) (source : Source) (old new : FilesView) → Opens macros source old new (Err sources.Unread) → Rose old.faults new.faults
unread_rose macros (single name value) old new is = absurd is
unread_rose macros (file name) old new is = is.faults

pub every_end : EveryEndHasItsCause
every_end asked macros source told old new ended run = by_found run.found run.opens run.follows
  where
    because : (found : Result SiteData SourceStop) (why : Listened) → ended ≡ why → Because asked found old new why → Because asked found old new ended
    because found why same cause = subst (Because asked found old new) (sym same) cause

    by_found : (found : Result SiteData SourceStop) → Opens macros source old.files new.files found → FollowsSource asked found told old.ports new.ports old.front new.front ended → Because asked found old new ended
    by_found (Err sources.Unread) opens h = because (Err sources.Unread) ends.Unread h.1.ended_is (unread_rose macros source old.files new.files opens)
    by_found (Err (sources.Fault fault)) opens h = because (Err (sources.Fault fault)) ends.Faulty h.1.ended_is (fault, refl)
    by_found (Err sources.NoMemory) opens h = because (Err sources.NoMemory) ends.NoMemory h.1.ended_is tt
    by_found (Ok site) opens (inl h) = because_of_front asked (Ok site) old new ended (front_cause asked site told old.front new.front ended h.1)
    by_found (Ok site) opens (inr (inl h)) = because (Ok site) ends.Unmade h.1.ended_is h.0.faults
    by_found (Ok site) opens (inr (inr h)) = because (Ok site) ends.NoMemory h.1.ended_is tt

-- A run without a fault.

no_fault : (asked : Listening) (found : Result SiteData SourceStop) (old new : Around) (ended : Listened) → Because asked found old new ended → IsFaultless asked old new found → (ended ≡ ends.Finished) ⊎ (ended ≡ ends.NoMemory)
no_fault asked found old new ends.Finished cause none = inl refl
no_fault asked found old new ends.Unread cause none = absurd (none.files cause)
no_fault asked found old new ends.Faulty cause none = absurd (none.text cause.0 cause.1)
no_fault asked found old new ends.Unmade cause none = absurd (none.ports cause)
no_fault asked found old new ends.Unbound cause none = absurd (none.listener cause)
no_fault asked found old new ends.Unsearchable cause none = absurd (none.datagrams cause)
no_fault asked found old new ends.Unprinted cause none = absurd (none.prints cause)
no_fault asked found old new ends.AcceptFault cause none = absurd (none.listener cause.1)
no_fault asked found old new ends.NoMemory cause none = inr refl

pub faultless_finish : FaultlessRunsFinish
faultless_finish asked macros source told old new ended run none = no_fault asked run.found old new ended (every_end asked macros source told old new ended run) none
