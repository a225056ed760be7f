-- An exchange that meets no fault ends with its operation.
use Rattle.std.proofs.Common.{◌≡◌, ℕ, ℤ, ◌+◌, ◌<◌, ◌≤◌, true, false, List, [], ◌∷◌, ◌++◌, length, map, Option, None, Some, is_some, Result, Ok, Err, refl, sym, ap, subst, ◌∙◌, append_assoc, arith, inl, inr}
use Rattle.std.proofs.lemmas.List.{append-nil}
use Rattle.std.specs.Prelude.{◌⊎◌, codes}
use Rattle.std.specs.Result.{result_err}
use Rattle.pva_wire.specs.declared.order.Order.TheVariants.{Little}
use Rattle.pva_frames.specs.Messages.{Unfinished, left_from}
use Rattle.pva_frames.specs.declared.event.Event.{Event}
use Rattle.pva_frames.specs.declared.fault.FrameFault.{FrameFault}
use Rattle.pva_messages.specs.Requests as requests
use Rattle.pva_messages.specs.Requests.{Request, absent}
use Rattle.clap.specs.Words.{Row, Text}
use Rattle.pva_outside.specs.Count.{Rose}
use Rattle.pva_outside.specs.Files.{FilesView}
use Rattle.db_text.specs.Macros.{Macros}
use Rattle.prog_source.specs.Opening.{Opens}
use Rattle.prog_source.specs.Words.{Source, single, file}
use Rattle.prog_source.specs.declared.loading.SourceStop.{SourceStop}
use Rattle.prog_source.specs.declared.loading.SourceStop.TheVariants as sources
use Rattle.pvd_codec.specs.Written.{CanEach}
use Rattle.desk_api.specs.History.{History}
use Rattle.desk_api.specs.Calls.{Adds, first_seat}
use Rattle.desk_api.specs.declared.channel.Channel.{Channel}
use Rattle.desk_api.specs.declared.history.Base.{Base}
use Rattle.desk_api.specs.declared.history.SiteData.{SiteData}
use Rattle.desk_api.specs.declared.mark.Mark.{Mark}
use Rattle.desk_api.specs.declared.mark.Seat.{Seat}
use Rattle.desk_api.specs.Marks.{AllHold}
use Rattle.journal_core.specs.Moments.{Moment}
use Rattle.srv_session.specs.Replies.{greetings}
use Rattle.srv_session.specs.State as server
use Rattle.srv_session.specs.State.{opening, segment_for}
use Rattle.srv_session.specs.Steps.{Step, AreSteps, IsDrained, events_of, marks_of, state_after}
use Rattle.srv_stream.specs.Served.{Whole}
use Rattle.srv_stream.specs.Streams.{Stands, moment_told, refused, stop_of}
use Rattle.srv_stream.specs.declared.ended.Ended.{Ended}
use Rattle.cli_text.specs.declared.fault.PutText.{PutText}
use Rattle.cli_session.specs.Laws.{CanWrite, IsShort}
use Rattle.cli_session.specs.Messages.{Written, written, said, put_id, put_request, monitor_beginning}
use Rattle.cli_session.specs.State as client
use Rattle.cli_session.specs.State.{State, updates_of}
use Rattle.cli_session.specs.Steps.{Told, Run, quietly, and_then, next, step, run, written_of, client_told, client_sent, client_bytes, client_fault}
use Rattle.cli_session.specs.Structures.{request, selected, monitor_options}
use Rattle.cli_session.specs.Turns.{own_turns}
use Rattle.cli_session.specs.declared.ask.Ask.{Ask}
use Rattle.cli_session.specs.declared.ask.Operation.{Operation}
use Rattle.cli_session.specs.declared.ask.Operation.TheVariants as operation
use Rattle.cli_session.specs.declared.fault.ClientFault.{ClientFault}
use Rattle.cli_session.specs.declared.fault.ClientFault.TheVariants as faults
use Rattle.cli_session.specs.declared.turn.Turn.{Turn}
use Rattle.cli_session.specs.declared.turn.Turn.TheVariants as turn
use Rattle.cli_within.specs.Answers.{updates_in}
use Rattle.cli_within.specs.Clear.{AreShort}
use Rattle.cli_within.specs.Ends.{events_in, text_for, Begins, HasPrinted}
use Rattle.cli_within.specs.Exchanging.{Exchanged, HasNoFault, HasTalked, IsQuiet, AtClosing, ended_by}
use Rattle.cli_within.specs.Laws.{ExchangesComplete, RunsComplete, GoesOn, HasMore, HasWindow, IsInRange, taken_at, taken_by, IsCompleted, IsDoneFaultless, IsFaultless, IsLate, IsPrinted, IsSiteFaultless, IsUsual}
use Rattle.cli_within.specs.Running.{Does, Outside, SiteRuns, journal, limits_of, status_of}
use Rattle.cli_within.specs.Words.{AreNumbers, AreTaken, Asked, IsCountIf, IsOperation, given, values_in, word_rows}
use Rattle.cli_within.specs.declared.verb.Numbers.{Numbers}
use Rattle.cli_within.specs.declared.verb.Verb.{Verb}
use Rattle.cli_within.specs.declared.verb.Verb.TheVariants as verbs
use Rattle.cli_within.specs.declared.stop.End.{End}
use Rattle.cli_within.specs.declared.stop.End.TheVariants as ends
use Rattle.cli_within.specs.declared.stop.Ending.TheVariants as endings
use Rattle.cli_within.specs.declared.stop.Status.{Status}
use Rattle.cli_within.specs.declared.stop.Stop.TheVariants as stops
use Rattle.cli_within.proofs.ClientTurns.{run_one}
use Rattle.cli_within.proofs.Courses.{Standing, AllGo, Rests, IsWordsOnly}
use Rattle.cli_within.proofs.Joined.{hello, given_read, given_sound, all_heard, out_is, all_told, log_is, updates_are, segment_moderate, speak_clear, spoken_clear, greeting_sayable, speak_short, spoken_short, greeting_short}
use Rattle.cli_within.proofs.Monitoring.{MonitorMore, monitor_turns}
use Rattle.cli_within.proofs.Openings.{Opened, told_order, validating, greeting_taken}
use Rattle.cli_within.proofs.Putting.{put_turns, put_get_turns}
use Rattle.cli_within.proofs.Said.{AreRequests, AreReplies, IsSpokenClear, Spoken, speak, spoken, requests_front, sent_counted, said_sound, said_counted}
use Rattle.cli_within.proofs.Segments.{sent_small}
use Rattle.cli_within.proofs.Starving.{not_starved}
use Rattle.cli_within.proofs.Turning.{Nothing, OwnGo, validation_goes, info_turn, get_turns, call_turns}

-- The whole of an exchange.
module _ (ask : Ask) (site : SiteData) (More : Standing) (own : OwnGo ask site More) where
  abbrev first_state : server.State
  first_state = opening Little

  abbrev greeted : List Spoken
  greeted = speak Little (segment_for 65536) greetings

  record GoesAll (steps : List Step) (es : List Event) : Type 0 where
    fault : IsWordsOnly (client_fault ask es)
    rests : length es ≡ length (greeted ++ spoken site first_state steps) → length (events_of steps) ≡ length (client_sent ask es) → Rests ask site More (state_after site first_state steps) (marks_of steps) (client_told ask es) (client_fault ask es)
    ahead : length es ≡ length (greeted ++ spoken site first_state steps) → (e : Event) → AreRequests (events_of steps ++ e ∷ []) (client_sent ask es) → stop_of site (state_after site first_state steps) e ≡ None

  all_go : (steps : List Step) (es : List Event) → AreSteps site first_state steps → AreRequests (events_of steps) (client_sent ask es) → AreReplies es (greeted ++ spoken site first_state steps) → GoesAll steps es
  all_go steps [] rules heard_ told = record {
    fault = tt;
    rests = λ taken heard_now. absurd (omega (arith, taken));
    ahead = λ taken e h. absurd (omega (arith, taken));
  }
  all_go steps (c ∷ []) rules heard_ told =
      let first = run_one ask (client.opening ask) c [] (quietly (told_order ask site)) (ap (step ask (client.opening ask)) told.0) in
      record {
        fault = subst (λ (r : Run). IsWordsOnly r.fault) (sym first) tt;
        rests = λ taken heard_now. absurd (omega (arith, taken));
        ahead = λ taken e h. absurd (omega (arith, taken));
      }
  all_go steps (c ∷ g ∷ es) rules heard_ told =
      let first = run_one ask (client.opening ask) c (g ∷ es) (quietly (told_order ask site)) (ap (step ask (client.opening ask)) told.0) in
      let second = run_one ask (told_order ask site) g es (validating ask site) (ap (step ask (told_order ask site)) told.1.0.1 ∙ greeting_taken ask site told.1.0.0 told.1.0.2) in
      let both = first ∙ ap (and_then (quietly (told_order ask site))) second in
      let t = validating ask site in
      let sent_is : client_sent ask (c ∷ g ∷ es) ≡ written_of t ++ (run ask t.state es).sent = ap (λ (r : Run). r.sent) both in
      let told_is : client_told ask (c ∷ g ∷ es) ≡ (run ask t.state es).told = ap (λ (r : Run). r.told) both in
      let fault_is : client_fault ask (c ∷ g ∷ es) ≡ (run ask t.state es).fault = ap (λ (r : Run). r.fault) both in
      let k = validation_goes ask site More own t.state first_state t.state.order t.state.segment refl refl refl refl steps es (record {
        rules = rules;
        heard_of = subst (AreRequests (events_of steps)) sent_is heard_;
        told_of = told.1.1;
      }) in
      let lens = ap (λ (ws : List Written). length ws) sent_is in
      record {
        fault = subst IsWordsOnly (sym fault_is) k.fault;
        rests = λ taken heard_now.
            subst (λ (ts : List Told). Rests ask site More (state_after site first_state steps) (marks_of steps) ts (client_fault ask (c ∷ g ∷ es))) (sym told_is)
            (subst (λ (o : Option ClientFault). Rests ask site More (state_after site first_state steps) (marks_of steps) (run ask t.state es).told o) (sym fault_is)
            (k.rests (omega (arith, taken)) (omega (arith, heard_now, lens))));
        ahead = λ taken e h. k.ahead (omega (arith, taken)) e (subst (AreRequests (events_of steps ++ e ∷ [])) sent_is h);
      }

-- no fault of words, and so none
none_wrong : (o : Option ClientFault) → IsWordsOnly o → ((text : PutText) → o ≡ Some (faults.Words text) → ⊥) → o ≡ None
none_wrong None only words = refl
none_wrong (Some (faults.Words text)) only words = absurd (words text refl)
none_wrong (Some (faults.Message f)) only words = absurd only
none_wrong (Some other) only words = absurd only

none_left : (r : Result Unfinished FrameFault) → result_err r ≡ None → refused r ≡ None
none_left (Ok left) sound = refl
none_left (Err fault) sound = absurd cc

none_refused : (r : Result Unfinished FrameFault) → None ≡ refused r → result_err r ≡ None
none_refused (Ok left) is = refl
none_refused (Err fault) is = absurd cc

-- Of the events of a dialogue without trouble none remains.
all_of : (site : SiteData) (s : server.State) (remaining : List Event) (left : Result Unfinished FrameFault) → Stands site s remaining left None → remaining ≡ []
all_of site s [] left stands = refl
all_of site s (e ∷ more) left stands = let clash : false ≡ true = ap is_some stands.0 ∙ stands.1 in absurd cc

module _ (ask : Ask) (site : SiteData) (More : Standing) (own : OwnGo ask site More) (given taken : List ℕ) (log : List Mark) (begins : Begins ask taken given) (words : (text : PutText) → client_fault ask (events_in taken) ≡ Some (faults.Words text) → ⊥) where
  -- the client takes every event, whatever the lengths of the messages are
  module _ (talked : HasTalked site given taken log) where
    abbrev steps : List Step
    steps = talked.whole.dialogue.talk.steps

    goes : GoesAll ask site More own steps (events_in taken)
    goes = all_go ask site More own steps (events_in taken) talked.whole.dialogue.talk.rules (all_heard ask site given taken log talked begins) (all_told ask site given taken log talked begins)

    faultless : client_fault ask (events_in taken) ≡ None
    faultless = none_wrong (client_fault ask (events_in taken)) goes.fault words

    -- all that the server says in it
    abbrev said_all : List Spoken
    said_all = hello ask site given taken log talked begins ++ spoken site (opening Little) steps

    all_clear : CanEach IsSpokenClear said_all
    all_clear = speak_clear Little (segment_for 65536) greetings (spoken site (opening Little) steps) (segment_moderate 65536) greeting_sayable (spoken_clear site (opening Little) steps (segment_moderate 65536) talked.whole.dialogue.talk.rules)

    -- where none of its payloads is too long, no header of its bytes is refused
    said_well : AreShort site (opening Little) steps → result_err (left_from 0 None taken) ≡ None
    said_well few =
        said_sound said_all taken (record { rest = talked.sent.rest; whole = out_is ask site given taken log talked begins ∙ talked.sent.whole }) all_clear
        (speak_short Little (segment_for 65536) greetings (spoken site (opening Little) steps) greeting_short (spoken_short site (opening Little) steps few))

    -- where all was taken, and no header of it was refused
    module _ (all : talked.out ≡ taken) (sound : result_err (left_from 0 None taken) ≡ None) where
      all_taken : length (events_in taken) ≡ length said_all
      all_taken = said_counted said_all taken (sym all ∙ sym (out_is ask site given taken log talked begins)) all_clear sound

      -- nothing that the server hears ends its connection, where no header of that is refused
      pub no_trouble : result_err (left_from 0 None given) ≡ None → (trouble : Ended) → talked.trouble ≡ Some trouble → ⊥
      no_trouble sent_well trouble is = by talked.whole.remaining refl
        where
          heard_as : (remaining : List Event) → talked.whole.remaining ≡ remaining → AreRequests (events_of steps ++ remaining) (client_sent ask (events_in taken))
          heard_as remaining same =
              subst (λ (es : List Event). AreRequests es (client_sent ask (events_in taken)))
              (talked.whole.all ∙ (λ i. sym talked.whole.dialogue.talk.events_are i ++ same i))
              (given_read ask site given taken log talked begins)

          by : (remaining : List Event) → talked.whole.remaining ≡ remaining → ⊥
          by [] same =
              let stands = subst (λ (es : List Event). Stands site (state_after site (opening Little) steps) es (left_from 0 None given) talked.trouble) same talked.whole.stands in
              let clash : Some trouble ≡ None = sym is ∙ stands ∙ none_left (left_from 0 None given) sent_well in
              absurd cc
          by (e ∷ more) same =
              let stands = subst (λ (es : List Event). Stands site (state_after site (opening Little) steps) es (left_from 0 None given) talked.trouble) same talked.whole.stands in
              let first = requests_front (events_of steps ++ e ∷ []) more (client_sent ask (events_in taken)) (subst (λ (es : List Event). AreRequests es (client_sent ask (events_in taken))) (sym (append_assoc (events_of steps) (e ∷ []) more)) (heard_as (e ∷ more) same)) in
              let fine = goes.ahead all_taken e first in
              let clash : false ≡ true = ap is_some (sym fine) ∙ stands.1 in
              absurd cc

      -- the operation has ended, or more may stand
      pub at_rest : talked.trouble ≡ None → given ≡ client_bytes ask (events_in taken) → CanEach CanWrite (client_sent ask (events_in taken)) → ended_by ask taken ≡ None → More (state_after site (opening Little) steps) (marks_of steps) (client_told ask (events_in taken))
      at_rest none said_all_ written_all unended = by (goes.rests all_taken heard_count)
        where
          stands_so : Stands site (state_after site (opening Little) steps) talked.whole.remaining (left_from 0 None given) None
          stands_so = subst (λ (o : Option Ended). Stands site (state_after site (opening Little) steps) talked.whole.remaining (left_from 0 None given) o) none talked.whole.stands

          nothing_remains : talked.whole.remaining ≡ []
          nothing_remains = all_of site (state_after site (opening Little) steps) talked.whole.remaining (left_from 0 None given) stands_so

          -- what the client gave has no header that is refused either
          sent_well : result_err (left_from 0 None given) ≡ None
          sent_well = none_refused (left_from 0 None given) (subst (λ (es : List Event). Stands site (state_after site (opening Little) steps) es (left_from 0 None given) None) nothing_remains stands_so)

          heard_count : length (events_of steps) ≡ length (client_sent ask (events_in taken))
          heard_count =
              ap (λ (es : List Event). length es)
              (talked.whole.dialogue.talk.events_are ∙ sym (append-nil talked.whole.events) ∙ ap (λ (es : List Event). talked.whole.events ++ es) (sym nothing_remains) ∙ sym talked.whole.all)
              ∙ sent_counted (client_sent ask (events_in taken)) given said_all_ written_all (sent_small ask (events_in taken)) sent_well

          by : Rests ask site More (state_after site (opening Little) steps) (marks_of steps) (client_told ask (events_in taken)) (client_fault ask (events_in taken)) → More (state_after site (opening Little) steps) (marks_of steps) (client_told ask (events_in taken))
          by (inl ended) = absurd (let clash : None ≡ Some ended.0 = sym unended ∙ ended.1 in cc)
          by (inr (inl wrong)) = absurd (wrong faultless)
          by (inr (inr more)) = more

-- all that was said was taken
abbrev talked_of : (site : SiteData) (given taken : List ℕ) (log : List Mark) (trouble : Option Ended) → Whole site Little given log taken trouble → HasTalked site given taken log
talked_of site given taken log trouble whole = record { out = taken; trouble = trouble; whole = whole; sent = record { rest = []; whole = sym (append-nil taken) } }

-- What may stand beside an end is a monitor that goes on.
abbrev Finishes : Ask → SiteData → Standing → Type 0
Finishes ask site More = (steps : List Step) (endings : List Mark) (seat : ℕ) (h : History) → IsDrained site (opening Little) steps → AllHold seat h [] (marks_of steps ++ endings) → (told : List Told)
    → More (state_after site (opening Little) steps) (marks_of steps) told → updates_in (marks_of steps ++ endings) ≡ updates_in (marks_of steps) → HasMore ask.operation told

module _ (ask : Ask) (idle piece turns : ℕ) (told : Option Moment) (base : Base) (last : Seat) (start now : Option (List ℕ)) (before after : ℕ) (More : Standing) (own : OwnGo ask base.site More) (finishes : Finishes ask base.site More) where
  module _ (given taken : List ℕ) (log : List Mark) (adds : Adds (first_seat base) last log) (begins : Begins ask taken given) (words : (text : PutText) → client_fault ask (events_in taken) ≡ Some (faults.Words text) → ⊥) where
    more_at : IsQuiet ask base.site given taken log → HasNoFault ask taken → ended_by ask taken ≡ None → HasMore ask.operation (client_told ask (events_in taken))
    more_at q sound unended =
        let talked = talked_of base.site given taken log None q.whole in
        let d = q.whole.dialogue in
        finishes d.talk.steps d.endings last.number last.seen q.drained
        (subst (AllHold last.number last.seen []) (sym (log_is ask base.site given taken log talked begins)) adds.true_)
        (client_told ask (events_in taken))
        (at_rest ask base.site More own given taken log begins words talked refl sound.headers refl q.said q.written unended)
        (ap updates_in (log_is ask base.site given taken log talked begins) ∙ updates_are ask base.site given taken log talked begins)

    stopped_so : (talked : HasTalked base.site given taken log) → (fault : ClientFault) → client_fault ask (events_in taken) ≡ Some fault → ⊥
    stopped_so talked fault is = let clash : None ≡ Some fault = sym (faultless ask base.site More own given taken log begins words talked) ∙ is in absurd cc

    refused_so : (talked : HasTalked base.site given taken log) → AreShort base.site (opening Little) talked.whole.dialogue.talk.steps → (fault : FrameFault) → result_err (left_from 0 None taken) ≡ Some fault → ⊥
    refused_so talked few fault is = let clash : None ≡ Some fault = sym (said_well ask base.site More own given taken log begins words talked few) ∙ is in absurd cc

    closed_so : AtClosing ask base.site start now before after given taken log → CanEach IsShort (client_sent ask (events_in taken)) → ⊥
    closed_so c few =
        no_trouble ask base.site More own given taken log begins words (talked_of base.site given taken log (Some c.trouble) c.whole) refl c.sound.headers (given_sound ask given taken begins few) c.trouble refl

    spent_so : (turns ≤ length given + length taken) ⊎ (IsQuiet ask base.site given taken log × (turns < length given + length taken + idle)) → HasNoFault ask taken → length given + length taken < turns → ended_by ask taken ≡ None
        → HasMore ask.operation (client_told ask (events_in taken))
    spent_so (inl spent) sound enough unended = absurd (omega (arith, spent, enough))
    spent_so (inr (quiet, few)) sound enough unended = more_at quiet sound unended

  completes_so : (end : End) (x : Exchanged ask idle piece turns told (first_seat base) last start now before after end) → IsFaultless ask idle piece turns told base last start now before after end x → IsCompleted ask x.taken end
  completes_so (ends.Told ending) x f = tt
  completes_so (ends.Stopped stops.NoMemory) x f = tt
  completes_so (ends.Stopped stops.Sink) x f = absurd f.printed
  completes_so (ends.Stopped (stops.Client faults.NoMemory)) x f = tt
  completes_so (ends.Stopped (stops.Client fault)) x f = absurd (stopped_so x.given x.taken x.log x.adds x.begins f.words x.cause.talked fault x.cause.stopped.stopped.1)
  completes_so (ends.Stopped (stops.Frame fault)) x f = absurd (refused_so x.given x.taken x.log x.adds x.begins f.words x.cause.talked f.clear fault x.cause.stopped.refused)
  completes_so ends.Closed x f = absurd (closed_so x.given x.taken x.log x.adds x.begins f.words x.cause f.clear)
  completes_so ends.Idle x f = more_at x.given x.taken x.log x.adds x.begins f.words x.cause.quiet x.cause.sound x.cause.unended
  completes_so ends.Spent x f = spent_so x.given x.taken x.log x.adds x.begins f.words x.cause.bound x.cause.sound f.rounds x.cause.unended

-- By the operation.

nothing_more : (ask : Ask) (site : SiteData) → Finishes ask site Nothing
nothing_more ask site xs endings seat h drained true_ told more same = absurd more

monitor_more : (ask : Ask) (site : SiteData) → Finishes ask site (MonitorMore ask)
monitor_more ask site xs endings seat h drained true_ told (inl more) same = more
monitor_more ask site xs endings seat h drained true_ told (inr starved) same = absurd (not_starved site (opening Little) xs endings seat h drained true_ (same ∙ starved.1) starved.0)

module _ (ask : Ask) (site : SiteData) (More : Standing) where
  -- the turns of an operation
  by_turns : (ts : List Turn) → own_turns ask.operation ≡ ts
      → ((channel : Channel) (c : State) (s : server.State) → Opened c s channel → c.left ≡ updates_of ask.operation → AllGo ask site More (next ask c ts).state s (written_of (next ask c ts))) → OwnGo ask site More
  by_turns ts is go channel named_ c s opened left_ = subst (λ (us : List Turn). AllGo ask site More (next ask c us).state s (written_of (next ask c us))) (sym is) (go channel c s opened left_)

pub exchanges_complete : ExchangesComplete
exchanges_complete ask idle piece turns told base last start now before after end x range f = by ask.operation refl
  where
    by : (op : Operation) → ask.operation ≡ op → IsCompleted ask x.taken end
    by operation.Get is =
        completes_so ask idle piece turns told base last start now before after Nothing
        (by_turns ask base.site Nothing (turn.BeginGet ∷ turn.Get ∷ []) (ap own_turns is)
        (λ channel c s opened left_. let t = next ask c (turn.BeginGet ∷ turn.Get ∷ []) in get_turns ask base.site channel t.state s t.state.order t.state.segment refl refl (record { now = opened.now; there = opened.there; none = opened.none })))
        (nothing_more ask base.site) end x f
    by (operation.Put words) is =
        completes_so ask idle piece turns told base last start now before after Nothing
        (by_turns ask base.site Nothing (turn.BeginPut ∷ turn.ReadBack ∷ turn.Put ∷ []) (ap own_turns is)
        (λ channel c s opened left_.
        let t = next ask c (turn.BeginPut ∷ turn.ReadBack ∷ turn.Put ∷ []) in
        subst (λ (n : ℕ). AllGo ask base.site Nothing t.state s (written t.state.order t.state.segment (said (requests.put c.sid n 0x08 (put_request ask) absent)) ∷ [])) (sym (ap put_id is))
        (put_turns ask base.site channel (ap put_id is) t.state s t.state.order t.state.segment refl (ap Some (ap put_id is)) (record { now = opened.now; there = opened.there; none = opened.none }))))
        (nothing_more ask base.site) end x f
    by (operation.PutGet words) is =
        completes_so ask idle piece turns told base last start now before after Nothing
        (by_turns ask base.site Nothing (turn.BeginPut ∷ turn.ReadBack ∷ turn.BeginPutGet ∷ turn.PutGet ∷ []) (ap own_turns is)
        (λ channel c s opened left_.
        let t = next ask c (turn.BeginPut ∷ turn.ReadBack ∷ turn.BeginPutGet ∷ turn.PutGet ∷ []) in
        subst (λ (n : ℕ). AllGo ask base.site Nothing t.state s (written t.state.order t.state.segment (said (requests.put c.sid n 0x08 (put_request ask) absent)) ∷ [])) (sym (ap put_id is))
        (put_get_turns ask base.site channel (ap put_id is) t.state s t.state.order t.state.segment refl (ap Some (ap put_id is)) (record { now = opened.now; there = opened.there; none = opened.none }))))
        (nothing_more ask base.site) end x f
    by (operation.Monitor queue window count) is =
        let v = Some (request (codes "field") (selected ask.fields.items) (monitor_options queue window)) in
        completes_so ask idle piece turns told base last start now before after (MonitorMore ask)
        (by_turns ask base.site (MonitorMore ask) (turn.BeginMonitor ∷ turn.Updates ∷ []) (ap own_turns is)
        (λ channel c s opened left_.
        let t = next ask c (turn.BeginMonitor ∷ turn.Updates ∷ []) in
        subst (λ (ms : List Request). AllGo ask base.site (MonitorMore ask) t.state s (map (written t.state.order t.state.segment) (map said ms))) (sym (ap (monitor_beginning ask.fields.items c.sid) is))
        (monitor_turns ask base.site channel queue count window is (subst HasWindow is range) v t.state s t.state.order t.state.segment refl refl (left_ ∙ ap updates_of is) (record { now = opened.now; there = opened.there; none = opened.none }))))
        (monitor_more ask base.site) end x f
    by operation.Info is =
        completes_so ask idle piece turns told base last start now before after Nothing
        (by_turns ask base.site Nothing (turn.Field ∷ []) (ap own_turns is)
        (λ channel c s opened left_. let t = next ask c (turn.Field ∷ []) in info_turn ask base.site channel t.state s t.state.order t.state.segment refl refl (record { now = opened.now; there = opened.there; none = opened.none })))
        (nothing_more ask base.site) end x f
    by (operation.Call name) is =
        completes_so ask idle piece turns told base last start now before after Nothing
        (by_turns ask base.site Nothing (turn.BeginCall ∷ turn.Call ∷ []) (ap own_turns is)
        (λ channel c s opened left_. let t = next ask c (turn.BeginCall ∷ turn.Call ∷ []) in call_turns ask base.site channel name is t.state s t.state.order t.state.segment refl refl (record { now = opened.now; there = opened.there; none = opened.none })))
        (nothing_more ask base.site) end x f

-- Of a run.

late_so : (ask : Ask) (old new : Outside) (code : Status) (bytes : List ℕ) → IsLate code → HasMore ask.operation (client_told ask (events_in bytes)) → HasPrinted old.printed new.printed old.print_faults new.print_faults (text_for ask bytes)
    → IsUsual code ⊎ GoesOn ask (Some bytes) old new code
late_so ask old new code bytes late more printed = inr (record { late = late; bytes = bytes; taken_is = refl; more = more; printed = printed })

-- the window that words ask for is one that may be asked for

window_in_range : (text : Option Text) (window : Option ℕ) → IsCountIf text window → IsInRange window
window_in_range None None is = tt
window_in_range (Some text) (Some first) is = (is.least_is, is.most_is)
window_in_range None (Some first) is = absurd is
window_in_range (Some text) None is = absurd is

operation_in_range : (rows : List Row) (verb : Verb) (values : List Text) (n : Numbers) (op : Operation) → AreNumbers rows n → IsOperation verb values n op → HasWindow op
operation_in_range rows verbs.Get values n operation.Get numbers is = tt
operation_in_range rows verbs.Put values n (operation.Put words) numbers is = tt
operation_in_range rows verbs.PutGet values n (operation.PutGet words) numbers is = tt
operation_in_range rows verbs.Monitor values n (operation.Monitor queue window count) numbers is = subst IsInRange (sym is.1) (window_in_range (given rows (codes "pipeline")) n.window numbers.window_is)
operation_in_range rows verbs.Info values n operation.Info numbers is = tt
operation_in_range rows verbs.Call values n (operation.Call name) numbers is = tt
operation_in_range rows verb values n op numbers is = absurd is

asked_in_range : (words : List Text) (asked : Asked) → AreTaken words asked → HasWindow asked.ask.operation
asked_in_range words asked taken =
    let a = taken.asks.ask_is in
    operation_in_range (word_rows words) a.verb (values_in (word_rows words)) a.numbers asked.ask.operation a.numbers_are a.operation_is

module _ (asked : Asked) (range : HasWindow asked.ask.operation) (site : SiteData) (told : Option (ℤ × ℕ)) (old new : Outside) (code : Status) where
  abbrev base : Base
  base = record { site = site; limit = journal }

  abbrev ExchangedSo : Seat → End → Type 0
  ExchangedSo seat end = Exchanged asked.ask asked.idle asked.piece asked.turns (moment_told told) (first_seat base) seat old.printed new.printed old.print_faults new.print_faults end

  ends_by : (seat : Seat) (end : End) (x : ExchangedSo seat end) → code ≡ status_of end → IsPrinted end → IsCompleted asked.ask x.taken end → IsUsual code ⊎ GoesOn asked.ask (Some x.taken) old new code
  ends_by seat (ends.Told endings.Finished) x is printed ends_ = inl (subst IsUsual (sym is) tt)
  ends_by seat (ends.Told endings.Refused) x is printed ends_ = inl (subst IsUsual (sym is) tt)
  ends_by seat (ends.Stopped stops.NoMemory) x is printed ends_ = inl (subst IsUsual (sym is) tt)
  ends_by seat (ends.Stopped (stops.Client faults.NoMemory)) x is printed ends_ = inl (subst IsUsual (sym is) tt)
  ends_by seat (ends.Stopped (stops.Client fault)) x is printed ends_ = absurd ends_
  ends_by seat (ends.Stopped (stops.Frame fault)) x is printed ends_ = absurd ends_
  ends_by seat (ends.Stopped stops.Sink) x is printed ends_ = absurd printed
  ends_by seat ends.Closed x is printed ends_ = absurd ends_
  ends_by seat ends.Idle x is printed ends_ = late_so asked.ask old new code x.taken (subst IsLate (sym is) tt) ends_ x.cause.printed
  ends_by seat ends.Spent x is printed ends_ = late_so asked.ask old new code x.taken (subst IsLate (sym is) tt) ends_ x.cause.printed

  site_ends : (runs : SiteRuns asked.ask (limits_of asked) site told old.ports new.ports old.printed new.printed old.print_faults new.print_faults code) → (Rose old.ports.faults new.ports.faults → ⊥)
      → IsSiteFaultless asked.ask (limits_of asked) site told old.ports new.ports old.printed new.printed old.print_faults new.print_faults code runs
      → IsUsual code ⊎ GoesOn asked.ask (taken_at asked.ask (limits_of asked) site told old.ports new.ports old.printed new.printed old.print_faults new.print_faults code runs) old new code
  site_ends (inl run) ports f =
      ends_by run.ran.seat run.end run.ran.exchanged run.status_is f.printed
      (exchanges_complete asked.ask asked.idle asked.piece asked.turns (moment_told told) base run.ran.seat old.printed new.printed old.print_faults new.print_faults run.end run.ran.exchanged range f)
  site_ends (inr (inl unmade)) ports f = absurd (ports unmade.unmade.faults)
  site_ends (inr (inr unrun)) ports f = inl (subst IsUsual (sym unrun.status_is) tt)

-- a file that can't be read is a fault
no_fault_read : (macros : Macros) (source : Source) (old new : FilesView) → (Rose old.faults new.faults → ⊥) → Opens macros source old new (Err sources.Unread) → ⊥
no_fault_read macros (single name value) old new none is = is
no_fault_read macros (file name) old new none is = none is.faults

done_ends : (asked : Asked) (range : HasWindow asked.ask.operation) (found : Result SiteData SourceStop) (told : Option (ℤ × ℕ)) (old new : Outside) (code : Status) → (Rose old.files.faults new.files.faults → ⊥) → (Rose old.ports.faults new.ports.faults → ⊥)
    → Opens asked.macros asked.source old.files new.files found → (does : Does asked found told old new code) → IsDoneFaultless asked found told old new code does → IsUsual code ⊎ GoesOn asked.ask (taken_by asked found told old new code does) old new code
done_ends asked range (Ok site) told old new code files ports opens does f = site_ends asked range site told old new code does ports f
done_ends asked range (Err sources.Unread) told old new code files ports opens does f = absurd (no_fault_read asked.macros asked.source old.files new.files files opens)
done_ends asked range (Err (sources.Fault fault)) told old new code files ports opens does f = inl (subst IsUsual (sym does.status_is) tt)
done_ends asked range (Err sources.NoMemory) told old new code files ports opens does f = inl (subst IsUsual (sym does.status_is) tt)

pub runs_complete : RunsComplete
runs_complete words told old new code run f = done_ends run.asked (asked_in_range words run.asked run.taken) run.done.found told old new code f.files f.ports run.done.opens run.done.does f.exchange
