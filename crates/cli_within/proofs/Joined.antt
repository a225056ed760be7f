-- From the bytes that passed to what is printed.
use Rattle.std.proofs.Common.{◌≡◌, ℕ, ◌-◌, ◌<◌, ◌≤◌, Bool, true, false, cond, List, [], ◌∷◌, ◌++◌, Option, None, Some, inl, inr, refl, sym, ap, subst, ◌∙◌, arith, append_assoc, length-append, ltb-false}
use Rattle.std.proofs.lemmas.List.{append-nil}
use Rattle.std.specs.Prelude.{codes, nat_lt}
use lib.Utf8.{encode}
use Rattle.std.specs.List.{flat_map}
use Rattle.pva_wire.specs.declared.order.Order.{Order}
use Rattle.pva_wire.specs.declared.order.Order.TheVariants.{Little}
use Rattle.pva_wire.specs.Spelling.{number_bytes}
use Rattle.pva_wire.proofs.Digits.{number_len}
use Rattle.std.specs.Result.{result_err}
use Rattle.pva_frames.specs.Messages.{limit, left_from}
use Rattle.pva_frames.specs.declared.event.Event.{Event}
use Rattle.pvd_codec.specs.Written.{CanEach}
use Rattle.histories.specs.History.{IsPrefixOf}
use Rattle.desk_api.specs.Sites.{channel_named}
use Rattle.desk_api.specs.Types.{type_of}
use Rattle.desk_api.specs.declared.channel.Channel.{Channel}
use Rattle.desk_api.specs.declared.history.SiteData.{SiteData}
use Rattle.desk_api.specs.declared.mark.Mark.{Mark}
use Rattle.desk_api.specs.declared.mark.Mark.TheVariants.{Popped}
use Rattle.srv_session.specs.Replies as replies
use Rattle.srv_session.specs.Replies.{greetings}
use Rattle.srv_session.specs.Rows.{after_task}
use Rattle.srv_session.specs.State.{State, opening, segment_for, slots_of}
use Rattle.srv_session.specs.Steps.{Step, hears, pops, AreSteps, EventPart, NextPart, PopPart, sent_in, after_step, after_hearing, after_part, after_pop, knowing, events_of, marks_of, out_of, state_after}
use Rattle.srv_session.proofs.Steps.{events_append, marks_append}
use Rattle.srv_session.specs.Tasks.{Task, Hearing, asks, unreadable, over_range, heard, validate}
use Rattle.cli_session.specs.Laws.{IsShort}
use Rattle.cli_session.specs.Messages.{Written}
use Rattle.cli_session.specs.Steps.{client_sent, client_told}
use Rattle.cli_session.specs.State as client
use Rattle.cli_session.specs.Text.{told_text}
use Rattle.cli_session.specs.declared.ask.Ask.{Ask}
use Rattle.cli_within.specs.Answers.{answer_text, updates_in, channel_text}
use Rattle.cli_within.specs.Clear.{IsShortIn, AreShort, EndsAsTold}
use Rattle.cli_within.specs.Ends.{events_in, text_for, Begins}
use Rattle.cli_within.specs.Exchanging.{AtShort, HasTalked}
use Rattle.cli_within.specs.Updates.{AreUpdatesTold}
use Rattle.cli_within.proofs.Broken.{AreMade, IsBroken, all_made, made_behind}
use Rattle.cli_within.proofs.ClientTurns.{AreUpdatesIf, Expected, only, Tells}
use Rattle.cli_within.proofs.Creations.{GoesSo, GoesSoText, validation_next, creation_next}
use Rattle.cli_within.proofs.Dropping.{told_before, popped_before}
use Rattle.cli_within.proofs.Growing.{sent_grows}
use Rattle.cli_within.proofs.Segments.{sent_small}
use Rattle.cli_within.proofs.Monitors.{monitor_told, updates_for}
use Rattle.cli_within.proofs.Openings.{validating, greeting_first}
use Rattle.cli_within.proofs.Said.{AreRequests, AreReplies, Spoken, speak, spoken, spoken_bytes, spoken_append, speak_bytes, out_is_spoken, IsSpokenClear, IsSpokenShort, requests_front, requests_more, sent_read, sent_sound, said_read}

-- A session's segments are never empty, and shorter than a payload may be.

abbrev IsModerate : ℕ → Type 0
IsModerate segment = (0 < segment) × (segment ≤ limit)

enough : (a b : Bool) (size : ℕ) → (a ≡ false → 1024 ≤ size) → (b ≡ false → size ≤ 65536) → IsModerate (cond a 1024 (cond b 65536 size) - 8)
enough true b size h k = (omega arith, omega arith)
enough false true size h k = (omega arith, omega arith)
enough false false size h k = let more = h refl in let few = k refl in (omega (arith, more), omega (arith, few))

pub segment_moderate : (size : ℕ) → IsModerate (segment_for size)
segment_moderate size = enough (nat_lt size 1024) (nat_lt 65536 size) size (λ e. ltb-false size 1024 e) (λ e. ltb-false 65536 size e)

task_moderate : (site : SiteData) (s : State) (task : Task) (marks : List Mark) → IsModerate s.segment → IsModerate (after_task site s task marks).segment
task_moderate site s (validate buffer registry user host) marks is = segment_moderate buffer
task_moderate site s task marks is = is

hearing_moderate : (site : SiteData) (s : State) (hearing : Hearing) (marks : List Mark) → IsModerate s.segment → IsModerate (after_hearing site s hearing marks).segment
hearing_moderate site s (asks task types) marks is = task_moderate site (knowing s types) task marks is
hearing_moderate site s (unreadable fault) marks is = is
hearing_moderate site s over_range marks is = is

pop_moderate : (s : State) (req : ℕ) (marks : List Mark) → IsModerate s.segment → IsModerate (after_pop s req marks).segment
pop_moderate s req [] is = is
pop_moderate s req (Popped place slot (Some update) ∷ []) is = is
pop_moderate s req (Popped place slot (Some update) ∷ m ∷ ms) is = is
pop_moderate s req (Popped place slot None ∷ ms) is = is
pop_moderate s req (m ∷ ms) is = is

step_moderate : (site : SiteData) (s : State) (x : Step) → IsModerate s.segment → IsModerate (after_step site s x).segment
step_moderate site s (hears e marks sent) is = hearing_moderate site s (heard site s e) marks is
step_moderate site s (pops req marks sent) is = pop_moderate s req marks is

pub speak_clear : (order : Order) (segment : ℕ) (xs : List replies.Sent) (more : List Spoken) → IsModerate segment → CanEach replies.IsSayable xs → CanEach IsSpokenClear more → CanEach IsSpokenClear (speak order segment xs ++ more)
speak_clear order segment [] more is can rest = rest
speak_clear order segment (x ∷ xs) more is can rest = ((is.0, is.1, can.0), speak_clear order segment xs more is can.1 rest)

-- all that the steps of a session send has a spelling
pub spoken_clear : (site : SiteData) (s : State) (steps : List Step) → IsModerate s.segment → AreSteps site s steps → CanEach IsSpokenClear (spoken site s steps)
spoken_clear site s [] is rules = tt
spoken_clear site s (x ∷ xs) is rules =
    speak_clear s.order s.segment (sent_in x) (spoken site (after_step site s x) xs) is rules.0.1 (spoken_clear site (after_step site s x) xs (step_moderate site s x is) rules.1)

-- and so has the greeting
pub greeting_sayable : CanEach replies.IsSayable greetings
unfolding encode
greeting_sayable = (
  omega arith,
  (
    (
      (tt, (tt, (tt, (tt, tt))), (omega arith, (omega arith, ((omega arith, (((codes "anonymous", (refl, refl)), omega arith), (((codes "ca", (refl, refl)), omega arith), tt))), tt)))),
      tt,
    ),
    tt,
  ),
)

-- what the server reads of the bytes that it was given
pub given_heard : (ask : Ask) (given taken : List ℕ) → Begins ask taken given → AreRequests (events_in given) (client_sent ask (events_in taken))
given_heard ask given taken begins_ =
    let first = client_sent ask begins_.heard in
    let grown = sent_grows ask begins_.heard begins_.later in
    let read = requests_more (events_in given) first grown.0 (sent_read first given begins_.front begins_.written (sent_small ask begins_.heard)) in
    subst (AreRequests (events_in given)) (sym grown.1 ∙ ap (client_sent ask) (sym begins_.all)) read

-- what a server says first
abbrev greeted : List Spoken
greeted = speak Little (segment_for 65536) greetings

-- what it says in these steps is this
out_spoken : (site : SiteData) (steps : List Step) (out : List ℕ) → replies.greeting Little ++ out_of site (opening Little) steps ≡ out → spoken_bytes (greeted ++ spoken site (opening Little) steps) ≡ out
out_spoken site steps out is =
    spoken_append greeted (spoken site (opening Little) steps)
    ∙ (λ i. sym (speak_bytes Little (segment_for 65536) greetings) i ++ sym (out_is_spoken site (opening Little) steps) i)
    ∙ is

-- what a client reads of a front of it
front_told : (site : SiteData) (steps : List Step) (out taken : List ℕ) → AreSteps site (opening Little) steps → replies.greeting Little ++ out_of site (opening Little) steps ≡ out → IsPrefixOf taken out
    → AreReplies (events_in taken) (greeted ++ spoken site (opening Little) steps)
front_told site steps out taken rules is sent =
    said_read (greeted ++ spoken site (opening Little) steps) taken (record { rest = sent.rest; whole = out_spoken site steps out is ∙ sent.whole })
    (speak_clear Little (segment_for 65536) greetings (spoken site (opening Little) steps) (segment_moderate 65536) greeting_sayable (spoken_clear site (opening Little) steps (segment_moderate 65536) rules))

-- Where the turns of an operation go so, this is told of these steps, the last of which may have broken off.
told_so : (ask : Ask) (site : SiteData) (taken : List ℕ) (steps : List Step) → AreMade site (opening Little) steps → AreRequests (events_of steps) (client_sent ask (events_in taken)) → AreReplies (events_in taken) (greeted ++ spoken site (opening Little) steps)
    → (x : List Mark → Expected) → (channel_named site ask.name ≡ None → (ms : List Mark) → (x ms).text ≡ []) → GoesSo ask site x → Tells ask (client.opening ask) (events_in taken) (x (marks_of steps))
told_so ask site taken steps made heard_ told_ x nothing goes =
    greeting_first ask site (x (marks_of steps)) steps (events_in taken) made heard_ told_
    (λ later stand. validation_next ask site x (validating ask site).state (opening Little) (validating ask site).state.order (validating ask site).state.segment steps later refl refl refl refl stand (creation_next ask site x nothing goes))

module _ (ask : Ask) (site : SiteData) (given taken : List ℕ) (log : List Mark) (talked : HasTalked site given taken log) (begins_ : Begins ask taken given) where
  abbrev steps : List Step
  steps = talked.whole.dialogue.talk.steps

  abbrev pub hello : List Spoken
  hello = speak Little (segment_for 65536) greetings

  abbrev text : List Mark → List ℕ
  text marks = channel_text site marks ask (channel_named site ask.name)

  -- what the server reads of the bytes that it was given
  pub given_read : AreRequests (events_in given) (client_sent ask (events_in taken))
  given_read = given_heard ask given taken begins_

  pub all_heard : AreRequests (events_of steps) (client_sent ask (events_in taken))
  all_heard =
      let cut = requests_front talked.whole.events talked.whole.remaining (client_sent ask (events_in taken)) (subst (λ (es : List Event). AreRequests es (client_sent ask (events_in taken))) talked.whole.all given_read) in
      subst (λ (es : List Event). AreRequests es (client_sent ask (events_in taken))) (sym talked.whole.dialogue.talk.events_are) cut

  pub out_is : spoken_bytes (hello ++ spoken site (opening Little) steps) ≡ talked.out
  out_is = out_spoken site steps talked.out talked.whole.dialogue.talk.out_is

  pub all_told : AreReplies (events_in taken) (hello ++ spoken site (opening Little) steps)
  all_told = front_told site steps talked.out taken talked.whole.dialogue.talk.rules talked.whole.dialogue.talk.out_is talked.sent

  told_by_steps : (x : List Mark → Expected) → (channel_named site ask.name ≡ None → (ms : List Mark) → (x ms).text ≡ []) → GoesSo ask site x → Tells ask (client.opening ask) (events_in taken) (x (marks_of steps))
  told_by_steps x nothing goes = told_so ask site taken steps (all_made site (opening Little) steps talked.whole.dialogue.talk.rules) all_heard all_told x nothing goes

  pub log_is : marks_of steps ++ talked.whole.dialogue.endings ≡ log
  log_is = ap (λ (ms : List Mark). ms ++ talked.whole.dialogue.endings) talked.whole.dialogue.talk.marks_are ∙ talked.whole.dialogue.marks_are

  text_is : text log ≡ text (marks_of steps)
  text_is =
      ap text (sym log_is)
      ∙ told_before ask site (slots_of (state_after site (opening Little) steps).requests) (marks_of steps) talked.whole.dialogue.endings (channel_named site ask.name) talked.whole.dialogue.ends

  pub updates_are : updates_in log ≡ updates_in (marks_of steps)
  updates_are =
      ap updates_in (sym log_is)
      ∙ popped_before (slots_of (state_after site (opening Little) steps).requests) (marks_of steps) talked.whole.dialogue.endings talked.whole.dialogue.ends

-- Where the turns of an operation go so, what is printed is what the marks tell.
pub ends_as_told : (ask : Ask) → ((site : SiteData) → GoesSoText ask site (λ marks. channel_text site marks ask (channel_named site ask.name))) → EndsAsTold ask
ends_as_told ask goes site given taken log talked begins_ =
    let nothing : channel_named site ask.name ≡ None → (ms : List Mark) → channel_text site ms ask (channel_named site ask.name) ≡ [] = λ none ms. ap (channel_text site ms ask) none in
    let tells = told_by_steps ask site given taken log talked begins_ (λ ms. only (channel_text site ms ask (channel_named site ask.name))) nothing (goes site) in
    let same = ap (λ (xs : List ℕ). (ask.name ++ 10 ∷ []) ++ xs) (sym (text_is ask site given taken log talked begins_)) in
    record {
      whole = λ ending ended. ap (λ (xs : List ℕ). (ask.name ++ 10 ∷ []) ++ xs) (tells.whole ending ended) ∙ same;
      front = record {
        rest = tells.front.rest;
        whole =
            sym same ∙ ap (λ (xs : List ℕ). (ask.name ++ 10 ∷ []) ++ xs) tells.front.whole
            ∙ sym (append_assoc (ask.name ++ 10 ∷ []) (flat_map told_text (client_told ask (events_in taken))) tells.front.rest);
      };
    }

-- The same where memory ran out: of a front of what the steps said, whose last one broke off with these marks.

spoken_behind : (site : SiteData) (s : State) (steps : List Step) (last : Step) → sent_in last ≡ [] → spoken site s (steps ++ last ∷ []) ≡ spoken site s steps
spoken_behind site s [] last silent = ap (λ (xs : List replies.Sent). speak s.order s.segment xs ++ []) silent
spoken_behind site s (x ∷ xs) last silent = ap (λ (more : List Spoken). speak s.order s.segment (sent_in x) ++ more) (spoken_behind site (after_step site s x) xs last silent)

module _ (ask : Ask) (goes : (site : SiteData) → GoesSoText ask site (λ marks. channel_text site marks ask (channel_named site ask.name))) (site : SiteData) (start now : Option (List ℕ)) (before after : ℕ) (given taken : List ℕ) (log : List Mark)
    (short_ : AtShort ask site start now before after given taken log) (begins_ : Begins ask taken given) where
  abbrev made_steps : List Step
  made_steps = short_.talk.steps

  abbrev lines : List ℕ
  lines = flat_map told_text (client_told ask (events_in taken))

  abbrev text_by : List Mark → List ℕ
  text_by marks = channel_text site marks ask (channel_named site ask.name)

  abbrev Fronts : List Mark → Type 0
  Fronts marks = IsPrefixOf lines (text_by marks)

  heard_all : AreRequests (events_of made_steps ++ short_.later) (client_sent ask (events_in taken))
  heard_all =
      subst (λ (es : List Event). AreRequests es (client_sent ask (events_in taken)))
      (short_.all ∙ ap (λ (es : List Event). es ++ short_.later) (sym short_.talk.events_are))
      (given_heard ask given taken begins_)

  told_all : AreReplies (events_in taken) (greeted ++ spoken site (opening Little) made_steps)
  told_all = front_told site made_steps short_.out taken short_.talk.rules short_.talk.out_is short_.sent

  nothing_named : channel_named site ask.name ≡ None → (ms : List Mark) → text_by ms ≡ []
  nothing_named none ms = ap (channel_text site ms ask) none

  -- of these steps it is so
  fronts_of : (steps : List Step) → AreMade site (opening Little) steps → AreRequests (events_of steps) (client_sent ask (events_in taken)) → spoken site (opening Little) steps ≡ spoken site (opening Little) made_steps → Fronts (marks_of steps)
  fronts_of steps made heard_ same =
      let told_ = subst (λ (xs : List Spoken). AreReplies (events_in taken) (greeted ++ xs)) (sym same) told_all in
      let tells = told_so ask site taken steps made heard_ told_ (λ ms. only (text_by ms)) nothing_named (goes site) in
      tells.front

  abbrev there : State
  there = state_after site (opening Little) made_steps

  -- and of those with one that broke off
  fronts_behind : (last : Step) → IsBroken site there last → sent_in last ≡ [] → AreRequests (events_of (made_steps ++ last ∷ [])) (client_sent ask (events_in taken)) → marks_of (last ∷ []) ≡ short_.more → Fronts (short_.said ++ short_.more)
  fronts_behind last broken silent heard_ marks_are =
      subst Fronts (marks_append made_steps (last ∷ []) ∙ (λ i. short_.talk.marks_are i ++ marks_are i))
      (fronts_of (made_steps ++ last ∷ []) (made_behind site (opening Little) made_steps last short_.talk.rules broken) heard_ (spoken_behind site (opening Little) made_steps last silent))

  unbroken : short_.more ≡ [] → Fronts (short_.said ++ short_.more)
  unbroken none =
      subst Fronts (sym (append-nil (marks_of made_steps)) ∙ (λ i. short_.talk.marks_are i ++ sym none i))
      (fronts_of made_steps (all_made site (opening Little) made_steps short_.talk.rules) (requests_front (events_of made_steps) short_.later (client_sent ask (events_in taken)) heard_all) refl)

  by_event : (later : List Event) → short_.later ≡ later → EventPart site there later short_.more → Fronts (short_.said ++ short_.more)
  by_event [] same part = unbroken part
  by_event (e ∷ more) same part =
      let all = subst (λ (es : List Event). AreRequests (events_of made_steps ++ es) (client_sent ask (events_in taken))) same heard_all in
      let first = requests_front (events_of made_steps ++ e ∷ []) more (client_sent ask (events_in taken)) (subst (λ (es : List Event). AreRequests es (client_sent ask (events_in taken))) (sym (append_assoc (events_of made_steps) (e ∷ []) more)) all) in
      let last = hears e short_.more [] in
      fronts_behind last (refl, part) refl (subst (λ (es : List Event). AreRequests es (client_sent ask (events_in taken))) (sym (events_append made_steps (last ∷ []))) first) (append-nil short_.more)

  by_pop : PopPart there short_.more → Fronts (short_.said ++ short_.more)
  by_pop part =
      let last = pops part.0 short_.more [] in
      let front = requests_front (events_of made_steps) short_.later (client_sent ask (events_in taken)) heard_all in
      fronts_behind last (refl, part.1) refl
      (subst (λ (es : List Event). AreRequests es (client_sent ask (events_in taken))) (sym (events_append made_steps (last ∷ []) ∙ append-nil (events_of made_steps))) front) (append-nil short_.more)

  by_part : NextPart site there short_.later short_.more → Fronts (short_.said ++ short_.more)
  by_part (inl part) = by_event short_.later refl part
  by_part (inr part) = by_pop part

  -- what is printed is a front of what the marks tell
  pub short_as_told : IsPrefixOf (text_for ask taken) (answer_text ask site log)
  short_as_told =
      let front = by_part short_.part in
      let all : text_by log ≡ text_by (short_.said ++ short_.more) =
      ap text_by (sym short_.log_is)
      ∙ told_before ask site (slots_of (after_part site there short_.later short_.more).requests) (short_.said ++ short_.more) short_.endings (channel_named site ask.name) short_.ends in
      record {
        rest = front.rest;
        whole = ap (λ (xs : List ℕ). (ask.name ++ 10 ∷ []) ++ xs) (all ∙ front.whole) ∙ sym (append_assoc (ask.name ++ 10 ∷ []) lines front.rest);
      }

-- Where the turns of a monitor go so, its updates are told one after another.
pub updates_as_told : (ask : Ask) (site : SiteData) (channel : Channel) → channel_named site ask.name ≡ Some channel → GoesSo ask site (monitor_told ask site) → (given taken : List ℕ) (log : List Mark) (talked : HasTalked site given taken log)
    → Begins ask taken given → AreUpdatesTold (type_of site channel) (client_told ask (events_in taken)) (updates_in log)
updates_as_told ask site channel is goes given taken log talked begins_ =
    let nothing : channel_named site ask.name ≡ None → (ms : List Mark) → channel_text site ms ask (channel_named site ask.name) ≡ [] = λ none ms. ap (channel_text site ms ask) none in
    let marks = marks_of talked.whole.dialogue.talk.steps in
    let tells = told_by_steps ask site given taken log talked begins_ (monitor_told ask site) nothing goes in
    let here = subst (AreUpdatesIf (client_told ask (events_in taken))) (ap (updates_for site marks) is) tells.updates in
    subst (AreUpdatesTold (type_of site channel) (client_told ask (events_in taken))) (sym (updates_are ask site given taken log talked begins_)) here

-- None of its payloads is too long either.

pub speak_short : (order : Order) (segment : ℕ) (xs : List replies.Sent) (more : List Spoken) → CanEach (IsShortIn order) xs → CanEach IsSpokenShort more → CanEach IsSpokenShort (speak order segment xs ++ more)
speak_short order segment [] more few rest = rest
speak_short order segment (x ∷ xs) more few rest = (few.0, speak_short order segment xs more few.1 rest)

pub spoken_short : (site : SiteData) (s : State) (steps : List Step) → AreShort site s steps → CanEach IsSpokenShort (spoken site s steps)
spoken_short site s [] few = tt
spoken_short site s (x ∷ xs) few = speak_short s.order s.segment (sent_in x) (spoken site (after_step site s x) xs) few.0 (spoken_short site (after_step site s x) xs few.1)

pub greeting_short : CanEach (IsShortIn Little) greetings
greeting_short =
    let buffer = number_len Little 4 65536 in
    let registry = number_len Little 2 32767 in
    let sizes = length-append (number_bytes Little 4 65536) (number_bytes Little 2 32767 ++ (2 ∷ 9 ∷ codes "anonymous" ++ (2 ∷ codes "ca")) ++ []) in
    let texts = length-append (number_bytes Little 2 32767) ((2 ∷ 9 ∷ codes "anonymous" ++ (2 ∷ codes "ca")) ++ []) in
    (tt, (omega (arith, buffer, registry, sizes, texts), tt))

-- Of what the client has sent at some events, none is too long where none is of what it sends at more.
short_left : (xs ys : List Written) → CanEach IsShort (xs ++ ys) → CanEach IsShort xs
short_left [] ys few = tt
short_left (x ∷ xs) ys few = (few.0, short_left xs ys few.1)

-- no header of what the server was given is refused
pub given_sound : (ask : Ask) (given taken : List ℕ) → Begins ask taken given → CanEach IsShort (client_sent ask (events_in taken)) → result_err (left_from 0 None given) ≡ None
given_sound ask given taken begins_ few =
    let first = client_sent ask begins_.heard in
    let grown = sent_grows ask begins_.heard begins_.later in
    sent_sound first given begins_.front begins_.written
    (short_left first grown.0 (subst (CanEach IsShort) (ap (client_sent ask) begins_.all ∙ grown.1) few))
