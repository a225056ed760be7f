-- Bytes fed to a serving, piece by piece.
use Rattle.std.proofs.Common.{◌≡◌, ◌+◌, ℕ, ℤ, true, List, [], ◌∷◌, ◌++◌, length, take, Option, None, Some, Result, Ok, Err, refl, sym, ◌∙◌, ap, subst, append_assoc}
use Rattle.std.specs.Prelude.{IfSome, IfOk, OnErr}
use Rattle.std.proofs.lemmas.List.{append-nil}
use Rattle.std.proofs.lemmas.Option.{none-some}
use Rattle.pva_frames.proofs.Joins.{fed-join}
use Rattle.pva_frames.specs.Messages.{Unfinished}
use Rattle.pva_frames.specs.Assembled.{Assembled, fed, fed_on, Lends, TookPart}
use Rattle.pva_frames.specs.declared.event.Whole.{Whole}
use Rattle.pva_frames.specs.declared.event.Event.{Event}
use Rattle.pva_frames.specs.declared.event.Event.TheVariants.{Message}
use Rattle.pva_frames.specs.declared.fault.FrameFault.{FrameFault}
use Rattle.pvd_type.specs.declared.memory.NoMemory.{NoMemory}
use Rattle.desk_api.specs.Calls.{HaveMoment}
use Rattle.desk_api.specs.History.{IsLegal}
use Rattle.desk_api.specs.declared.history.Base.{Base}
use Rattle.desk_api.specs.declared.history.SiteData.{SiteData}
use Rattle.desk_api.specs.declared.mark.Mark.{Mark}
use Rattle.desk_api.specs.declared.mark.Mark.TheVariants.{Read, Entered, Overweight, Begun, Crowded, Popped, Dropped}
use Rattle.desk_api.specs.declared.mark.Seat.{Seat}
use Rattle.journal_core.specs.Moments.{Moment}
use Rattle.srv_session.specs.Calls.{Shown, site_of, Handled}
use Rattle.srv_session.specs.Calls.{AreLiving, Holds, IsOf}
use Rattle.srv_session.specs.State.{State, slots_of}
use Rattle.srv_session.specs.Steps.{Step, hears, state_after, events_of, marks_of}
use Rattle.srv_stream.specs.Streams.{moment_told, is_sound, refused, Stands, Follows, View, Passed, FedOn, FedUpTo, FedPart, FedErr, Feeds}
use Rattle.srv_stream.specs.declared.ended.Ended.{Ended}
use Rattle.srv_stream.specs.declared.ended.Ended.TheVariants as ends
use Rattle.srv_stream.proofs.Passing.{grown_on, grown, part_grows, left_grows, passed_nothing, passed_fed, fed_on_more, fed_err}
use Rattle.srv_stream.proofs.Resting.{sound_fed}
use Rattle.srv_session.proofs.Kept.{are_living, begin_free, holds_steps}
use Rattle.srv_session.proofs.Steps.{step_on_site, steps_on_site}

-- The session's channels stay the site's, and its subscriptions live.

pub passed_on_site : {old mid : Seat} {told : Option Moment} {v u : View} {xs : List ℕ} → Passed old mid told v u xs → IsOf old.seen.base.site v.state → IsOf mid.seen.base.site u.state
passed_on_site {old} {mid} {told} {v} {u} {xs} a ok =
    subst (λ (z : Base). IsOf z.site u.state) (sym a.adds.grows.base) (subst (IsOf old.seen.base.site) (sym a.state) (steps_on_site old.seen.base.site v.state a.steps ok))

pub handled_on_site : {old new : Shown} {moment : Moment} (e : Event) → Handled old new moment e → IsOf (site_of old) old.state → IsOf (site_of new) new.state
handled_on_site {old} {new} {moment} e x ok =
    let step : Step = hears e x.marks x.sent in
    subst (λ (z : Base). IsOf z.site new.state) (sym x.adds.grows.base) (subst (IsOf (site_of old)) (sym x.state) (step_on_site (site_of old) old.state step ok))

pub passed_holds : {old mid : Seat} {told : Option Moment} {v u : View} {xs : List ℕ} → Passed old mid told v u xs → Holds old.log v.state → Holds mid.log u.state
passed_holds {old} {mid} {told} {v} {u} {xs} a holds =
    subst (λ (l : List Mark). Holds l u.state) (sym a.adds.log)
    (subst (Holds (old.log ++ marks_of a.steps)) (sym a.state)
    (holds_steps old.seen.base.site v.state old.log a.steps holds a.rules (begin_free mid.seen mid.number old.log (marks_of a.steps) a.adds.true_)))

pub passed_living : {old mid : Seat} {told : Option Moment} {v u : View} {xs : List ℕ} → Passed old mid told v u xs → Holds old.log v.state → AreLiving mid.log (slots_of u.state.requests)
passed_living {old} {mid} {told} {v} {u} {xs} a holds = are_living mid.log u.state (passed_holds a holds)

-- What ended it ends it, whatever bytes follow.

refused_on : (stream : Assembled) (left : Result Unfinished FrameFault) (ended : Ended) (ys : List ℕ) → stream.left ≡ left → Some ended ≡ refused left → fed stream ys ≡ stream
refused_on stream (Ok left) ended ys is stands = absurd (none-some ended (sym stands))
refused_on stream (Err fault) ended ys is stands =
    ap (λ (l : Result Unfinished FrameFault). fed_on stream.events l ys) is
    ∙ ap (λ (l : Result Unfinished FrameFault). let a : Assembled = record { events = stream.events; left = l } in a) (sym is)

stands_on : (site : SiteData) (s : State) (before : List Event) (stream : Assembled) (ys : List ℕ) (remaining : List Event) (ended : Ended)
    → stream.events ≡ before ++ remaining → Stands site s remaining stream.left (Some ended)
    → (more : List Event) × (((fed stream ys).events ≡ before ++ more) × Stands site s more (fed stream ys).left (Some ended))
stands_on site s before stream ys [] ended all stands =
    let same = refused_on stream stream.left ended ys refl stands in
    ([], (ap (λ (a : Assembled). a.events) same ∙ all, stands ∙ ap (λ (a : Assembled). refused a.left) (sym same)))
stands_on site s before stream ys (e ∷ more) ended all stands =
    let g = grown_on stream.events stream.left ys in
    (e ∷ (more ++ g.0), (g.1 ∙ ap (λ (l : List Event). l ++ g.0) all ∙ append_assoc before (e ∷ more) g.0, stands))

follows_on : {site : SiteData} {s : State} {stream : Assembled} {steps : List Step} {ended : Ended} (ys : List ℕ) → Follows site s stream steps (Some ended) → Follows site s (fed stream ys) steps (Some ended)
follows_on {site} {s} {stream} {steps} {ended} ys f =
    let on = stands_on site (state_after site s steps) (events_of steps) stream ys f.remaining ended f.all f.stands in
    record { rules = f.rules; remaining = on.0; all = on.1.0; stands = on.1.1 }

module _ {old new : Seat} {told : Option Moment} {v w : View} {xs : List ℕ} (ys : List ℕ) where
  up_to_on : {ended : Ended} → FedUpTo old new told v w xs ended → FedUpTo old new told v w (xs ++ ys) ended
  up_to_on {ended} b = record {
    steps = b.steps;
    subscribed = b.subscribed;
    follows = subst (λ (a : Assembled). Follows old.seen.base.site v.state a b.steps (Some ended)) (fed-join v.stream xs ys) (follows_on ys b.follows);
    adds = b.adds;
    moments = b.moments;
    out = b.out;
  }

  part_on : FedPart old new told v w xs → FedPart old new told v w (xs ++ ys)
  part_on b =
      let g = grown v.stream xs ys in record {
        steps = b.steps;
        more = b.more;
        rules = b.rules;
        front = record {
          rest = b.front.rest ++ g.0;
          whole = g.1 ∙ ap (λ (l : List Event). l ++ g.0) b.front.whole ∙ append_assoc (events_of b.steps) b.front.rest g.0;
        };
        part = part_grows old.seen.base.site (state_after old.seen.base.site v.state b.steps) b.front.rest g.0 b.more b.part;
        subscribed = b.subscribed ∙ sym (left_grows old.seen.base.site (state_after old.seen.base.site v.state b.steps) b.front.rest g.0 b.more b.part);
        adds = b.adds;
        moments = b.moments;
        out = b.out;
      }

pub err_on : (old new : Seat) (told : Option Moment) (v w : View) (xs ys : List ℕ) (ended : Ended) → FedErr old new told v w xs ended → FedErr old new told v w (xs ++ ys) ended
err_on old new told v w xs ys (ends.Bad fault place) x = up_to_on ys x
err_on old new told v w xs ys ends.NoMemory x = part_on ys x
err_on old new told v w xs ys ends.Closed x = x
err_on old new told v w xs ys (ends.Truncated place) x = x
err_on old new told v w xs ys ends.ReadFault x = x
err_on old new told v w xs ys ends.WriteFault x = x
err_on old new told v w xs ys (ends.Spent calls) x = x

-- what was still to be answered behind these bytes
pub feeds_end : {old mid : Seat} {told : Option Moment} {v u : View} {xs : List ℕ} (new : Seat) (w : View) (result : Result (Unit {0}) Ended) → Passed old mid told v u xs
    → Feeds mid new told u w [] result → Feeds old new told v w xs result
feeds_end {old} {mid} {told} {v} {u} {xs} new w (Ok done) a b = subst (λ (z : List ℕ). FedOn old new told v w z) (append-nil xs) (fed_on_more a b)
feeds_end {old} {mid} {told} {v} {u} {xs} new w (Err ended) a b = subst (λ (z : List ℕ). FedErr old new told v w z ended) (append-nil xs) (fed_err new w [] ended a b)

-- What is left stays sound.

pub sound_lent : (a b : Assembled) (piece : List ℕ) (whole : Whole) → Lends a b piece whole → is_sound b.left ≡ true
sound_lent a b piece whole x = ap (λ (z : Assembled). is_sound z.left) (sym x.brings) ∙ sound_fed a (take (8 + length whole.payload) piece)

pub sound_some : (a b : Assembled) (piece : List ℕ) (result : Result ℕ NoMemory) → IfOk result (TookPart a b piece) → OnErr result (b ≡ a) → is_sound a.left ≡ true → is_sound b.left ≡ true
sound_some a b piece (Ok count) x same sound = ap (λ (z : Assembled). is_sound z.left) x.taken ∙ sound_fed a (take count piece)
sound_some a b piece (Err e) x same sound = ap (λ (z : Assembled). is_sound z.left) same ∙ sound

-- A message was lent: its bytes came, and it is the next event.
abbrev pub lent_of : View → Assembled → Whole → View
lent_of v stream whole = record v { stream = record { events = Message whole ∷ []; left = stream.left } }

pub passed_lent : (old : Seat) (told : Option Moment) (v : View) (stream : Assembled) (piece : List ℕ) (whole : Whole) → IsLegal old.seen → is_sound v.stream.left ≡ true
    → Lends v.stream stream piece whole → Passed old old told v (lent_of v stream whole) (take (8 + length whole.payload) piece)
passed_lent old told v stream piece whole legal sound x =
    passed_fed (passed_nothing old told v legal sound) (take (8 + length whole.payload) piece) (lent_of v stream whole) (sym x.brings) refl refl

-- The moment that the clock told, as the moment of the call.

pub moments_told : (told : Option (ℤ × ℕ)) (moment : Moment) (marks : List Mark) → IfSome told (λ t. moment ≡ record { seconds = t.0; nanoseconds = t.1 }) → HaveMoment (Some moment) marks → HaveMoment (moment_told told) marks
moments_told None moment [] is h = tt
moments_told None moment (Read at channel footprint found ∷ marks) is h = (tt, moments_told None moment marks is h.1)
moments_told None moment (Entered at entry looked found ∷ marks) is h = (tt, moments_told None moment marks is h.1)
moments_told None moment (Overweight at footprint actions kept added limit ∷ marks) is h = (tt, moments_told None moment marks is h.1)
moments_told None moment (Begun at index slot channel mask size ∷ marks) is h = (tt, moments_told None moment marks is h.1)
moments_told None moment (Crowded at index count ∷ marks) is h = (tt, moments_told None moment marks is h.1)
moments_told None moment (Popped at slot update ∷ marks) is h = (tt, moments_told None moment marks is h.1)
moments_told None moment (Dropped at index slot ∷ marks) is h = (tt, moments_told None moment marks is h.1)
moments_told (Some t) moment marks is h = subst (λ (m : Moment). HaveMoment (Some m) marks) is h

pub told_is : (told : Option (ℤ × ℕ)) (moment : Moment) (seconds : ℤ) (nanoseconds : ℕ) → moment ≡ record { seconds = seconds; nanoseconds = nanoseconds } → IfSome told (λ t. (seconds ≡ t.0) × (nanoseconds ≡ t.1))
    → IfSome told (λ t. moment ≡ record { seconds = t.0; nanoseconds = t.1 })
told_is None moment seconds nanoseconds is h = tt
told_is (Some t) moment seconds nanoseconds is h = is ∙ (λ i. record { seconds = h.0 i; nanoseconds = h.1 i })

told_on : {old new : Seat} {v w : View} {bytes : List ℕ} (told : Option (ℤ × ℕ)) (moment : Moment) → IfSome told (λ t. moment ≡ record { seconds = t.0; nanoseconds = t.1 })
    → FedOn old new (Some moment) v w bytes → FedOn old new (moment_told told) v w bytes
told_on told moment is b = record {
  passed = record {
    steps = b.passed.steps;
    rules = b.passed.rules;
    events = b.passed.events;
    left = b.passed.left;
    state = b.passed.state;
    adds = b.passed.adds;
    moments = moments_told told moment (marks_of b.passed.steps) is b.passed.moments;
    out = b.passed.out;
  };
  none = b.none;
  sound = b.sound;
}

told_up_to : {old new : Seat} {v w : View} {bytes : List ℕ} {ended : Ended} (told : Option (ℤ × ℕ)) (moment : Moment) → IfSome told (λ t. moment ≡ record { seconds = t.0; nanoseconds = t.1 })
    → FedUpTo old new (Some moment) v w bytes ended → FedUpTo old new (moment_told told) v w bytes ended
told_up_to told moment is b = record {
  steps = b.steps;
  subscribed = b.subscribed;
  follows = b.follows;
  adds = b.adds;
  moments = moments_told told moment (marks_of b.steps) is b.moments;
  out = b.out;
}

told_part : {old new : Seat} {v w : View} {bytes : List ℕ} (told : Option (ℤ × ℕ)) (moment : Moment) → IfSome told (λ t. moment ≡ record { seconds = t.0; nanoseconds = t.1 })
    → FedPart old new (Some moment) v w bytes → FedPart old new (moment_told told) v w bytes
told_part told moment is b = record {
  steps = b.steps;
  more = b.more;
  rules = b.rules;
  front = b.front;
  part = b.part;
  subscribed = b.subscribed;
  adds = b.adds;
  moments = moments_told told moment (marks_of b.steps ++ b.more) is b.moments;
  out = b.out;
}

pub feeds_told : (old new : Seat) (told : Option (ℤ × ℕ)) (moment : Moment) (v w : View) (bytes : List ℕ) (result : Result (Unit {0}) Ended)
    → IfSome told (λ t. moment ≡ record { seconds = t.0; nanoseconds = t.1 }) → Feeds old new (Some moment) v w bytes result → Feeds old new (moment_told told) v w bytes result
feeds_told old new told moment v w bytes (Ok u) is x = told_on told moment is x
feeds_told old new told moment v w bytes (Err (ends.Bad fault place)) is x = told_up_to told moment is x
feeds_told old new told moment v w bytes (Err ends.NoMemory) is x = told_part told moment is x
feeds_told old new told moment v w bytes (Err ends.Closed) is x = x
feeds_told old new told moment v w bytes (Err (ends.Truncated place)) is x = x
feeds_told old new told moment v w bytes (Err ends.ReadFault) is x = x
feeds_told old new told moment v w bytes (Err ends.WriteFault) is x = x
feeds_told old new told moment v w bytes (Err (ends.Spent calls)) is x = x
