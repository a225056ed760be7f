-- The exchange of a monitor has one subscription.
use Rattle.std.proofs.Common.{◌≡◌, ℕ, Bool, true, List, [], ◌∷◌, ◌++◌, Option, None, Some, refl, sym, ap, subst, ◌∙◌, inl, inr, append_assoc}
use Rattle.std.proofs.lemmas.List.{append-nil}
use Rattle.pva_wire.specs.declared.order.Order.TheVariants.{Little}
use Rattle.pva_frames.specs.declared.event.Event.{Event}
use Rattle.desk_api.specs.Marks.{AllHold}
use Rattle.desk_api.specs.declared.history.SiteData.{SiteData}
use Rattle.desk_api.specs.declared.mark.Mark.{Mark}
use Rattle.srv_session.proofs.Steps.{events_append, marks_append}
use Rattle.srv_session.specs.State.{State, opening, slots_of}
use Rattle.srv_session.specs.Steps.{Step, hears, pops, AreEndings, EventPart, NextPart, PopPart, after_part, events_of, marks_of, state_after}
use Rattle.srv_stream.specs.Served.{Whole}
use Rattle.srv_stream.specs.declared.ended.Ended.{Ended}
use Rattle.cli_session.specs.Steps.{client_sent}
use Rattle.cli_session.specs.declared.ask.Ask.{Ask}
use Rattle.cli_session.specs.declared.ask.Operation.TheVariants as operation
use Rattle.cli_within.specs.Clear.{MonitorsHaveOneSubscription}
use Rattle.cli_within.specs.Ends.{events_in, Begins}
use Rattle.cli_within.specs.Exchanging.{AtShort, HasCause, HasTalked}
use Rattle.cli_within.specs.declared.stop.End.{End}
use Rattle.cli_within.specs.declared.stop.End.TheVariants as ends
use Rattle.cli_within.specs.declared.stop.Stop.TheVariants as stops
use Rattle.cli_within.proofs.AsTold.{talked_whole}
use Rattle.cli_within.proofs.Broken.{AreMade, IsBroken, all_made, made_behind}
use Rattle.cli_within.proofs.Joined.{given_heard, all_heard, log_is}
use Rattle.cli_within.proofs.LoneMarks.{ends_pass, marks_lone}
use Rattle.cli_within.proofs.LoneSends.{sends_lone}
use Rattle.cli_within.proofs.Said.{AreRequests, requests_front}
use Rattle.cli_within.proofs.Subscribed.{Begin, one_subscription, pops_live}

none_begins : (s : State) (endings : List Mark) → AreEndings s endings → (b : Bool) → Begin b endings
none_begins s endings are b = subst (Begin b) (append-nil endings) (ends_pass (slots_of s.requests) endings are b [] tt)

module _ (ask : Ask) (queue count : ℕ) (window : Option ℕ) (is : ask.operation ≡ operation.Monitor queue window count) (site : SiteData) (given taken : List ℕ) (log : List Mark) (begins_ : Begins ask taken given) where
  begins_once : (steps : List Step) (s : State) (endings : List Mark) → AreMade site (opening Little) steps → AreRequests (events_of steps) (client_sent ask (events_in taken)) → AreEndings s endings → Begin true (marks_of steps ++ endings)
  begins_once steps s endings made heard_ are =
      marks_lone site endings (none_begins s endings are) steps (opening Little) (client_sent ask (events_in taken)) true made heard_ (sends_lone ask queue count window is (events_in taken))

  talked_once : HasTalked site given taken log → Begin true log
  talked_once talked =
      let d = talked.whole.dialogue in
      subst (Begin true) (log_is ask site given taken log talked begins_)
      (begins_once d.talk.steps (state_after site (opening Little) d.talk.steps) d.endings (all_made site (opening Little) d.talk.steps d.talk.rules) (all_heard ask site given taken log talked begins_) d.ends)

  -- where memory ran out, the last step broke off
  module _ (start now : Option (List ℕ)) (before after : ℕ) (short_ : AtShort ask site start now before after given taken log) where
    abbrev made_steps : List Step
    made_steps = short_.talk.steps

    abbrev there : State
    there = state_after site (opening Little) made_steps

    abbrev Once : Type 0
    Once = Begin true ((short_.said ++ short_.more) ++ short_.endings)

    heard_all : AreRequests (events_of made_steps ++ short_.later) (client_sent ask (events_in taken))
    heard_all =
        subst (λ (es : List Event). AreRequests es (client_sent ask (events_in taken)))
        (short_.all ∙ ap (λ (es : List Event). es ++ short_.later) (sym short_.talk.events_are))
        (given_heard ask given taken begins_)

    once_of : (steps : List Step) → AreMade site (opening Little) steps → AreRequests (events_of steps) (client_sent ask (events_in taken)) → marks_of steps ≡ short_.said ++ short_.more → Once
    once_of steps made heard_ same =
        subst (λ (ms : List Mark). Begin true (ms ++ short_.endings)) same (begins_once steps (after_part site there short_.later short_.more) short_.endings made heard_ short_.ends)

    once_behind : (last : Step) → IsBroken site there last → AreRequests (events_of (made_steps ++ last ∷ [])) (client_sent ask (events_in taken)) → marks_of (last ∷ []) ≡ short_.more → Once
    once_behind last broken heard_ marks_are =
        once_of (made_steps ++ last ∷ []) (made_behind site (opening Little) made_steps last short_.talk.rules broken) heard_ (marks_append made_steps (last ∷ []) ∙ (λ i. short_.talk.marks_are i ++ marks_are i))

    by_event : (later : List Event) → short_.later ≡ later → EventPart site there later short_.more → Once
    by_event [] same part =
        once_of made_steps (all_made site (opening Little) made_steps short_.talk.rules) (requests_front (events_of made_steps) short_.later (client_sent ask (events_in taken)) heard_all)
        (sym (append-nil (marks_of made_steps)) ∙ (λ i. short_.talk.marks_are i ++ sym part i))
    by_event (e ∷ more) same part =
        let all = subst (λ (es : List Event). AreRequests (events_of made_steps ++ es) (client_sent ask (events_in taken))) same heard_all in
        let first = requests_front (events_of made_steps ++ e ∷ []) more (client_sent ask (events_in taken)) (subst (λ (es : List Event). AreRequests es (client_sent ask (events_in taken))) (sym (append_assoc (events_of made_steps) (e ∷ []) more)) all) in
        let last = hears e short_.more [] in
        once_behind last (refl, part) (subst (λ (es : List Event). AreRequests es (client_sent ask (events_in taken))) (sym (events_append made_steps (last ∷ []))) first) (append-nil short_.more)

    by_pop : PopPart there short_.more → Once
    by_pop part =
        let last = pops part.0 short_.more [] in
        let front = requests_front (events_of made_steps) short_.later (client_sent ask (events_in taken)) heard_all in
        once_behind last (refl, part.1)
        (subst (λ (es : List Event). AreRequests es (client_sent ask (events_in taken))) (sym (events_append made_steps (last ∷ []) ∙ append-nil (events_of made_steps))) front) (append-nil short_.more)

    by_part : NextPart site there short_.later short_.more → Once
    by_part (inl part) = by_event short_.later refl part
    by_part (inr part) = by_pop part

    short_once : Begin true log
    short_once = subst (Begin true) short_.log_is (by_part short_.part)

  module _ (idle piece turns : ℕ) (start now : Option (List ℕ)) (before after : ℕ) where
    whole_once : (trouble : Option Ended) → Whole site Little given log taken trouble → Begin true log
    whole_once trouble w = talked_once (talked_whole site given taken log trouble w)

    once_at : (end : End) → HasCause ask site idle piece turns start now before after given taken log end → Begin true log
    once_at (ends.Told ending) cause = talked_once cause.talked
    once_at (ends.Stopped stops.NoMemory) cause = short_once start now before after cause
    once_at (ends.Stopped stops.Sink) cause = talked_once cause.talked
    once_at (ends.Stopped (stops.Client fault)) cause = talked_once cause.talked
    once_at (ends.Stopped (stops.Frame fault)) cause = talked_once cause.talked
    once_at ends.Closed cause = whole_once (Some cause.trouble) cause.whole
    once_at ends.Idle cause = whole_once None cause.quiet.whole
    once_at ends.Spent cause = talked_once cause.talked

pub monitors_have_one : MonitorsHaveOneSubscription
monitors_have_one ask queue count window idle piece turns told first last start now before after end x is fresh =
    one_subscription last.seen x.log
    (once_at ask queue count window is first.seen.base.site x.given x.taken x.log x.begins idle piece turns start now before after end x.cause)
    (pops_live last.number last.seen [] x.log (subst (λ (ms : List Mark). AllHold last.number last.seen ms x.log) fresh x.adds.true_)) x.folds
