-- The trouble behind a dialogue is determined by its turns and its marks.
use Rattle.std.proofs.Common.{◌≡◌, ℕ, Bool, true, false, List, [], ◌∷◌, ◌++◌, Option, None, Result, refl, sym, ◌∙◌, ap, subst, append_assoc}
use Rattle.std.specs.Prelude.{is_some}
use Rattle.std.proofs.lemmas.Bool.{false≢true}
use Rattle.std.proofs.lemmas.List.{append-nil}
use Rattle.pva_wire.specs.declared.order.Order.{Order}
use Rattle.pva_frames.specs.Messages.{Unfinished}
use Rattle.pva_frames.specs.declared.event.Whole.{Whole}
use Rattle.pva_frames.specs.declared.event.Event.{Event}
use Rattle.pva_frames.specs.declared.event.Event.TheVariants.{Message, Control}
use Rattle.pva_frames.specs.declared.fault.FrameFault.{FrameFault}
use Rattle.histories.proofs.Judged.{true_front}
use Rattle.desk_api.specs.declared.history.SiteData.{SiteData}
use Rattle.desk_api.specs.declared.mark.Mark.{Mark}
use Rattle.desk_api.specs.declared.mark.Mark.TheVariants.{Popped, Dropped}
use Rattle.srv_session.specs.Rows.{AreEndingsOf}
use Rattle.srv_session.specs.State.{State, opening}
use Rattle.srv_session.specs.Tasks.{Hearing, asks, unreadable, over_range, heard}
use Rattle.srv_session.specs.Replies.{Sent}
use Rattle.srv_session.specs.Steps.{Step, hears, pops, IsAnswer, IsFreeBegun, AreSteps, after_step, state_after, events_of, turns_of, marks_of}
use Rattle.srv_session.proofs.Determined.{goes_on}
use Rattle.srv_session.proofs.Kept.{begin_free, opening_holds}
use Rattle.srv_session.proofs.Steps.{after_append, events_append}
use Rattle.srv_stream.specs.Laws.{AreTrue}
use Rattle.srv_stream.specs.Streams.{stop_at, stop_of, Stands}
use Rattle.srv_stream.specs.declared.ended.Ended.{Ended}

-- An event that was answered is no trouble.

hearing_answered : (m : Whole) (site : SiteData) (s : State) (hearing : Hearing) (marks : List Mark) (sent : List Sent) → IsAnswer site s hearing marks sent → stop_at m hearing ≡ None
hearing_answered m site s (asks task types) marks sent p = refl
hearing_answered m site s (unreadable fault) marks sent p = absurd p
hearing_answered m site s over_range marks sent p = absurd p

event_answered : (site : SiteData) (s : State) (e : Event) (marks : List Mark) (sent : List Sent) → IsAnswer site s (heard site s e) marks sent → stop_of site s e ≡ None
event_answered site s (Message m) marks sent p = hearing_answered m site s (heard site s (Message m)) marks sent p
event_answered site s (Control command number) marks sent p = refl

no_trouble : (site : SiteData) (s : State) (e : Event) (marks : List Mark) (sent : List Sent) (more : List Event) (left : Result Unfinished FrameFault) (trouble : Option Ended) → IsAnswer site s (heard site s e) marks sent
    → Stands site s (e ∷ more) left trouble → ⊥
no_trouble site s e marks sent more left trouble rule stands =
    false≢true (sym (ap (λ (o : Option Ended). is_some o) (event_answered site s e marks sent rule)) ∙ stands.1)

-- No ending is a pop.

abbrev is_ending : List Mark → Bool
is_ending (Dropped place index slot ∷ marks) = true
is_ending marks = false

no_pop : (slots : List ℕ) (marks later : List Mark) (mark : Mark) → AreEndingsOf slots marks → marks ≡ mark ∷ later → is_ending (mark ∷ []) ≡ true
no_pop [] [] later mark ends is = absurd (no_marks is)
  where
    no_marks : {m : Mark} {ms : List Mark} → [] ≡ m ∷ ms → ⊥
    no_marks e = cc
no_pop [] (m ∷ marks) later mark ends is = absurd ends
no_pop (slot ∷ slots) [] later mark ends is = absurd ends
no_pop (slot ∷ slots) (m ∷ marks) later mark ends is = ap is_ending (ap first_alone (sym is)) ∙ ap is_ending ends.0.marks_are
  where
    first_alone : List Mark → List Mark
    first_alone [] = []
    first_alone (x ∷ xs) = x ∷ []

one_stands : (site : SiteData) (s : State) (remaining : List Event) (left : Result Unfinished FrameFault) (t u : Option Ended) → Stands site s remaining left t → Stands site s remaining left u → t ≡ u
one_stands site s [] left t u p q = p ∙ sym q
one_stands site s (e ∷ more) left t u p q = p.0 ∙ sym q.0

-- What goes on from the trouble with marks that are endings goes on by nothing.
goes_nowhere : (site : SiteData) (s : State) (rest : List Step) (remaining later : List Event) (left : Result Unfinished FrameFault) (t u : Option Ended) (slots : List ℕ) (k l : List Mark) → AreSteps site s rest
    → remaining ≡ events_of rest ++ later → AreEndingsOf slots k → k ≡ marks_of rest ++ l → Stands site s remaining left t → Stands site (state_after site s rest) later left u → t ≡ u
goes_nowhere site s [] remaining later left t u slots k l rules events ends marks p q =
    one_stands site s later left t u (subst (λ (z : List Event). Stands site s z left t) events p) q
goes_nowhere site s (hears e m x ∷ rest) remaining later left t u slots k l rules events ends marks p q =
    absurd (no_trouble site s e m x (events_of rest ++ later) left t rules.0.0 (subst (λ (z : List Event). Stands site s z left t) events p))
goes_nowhere site s (pops r m x ∷ rest) remaining later left t u slots k l rules events ends marks p q =
    let popped = rules.0.0.is_pop in
    let mark : Mark = Popped popped.place popped.sub.slot rules.0.0.update in
    let first : k ≡ mark ∷ (marks_of rest ++ l) = marks ∙ ap (λ (ms : List Mark). (ms ++ marks_of rest) ++ l) popped.marks_are in
    absurd (false≢true (no_pop slots k (marks_of rest ++ l) mark ends first))

abbrev later_events : List Event → List Event
later_events [] = []
later_events (e ∷ es) = es

same_behind : (xs ys zs : List Event) → xs ++ ys ≡ xs ++ zs → ys ≡ zs
same_behind [] ys zs is = is
same_behind (x ∷ xs) ys zs is = same_behind xs ys zs (ap later_events is)

steps_back : (site : SiteData) (s : State) (xs ys : List Step) → AreSteps site s (xs ++ ys) → AreSteps site (state_after site s xs) ys
steps_back site s [] ys rules = rules
steps_back site s (x ∷ xs) ys rules = steps_back site (after_step site s x) xs ys rules.1

-- steps, and steps that go on from them, up to the trouble in the same events
pub same_trouble : (site : SiteData) (order : Order) (xs ys : List Step) (more : List (Option Event)) (remaining later : List Event) (left : Result Unfinished FrameFault) (t u : Option Ended) (slots : List ℕ) (k l : List Mark)
    → AreTrue (marks_of xs ++ k) → AreSteps site (opening order) xs → AreSteps site (opening order) ys → turns_of ys ≡ turns_of xs ++ more → marks_of xs ++ k ≡ marks_of ys ++ l → AreEndingsOf slots k
    → events_of xs ++ remaining ≡ events_of ys ++ later → Stands site (state_after site (opening order) xs) remaining left t → Stands site (state_after site (opening order) ys) later left u → t ≡ u
same_trouble site order xs ys more remaining later left t u slots k l holds a b turns marks ends events p q =
    let s = state_after site (opening order) xs in
    let free = true_front IsFreeBegun holds.before (marks_of xs) k (begin_free holds.seen holds.seat holds.before (marks_of xs ++ k) holds.hold) in
    let g = goes_on site (opening order) holds.before xs ys more k l (opening_holds holds.before order) free a b (sym turns) marks in
    let rules = steps_back site (opening order) xs g.rest (subst (AreSteps site (opening order)) g.whole b) in
    let behind = same_behind (events_of xs) remaining (events_of g.rest ++ later)
    (events ∙ ap (λ (z : List Step). events_of z ++ later) g.whole ∙ ap (λ (z : List Event). z ++ later) (events_append xs g.rest) ∙ append_assoc (events_of xs) (events_of g.rest) later) in
    goes_nowhere site s g.rest remaining later left t u slots k l rules behind ends g.marks p
    (subst (λ (z : State). Stands site z later left u) (ap (state_after site (opening order)) g.whole ∙ after_append site (opening order) xs g.rest) q)

-- steps of the same turns are the same
no_turns : {t : Option Event} {ts : List (Option Event)} → [] ≡ t ∷ ts → ⊥
no_turns is = cc

no_steps : (xs : List Step) → turns_of xs ≡ [] → xs ≡ []
no_steps [] is = refl
no_steps (hears e m x ∷ xs) is = absurd (no_turns (sym is))
no_steps (pops r m x ∷ xs) is = absurd (no_turns (sym is))

pub same_turns : (site : SiteData) (order : Order) (xs ys : List Step) (k l : List Mark) → AreTrue (marks_of xs ++ k) → AreSteps site (opening order) xs → AreSteps site (opening order) ys → turns_of xs ≡ turns_of ys
    → marks_of xs ++ k ≡ marks_of ys ++ l → xs ≡ ys
same_turns site order xs ys k l holds a b turns marks =
    let free = true_front IsFreeBegun holds.before (marks_of xs) k (begin_free holds.seen holds.seat holds.before (marks_of xs ++ k) holds.hold) in
    let g = goes_on site (opening order) holds.before xs ys [] k l (opening_holds holds.before order) free a b (append-nil (turns_of xs) ∙ turns) marks in
    sym (append-nil xs) ∙ ap (λ (z : List Step). xs ++ z) (sym (no_steps g.rest g.turns)) ∙ sym g.whole
