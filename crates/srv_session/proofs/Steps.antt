-- Steps, and then more steps.
use Rattle.std.proofs.Common.{◌≡◌, ℕ, List, [], ◌∷◌, ◌++◌, Option, None, Some, refl, sym, ◌∙◌, ap, append_assoc}
use Rattle.pva_frames.specs.declared.event.Event.{Event}
use Rattle.desk_api.specs.declared.history.SiteData.{SiteData}
use Rattle.desk_api.specs.declared.mark.Mark.{Mark}
use Rattle.srv_session.specs.State.{State}
use Rattle.srv_session.specs.Steps.{Step, hears, pops, marks_in, turns_of, bytes_of, after_step, AreSteps, state_after, events_of, marks_of, out_of}
use Rattle.srv_session.specs.Calls.{IsOf}
use Rattle.srv_session.proofs.OnSite.{event_on_site, pop_on_site}

pub after_append : (site : SiteData) (s : State) (xs ys : List Step) → state_after site s (xs ++ ys) ≡ state_after site (state_after site s xs) ys
after_append site s [] ys = refl
after_append site s (x ∷ xs) ys = after_append site (after_step site s x) xs ys

pub steps_append : (site : SiteData) (s : State) (xs ys : List Step) → AreSteps site s xs → AreSteps site (state_after site s xs) ys → AreSteps site s (xs ++ ys)
steps_append site s [] ys a b = b
steps_append site s (x ∷ xs) ys a b = (a.0, steps_append site (after_step site s x) xs ys a.1 b)

pub events_append : (xs ys : List Step) → events_of (xs ++ ys) ≡ events_of xs ++ events_of ys
events_append [] ys = refl
events_append (hears e marks sent ∷ xs) ys = ap (λ (l : List Event). e ∷ l) (events_append xs ys)
events_append (pops req marks sent ∷ xs) ys = events_append xs ys

pub turns_append : (xs ys : List Step) → turns_of (xs ++ ys) ≡ turns_of xs ++ turns_of ys
turns_append [] ys = refl
turns_append (hears e marks sent ∷ xs) ys = ap (λ (l : List (Option Event)). Some e ∷ l) (turns_append xs ys)
turns_append (pops req marks sent ∷ xs) ys = ap (λ (l : List (Option Event)). None ∷ l) (turns_append xs ys)

pub marks_append : (xs ys : List Step) → marks_of (xs ++ ys) ≡ marks_of xs ++ marks_of ys
marks_append [] ys = refl
marks_append (x ∷ xs) ys = ap (λ (l : List Mark). marks_in x ++ l) (marks_append xs ys) ∙ sym (append_assoc (marks_in x) (marks_of xs) (marks_of ys))

pub out_append : (site : SiteData) (s : State) (xs ys : List Step) → out_of site s (xs ++ ys) ≡ out_of site s xs ++ out_of site (state_after site s xs) ys
out_append site s [] ys = refl
out_append site s (x ∷ xs) ys =
    ap (λ (l : List ℕ). bytes_of s x ++ l) (out_append site (after_step site s x) xs ys)
    ∙ sym (append_assoc (bytes_of s x) (out_of site (after_step site s x) xs) (out_of site (state_after site (after_step site s x) xs) ys))

-- A session stays one of the site.

pub step_on_site : (site : SiteData) (s : State) (x : Step) → IsOf site s → IsOf site (after_step site s x)
step_on_site site s (hears e marks sent) ok = event_on_site site s e marks ok
step_on_site site s (pops req marks sent) ok = pop_on_site site s req marks ok

pub steps_on_site : (site : SiteData) (s : State) (xs : List Step) → IsOf site s → IsOf site (state_after site s xs)
steps_on_site site s [] ok = ok
steps_on_site site s (x ∷ xs) ok = steps_on_site site (after_step site s x) xs (step_on_site site s x ok)
