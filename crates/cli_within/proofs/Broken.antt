-- Steps of a server, the last of which may have broken off for want of memory: it has marks, and says nothing.
use Rattle.std.proofs.Common.{◌≡◌, ℕ, List, [], ◌∷◌, ◌++◌, refl, inl, inr}
use Rattle.std.specs.Prelude.{◌⊎◌, ⊤}
use Rattle.pva_frames.specs.declared.event.Event.{Event}
use Rattle.desk_api.specs.declared.history.SiteData.{SiteData}
use Rattle.desk_api.specs.declared.mark.Mark.{Mark}
use Rattle.srv_session.specs.Replies.{Sent}
use Rattle.srv_session.specs.State.{State}
use Rattle.srv_session.specs.Steps.{Step, hears, pops, IsStep, AreSteps, PartOf, UnsentPop, after_step, state_after}
use Rattle.srv_session.specs.Tasks.{heard}
use Rattle.cli_within.proofs.Said.{AreReplies, spoken}

-- a step that broke off
abbrev pub IsBroken : SiteData → State → Step → Type 0
IsBroken site s (hears e marks sent) = (sent ≡ []) × PartOf site s (heard site s e) marks
IsBroken site s (pops req marks sent) = (sent ≡ []) × UnsentPop s req marks

abbrev pub AreMade : SiteData → State → List Step → Type 0
AreMade site s [] = ⊤
AreMade site s (x ∷ xs) = (IsStep site s x × AreMade site (after_step site s x) xs) ⊎ ((xs ≡ []) × IsBroken site s x)

-- steps none of which broke off
pub all_made : (site : SiteData) (s : State) (steps : List Step) → AreSteps site s steps → AreMade site s steps
all_made site s [] rules = tt
all_made site s (x ∷ xs) rules = inl (rules.0, all_made site (after_step site s x) xs rules.1)

-- steps and one behind them that broke off
pub made_behind : (site : SiteData) (s : State) (steps : List Step) (last : Step) → AreSteps site s steps → IsBroken site (state_after site s steps) last → AreMade site s (steps ++ last ∷ [])
made_behind site s [] last rules broken = inr (refl, broken)
made_behind site s (x ∷ xs) last rules broken = inl (rules.0, made_behind site (after_step site s x) xs last rules.1 broken)

-- it says nothing
silent_hearing : (site : SiteData) (s : State) (e f : Event) (marks : List Mark) (sent : List Sent) (xs : List Step) (es : List Event) → sent ≡ [] → xs ≡ [] → AreReplies (e ∷ es) (spoken site s (hears f marks sent ∷ xs)) → ⊥
silent_hearing site s e f marks [] [] es silent last told = told
silent_hearing site s e f marks [] (x ∷ xs) es silent last told = absurd cc
silent_hearing site s e f marks (y ∷ ys) xs es silent last told = absurd cc

silent_pop : (site : SiteData) (s : State) (e : Event) (req : ℕ) (marks : List Mark) (sent : List Sent) (xs : List Step) (es : List Event) → sent ≡ [] → xs ≡ [] → AreReplies (e ∷ es) (spoken site s (pops req marks sent ∷ xs)) → ⊥
silent_pop site s e req marks [] [] es silent last told = told
silent_pop site s e req marks [] (x ∷ xs) es silent last told = absurd cc
silent_pop site s e req marks (y ∷ ys) xs es silent last told = absurd cc

pub broken_silent : (site : SiteData) (s : State) (x : Step) (xs : List Step) (e : Event) (es : List Event) → xs ≡ [] → IsBroken site s x → AreReplies (e ∷ es) (spoken site s (x ∷ xs)) → ⊥
broken_silent site s (hears f marks sent) xs e es last broken told = silent_hearing site s e f marks sent xs es broken.0 last told
broken_silent site s (pops req marks sent) xs e es last broken told = silent_pop site s e req marks sent xs es broken.0 last told
