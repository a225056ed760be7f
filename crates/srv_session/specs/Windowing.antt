-- What the windows of pipelined monitors see in a dialogue (pvAccess Protocol Specification, "Channel Monitor", pipeline).
use Rattle.std.specs.Prelude.{◌≡◌, ◌==◌, ℕ, List, [], ◌∷◌, ◌++◌, Option, None, Some, option_map, if◌then◌else◌}
use Rattle.std.specs.FinMap.{get as at}
use Rattle.mon_window.specs.Windows as windows
use Rattle.mon_window.specs.Windows.{StandsFor}
use Rattle.desk_api.specs.declared.history.SiteData.{SiteData}
use Rattle.desk_api.specs.declared.mark.Mark.{Mark}
use Rattle.desk_api.specs.declared.mark.Mark.TheVariants.{Begun, Popped}
use Rattle.srv_session.specs.State.{State, Asked}
use Rattle.srv_session.specs.Tasks.{Hearing, asks, subscribe, steer, heard}
use Rattle.srv_session.specs.Steps.{Step, hears, pops, after_step, state_after}

-- What the client granted a pipelined monitor and what it was sent: the first count, and then what its window saw, in order.
pub record Grant : Type 0 where
  pub first : ℕ
  pub seen : List windows.Step

abbrev pub seeing : windows.Step → Grant → Grant
seeing step g = record { first = g.first; seen = g.seen ++ step ∷ [] }

-- Of the monitor of a request: behind what was heard, with its marks, ..
abbrev pub grant_heard : ℕ → Hearing → List Mark → Option Grant → Option Grant
grant_heard req (asks (subscribe r sub sid channel wanted (Some count)) types) (Begun place index slot c mask size ∷ []) o =
    if r == req then Some (record { first = count; seen = [] }) else o
grant_heard req (asks (steer r (Some count) started ask) types) marks o =
    if r == req then option_map (seeing (windows.acknowledged count)) o else o
grant_heard req hearing marks o = o

-- .. behind a pop, ..
abbrev pub grant_popped : List Mark → Option Grant → Option Grant
grant_popped (Popped place slot (Some update) ∷ []) o = option_map (seeing windows.sent) o
grant_popped marks o = o

abbrev pub grant_with : SiteData → State → ℕ → Option Grant → Step → Option Grant
grant_with site s req o (hears e marks sent) = grant_heard req (heard site s e) marks o
grant_with site s req o (pops r marks sent) = if r == req then grant_popped marks o else o

-- .. and behind all of these steps.
abbrev pub grant_after : SiteData → State → ℕ → Option Grant → List Step → Option Grant
grant_after site s req o [] = o
grant_after site s req o (x ∷ xs) = grant_after site (after_step site s x) req (grant_with site s req o x) xs

-- A window has what is free of what was granted: the first count and all acknowledgements, less the updates sent, which at no step were
-- more.
pub record IsWindow (o : Option Grant) (free : ℕ) : Type 0 where
  pub grant : Grant
  pub there : o ≡ Some grant
  pub stands : StandsFor free grant.first grant.seen

-- At every step of a session that begins in this state that holds of each pipelined monitor.
abbrev pub WindowsHold : SiteData → State → List Step → Type 0
WindowsHold site s steps = (front later : List Step) → steps ≡ front ++ later → (req free : ℕ) (ask : Asked)
    → at (state_after site s front).requests req ≡ Some ask → ask.window ≡ Some free
    → IsWindow (grant_after site s req None front) free
