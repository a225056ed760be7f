-- What an operation over the network comes to, and its exit status.
use Rattle.std.specs.Prelude.{◌≡◌, ◌⊎◌, ℕ, ◌-◌, ◌≤◌, List, Option, ⊤, Err}
use Rattle.pva_outside.specs.Dials.{DialerView}
use Rattle.pva_outside.specs.Traffic.{DatagramsView}
use Rattle.pva_outside.specs.declared.peer.Peer.{Peer}
use Rattle.cli_search.specs.Searching.{Searches}
use Rattle.cli_search.specs.declared.plan.Plan.{Plan}
use Rattle.cli_search.specs.declared.plan.Searched.{Searched}
use Rattle.cli_search.specs.declared.plan.Searched.TheVariants as ends
use Rattle.cli_session.specs.declared.ask.Ask.{Ask}
use Rattle.prog_client.specs.Dialing.{Operates, name_line}
use Rattle.cli_within.specs.Ends.{HasPrinted}
use Rattle.cli_within.specs.Running.{status_of_stop}
use Rattle.cli_within.specs.Telling.{Puts}
use Rattle.prog_client.specs.declared.networking.Route.{Route}
use Rattle.prog_client.specs.declared.networking.Route.TheVariants as routes
use Rattle.prog_client.specs.declared.outcome.Outcome.{Outcome}
use Rattle.prog_client.specs.declared.outcome.Outcome.TheVariants as outcomes
use Rattle.prog_client.specs.declared.outcome.Patience.{Patience}
use Rattle.cli_within.specs.declared.stop.Ending.TheVariants as endings
use Rattle.cli_within.specs.declared.stop.Status.{Status}
use Rattle.cli_within.specs.declared.stop.Status.TheVariants as status
use Rattle.cli_within.specs.declared.stop.Stop.{Stop}
use Rattle.cli_within.specs.declared.stop.Stop.TheVariants as stops

-- the exit status
abbrev pub status_of : Outcome → Status
status_of (outcomes.Told endings.Finished) = status.Done
status_of (outcomes.Told endings.Refused) = status.Refused
status_of (outcomes.Stopped stop) = status_of_stop stop
status_of outcomes.Closed = status.Outside
status_of outcomes.Failed = status.Outside
status_of outcomes.Unfound = status.Unfound
status_of outcomes.Idle = status.Idle
status_of outcomes.Spent = status.Spent

-- how an operation ends whose server wasn't found
abbrev pub outcome_of : Searched → Outcome
outcome_of (ends.Found server calls) = outcomes.Unfound
outcome_of ends.Unfound = outcomes.Unfound
outcome_of ends.Failed = outcomes.Failed
outcome_of ends.Spent = outcomes.Spent
outcome_of ends.NoMemory = outcomes.Stopped stops.NoMemory

-- No server was found: nothing was dialed, and no more than the channel's name was printed.
pub record IsUnfound (ask : Ask) (searched : Searched) (old new : DialerView) (start now : Option (List ℕ))
    (before after : ℕ) (outcome : Outcome) : Type 0 where
  pub outcome_is : outcome ≡ outcome_of searched
  pub undialed : new ≡ old
  pub printed : HasPrinted start now before after (name_line ask)

-- the turns that a search leaves
abbrev pub patience_left : Plan → ℕ → Patience
patience_left plan calls = record { idle = plan.idle; turns = plan.turns - calls }

-- What follows a search: the server that was found is dialed, and the operation runs in the turns that are left.
abbrev pub GoesOn : Ask → Plan → Searched → DialerView → DialerView → Option (List ℕ) → Option (List ℕ) → ℕ → ℕ
    → Outcome → Type 0
GoesOn ask plan (ends.Found server calls) old new start now before after outcome =
    Operates ask (patience_left plan calls) server old new start now before after outcome
GoesOn ask plan searched old new start now before after outcome =
    IsUnfound ask searched old new start now before after outcome

pub record HasSought (ask : Ask) (plan : Plan) (d d' : DatagramsView) (old new : DialerView)
    (start now : Option (List ℕ)) (before after : ℕ) (outcome : Outcome) : Type 0 where
  pub searched : Searched
  pub searches : Searches ask.name plan d d' searched
  pub goes_on : GoesOn ask plan searched old new start now before after outcome

-- Memory ran out before the search.
pub record IsUnsought (ask : Ask) (d d' : DatagramsView) (old new : DialerView) (start now : Option (List ℕ))
    (before after : ℕ) (outcome : Outcome) : Type 0 where
  pub outcome_is : outcome ≡ outcomes.Stopped stops.NoMemory
  pub unsent : d' ≡ d
  pub undialed : new ≡ old
  pub printed : HasPrinted start now before after (name_line ask)

abbrev pub Seeks : Ask → Plan → DatagramsView → DatagramsView → DialerView → DialerView → Option (List ℕ)
    → Option (List ℕ) → ℕ → ℕ → Outcome → Type 0
Seeks ask plan d d' old new start now before after outcome =
    HasSought ask plan d d' old new start now before after outcome
    ⊎ IsUnsought ask d d' old new start now before after outcome

-- a search has a round at least
abbrev pub CanSeek : Route → Type 0
CanSeek (routes.Known server) = ⊤
CanSeek (routes.Sought to rounds) = 1 ≤ rounds

abbrev pub plan_of : Peer → ℕ → Patience → Plan
plan_of to rounds p = record { to = to; rounds = rounds; idle = p.idle; turns = p.turns }

-- By its route. Where the server is known, nothing is bound and no datagram is sent.
abbrev pub Takes : Ask → Route → Patience → DatagramsView → DatagramsView → DialerView → DialerView → Option (List ℕ)
    → Option (List ℕ) → ℕ → ℕ → Outcome → Type 0
Takes ask (routes.Known server) p d d' old new start now before after outcome =
    Operates ask p server old new start now before after outcome × (d' ≡ d)
Takes ask (routes.Sought to rounds) p d d' old new start now before after outcome =
    Seeks ask (plan_of to rounds p) d d' old new start now before after outcome

-- The channel's name couldn't be printed: nothing else was done.
pub record IsUnprinted (ask : Ask) (d d' : DatagramsView) (old new : DialerView) (start now : Option (List ℕ))
    (before after : ℕ) (outcome : Outcome) : Type 0 where
  pub stop : Stop
  pub outcome_is : outcome ≡ outcomes.Stopped stop
  pub puts : Puts start now before after (name_line ask) (Err stop)
  pub unsent : d' ≡ d
  pub undialed : new ≡ old

-- An operation over the network.
abbrev pub Networks : Ask → Route → Patience → DatagramsView → DatagramsView → DialerView → DialerView
    → Option (List ℕ) → Option (List ℕ) → ℕ → ℕ → Outcome → Type 0
Networks ask route p d d' old new start now before after outcome =
    Takes ask route p d d' old new start now before after outcome
    ⊎ IsUnprinted ask d d' old new start now before after outcome
