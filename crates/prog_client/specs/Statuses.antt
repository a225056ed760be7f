-- What the exit status tells of an operation over the network.
use Rattle.std.specs.Prelude.{◌≡◌, ◌⊎◌, ℕ, ◌+◌, ◌-◌, ◌<◌, ◌≤◌, ◌^◌, List, [], length, Option, None, Some, ⊤}
use Rattle.pva_outside.specs.Count.{Rose}
use Rattle.pva_outside.specs.Dials.{DialerView, HasDialed, with_link_back}
use Rattle.pva_outside.specs.Traffic.{DatagramsView, Traffic}
use Rattle.pva_outside.specs.Wire.{Wire}
use Rattle.pva_outside.specs.declared.peer.Peer.{Peer}
use Rattle.cli_search.specs.Searching.{HasSearched}
use Rattle.cli_search.specs.Turning.{RoseBy, and_all, nothings}
use Rattle.cli_search.specs.declared.plan.Searched.TheVariants as ends
use Rattle.cli_session.specs.declared.ask.Ask.{Ask}
use Rattle.cli_session.specs.Steps.{client_fault}
use Rattle.cli_session.specs.declared.fault.ClientFault.{ClientFault}
use Rattle.cli_session.specs.declared.fault.ClientFault.TheVariants as faults
use Rattle.cli_text.specs.declared.fault.PutText.{PutText}
use Rattle.pva_frames.specs.Assembled.{fault_from}
use Rattle.pva_frames.specs.declared.fault.FrameFault.{FrameFault}
use Rattle.srv_stream.specs.Moves.{IsAll, Moves}
use Rattle.prog_client.specs.Dialing.{IsSound, said_to}
use Rattle.cli_within.specs.Ends.{Begins, HasPrinted, events_in, text_for}
use Rattle.cli_within.specs.Exchanging.{ended_by}
use Rattle.prog_client.specs.Networking.{Networks, plan_of, status_of}
use Rattle.cli_within.specs.Running.{status_of_fault}
use Rattle.prog_client.specs.declared.networking.Route.{Route}
use Rattle.prog_client.specs.declared.networking.Route.TheVariants as routes
use Rattle.prog_client.specs.declared.outcome.Outcome.{Outcome}
use Rattle.prog_client.specs.declared.outcome.Patience.{Patience}
use Rattle.cli_within.specs.declared.stop.Ending.{Ending}
use Rattle.cli_within.specs.declared.stop.Ending.TheVariants as endings
use Rattle.cli_within.specs.declared.stop.Status.{Status}
use Rattle.cli_within.specs.declared.stop.Status.TheVariants as status

-- A link was dialed and taken back, which gave and took these bytes.
pub record HasMoved (old new : DialerView) (read written : List ℕ) : Type 0 where
  pub to : Peer
  pub begin : Wire
  pub end : Wire
  pub dialed : DialerView
  pub dials : HasDialed old dialed begin to
  pub back : new ≡ with_link_back dialed end
  pub moves : Moves begin end read written

-- The operation ended so over a link that was taken back. All that the client tells of what was read was printed, and
-- all that it says to that was written.
pub record IsWhole (ask : Ask) (old new : DialerView) (start now : Option (List ℕ)) (before after : ℕ) (ending : Ending)
    : Type 0 where
  pub read : List ℕ
  pub moved : HasMoved old new read (said_to ask read)
  pub ended : ended_by ask read ≡ Some ending
  pub printed : HasPrinted start now before after (text_for ask read)

-- A count of faults rose, of the datagrams, the dialer, the link or the sink.
abbrev pub HasFailed : DatagramsView → DatagramsView → DialerView → DialerView → ℕ → ℕ → Type 0
HasFailed d d' old new before after =
    Rose d.faults d'.faults ⊎ (Rose old.faults new.faults ⊎ (Rose old.link_faults new.link_faults ⊎ Rose before after))

-- The server ended the stream before the operation ended, and the link was taken back. All that it sent was read; all
-- that the client tells of that was printed, and all that it says to that was written.
pub record IsClosed (ask : Ask) (old new : DialerView) (start now : Option (List ℕ)) (before after : ℕ) : Type 0 where
  pub read : List ℕ
  pub moved : HasMoved old new read (said_to ask read)
  pub unended : ended_by ask read ≡ None
  pub sound : IsSound ask read
  pub all_read : IsAll moved.begin.left read
  pub printed : HasPrinted start now before after (text_for ask read)
  pub ends : Rose old.link_ends new.link_ends

-- no link was dialed, or it gave and took these bytes
abbrev pub MayHaveMoved : DialerView → DialerView → List ℕ → List ℕ → Type 0
MayHaveMoved old new read written = HasMoved old new read written ⊎ ((read ≡ []) × (written ≡ []))

-- how many datagrams came or were sent
abbrev pub datagrams_in : List Traffic → ℕ
datagrams_in traffic = length traffic - nothings traffic

-- All turns were made. In each a datagram came or was sent, a byte was read or written, or nothing moved and was
-- counted as that.
pub record IsSpent (p : Patience) (d d' : DatagramsView) (old new : DialerView) : Type 0 where
  pub traffic : List Traffic
  pub traffic_is : d'.traffic ≡ and_all d.traffic traffic
  pub read : List ℕ
  pub written : List ℕ
  pub moved : MayHaveMoved old new read written
  pub bound : d'.idles + 1 < 2 ^ 64 → new.link_idles + 1 < 2 ^ 64
      → d.idles + old.link_idles + p.turns
      ≤ d'.idles + new.link_idles + datagrams_in traffic + length read + length written

-- No server that was searched answered that it has the channel.
abbrev pub IsSearchedInVain : Ask → Route → Patience → DatagramsView → DatagramsView → Type 0
IsSearchedInVain ask (routes.Known server) p d d' = ⊥
IsSearchedInVain ask (routes.Sought to rounds) p d d' = HasSearched ask.name (plan_of to rounds p) d d' ends.Unfound

-- what is at fault in bytes of the server: words for a put that give no value of the channel
abbrev pub HasBadWords : Ask → List ℕ → Type 0
HasBadWords ask read = (text : PutText) × (client_fault ask (events_in read) ≡ Some (faults.Words text))

-- a message that the client doesn't take, or, before the operation's end, a header that is refused
abbrev pub HasBadBytes : Ask → List ℕ → Type 0
HasBadBytes ask read =
    ((fault : ClientFault) × (client_fault ask (events_in read) ≡ Some fault) × (status_of_fault fault ≡ status.Stream))
    ⊎ ((fault : FrameFault) × (fault_from 0 None read ≡ Some fault) × (ended_by ask read ≡ None))

-- A link was dialed and taken back, of which such bytes were read. What the client tells of them was printed.
pub record HasReadBad (ask : Ask) (IsBad : Ask → List ℕ → Type 0) (old new : DialerView) (start now : Option (List ℕ))
    (before after : ℕ) : Type 0 where
  pub read : List ℕ
  pub written : List ℕ
  pub moved : HasMoved old new read written
  pub begins : Begins ask read written
  pub bad : IsBad ask read
  pub printed : HasPrinted start now before after (text_for ask read)

-- The causes of the statuses.
abbrev pub IsCause : Ask → Route → Patience → DatagramsView → DatagramsView → DialerView → DialerView
    → Option (List ℕ) → Option (List ℕ) → ℕ → ℕ → Status → Type 0
IsCause ask route p d d' old new start now before after status.Done =
    IsWhole ask old new start now before after endings.Finished
IsCause ask route p d d' old new start now before after status.Refused =
    IsWhole ask old new start now before after endings.Refused
IsCause ask route p d d' old new start now before after status.Unfound = IsSearchedInVain ask route p d d'
IsCause ask route p d d' old new start now before after status.Outside =
    HasFailed d d' old new before after ⊎ IsClosed ask old new start now before after
IsCause ask route p d d' old new start now before after status.Idle = RoseBy p.idle old.link_idles new.link_idles
IsCause ask route p d d' old new start now before after status.Spent = IsSpent p d d' old new
IsCause ask route p d d' old new start now before after status.Words =
    HasReadBad ask HasBadWords old new start now before after
IsCause ask route p d d' old new start now before after status.Stream =
    HasReadBad ask HasBadBytes old new start now before after
IsCause ask route p d d' old new start now before after status.Site = ⊥
IsCause ask route p d d' old new start now before after status.NoMemory = ⊤

-- Each status has its cause.
abbrev pub StatusesHaveCauses : Type 0
StatusesHaveCauses =
    (ask : Ask) (route : Route) (p : Patience) (d d' : DatagramsView) (old new : DialerView)
    (start now : Option (List ℕ)) (before after : ℕ) (outcome : Outcome)
    → Networks ask route p d d' old new start now before after outcome
    → IsCause ask route p d d' old new start now before after (status_of outcome)

-- How a run ends that meets no fault.

-- No count of faults rose, no link's end was met, the links weren't idle as often as ends a run, the turns weren't
-- spent, and the client takes all that was read. Of a dialer that tells no bytes this says nothing: they could be any.
pub record MeetsNoFault (ask : Ask) (p : Patience) (d d' : DatagramsView) (old new : DialerView) (before after : ℕ)
    : Type 0 where
  pub faults : ¬ (HasFailed d d' old new before after)
  pub ends : ¬ (Rose old.link_ends new.link_ends)
  pub idles : ¬ (RoseBy p.idle old.link_idles new.link_idles)
  pub turns : ¬ (IsSpent p d d' old new)
  pub sound : (read written : List ℕ) → HasMoved old new read written → IsSound ask read

-- a server that is searched may not be found
abbrev pub MaySearch : Route → Type 0
MaySearch (routes.Known server) = ⊥
MaySearch (routes.Sought to rounds) = ⊤

-- how such a run may end
abbrev pub MayEnd : Route → Status → Type 0
MayEnd route status.Done = ⊤
MayEnd route status.Refused = ⊤
MayEnd route status.NoMemory = ⊤
MayEnd route status.Unfound = MaySearch route
MayEnd route other = ⊥

abbrev pub FaultlessRunsEnd : Type 0
FaultlessRunsEnd =
    (ask : Ask) (route : Route) (p : Patience) (d d' : DatagramsView) (old new : DialerView)
    (start now : Option (List ℕ)) (before after : ℕ) (outcome : Outcome)
    → Networks ask route p d d' old new start now before after outcome
    → MeetsNoFault ask p d d' old new before after
    → MayEnd route (status_of outcome)
