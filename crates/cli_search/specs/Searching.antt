-- What a search for a channel's server comes to (pvAccess Protocol Specification, "searchRequest" and "searchResponse").
use Rattle.std.specs.Prelude.{◌≡◌, ◌⊎◌, ℕ, suc, ◌<◌, ◌≤◌, Bool, true, false, ◌&&◌, ◌==◌, if◌then◌else◌, List, [], ◌∷◌, ◌++◌, length, Option, None, Some, is_none, ⊤}
use Rattle.std.specs.List.{flat_map, list_all, list_any}
use Rattle.pva_outside.specs.Traffic.{DatagramsView, Traffic, Got, Nothing, Tried, BindsDatagrams}
use Rattle.pva_outside.specs.declared.binding.BindStep.TheVariants as binds
use Rattle.pva_outside.specs.declared.peer.Peer.{Peer}
use Rattle.pva_wire.specs.declared.order.Order.TheVariants.{Little}
use Rattle.pva_wire.specs.declared.order.Order.{Order}
use Rattle.pva_search.specs.Finding.{asks_for, server_of}
use Rattle.pva_search.specs.Messages.{Response, search_bytes}
use Rattle.pva_search.specs.Reading.{response_in}
use Rattle.cli_search.specs.Turning.{Passed, Failed, nothings}
use Rattle.cli_search.specs.declared.plan.Plan.{Plan}
use Rattle.cli_search.specs.declared.plan.Searched.{Searched}
use Rattle.cli_search.specs.declared.plan.Searched.TheVariants as ends

-- What is searched: the server of the channel of this name. Searches go to this address and ask servers to answer at this
-- port; there are so many rounds, each of which ends when nothing has come in it so often.
pub record Search : Type 0 where
  pub name : List ℕ
  pub to : Peer
  pub port : ℕ
  pub rounds : ℕ
  pub idle : ℕ

abbrev pub search_of : List ℕ → Plan → ℕ → Search
search_of name plan port =
    record { name = name; to = plan.to; port = port; rounds = plan.rounds; idle = plan.idle }

-- the search of a round, counted from 0: it asks for the one name, under the number 0
abbrev pub search_in : Search → ℕ → Traffic
search_in s round = Tried (search_bytes Little (asks_for round s.port ((0, s.name) ∷ []))) s.to

-- whether a response says that its server has the channel
abbrev pub names_it : Response → Bool
names_it r = r.found && list_any (λ number. number == 0) r.instances

-- The server that a datagram tells, if it is such a response: the address in it, or the sender's where that is zero, and
-- the port in it.

abbrev pub server_in : Peer → Option (Order × Response) → Option Peer
server_in from None = None
server_in from (Some r) = if names_it r.1 then Some (server_of from r.1) else None

abbrev pub server_told : List ℕ → Peer → Option Peer
server_told bytes from = server_in from (response_in bytes)

-- what came tells no server
abbrev pub tells_none : Traffic → Bool
tells_none (Got bytes from) = is_none (server_told bytes from)
tells_none Nothing = true
tells_none (Tried bytes to) = false

-- A round has begun: its search went out, and what came since tells no server.
pub record IsRound (s : Search) (round : ℕ) (traffic : List Traffic) : Type 0 where
  pub came : List Traffic
  pub traffic_is : traffic ≡ search_in s round ∷ came
  pub mute : list_all tells_none came ≡ true

-- It is over: nothing came in it as often as ends one.
pub record IsOver (s : Search) (round : ℕ) (traffic : List Traffic) : Type 0 where
  pub begun : IsRound s round traffic
  pub idles : nothings traffic ≡ s.idle

-- these rounds are over, the first of which has this number
abbrev pub AreOver : Search → ℕ → List (List Traffic) → Type 0
AreOver s round [] = ⊤
AreOver s round (traffic ∷ later) = IsOver s round traffic × AreOver s (suc round) later

abbrev pub joined : List (List Traffic) → List Traffic
joined rounds = flat_map (λ traffic. traffic) rounds

-- All rounds are over.
pub record HasEnded (s : Search) (traffic : List Traffic) : Type 0 where
  pub rounds : List (List Traffic)
  pub traffic_is : traffic ≡ joined rounds
  pub over : AreOver s 0 rounds
  pub all : length rounds ≡ s.rounds

-- Some rounds are over, and a further one has begun, or is about to.

pub record IsInRound (s : Search) (traffic : List Traffic) : Type 0 where
  pub past : List (List Traffic)
  pub present : List Traffic
  pub traffic_is : traffic ≡ joined past ++ present
  pub over : AreOver s 0 past
  pub few : length past < s.rounds
  pub begun : IsRound s (length past) present

pub record IsBeforeRound (s : Search) (traffic : List Traffic) : Type 0 where
  pub past : List (List Traffic)
  pub traffic_is : traffic ≡ joined past
  pub over : AreOver s 0 past
  pub few : length past < s.rounds

abbrev pub IsOnItsWay : Search → List Traffic → Type 0
IsOnItsWay s traffic = IsInRound s traffic ⊎ IsBeforeRound s traffic

-- How a search ends, with this traffic, behind at most so many turns.

-- a datagram of a round, the first of all, tells the server
pub record AtFound (s : Search) (turns : ℕ) (old new : DatagramsView) (traffic : List Traffic) (server : Peer)
    (calls : ℕ) : Type 0 where
  pub before : List Traffic
  pub bytes : List ℕ
  pub from : Peer
  pub traffic_is : traffic ≡ before ++ Got bytes from ∷ []
  pub asked : IsInRound s before
  pub tells : server_told bytes from ≡ Some server
  pub passed : Passed old new traffic
  pub calls_are : calls ≡ length traffic
  pub few : calls ≤ turns

-- no response named the channel in all rounds
pub record AtUnfound (s : Search) (turns : ℕ) (old new : DatagramsView) (traffic : List Traffic) : Type 0 where
  pub ended : HasEnded s traffic
  pub passed : Passed old new traffic
  pub few : length traffic ≤ turns

-- A send failed, or a receive. The datagrams counted it.

abbrev pub IsCall : Search → List Traffic → Traffic → Type 0
IsCall s before last =
    ((b : IsBeforeRound s before) × (last ≡ search_in s (length b.past))) ⊎ (IsInRound s before × (last ≡ Nothing))

pub record AtFailed (s : Search) (turns : ℕ) (old new : DatagramsView) (traffic : List Traffic) : Type 0 where
  pub before : List Traffic
  pub last : Traffic
  pub traffic_is : traffic ≡ before ++ last ∷ []
  pub call : IsCall s before last
  pub failed : Failed old new traffic
  pub few : length traffic ≤ turns

-- each turn was made, and the search isn't over
pub record AtSpent (s : Search) (turns : ℕ) (old new : DatagramsView) (traffic : List Traffic) : Type 0 where
  pub going : IsOnItsWay s traffic
  pub passed : Passed old new traffic
  pub all : length traffic ≡ turns

pub record AtNoMemory (s : Search) (turns : ℕ) (old new : DatagramsView) (traffic : List Traffic) : Type 0 where
  pub going : IsOnItsWay s traffic
  pub passed : Passed old new traffic
  pub few : length traffic ≤ turns

abbrev pub HasCause : Search → ℕ → DatagramsView → DatagramsView → List Traffic → Searched → Type 0
HasCause s turns old new traffic (ends.Found server calls) = AtFound s turns old new traffic server calls
HasCause s turns old new traffic ends.Unfound = AtUnfound s turns old new traffic
HasCause s turns old new traffic ends.Failed = AtFailed s turns old new traffic
HasCause s turns old new traffic ends.Spent = AtSpent s turns old new traffic
HasCause s turns old new traffic ends.NoMemory = AtNoMemory s turns old new traffic

-- any address of this machine, at a port that is free
abbrev pub anywhere : Peer
anywhere = record {
  address =
      0 ∷ 0 ∷ 0 ∷ 0 ∷ 0 ∷ 0 ∷ 0 ∷ 0 ∷ 0 ∷ 0 ∷ 255 ∷ 255 ∷ 0 ∷ 0 ∷ 0 ∷ 0 ∷ [];
  port = 0;
}

-- The datagrams were bound, and asked servers to answer at the port that they were given. Behind that this was their traffic,
-- and so the search ended.
pub record HasSearched (name : List ℕ) (plan : Plan) (old new : DatagramsView) (end : Searched) : Type 0 where
  pub port : ℕ
  pub bound : DatagramsView
  pub binds : BindsDatagrams old bound (binds.Bound port) anywhere
  pub traffic : List Traffic
  pub cause : HasCause (search_of name plan port) plan.turns bound new traffic end

-- They couldn't be bound, or memory ran out before.
abbrev pub IsUnbound : DatagramsView → DatagramsView → Searched → Type 0
IsUnbound old new ends.Failed = BindsDatagrams old new binds.Failed anywhere
IsUnbound old new ends.NoMemory = BindsDatagrams old new binds.NoMemory anywhere
IsUnbound old new other = ⊥

-- A search for the server of this channel, over these datagrams.
abbrev pub Searches : List ℕ → Plan → DatagramsView → DatagramsView → Searched → Type 0
Searches name plan old new end = HasSearched name plan old new end ⊎ IsUnbound old new end
