-- What single calls of a search do.
use Rattle.std.specs.Prelude.{◌≡◌, ◌⊎◌, ℕ, suc, ◌+◌, ◌-◌, ◌^◌, ◌<◌, ◌≤◌, Bool, true, false, List, [], ◌∷◌, ◌++◌, length, Option, None, Some, Result, Ok, Err}
use Rattle.std.specs.List.{list_all}
use Rattle.pva_outside.specs.Traffic.{DatagramsView, Traffic, Got, Nothing, Tried}
use Rattle.pva_outside.specs.declared.peer.Peer.{Peer}
use Rattle.pva_search.specs.Finding.{Finding}
use Rattle.cli_search.specs.Searching.{Search, search_of, search_in, server_told, tells_none, IsRound, IsOver, HasCause}
use Rattle.cli_search.specs.Turning.{Passed, Failed, nothings}
use Rattle.cli_search.specs.declared.plan.Plan.{Plan}
use Rattle.cli_search.specs.declared.plan.Searched.{Searched}
use Rattle.cli_search.specs.declared.plan.Searched.TheVariants as ends
use Rattle.cli_search.specs.declared.searching.Heard.{Heard}
use Rattle.cli_search.specs.declared.searching.Heard.TheVariants as hears
use Rattle.cli_search.specs.declared.searching.Searching.{Searching}
use Rattle.cli_search.specs.declared.searching.Stop.{Stop}
use Rattle.cli_search.specs.declared.searching.Stop.TheVariants as stops

-- how a search ends that stops so
abbrev pub stopped : Stop → Searched
stopped stops.Failed = ends.Failed
stopped stops.Spent = ends.Spent
stopped stops.NoMemory = ends.NoMemory

-- a send
abbrev pub Sends : DatagramsView → DatagramsView → List ℕ → Peer → Result (Unit {0}) Stop → Type 0
Sends old new bytes to (Ok u) = Passed old new (Tried bytes to ∷ [])
Sends old new bytes to (Err stops.Failed) = Failed old new (Tried bytes to ∷ [])
Sends old new bytes to (Err stops.Spent) = ⊥
Sends old new bytes to (Err stops.NoMemory) = new ≡ old

-- what a datagram that tells this makes of a finder whose one name isn't found
abbrev pub Tells : Finding → Finding → Option Peer → Heard → Type 0
Tells old new told (hears.Server server) = told ≡ Some server
Tells old new told hears.Other = (told ≡ None) × (new ≡ old)
Tells old new told hears.Nothing = ⊥

-- What a call to receive a datagram brings.

-- one came, which tells this
pub record Came (old new : DatagramsView) (f g : Finding) (told : Option Peer) : Type 0 where
  pub bytes : List ℕ
  pub from : Peer
  pub told_is : server_told bytes from ≡ told
  pub passed : Passed old new (Got bytes from ∷ [])
  pub unfound : told ≡ None → g ≡ f

abbrev pub Brings : DatagramsView → DatagramsView → Finding → Finding → Result Heard Stop → Type 0
Brings old new f g (Ok (hears.Server server)) = Came old new f g (Some server)
Brings old new f g (Ok hears.Other) = Came old new f g None
Brings old new f g (Ok hears.Nothing) = Passed old new (Nothing ∷ []) × (g ≡ f)
Brings old new f g (Err stops.Failed) = Failed old new (Nothing ∷ [])
Brings old new f g (Err stops.Spent) = ⊥
Brings old new f g (Err stops.NoMemory) = new ≡ old

-- A search: what its finder knows, how it is made, where servers are asked to answer, and how many turns were made.
pub record View : Type 0 where
  pub finding : Finding
  pub plan : Plan
  pub port : ℕ
  pub calls : ℕ

abbrev pub view_of : Searching → View
view_of s = record { finding = s.finder; plan = s.plan; port = s.port; calls = s.calls }

abbrev pub first_view : Finding → Plan → ℕ → View
first_view finding plan port = record { finding = finding; plan = plan; port = port; calls = 0 }

-- The name isn't found, and a round, counted from 0, goes on.
pub record IsAt (s : Search) (round : ℕ) (v : View) : Type 0 where
  pub search_is : search_of s.name v.plan v.port ≡ s
  pub names : v.finding.names ≡ s.name ∷ []
  pub servers : v.finding.servers ≡ None ∷ []
  pub left : v.finding.rounds + suc round ≡ s.rounds
  pub small : s.rounds < 2 ^ 32

-- Its search is due, or went out.

pub record IsBefore (s : Search) (round : ℕ) (v : View) : Type 0 where
  pub at : IsAt s round v
  pub next : v.finding.next ≡ 0
  pub sequence : v.finding.sequence ≡ round

pub record IsBehind (s : Search) (round : ℕ) (v : View) : Type 0 where
  pub at : IsAt s round v
  pub sequence : v.finding.sequence ≡ suc round

-- so many turns more were made, and no more than there are
pub record HasMade (v w : View) (more : ℕ) : Type 0 where
  pub plan : w.plan ≡ v.plan
  pub calls : w.calls ≡ v.calls + more
  pub few : v.calls + more ≤ v.plan.turns

-- The search of a round.

pub record HasAsked (s : Search) (round : ℕ) (old new : DatagramsView) (v w : View) : Type 0 where
  pub behind : IsBehind s round w
  pub passed : Passed old new (search_in s round ∷ [])
  pub made : HasMade v w 1

abbrev pub Asks : Search → ℕ → DatagramsView → DatagramsView → View → View → Result (Unit {0}) Stop → Type 0
Asks s round old new v w (Ok u) = HasAsked s round old new v w
Asks s round old new v w (Err stops.Failed) =
    Failed old new (search_in s round ∷ []) × (v.calls + 1 ≤ v.plan.turns)
Asks s round old new v w (Err stops.Spent) = (new ≡ old) × (v.calls ≡ v.plan.turns)
Asks s round old new v w (Err stops.NoMemory) = new ≡ old

-- A call to receive a datagram.

-- one came, which tells this
pub record HasHeard (old new : DatagramsView) (v w : View) (told : Option Peer) : Type 0 where
  pub bytes : List ℕ
  pub from : Peer
  pub told_is : server_told bytes from ≡ told
  pub passed : Passed old new (Got bytes from ∷ [])
  pub made : HasMade v w 1
  pub view : told ≡ None → w ≡ record v { calls = v.calls + 1 }

-- nothing came
pub record HasIdled (old new : DatagramsView) (v w : View) : Type 0 where
  pub passed : Passed old new (Nothing ∷ [])
  pub made : HasMade v w 1
  pub view : w ≡ record v { calls = v.calls + 1 }

abbrev pub Receives : DatagramsView → DatagramsView → View → View → Result Heard Stop → Type 0
Receives old new v w (Ok (hears.Server server)) = HasHeard old new v w (Some server)
Receives old new v w (Ok hears.Other) = HasHeard old new v w None
Receives old new v w (Ok hears.Nothing) = HasIdled old new v w
Receives old new v w (Err stops.Failed) = Failed old new (Nothing ∷ []) × (v.calls + 1 ≤ v.plan.turns)
Receives old new v w (Err stops.Spent) = (new ≡ old) × (v.plan.turns ≤ v.calls)
Receives old new v w (Err stops.NoMemory) = new ≡ old

-- Calls to receive datagrams, of which none but the last may tell the server.

-- this came, and tells no server
pub record CameMute (old new : DatagramsView) (v : View) : Type 0 where
  pub came : List Traffic
  pub mute : list_all tells_none came ≡ true
  pub passed : Passed old new came
  pub few : v.calls + length came ≤ v.plan.turns

pub record CameServer (old new : DatagramsView) (v w : View) (server : Peer) : Type 0 where
  pub came : List Traffic
  pub mute : list_all tells_none came ≡ true
  pub bytes : List ℕ
  pub from : Peer
  pub told_is : server_told bytes from ≡ Some server
  pub passed : Passed old new (came ++ Got bytes from ∷ [])
  pub made : HasMade v w (length came + 1)

pub record CameNone (old new : DatagramsView) (v w : View) : Type 0 where
  pub mute : CameMute old new v
  pub idles : nothings mute.came ≡ v.plan.idle
  pub view : w ≡ record v { calls = v.calls + length mute.came }

pub record CameFailed (old new : DatagramsView) (v : View) : Type 0 where
  pub came : List Traffic
  pub mute : list_all tells_none came ≡ true
  pub failed : Failed old new (came ++ Nothing ∷ [])
  pub few : v.calls + (length came + 1) ≤ v.plan.turns

pub record CameSpent (old new : DatagramsView) (v : View) : Type 0 where
  pub mute : CameMute old new v
  pub all : v.calls + length mute.came ≡ v.plan.turns

abbrev pub Listens : DatagramsView → DatagramsView → View → View → Result (Option Peer) Stop → Type 0
Listens old new v w (Ok (Some server)) = CameServer old new v w server
Listens old new v w (Ok None) = CameNone old new v w
Listens old new v w (Err stops.Failed) = CameFailed old new v
Listens old new v w (Err stops.Spent) = CameSpent old new v
Listens old new v w (Err stops.NoMemory) = CameMute old new v

-- A round.

-- it has begun, or is about to
abbrev pub IsGoing : Search → ℕ → List Traffic → Type 0
IsGoing s round traffic = IsRound s round traffic ⊎ (traffic ≡ [])

pub record RoundFinds (s : Search) (round : ℕ) (old new : DatagramsView) (v w : View) (server : Peer) : Type 0 where
  pub traffic : List Traffic
  pub begun : IsRound s round traffic
  pub bytes : List ℕ
  pub from : Peer
  pub told_is : server_told bytes from ≡ Some server
  pub passed : Passed old new (traffic ++ Got bytes from ∷ [])
  pub made : HasMade v w (length traffic + 1)

pub record RoundEnds (s : Search) (round : ℕ) (old new : DatagramsView) (v w : View) : Type 0 where
  pub traffic : List Traffic
  pub over : IsOver s round traffic
  pub passed : Passed old new traffic
  pub behind : IsBehind s round w
  pub made : HasMade v w (length traffic)

abbrev pub IsRoundCall : Search → ℕ → List Traffic → Traffic → Type 0
IsRoundCall s round before last =
    ((before ≡ []) × (last ≡ search_in s round)) ⊎ (IsRound s round before × (last ≡ Nothing))

pub record RoundFails (s : Search) (round : ℕ) (old new : DatagramsView) (v : View) : Type 0 where
  pub before : List Traffic
  pub last : Traffic
  pub call : IsRoundCall s round before last
  pub failed : Failed old new (before ++ last ∷ [])
  pub few : v.calls + (length before + 1) ≤ v.plan.turns

pub record RoundStops (s : Search) (round : ℕ) (old new : DatagramsView) (v : View) : Type 0 where
  pub traffic : List Traffic
  pub going : IsGoing s round traffic
  pub passed : Passed old new traffic
  pub few : v.calls + length traffic ≤ v.plan.turns

pub record RoundSpends (s : Search) (round : ℕ) (old new : DatagramsView) (v : View) : Type 0 where
  pub stops : RoundStops s round old new v
  pub all : v.calls + length stops.traffic ≡ v.plan.turns

abbrev pub Rounds : Search → ℕ → DatagramsView → DatagramsView → View → View → Result (Option Peer) Stop → Type 0
Rounds s round old new v w (Ok (Some server)) = RoundFinds s round old new v w server
Rounds s round old new v w (Ok None) = RoundEnds s round old new v w
Rounds s round old new v w (Err stops.Failed) = RoundFails s round old new v
Rounds s round old new v w (Err stops.Spent) = RoundSpends s round old new v
Rounds s round old new v w (Err stops.NoMemory) = RoundStops s round old new v

-- The next round has begun; or there is none.

pub record HasTurned (v w : View) : Type 0 where
  pub some : 0 < v.finding.rounds
  pub view : w ≡ record v { finding = record v.finding { next = 0; rounds = v.finding.rounds - 1 } }

abbrev pub Turns : View → View → Bool → Type 0
Turns v w true = HasTurned v w
Turns v w false = v.finding.rounds ≡ 0

-- a whole search, with some traffic
abbrev pub Ends : Search → ℕ → DatagramsView → DatagramsView → Searched → Type 0
Ends s turns old new end = (traffic : List Traffic) × HasCause s turns old new traffic end
