-- The datagrams of a host: it answers searches between its accepts, and tells by beacons that it is there.
-- (pvAccess Protocol Specification, "Channel Discovery")
use Rattle.std.specs.Prelude.{◌≡◌, ℕ, suc, ◌+◌, ◌<◌, ◌≤◌, ◌/◌, ◌%◌, ◌==◌, ◌||◌, Bool, if◌then◌else◌, List, [], ◌∷◌, ◌++◌, length, Option, None, Some, option_map, is_some, Result, Ok, Err, true, false}
use Rattle.histories.specs.History.{IsPrefixOf}
use Rattle.pva_outside.specs.Traffic.{DatagramsView, Got, Nothing, Traffic, Tried}
use Rattle.pva_outside.specs.declared.peer.Peer.{Peer}
use Rattle.pvd_type.specs.declared.memory.NoMemory.{NoMemory}
use Rattle.pva_search.specs.Answers.{answer_of}
use Rattle.pva_search.specs.Messages.{beacon_bytes}
use Rattle.pva_search.specs.declared.setup.Setup.{Setup}
use Rattle.desk_api.specs.Sites.{channel_named}
use Rattle.desk_api.specs.declared.history.SiteData.{SiteData}

-- the names that a site knows
abbrev pub knows : SiteData → List ℕ → Bool
knows site name = is_some (channel_named site name)

-- the answer is sent, where there is one
abbrev pub sends : Option (List ℕ × Peer) → List Traffic
sends None = []
sends (Some answer) = Tried answer.0 answer.1 ∷ []

-- a datagram that came, with what is sent at once: its answer, where it has one
abbrev pub answered : SiteData → Setup → List ℕ × Peer → List Traffic
answered site setup came = Got came.0 came.1 ∷ sends (answer_of (knows site) setup came.1 came.0)

abbrev pub all_answered : SiteData → Setup → List (List ℕ × Peer) → List Traffic
all_answered site setup [] = []
all_answered site setup (came ∷ more) = answered site setup came ++ all_answered site setup more

-- the most receives of one turn
abbrev pub most_receives : ℕ
most_receives = 16

-- a receive that gets nothing ends them, unless as many were made as may be
abbrev pub ending : ℕ → List Traffic
ending received = if received == most_receives then [] else Nothing ∷ []

-- This was received and sent, where it is told, and no binding moved.
pub record Went (old new : DatagramsView) (traffic : List Traffic) : Type 0 where
  pub told : new.traffic ≡ option_map (λ before. before ++ traffic) old.traffic
  pub bindings : new.bindings ≡ old.bindings

-- The first of it.
pub record WentFirst (old new : DatagramsView) (traffic : List Traffic) : Type 0 where
  pub done : List Traffic
  pub first : IsPrefixOf done traffic
  pub went : Went old new done

-- What was received and sent is of this kind, whole; or its first part, where memory ran out.
abbrev pub GoesOn : (List Traffic → Type 0) → DatagramsView → DatagramsView → Result (Unit {0}) NoMemory → Type 0
GoesOn Kind old new (Ok done) = (traffic : List Traffic) × Kind traffic × Went old new traffic
GoesOn Kind old new (Err e) = (traffic : List Traffic) × Kind traffic × WentFirst old new traffic

-- One receive: a datagram came, and was answered; or nothing came.
abbrev pub IsReceive : SiteData → Setup → Bool → List Traffic → Type 0
IsReceive site setup true traffic = (came : List ℕ × Peer) × (traffic ≡ answered site setup came)
IsReceive site setup false traffic = traffic ≡ Nothing ∷ []

abbrev pub Receives : SiteData → Setup → DatagramsView → DatagramsView → Result Bool NoMemory → Type 0
Receives site setup old new (Ok some) =
    (traffic : List Traffic) × IsReceive site setup some traffic × Went old new traffic
Receives site setup old new (Err e) =
    (some : Bool) × ((traffic : List Traffic) × IsReceive site setup some traffic × WentFirst old new traffic)

-- The receives of one turn, each datagram with its answer.
pub record AreReceives (site : SiteData) (setup : Setup) (traffic : List Traffic) : Type 0 where
  pub came : List (List ℕ × Peer)
  pub few : length came ≤ most_receives
  pub traffic_is : traffic ≡ all_answered site setup came ++ ending (length came)

-- Turns are counted from 1. A beacon is due in the first one and in each hundredth.
abbrev pub is_due : ℕ → Bool
is_due turn = (turn == 1) || (turn % 100 == 0)

-- the beacon of a turn, where one is due: they are counted from 0 modulo 256, and tell no change
abbrev pub beacon_in : Setup → Option Peer → ℕ → List Traffic
beacon_in setup None turn = []
beacon_in setup (Some to) turn =
    if is_due turn then Tried (beacon_bytes setup (turn / 100 % 256) 0) to ∷ [] else []

-- What is sent and received in one turn.
pub record IsTurn (site : SiteData) (setup : Setup) (beacon_to : Option Peer) (turn : ℕ) (traffic : List Traffic)
    : Type 0 where
  pub received : List Traffic
  pub receives : AreReceives site setup received
  pub traffic_is : traffic ≡ beacon_in setup beacon_to turn ++ received

-- these are of the turns behind so many
abbrev pub AreTurns : SiteData → Setup → Option Peer → ℕ → List (List Traffic) → Type 0
AreTurns site setup beacon_to before [] = Unit {0}
AreTurns site setup beacon_to before (traffic ∷ more) =
    IsTurn site setup beacon_to (suc before) traffic × AreTurns site setup beacon_to (suc before) more

abbrev pub joined : List (List Traffic) → List Traffic
joined [] = []
joined (traffic ∷ more) = traffic ++ joined more

-- The traffic of so many turns, whole.
pub record WentWhole (site : SiteData) (setup : Setup) (beacon_to : Option Peer) (old new : DatagramsView)
    (turns : ℕ) : Type 0 where
  pub each : List (List Traffic)
  pub many : length each ≡ turns
  pub are : AreTurns site setup beacon_to 0 each
  pub went : Went old new (joined each)

-- The traffic of so many turns, whole, and the first part of that of the next turn.
pub record WentInPart (site : SiteData) (setup : Setup) (beacon_to : Option Peer) (old new : DatagramsView)
    (turns : ℕ) : Type 0 where
  pub mid : DatagramsView
  pub whole : WentWhole site setup beacon_to old mid turns
  pub next : List Traffic
  pub is_turn : IsTurn site setup beacon_to (suc turns) next
  pub first : WentFirst mid new next
