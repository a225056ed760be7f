-- What serving many clients means.
use Rattle.std.specs.Prelude.{◌≡◌, ◌⊎◌, ⊤, ℕ, Bool, true, false, List, [], ◌∷◌, ◌++◌, length, Option, Some}
use Rattle.histories.specs.History.{Begins, Every, deeds_by}
use Rattle.hall_core.specs.Meanings.{AreDistinct}
use Rattle.hall_locks.specs.Hall.{numbers_of}
use Rattle.journal_core.specs.Moments.{Moment}
use Rattle.pva_outside.specs.Doors.{Door, with_back}
use Rattle.pva_outside.specs.Traffic.{DatagramsView}
use Rattle.pva_outside.specs.Wire.{Wire}
use Rattle.pva_outside.specs.declared.peer.Peer.{Peer}
use Rattle.pva_search.specs.declared.setup.Setup.{Setup}
use Rattle.pva_wire.specs.declared.order.Order.{Order}
use Rattle.desk_api.specs.History.{History, IsLegal}
use Rattle.desk_api.specs.Marks.{AllHold, deeds_of}
use Rattle.desk_api.specs.declared.history.SiteData.{SiteData}
use Rattle.desk_api.specs.declared.mark.Mark.{Mark}
use Rattle.desk_shared.specs.Records.{Sight}
use Rattle.srv_host.specs.Accepts.{Stopped, links_in}
use Rattle.srv_host.specs.Datagrams.{WentInPart, WentWhole}
use Rattle.srv_host.specs.Joining.{AreBack, HasMemory}
use Rattle.srv_host.specs.Sessions.{Session, WasServed, logs_of, starts_of, written_of}
use Rattle.srv_host.specs.declared.accepting.Stop.{Stop}
use Rattle.srv_host.specs.declared.accepting.Stop.TheVariants as stops
use Rattle.srv_host.specs.declared.hosted.Hosted.{Hosted}
use Rattle.srv_host.specs.declared.hosted.Hosted.TheVariants as answers

-- The links that came in these turns were begun to be served, and each turn has all of its datagrams.
pub record AreAllBegun (site : SiteData) (setup : Setup) (beacon_to : Option Peer) (heard then_ : DatagramsView)
    (turns : List (Option Wire)) (links : List Wire) : Type 0 where
  pub links_are : links ≡ links_in turns
  pub datagrams : WentWhole site setup beacon_to heard then_ (length turns)

-- So in all turns but the last, in which a link came that wasn't begun to be served. Then nothing was received or sent.
pub record LeftALink (site : SiteData) (setup : Setup) (beacon_to : Option Peer) (heard then_ : DatagramsView)
    (turns : List (Option Wire)) (links : List Wire) : Type 0 where
  pub before : List (Option Wire)
  pub last : Wire
  pub turns_are : turns ≡ before ++ Some last ∷ []
  pub begun : AreAllBegun site setup beacon_to heard then_ before links

-- The links that came in these turns were begun to be served. Each turn but the last has all of its datagrams, and the
-- last the first part of them.
pub record BrokeOff (site : SiteData) (setup : Setup) (beacon_to : Option Peer) (heard then_ : DatagramsView)
    (turns : List (Option Wire)) (links : List Wire) : Type 0 where
  pub before : List (Option Wire)
  pub last : Option Wire
  pub turns_are : turns ≡ before ++ last ∷ []
  pub links_are : links ≡ links_in turns
  pub datagrams : WentInPart site setup beacon_to heard then_ (length before)

-- What was begun, by why no further link was accepted: all of it. Where the host found no memory, it did so before a
-- turn or in its accept; or it left the link of the last turn; or it broke off among the datagrams of the last turn.
-- Behind that nothing was accepted, received or sent.
abbrev pub AreBegun : SiteData → Setup → Option Peer → DatagramsView → DatagramsView → List (Option Wire) → List Wire
    → Stop → Type 0
AreBegun site setup beacon_to heard then_ turns links stops.NoMemory =
    AreAllBegun site setup beacon_to heard then_ turns links
    ⊎ (LeftALink site setup beacon_to heard then_ turns links ⊎ BrokeOff site setup beacon_to heard then_ turns links)
AreBegun site setup beacon_to heard then_ turns links stop =
    AreAllBegun site setup beacon_to heard then_ turns links

-- How accepting went, and why it ended: these links are served.
pub record HasAccepted (site : SiteData) (setup : Setup) (beacon_to : Option Peer) (most : ℕ) (before after : Door)
    (heard then_ : DatagramsView) (links : List Wire) (stop : Stop) : Type 0 where
  pub turns : List (Option Wire)
  pub stopped : Stopped before after most turns stop
  pub begun : AreBegun site setup beacon_to heard then_ turns links stop

-- The sessions of a host and the one history in which all of them stand. `old` is what its pass knew, and `new` what
-- the pass knows that comes back.
pub record AreHosted (old new : Sight) (told : Option Moment) (order : Order) (sessions : List Session) : Type 0 where
  -- The host itself did nothing. Its pass now holds also the logs of the sessions, in this order, and all logs that it
  -- holds are of different seats.
  pub number : new.number ≡ old.number
  pub log : new.log ≡ old.log
  pub logs : new.others ≡ old.others ++ logs_of sessions
  pub distinct : AreDistinct (new.number ∷ numbers_of new.others)
  -- The history is legal, and goes on from the one that was seen before and from what each session has seen.
  pub legal : IsLegal new.seen
  pub grows : Begins old.seen new.seen
  pub seen : Every (λ session. Begins session.seen new.seen) sessions
  -- Each link was served, from the history that was seen before.
  pub served : Every (WasServed old.seen told order) sessions
  -- Each mark of these logs is true in the history,
  pub true_ : Every (λ log. AllHold log.0 new.seen [] log.1) (logs_of sessions)
  -- and all that the seats did whose logs are held, the host's own too, is what their marks say.
  pub did : Every (λ log. deeds_by log.0 new.seen.deeds ≡ deeds_of log.1) ((new.number, new.log) ∷ new.others)

-- All that came was served, whole: each link that came, with memory; each of them was taken back; and each turn has all
-- of its datagrams.
pub record IsWhole (site : SiteData) (setup : Setup) (beacon_to : Option Peer) (mid after : Door)
    (heard then_ : DatagramsView) (turns : List (Option Wire)) (sessions : List Session) : Type 0 where
  pub links : starts_of sessions ≡ links_in turns
  pub memory : Every HasMemory sessions
  pub back : after ≡ with_back mid (written_of sessions)
  pub datagrams : WentWhole site setup beacon_to heard then_ (length turns)

-- Memory ran out somewhere. Where it did for the host, nothing was begun behind that; where it did for a session alone,
-- or for a link that was handed back, all was begun. Of the links that were served the first were taken back.
pub record IsInPart (site : SiteData) (setup : Setup) (beacon_to : Option Peer) (mid after : Door)
    (heard then_ : DatagramsView) (turns : List (Option Wire)) (sessions : List Session) (stop : Stop) : Type 0 where
  pub begun : AreBegun site setup beacon_to heard then_ turns (starts_of sessions) stop
  pub back : AreBack mid after (written_of sessions)

-- the answer of a host that accepted no further link for this reason. `fine` tells that there was memory throughout
abbrev pub answer_of : Stop → Bool → ℕ → Hosted
answer_of stops.End true served = answers.Finished served
answer_of stops.Turns true served = answers.Finished served
answer_of stops.Fault true served = answers.AcceptFault served
answer_of stops.NoMemory true served = answers.NoMemory served
answer_of stop false served = answers.NoMemory served

-- why accepting stopped, by the answer. Want of memory may be met in each case.
abbrev pub StoppedSo : Hosted → Stop → Type 0
StoppedSo (answers.Finished served) stop = (stop ≡ stops.End) ⊎ (stop ≡ stops.Turns)
StoppedSo (answers.AcceptFault served) stop = stop ≡ stops.Fault
StoppedSo (answers.NoMemory served) stop = ⊤

abbrev pub IsDone : Hosted → SiteData → Setup → Option Peer → Door → Door → DatagramsView → DatagramsView
    → List (Option Wire) → List Session → Stop → Type 0
IsDone (answers.Finished served) site setup beacon_to mid after heard then_ turns sessions stop =
    IsWhole site setup beacon_to mid after heard then_ turns sessions
IsDone (answers.AcceptFault served) site setup beacon_to mid after heard then_ turns sessions stop =
    IsWhole site setup beacon_to mid after heard then_ turns sessions
IsDone (answers.NoMemory served) site setup beacon_to mid after heard then_ turns sessions stop =
    IsInPart site setup beacon_to mid after heard then_ turns sessions stop

-- how many links were served, by the answer
abbrev pub served_of : Hosted → ℕ
served_of (answers.Finished served) = served
served_of (answers.AcceptFault served) = served
served_of (answers.NoMemory served) = served

-- Many clients were served: what their listener answered turn by turn, and why that stopped; their sessions, which all
-- stand in one history; the links that were taken back; and the datagrams between the accepts. `mid` is the listener
-- when no further link was accepted.
pub record Hosts (site : SiteData) (setup : Setup) (beacon_to : Option Peer) (told : Option Moment) (most : ℕ)
    (old new : Sight) (before after : Door) (heard then_ : DatagramsView) (result : Hosted) : Type 0 where
  pub turns : List (Option Wire)
  pub sessions : List Session
  pub mid : Door
  pub stop : Stop
  pub stopped : Stopped before mid most turns stop
  pub hosted : AreHosted old new told setup.order sessions
  pub served : served_of result ≡ length sessions
  pub stop_is : StoppedSo result stop
  pub done : IsDone result site setup beacon_to mid after heard then_ turns sessions stop
