-- The reports of an exchange, one after another.
use Rattle.std.specs.Prelude.{◌≡◌, ℕ, List, [], ◌∷◌, ◌++◌, map, Option, None, Some, IsSome, ⊤}
use Rattle.std.specs.Io.KnownBytes.{Consumes}
use Rattle.futures.specs.Runs.{Runs}
use Rattle.histories.specs.History.{IsPrefixOf}
use Rattle.pva_outside.specs.Wire.{Wire}
use Rattle.cli_session.specs.Seen.{report_view, reports_view}
use Rattle.cli_session.specs.Steps.{Told}
use Rattle.cli_session.specs.declared.ask.Ask.{Ask}
use Rattle.cli_session.specs.declared.report.Report.{Report}
use Rattle.cli_futures.specs.Exchanging.{HasExchanged}
use Rattle.cli_futures.specs.Taking.{told_to}
use Rattle.cli_futures.specs.Turning.{EndsBy, IsGoing, Rested}
use Rattle.cli_futures.specs.declared.conversation.Conversation.{Conversation}
use Rattle.cli_futures.specs.declared.end.ExchangeEnd.{ExchangeEnd}
use Rattle.cli_futures.specs.declared.end.Patience.{Patience}
use Rattle.cli_futures.specs.declared.updates.Updates.{Updates}

-- These are the first of what a client tells to the bytes that were read of a link that was so.
pub record AreFirstOf (ask : Ask) (begin : Wire) (told : List Told) : Type 0 where
  pub read : List ℕ
  pub rest : Option (List ℕ)
  pub taken : Consumes begin.left rest read
  pub front : IsPrefixOf told (told_to ask read)

-- its exchange has ended
abbrev pub HasEnded : {L : Type 0} → Updates L → Type 0
HasEnded u = IsSome u.end

module _ {L : Type 0} (wire : L → Wire) where
  -- it goes on, or it has ended
  abbrev pub StandsBy : Ask → Wire → List Told → Conversation L → Option ExchangeEnd → Type 0
  StandsBy ask begin told c None = IsGoing wire ask begin told c
  StandsBy ask begin told c (Some end) = HasExchanged ask c.patience begin (wire c.link) told end

  abbrev pub StandsAt : Ask → Wire → List Told → Updates L → Type 0
  StandsAt ask begin told u = StandsBy ask begin told u.conversation u.end

  -- A stream over a link that was so, with these limits. These reports were given.
  pub record HasGiven (ask : Ask) (idle turns : ℕ) (begin : Wire) (told : List Told) (u : Updates L) : Type 0 where
    pub stands : StandsAt ask begin told u
    pub patience : u.conversation.patience ≡ (let p : Patience = record { idle = idle; turns = turns } in p)

  -- These reports were given too.
  abbrev pub GivesMore : Updates L → Updates L → List Told → Type 0
  GivesMore old new more =
      (ask : Ask) (idle turns : ℕ) (begin : Wire) (told : List Told) → HasGiven ask idle turns begin told old
      → HasGiven ask idle turns begin (told ++ more) new

  -- No more was given.
  abbrev pub GivesNone : Updates L → Updates L → Type 0
  GivesNone old new =
      (ask : Ask) (idle turns : ℕ) (begin : Wire) (told : List Told) → HasGiven ask idle turns begin told old
      → HasGiven ask idle turns begin told new

  -- The limit is reached only where the link was idle so often in a row before this poll.
  abbrev pub StopsBy : Updates L → Updates L → Option ExchangeEnd → Option ExchangeEnd → Type 0
  StopsBy old new None (Some end) =
      EndsBy (wire old.conversation.link) (wire new.conversation.link) old.conversation.idles end
  StopsBy old new before after = ⊤

  -- The exchange has ended, and all its reports were given.
  pub record HasStopped (old new : Updates L) : Type 0 where
    pub none : GivesNone old new
    pub ended : HasEnded new
    pub limit : StopsBy old new old.end new.end

  -- A poll gave the next report, or the end.
  abbrev pub GivesNext : Updates L → Updates L → Option Report → Type 0
  GivesNext old new (Some report) = GivesMore old new (report_view report ∷ [])
  GivesNext old new None = HasStopped old new

  -- The next report was given, or the exchange has ended and all its reports were given.
  abbrev pub Follows : Updates L → Updates L → Option Report → Type 0
  Follows old new (Some report) = GivesMore old new (report_view report ∷ [])
  Follows old new None = GivesNone old new × HasEnded new

  -- A poll was pending: the link was idle in its last call, and no report was given.
  pub record HasWaited (old new : Updates L) : Type 0 where
    pub none : GivesNone old new
    pub rested :
        Rested (wire old.conversation.link) (wire new.conversation.link) old.conversation.idles new.conversation.idles

  -- What may come from the stream: behind the reports that were given, the next ones of what was read.
  abbrev pub Yields : Updates L → Runs Report
  Yields u reports last =
      (ask : Ask) (begin : Wire) (told : List Told) → StandsAt ask begin told u
      → AreFirstOf ask begin (told ++ (map report_view reports ++ reports_view last))
