-- What an exchange, a future, may give.
use Rattle.std.specs.Prelude.{◌≡◌, ℕ, map, Option, None, Some, IfSome, IsSome, ⊤}
use Rattle.pva_outside.specs.Wire.{Wire}
use Rattle.cli_session.specs.Seen.{report_view}
use Rattle.cli_session.specs.declared.ask.Ask.{Ask}
use Rattle.cli_futures.specs.Exchanging.{HasExchanged}
use Rattle.cli_futures.specs.Turning.{EndsBy, IsGoing, Rested}
use Rattle.cli_futures.specs.declared.end.ExchangeEnd.{ExchangeEnd}
use Rattle.cli_futures.specs.declared.end.Outcome.{Outcome}
use Rattle.cli_futures.specs.declared.exchange.Exchange.{Exchange}
use Rattle.cli_futures.specs.declared.exchange.Collecting.{Collecting}

-- it hasn't ended, so that it may be polled
abbrev pub CanPoll : {L : Type 0} → Exchange L → Type 0
CanPoll e = IsSome e.going

module _ {L : Type 0} (wire : L → Wire) where
  -- it has come so far since its link was so, and these are its reports
  abbrev pub IsCollecting : Ask → Wire → Collecting L → Type 0
  IsCollecting ask begin g = IsGoing wire ask begin (map report_view g.reports.items) g.conversation

  -- it goes on, or it has ended
  abbrev pub CollectsBy : Ask → Wire → Collecting L → Option ExchangeEnd → Type 0
  CollectsBy ask begin g None = IsCollecting ask begin g
  CollectsBy ask begin g (Some end) =
      HasExchanged ask g.conversation.patience begin (wire g.conversation.link) (map report_view g.reports.items) end

  abbrev pub Collects : Collecting L → Collecting L → Option ExchangeEnd → Type 0
  Collects old new result = (ask : Ask) (begin : Wire) → IsCollecting ask begin old → CollectsBy ask begin new result

  -- how often in a row its link was idle
  abbrev pub IdlesBy : Collecting L → Collecting L → Option ExchangeEnd → Type 0
  IdlesBy old new None =
      Rested (wire old.conversation.link) (wire new.conversation.link) old.conversation.idles new.conversation.idles
  IdlesBy old new (Some end) =
      EndsBy (wire old.conversation.link) (wire new.conversation.link) old.conversation.idles end

  -- Wherever the exchange has come from, it gives what an exchange from there comes to.
  abbrev pub MayGive : Collecting L → Outcome L → Type 0
  MayGive g x =
      (ask : Ask) (begin : Wire) → IsCollecting ask begin g
      → HasExchanged ask g.conversation.patience begin (wire x.link) (map report_view x.reports.items) x.end

  abbrev pub Gives : Exchange L → Outcome L → Type 0
  Gives e x = IfSome e.going (λ g. MayGive g x)

  -- What an exchange comes to over a link that was so, with these limits.
  abbrev pub ComesTo : Ask → ℕ → ℕ → Wire → Outcome L → Type 0
  ComesTo ask idle turns begin x =
      HasExchanged ask (record { idle = idle; turns = turns }) begin (wire x.link) (map report_view x.reports.items) x.end

  -- Behind a poll that was pending: the link was idle in its last call.
  abbrev pub RestedIn : Collecting L → Option (Collecting L) → Type 0
  RestedIn g None = ⊤
  RestedIn g (Some h) =
      Rested (wire g.conversation.link) (wire h.conversation.link) g.conversation.idles h.conversation.idles

  abbrev pub HasRested : Exchange L → Exchange L → Type 0
  HasRested old new = IfSome old.going (λ g. RestedIn g new.going)

  -- The limit is reached only where the link was idle so often in a row before this poll.
  abbrev pub HasEndedBy : Exchange L → Outcome L → Type 0
  HasEndedBy old x =
      IfSome old.going (λ g. EndsBy (wire g.conversation.link) (wire x.link) g.conversation.idles x.end)
