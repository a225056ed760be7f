-- How a connection's tables stand inside: what is kept of the channels and of the requests, and how these are filed.
use Rattle.std.specs.Prelude.{ℕ, ◌≤◌, Option}
use Rattle.std.specs.FinMap.{len}
use Rattle.chan_table.specs.declared.ask.Ask.{Ask}
use Rattle.chan_table.specs.Filing.{Filings, IsFiled}
use Rattle.chan_table.specs.Kept.{Kept}
use Rattle.chan_table.specs.Tables.{limit}

-- There is room for all channels from the first. Each request is filed, and what fits of requests can be filed too.
pub record IsStanding {C S : Type 0} (channels : Kept (ℕ × C)) (asks : Kept (Ask S)) (es : Filings)
    (lent : Option (ℕ × ℕ)) (most : ℕ) : Type 0 where
  pub few : len channels.values ≤ limit
  pub wide : limit ≤ channels.room
  pub filed : IsFiled es lent asks.values
  pub room : asks.room ≤ limit
  pub file_room : asks.room ≤ most
