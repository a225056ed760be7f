-- The books of a hall may go to another thread.
use denote.Param.Send.{IsSend, sendable}
use denote.Param.SendFields.{declared_send, as_row_send}
use Rattle.std.proofs.Crossing.{crosses}
use Rattle.std.specs.contracts.snapshot.Snapshot as Snapshot
use Rattle.desk_api.proofs.channel.Channel.TheSendSync as channel
use Rattle.desk_api.specs.contracts.channel.Channel as Channel
use Rattle.desk_api.specs.contracts.site.Site as Site
use Rattle.journal_core.proofs.history.History.TheSendSync as history
use Rattle.journal_core.specs.contracts.history.History as History
use Rattle.desk_hub.proofs.SubscriptionsCrossing.{subscriptions_send}
use Rattle.desk_shared.specs.contracts.books.Books as Books

-- The site as it was takes no bytes, so that it crosses whatever a site is.
pub books_send : IsSend Books.the_row
books_send = declared_send Books.the_type (
  as_row_send (Snapshot.the_field Site.the_row) (search crosses),
  (search sendable, (as_row_send History.the_field history.the_send, (subscriptions_send Channel.the_row channel.the_send, tt))),
)
