-- What a session of a steady link comes to: all that the client sent was heard, and all that was said was written.
use Rattle.std.specs.Prelude.{◌≡◌, ◌+◌, ◌≤◌, ◌⊎◌, ℕ, true, List, [], length, Option, None, Some}
use Rattle.histories.specs.History.{IsPrefixOf}
use Rattle.journal_core.specs.Moments.{Moment}
use Rattle.pva_outside.specs.Fresh.{IsFresh}
use Rattle.pva_wire.specs.declared.order.Order.{Order}
use Rattle.desk_api.specs.History.{History}
use Rattle.desk_api.specs.declared.history.SiteData.{SiteData}
use Rattle.desk_api.specs.declared.mark.Mark.{Mark}
use Rattle.srv_stream.specs.Served.{Whole}
use Rattle.srv_stream.specs.declared.ended.Ended.{Ended}
use Rattle.srv_host.specs.Joining.{HasMemory}
use Rattle.srv_host.specs.Sessions.{Session, WasServed, most_calls}

-- Of what the client sent, all was read, or all to an event that has no answer or a header that is refused. The
-- dialogue is of all events before that, and all its output was written.
pub record IsHeardOut (site : SiteData) (order : Order) (session : Session) (input : List ℕ) : Type 0 where
  pub read : List ℕ
  pub written : List ℕ
  pub trouble : Option Ended
  pub front : IsPrefixOf read input
  pub all : trouble ≡ None → read ≡ input
  pub whole : Whole site order read session.log written trouble
  pub told : session.start.written ≡ Some [] → session.closed.written ≡ Some written

-- A session that moved this many bytes, of which there were too many for its turns.
pub record IsTooLong (session : Session) (input : List ℕ) : Type 0 where
  pub written : List ℕ
  pub long : most_calls ≤ length input + length written + 1
  pub told : session.start.written ≡ Some [] → session.closed.written ≡ Some written

-- Each session of a fresh and steady link that tells its input, and that had memory, was heard out, if it wasn't too
-- long.
abbrev pub SteadyLinksAreHeardOut : Type 0
SteadyLinksAreHeardOut = (from : History) (clock : Option Moment) (order : Order) (session : Session) (input : List ℕ)
    → WasServed from clock order session → HasMemory session → IsFresh session.start → session.start.steady ≡ true
    → session.start.left ≡ Some input
    → IsHeardOut from.base.site order session input ⊎ IsTooLong session input
