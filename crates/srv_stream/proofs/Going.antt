-- A connection on its way.
use Rattle.std.proofs.Common.{◌≡◌, ℕ, ◌+◌, ◌<◌, ◌≤◌, ◌^◌, ◌⊎◌, Bool, true, false, List, [], ◌++◌, length, Option, None, Some}
use Rattle.std.specs.Prelude.{if◌then◌else◌, ⊤}
use Rattle.pva_outside.specs.Count.{Rose}
use Rattle.pva_outside.specs.Wire.{Wire}
use Rattle.pva_wire.specs.declared.order.Order.{Order}
use Rattle.pva_frames.specs.Assembled.{opening as unread, fed, rest_of}
use Rattle.desk_api.specs.Calls.{Adds, HaveMoment}
use Rattle.desk_api.specs.declared.history.SiteData.{SiteData}
use Rattle.desk_api.specs.declared.mark.Seat.{Seat}
use Rattle.srv_session.specs.State.{opening, slots_of}
use Rattle.srv_session.specs.Replies.{greeting}
use Rattle.srv_session.specs.Steps.{Step, state_after, marks_of, out_of, IsDrained}
use Rattle.srv_stream.specs.Streams.{View, Follows}
use Rattle.srv_stream.specs.Moves.{Moves, IsAll}
use Rattle.srv_stream.specs.Served.{Settled}
use Rattle.srv_stream.specs.declared.ended.Ended.{Ended}
use Rattle.srv_stream.specs.declared.ended.Ended.TheVariants as ends
use Rattle.journal_core.specs.Moments.{Moment}

-- the end was met, or not
abbrev pub SawEnd : Bool → ℕ → ℕ → Type 0
SawEnd true old new = Rose old new
SawEnd false old new = new ≡ old

-- what the serving keeps, where nothing is wrong
pub record Keeps (site : SiteData) (order : Order) (v : View) (read : List ℕ) (steps : List Step) : Type 0 where
  pub state : v.state ≡ state_after site (opening order) steps
  pub none : v.stream.events ≡ []
  pub left : v.stream.left ≡ (fed unread read).left

pub record Going (old new : Seat) (start wire : Wire) (told : Option Moment) (order : Order) (v : View) (trouble : Option Ended) (at_end : Bool) (calls : ℕ) : Type 0 where
  pub read : List ℕ
  pub written : List ℕ
  pub steps : List Step
  pub moves : Moves start wire read written
  pub follows : Follows old.seen.base.site (opening order) (fed unread read) steps trouble
  pub keeps : trouble ≡ None → Keeps old.seen.base.site order v read steps
  pub slots : slots_of v.state.requests ≡ slots_of (state_after old.seen.base.site (opening order) steps).requests
  pub adds : Adds old new (marks_of steps)
  pub moments : HaveMoment told (marks_of steps)
  pub bytes : greeting order ++ out_of old.seen.base.site (opening order) steps ≡ written ++ v.pending
  pub settled : (read ≡ []) ⊎ Settled old.seen.base.site order read written (marks_of steps)
  pub faults : wire.faults ≡ start.faults
  pub ends : SawEnd at_end start.ends wire.ends
  pub all : at_end ≡ true → IsAll start.left read
  pub calm : at_end ≡ true → trouble ≡ None
  pub quota : wire.idles + 1 < 2 ^ 64 → start.idles + calls ≤ wire.idles + length read + length written + (if at_end then 1 else 0)

-- the same, with nothing to be written, and nothing unread that may be sent, unless the stream is at fault
pub record Idling (old new : Seat) (start wire : Wire) (told : Option Moment) (order : Order) (v : View) (trouble : Option Ended) (at_end : Bool) (calls : ℕ) : Type 0 where
  pub going : Going old new start wire told order v trouble at_end calls
  pub empty : v.pending ≡ []
  pub dry : trouble ≡ None → IsDrained old.seen.base.site (opening order) going.steps

-- How it ends once all is written: what is wrong in the stream, or that the end was met.

abbrev pub trouble_of : Option Ended → Option Ended
trouble_of None = None
trouble_of (Some ends.Closed) = None
trouble_of (Some (ends.Truncated place)) = None
trouble_of (Some ended) = Some ended

abbrev pub is_met : Option Ended → Bool
is_met None = false
is_met (Some ends.Closed) = true
is_met (Some (ends.Truncated place)) = true
is_met (Some ended) = false

abbrev pub RestIs : Option Ended → Option ℕ → Type 0
RestIs None rest = ⊤
RestIs (Some ends.Closed) rest = rest ≡ None
RestIs (Some (ends.Truncated place)) rest = rest ≡ Some place
RestIs (Some ended) rest = ⊤

-- a connection that ends so once all is written, or goes on; whether its monitors were popped until nothing was unread
pub record Standing (old new : Seat) (start wire : Wire) (told : Option Moment) (order : Order) (v : View) (over : Option Ended) (pumped : Bool) (calls : ℕ) : Type 0 where
  pub going : Going old new start wire told order v (trouble_of over) (is_met over) calls
  pub rest : RestIs over (rest_of v.stream.left)
  pub dry : pumped ≡ true → IsDrained old.seen.base.site (opening order) going.steps
