-- What contracts see of monitors.
use Rattle.std.specs.Prelude.{◌≡◌, ◌||◌, ℕ, Bool, true, false, List, [], ◌∷◌, ◌++◌, Option, None, Some, Result, Ok}
use Rattle.std.specs.Prelude.{Err, codes}
use Rattle.std.specs.FinMap.{get as at, insert}
use Rattle.pvd_codec.specs.Written.{CanEach}
use Rattle.pvd_type.specs.Tree.{Tree}
use Rattle.pvd_type.specs.declared.memory.NoMemory.{NoMemory}
use Rattle.journal_core.specs.Moments.{Moment}
use Rattle.mon_queue.specs.declared.update.Update.{Update}
use Rattle.chan_table.specs.declared.ask.AskKind.TheVariants as kinds
use Rattle.desk_api.specs.Calls.{Adds}
use Rattle.desk_api.specs.declared.mark.Mark.{Mark}
use Rattle.desk_api.specs.declared.mark.Seat.{Seat}
use Rattle.desk_api.specs.declared.sub.SubAnswer.{SubAnswer}
use Rattle.desk_api.specs.declared.sub.SubAnswer.TheVariants as answers
use Rattle.srv_session.specs.Calls.{is_some_sent}
use Rattle.srv_session.specs.State.{State, Asked, Requests, is_due, slots_of}
use Rattle.srv_session.specs.Replies.{Sent, IsSayable, said, spelled_all, refused, updated}
use Rattle.srv_session.specs.Steps.{PopRow, UnsentPop, after_pop, with_sent}
use Rattle.srv_session.specs.Tasks.{Hearing, started_by}
use Rattle.srv_session.specs.Views.{state_of, output_of, HasSaid, HeedsHearing}
use Rattle.srv_session.specs.declared.session.Session.{Session}
use Rattle.srv_session.specs.declared.stop.SessionStop.{SessionStop}

-- what became of what was heard, at every moment: no entry was made
abbrev pub HeedsAnytime : Seat → Seat → Session → Session → Hearing → Result (Unit {0}) SessionStop → Type 0
HeedsAnytime here there old new hearing result = (moment : Moment) → HeedsHearing here there old new moment hearing result

-- this was written, or nothing
abbrev pub Writes : Session → Session → Sent → Result (Unit {0}) NoMemory → Type 0
Writes old new x (Ok u) = HasSaid old new x
Writes old new x (Err e) = output_of new ≡ output_of old

-- No subscription began, for this reason. Where memory ran out nothing is said.
abbrev pub RefusesSubscription : Session → Session → ℕ → ℕ → SubAnswer → Result (Unit {0}) NoMemory → Type 0
RefusesSubscription old new req sub (answers.TooManyMonitors count) result =
    Writes old new (said (refused kinds.Monitor req sub (codes "too many monitors"))) result
RefusesSubscription old new req sub answers.NoMemory (Ok u) = ⊥
RefusesSubscription old new req sub answers.NoMemory (Err e) = output_of new ≡ output_of old

-- The requests, where a monitor has this window now, and is started as a subcommand says.
abbrev pub with_steered : ℕ → ℕ → Option ℕ → Option Asked → Requests → Requests
with_steered req sub window None requests = requests
with_steered req sub window (Some ask) requests =
    insert requests req (record ask { window = window; started = started_by sub ask.started })

-- An update was written, and one is less free in its monitor's window; or memory ran out, and all is as before.

abbrev pub SendsUpdate : Session → Session → ℕ → Tree → Update → Result (Unit {0}) NoMemory → Type 0
SendsUpdate old new req ty update (Ok u) =
    HasSaid old new (said (updated req ty update))
    × (state_of new
    ≡ record (state_of old) { requests = with_sent req (at (state_of old).requests req) (state_of old).requests })
SendsUpdate old new req ty update (Err e) = (output_of new ≡ output_of old) × (state_of new ≡ state_of old)

-- The monitor was popped, and its update sent. It says whether an update was sent here or before.
pub record HasPopped (here there : Seat) (old new : Session) (req : ℕ) (before now : Bool) : Type 0 where
  pub marks : List Mark
  pub sent : List Sent
  pub row : PopRow here.seen.base.site (state_of old) req marks sent
  pub sayable : CanEach IsSayable sent
  pub adds : Adds here there marks
  pub state : state_of new ≡ after_pop (state_of old) req marks
  pub output : output_of new ≡ output_of old ++ spelled_all old.order old.segment sent
  pub now_is : now ≡ (before || is_some_sent sent)

-- It was popped, and memory ran out as its update was added.
pub record HasFailed (here there : Seat) (old new : Session) (req : ℕ) : Type 0 where
  pub next : List Mark
  pub next_is : UnsentPop (state_of old) req next
  pub adds : Adds here there next
  pub subscribed : slots_of (state_of new).requests ≡ slots_of (state_of old).requests
  pub output : output_of new ≡ output_of old

abbrev pub PopsOne : Seat → Seat → Session → Session → ℕ → Bool → Result Bool NoMemory → Type 0
PopsOne here there old new req before (Ok now) = HasPopped here there old new req before now
PopsOne here there old new req before (Err e) = HasFailed here there old new req

-- nothing was done
pub record Idles (here there : Seat) (old new : Session) (before : Bool) (result : Result Bool NoMemory) : Type 0 where
  pub seat : there ≡ here
  pub state : state_of new ≡ state_of old
  pub output : output_of new ≡ output_of old
  pub result_is : result ≡ Ok before

-- Where it was due it was popped.
pub record PopsDue (here there : Seat) (old new : Session) (req : ℕ) (before : Bool) (result : Result Bool NoMemory)
    : Type 0 where
  pub due : is_due (at (state_of old).requests req) ≡ true → PopsOne here there old new req before result
  pub idle : is_due (at (state_of old).requests req) ≡ false → Idles here there old new before result
  pub monitors : new.monitors.items ≡ old.monitors.items
