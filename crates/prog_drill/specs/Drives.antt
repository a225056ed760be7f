-- What the parts of a drill do, between a serving and its desk.
use Rattle.std.specs.Prelude.{◌≡◌, ℕ, ◌+◌, ◌≤◌, ◌^◌, ◌-◌, Bool, List, [], ◌++◌, length, Ok, codes}
use Rattle.std.specs.Fmt.{decimal}
use Rattle.pva_frames.specs.Assembled.{Assembled, opening as unread, fed}
use Rattle.desk_api.specs.Calls.{Adds, first_seat, now}
use Rattle.desk_api.specs.History.{state_at}
use Rattle.desk_api.specs.Loading.{Builds}
use Rattle.desk_api.specs.declared.history.SiteData.{SiteData}
use Rattle.desk_api.specs.declared.mark.Mark.{Mark}
use Rattle.desk_api.specs.declared.mark.Seat.{Seat}
use Rattle.srv_session.specs.State.{due}
use Rattle.srv_session.specs.Steps.{Step, AreSteps, state_after, events_of, marks_of}
use Rattle.srv_session.specs.Calls.{ArePopsOf, sends}
use Rattle.srv_stream.specs.Streams.{View}
use Rattle.srv_stream.specs.Views.{first_view}
use Rattle.pva_wire.specs.declared.order.Order.TheVariants.{Little}
use Rattle.prog_drill.specs.Drilling.{AreFed, AreRounds, DrillRun, count_by, drill_text, is_commit, is_update, pieces_of}
use Rattle.prog_drill.specs.Drilling.{sum_of, together}
use Rattle.prog_drill.specs.declared.drilling.Totals.{Totals}

-- One round of pops, whose output is taken. It tells whether an update was found.
pub record Round (old new : Seat) (v w : View) (more : Bool) : Type 0 where
  pub steps : List Step
  pub are : ArePopsOf (due v.state.requests) steps
  pub rules : AreSteps old.seen.base.site v.state steps
  pub adds : Adds old new (marks_of steps)
  pub state : w.state ≡ state_after old.seen.base.site v.state steps
  pub stream : w.stream ≡ v.stream
  pub more_is : more ≡ sends steps

-- rounds of pops until nothing is unread
pub record Rounds (old new : Seat) (v w : View) : Type 0 where
  pub rounds : List (List Step)
  pub are : AreRounds old.seen.base.site v.state rounds
  pub adds : Adds old new (marks_of (together rounds))
  pub state : w.state ≡ state_after old.seen.base.site v.state (together rounds)
  pub stream : w.stream ≡ v.stream

-- a piece that was fed, and the rounds of pops behind it
pub record Piece (old new : Seat) (v w : View) (piece : List ℕ) : Type 0 where
  pub heard : List Step
  pub rounds : List (List Step)
  pub rules : AreSteps old.seen.base.site v.state heard
  pub events : (fed v.stream piece).events ≡ events_of heard
  pub left : w.stream.left ≡ (fed v.stream piece).left
  pub none : w.stream.events ≡ []
  pub are : AreRounds old.seen.base.site (state_after old.seen.base.site v.state heard) rounds
  pub adds : Adds old new (marks_of (heard ++ together rounds))
  pub state : w.state ≡ state_after old.seen.base.site v.state (heard ++ together rounds)

-- a stream of which these bytes were read, and all their events answered
pub record IsBehind (before : List ℕ) (stream : Assembled) : Type 0 where
  pub none : stream.events ≡ []
  pub left : stream.left ≡ (fed unread before).left

-- all of these pieces were fed in turn
pub record AllFed (old new : Seat) (v : View) (before : List ℕ) (pieces : List (List ℕ)) : Type 0 where
  pub steps : List (List Step)
  pub are : AreFed old.seen.base.site v.state before pieces steps
  pub adds : Adds old new (marks_of (together steps))

-- a whole input was fed to a serving that began with it, piece by piece
pub record Played (old new : Seat) (bytes : List ℕ) : Type 0 where
  pub view : View
  pub start : view ≡ first_view Little
  pub fed_ : AllFed old new view [] (pieces_of bytes)

-- the desk of the drill before any call
pub record IsDrillDesk (s : Seat) : Type 0 where
  pub site : SiteData
  pub built : Builds [] drill_text (Ok site)
  pub first : s ≡ first_seat (record { site = site; limit = 268435456 })

-- the totals of a desk whose seat is this one
pub record SeatTotals (s : Seat) (totals : Totals) : Type 0 where
  pub commits : totals.commits ≡ now s
  pub sum : totals.sum ≡ sum_of (state_at s.seen (now s))
  pub updates : totals.updates ≡ count_by is_update s.log

-- the totals of a drill of this number
pub record AreTotals (n : ℕ) (totals : Totals) : Type 0 where
  pub run : DrillRun n
  pub commits : totals.commits ≡ count_by is_commit (marks_of (together run.steps))
  pub sum : totals.sum ≡ sum_of (state_at run.seat.seen (now run.seat))
  pub updates : totals.updates ≡ count_by is_update (marks_of (together run.steps))

-- A count that stays at the greatest number of 64 bits.
abbrev pub Counted : ℕ → ℕ → Type 0
Counted count marks = count + 1 ≤ 2 ^ 64 - 1 → count ≡ marks

-- the lines that tell totals
abbrev pub lines_of : Totals → List ℕ
lines_of totals =
    codes "messages " ++ (decimal 10026 ++ (codes "\ncommits " ++ (decimal totals.commits
    ++ (codes "\nsum " ++ (decimal totals.sum
    ++ (codes "\nupdates " ++ (decimal totals.updates ++ codes "\nclosed\n")))))))
