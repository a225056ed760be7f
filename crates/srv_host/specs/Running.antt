-- A session that runs, and what its thread promises of it.
use Rattle.std.specs.Prelude.{◌≡◌, ℕ, ℤ, List, [], ◌∷◌, ◌++◌, map, Option, None, Some, Result, Ok, Err}
use Rattle.atomic_table.specs.Seated.{TableId}
use Rattle.journal_core.specs.Moments.{Moment}
use Rattle.journal_core.specs.declared.entry.Entry.{Entry}
use Rattle.hall_core.specs.declared.law.Law.{Ghosts}
use Rattle.hall_locks.specs.declared.pass.Pass.{Pass}
use Rattle.hall_locks.specs.declared.view.View.{View}
use Rattle.pva_outside.specs.Doors.{Door}
use Rattle.pva_outside.specs.Wire.{Wire, Steadily, Unchanged}
use Rattle.pva_wire.specs.declared.order.Order.{Order}
use Rattle.desk_api.specs.Calls.{first_seat}
use Rattle.desk_api.specs.History.{History, Item}
use Rattle.desk_api.specs.declared.history.Base.{Base}
use Rattle.desk_api.specs.declared.mark.Mark.{Mark}
use Rattle.desk_api.specs.declared.mark.Seat.{Seat}
use Rattle.srv_stream.specs.Served.{Served}
use Rattle.srv_stream.specs.Streams.{moment_told}
use Rattle.srv_stream.specs.declared.ended.Ended.{Ended}
use Rattle.srv_host.specs.Accepts.{EndsAccepting, IsAccepted}
use Rattle.srv_host.specs.Sessions.{most_calls}
use Rattle.srv_host.specs.declared.accepting.Stop.{Stop}
use Rattle.srv_host.specs.declared.running.Running.{Running}
use Rattle.srv_host.specs.declared.running.Serves.{Serves}
use Rattle.srv_host.specs.declared.running.Stage.{Stage}
use Rattle.srv_host.specs.declared.running.Stage.TheVariants as stages

module _ {H S : Type 0} where
  -- the seat of what a pass knows
  abbrev pub seat_in : View H Entry Base Mark Item S → Seat
  seat_in v = record { number = v.number; seen = v.seen; log = v.log }

  -- A link was served on a seat that stood so, by a pass that took in no other and then has that in sight, and was
  -- closed.
  pub record IsServed (old : Seat) (new : View H Entry Base Mark Item S)
      (start closed : Wire) (told : Option Moment) (order : Order) (ended : Ended) : Type 0 where
    pub end : Wire
    pub served : Served old (seat_in new) start end told order most_calls ended
    pub steady : Steadily start end
    pub closes : Unchanged end closed
    pub others_are : new.others ≡ []

module _ {T C H S L K : Type 0} {law : Ghosts T C H Entry Base S Mark Item} where
  -- what a thread gives back keeps what was promised of it
  abbrev pub IsKept : (L → Wire) → (K → Option (ℤ × ℕ)) → Serves T L K C H S law
      → Pass T C H Entry Base S Mark Item law × L × Ended → Type 0
  IsKept wire moment p done =
      (done.0.seat.table_id ≡ p.start.value.seat.table_id)
      × IsServed (seat_in p.start.value.seat.me.0) done.0.seat.me.0 (wire p.link.value) (wire done.1)
      (moment_told (moment p.clock.value)) p.order done.2

  -- what was promised of a session
  abbrev pub serves_of : Running T L K C H S law → Serves T L K C H S law
  serves_of session = session.serves

  abbrev pub all_serves : List (Running T L K C H S law) → List (Serves T L K C H S law)
  all_serves sessions = map serves_of sessions

  -- It has a thread of its own, which promised this, or it was served and kept what was promised. None is looked at while
  -- its thread is being joined.
  abbrev pub HasCome : (L → Wire) → (K → Option (ℤ × ℕ)) → Serves T L K C H S law → Stage T L K C H S law → Type 0
  HasCome wire moment p (stages.Apart handle) = handle.promise ≡ p
  HasCome wire moment p stages.Joining = ⊥
  HasCome wire moment p (stages.Over pass link ended) = IsKept wire moment p (pass, link, ended)

  abbrev pub IsRunning : (L → Wire) → (K → Option (ℤ × ℕ)) → Running T L K C H S law → Type 0
  IsRunning wire moment session = HasCome wire moment session.serves session.stage

  -- A session that was begun on a pass of this hall, which had seen this history and had done nothing, over a link that
  -- came so.
  pub record IsBegun (wire : L → Wire) (moment : K → Option (ℤ × ℕ)) (hall : TableId) (from : History)
      (clock : Option (ℤ × ℕ)) (order : Order) (session : Running T L K C H S law) : Type 0 where
    pub runs : IsRunning wire moment session
    pub own : (serves_of session).start.value.seat.table_id ≡ hall
    pub seen : (serves_of session).start.value.seat.me.0.seen ≡ from
    pub log : (serves_of session).start.value.seat.me.0.log ≡ []
    pub clock_is : moment (serves_of session).clock.value ≡ clock
    pub order_is : (serves_of session).order ≡ order

  -- the link of each, as it came
  abbrev pub wires_of : (L → Wire) → List (Running T L K C H S law) → List Wire
  wires_of wire sessions = map (λ session. wire (serves_of session).link.value) sessions

  -- One session more was begun, over this link.
  pub record BeginsOne (wire : L → Wire) (moment : K → Option (ℤ × ℕ)) (hall : TableId) (from : History)
      (clock : Option (ℤ × ℕ)) (order : Order) (link : Wire) (before after : List (Running T L K C H S law))
      : Type 0 where
    pub session : Running T L K C H S law
    pub after_is : after ≡ before ++ session ∷ []
    pub begun : IsBegun wire moment hall from clock order session
    pub link_is : wire (serves_of session).link.value ≡ link

  -- The link that came in a turn, if one did, is served.
  abbrev pub BeginsTurn : (L → Wire) → (K → Option (ℤ × ℕ)) → TableId → History → Option (ℤ × ℕ) → Order
      → Option Wire → List (Running T L K C H S law) → List (Running T L K C H S law) → Type 0
  BeginsTurn wire moment hall from clock order None before after = after ≡ before
  BeginsTurn wire moment hall from clock order (Some link) before after =
      BeginsOne wire moment hall from clock order link before after

  -- One accept, by what it came to.
  abbrev pub AcceptsOne : (L → Wire) → (K → Option (ℤ × ℕ)) → TableId → History → Option (ℤ × ℕ) → Order
      → Door → Door → List (Running T L K C H S law) → List (Running T L K C H S law) → Result (Unit {0}) Stop → Type 0
  AcceptsOne wire moment hall from clock order door next before after (Ok done) =
      (turn : Option Wire) × IsAccepted door next turn × BeginsTurn wire moment hall from clock order turn before after
  AcceptsOne wire moment hall from clock order door next before after (Err stop) =
      EndsAccepting door next stop × (after ≡ before)
