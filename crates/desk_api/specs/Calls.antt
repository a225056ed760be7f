-- What the calls of a desk add, and what they answer.
use Rattle.std.specs.Prelude.{◌≡◌, ◌+◌, ◌⊎◌, ℕ, Bool, true, false, List, [], ◌∷◌, ◌++◌, length, map, take, Option, None}
use Rattle.std.specs.Prelude.{Some, Result, Ok, Err, slice_get, ⊤}
use Rattle.std.specs.FinSet.{FinSet}
use Rattle.std.specs.Ordering.{nat_cmp}
use Rattle.std.specs.declared.vec.Vec.{Vec}
use Rattle.pvd_type.specs.declared.memory.NoMemory.{NoMemory}
use Rattle.pvd_value.specs.Data.{Data}
use Rattle.pvd_value.specs.View.{view}
use Rattle.pvd_value.specs.declared.value.PvValue.{PvValue}
use Rattle.rec_kinds.specs.declared.datum.Action.{Action}
use Rattle.rec_kinds.specs.Severities.{severity_number}
use Rattle.rec_kinds.specs.Texts.{text_of_datum}
use Rattle.rec_kinds.specs.declared.put.PutRefusal.{PutRefusal}
use Rattle.rec_kinds.specs.declared.state.RecState.{RecState}
use Rattle.rec_fields.specs.declared.puts.FieldAnswer.{FieldAnswer}
use Rattle.rec_fields.specs.declared.puts.FieldAnswer.TheVariants.{Refused}
use Rattle.journal_core.specs.Moments.{Moment}
use Rattle.journal_core.specs.declared.entry.Entry.{Entry}
use Rattle.histories.specs.History.{Begins, deeds_by, tagged}
use Rattle.mon_queue.specs.Told.{IsUpdateOf}
use Rattle.mon_queue.specs.declared.update.Update.{Update}
use Rattle.desk_api.specs.History.{entries, roll, IsLegal}
use Rattle.desk_api.specs.Living.{Living, living}
use Rattle.desk_api.specs.Marks.{InOrder, AllHold, deed_of, deeds_of, next_place, place}
use Rattle.desk_api.specs.Puts.{actions_of, entries_by, footprint_by, footprint_with}
use Rattle.desk_api.specs.Sites.{all_records, channel_of, footprint_of, is_atomic}
use Rattle.desk_api.specs.Types.{type_of}
use Rattle.desk_api.specs.Views.{value_of, laid, AreStatesOf}
use Rattle.desk_api.specs.declared.channel.Channel.{Channel}
use Rattle.desk_api.specs.declared.channel.ChannelKind.TheVariants.{Service}
use Rattle.desk_api.specs.declared.history.Base.{Base}
use Rattle.desk_api.specs.declared.history.SiteData.{SiteData}
use Rattle.desk_api.specs.declared.mark.Mark.{Mark}
use Rattle.desk_api.specs.declared.mark.Mark.TheVariants.{Read, Entered, Overweight, Begun, Crowded, Popped, Dropped}
use Rattle.desk_api.specs.declared.mark.Seat.{Seat}
use Rattle.desk_api.specs.declared.put.Done.{Done}
use Rattle.desk_api.specs.declared.put.PutAnswer.{PutAnswer}
use Rattle.desk_api.specs.declared.put.PutAnswer.TheVariants as answers
use Rattle.desk_api.specs.declared.rows.RecRow.{RecRow}
use Rattle.desk_api.specs.declared.sub.Sub.{Sub}
use Rattle.desk_api.specs.declared.sub.SubAnswer.{SubAnswer}
use Rattle.desk_api.specs.declared.sub.SubAnswer.TheVariants as sub_answers

-- Calls of a desk added these marks: each is true, in order; the history is legal and only grew, by the seat's own
-- deeds and by those of others.
pub record Adds (old new : Seat) (marks : List Mark) : Type 0 where
  pub number : new.number ≡ old.number
  pub log : new.log ≡ old.log ++ marks
  pub grows : Begins old.seen new.seen
  pub legal : IsLegal new.seen
  pub order : InOrder (length (entries old.seen)) marks (length (entries new.seen))
  pub true_ : AllHold new.number new.seen old.log marks
  pub own : deeds_by new.number new.seen.deeds ≡ deeds_by old.number old.seen.deeds ++ deeds_of marks

-- One call: it added the marks of its answer.
pub record Calls (old new : Seat) (are : List Mark → Type 0) : Type 0 where
  pub marks : List Mark
  pub adds : Adds old new marks
  pub named : are marks

-- The history that a seat has seen ends where its last mark left it, behind that mark's own entry.
abbrev pub EndsAtLastMark : Seat → Type 0
EndsAtLastMark s = length (entries s.seen) ≡ next_place (length (entries s.seen)) s.log

-- A call that made no mark leaves the log as it was; after another the history ends at its last mark.
abbrev pub EndsAtItsMarks : Seat → Seat → Type 0
EndsAtItsMarks old new = (new.log ≡ old.log) ⊎ EndsAtLastMark new

-- Each mark in turn is a look at these records, at its own place.

abbrev pub IsLook : Channel → List ℕ → Mark → Type 0
IsLook channel recs mark = (at : ℕ) × ((found : List RecState) × (mark ≡ Read at channel recs found))

abbrev pub AreLooks : Channel → List (List ℕ) → List Mark → Type 0
AreLooks channel [] [] = ⊤
AreLooks channel (recs ∷ looks) (mark ∷ marks) = IsLook channel recs mark × AreLooks channel looks marks
AreLooks channel looks marks = ⊥

-- The looks of a get: one at all of the channel's records, or one at each.

abbrev pub looks_by : Bool → List ℕ → List (List ℕ)
looks_by true recs = recs ∷ []
looks_by false recs = map (λ rec. rec ∷ []) recs

abbrev pub looks_of : SiteData → Channel → Option Bool → List (List ℕ)
looks_of site channel atomic = looks_by (is_atomic site channel atomic) (footprint_of site channel)

-- what these marks found, laid over states of all records one after another
abbrev pub laid_by : List RecState → List Mark → List RecState
laid_by states [] = states
laid_by states (Read at channel footprint found ∷ marks) = laid_by (laid states footprint found) marks
laid_by states (mark ∷ marks) = laid_by states marks

-- Each mark in turn is a look at these records, which found them in these states.

abbrev pub IsFinding : List RecState → Channel → List ℕ → Mark → Type 0
IsFinding states channel recs mark =
    (at : ℕ) × ((found : List RecState) × (mark ≡ Read at channel recs found) × AreStatesOf states recs found)

abbrev pub AreFindings : List RecState → Channel → List (List ℕ) → List Mark → Type 0
AreFindings states channel [] [] = ⊤
AreFindings states channel (recs ∷ looks) (mark ∷ marks) =
    IsFinding states channel recs mark × AreFindings states channel looks marks
AreFindings states channel looks marks = ⊥

-- A get looks at the channel's records, at all in one place where it is atomic and else at one after another. Its
-- answer is what the channel shows of them: of states of all records, of which it looks at those found alone.
pub record IsGet (site : SiteData) (channel : Channel) (atomic : Option Bool) (value : Data)
    (marks : List Mark) : Type 0 where
  pub looks : AreLooks channel (looks_of site channel atomic) marks
  pub value_is : value ≡ value_of site channel (laid_by site.opening marks)

-- Memory ran out after the first looks of a get.
pub record IsPartOfGet (site : SiteData) (channel : Channel) (atomic : Option Bool) (marks : List Mark) : Type 0 where
  pub looks : AreLooks channel (take (length marks) (looks_of site channel atomic)) marks

abbrev pub AreGet : SiteData → Channel → Option Bool → Result PvValue NoMemory → List Mark → Type 0
AreGet site channel atomic (Ok value) marks = IsGet site channel atomic (view value) marks
AreGet site channel atomic (Err e) marks = IsPartOfGet site channel atomic marks

-- What a put asks for: a channel of a site, the marked leaves of a value, a moment, and whether it is to be atomic.
pub record Asked : Type 0 where
  pub site : SiteData
  pub channel : Channel
  pub mask : FinSet nat_cmp
  pub value : Data
  pub moment : Moment
  pub atomic : Option Bool

abbrev pub asked_actions : Asked → Result (List (ℕ × Action)) FieldAnswer
asked_actions a = actions_of a.site a.channel a.mask a.value

-- The entries that it asks for, each by its actions.

abbrev pub entries_of_actions : Bool → Result (List (ℕ × Action)) FieldAnswer
    → Result (List (List (ℕ × Action))) FieldAnswer
entries_of_actions atomic (Ok actions) = Ok (entries_by atomic actions)
entries_of_actions atomic (Err answer) = Err answer

abbrev pub asked_entries : Asked → Result (List (List (ℕ × Action))) FieldAnswer
asked_entries a = entries_of_actions (is_atomic a.site a.channel a.atomic) (asked_actions a)

-- An entry with these actions was added, which holds what such an entry holds, at the put's moment. Nothing is looked
-- at.
pub record IsAdded (a : Asked) (actions : List (ℕ × Action)) (mark : Mark) : Type 0 where
  pub at : ℕ
  pub entry : Entry
  pub mark_is : mark ≡ Entered at entry [] []
  pub actions_are : entry.actions ≡ actions
  pub footprint_is : entry.footprint ≡ footprint_by a.site actions
  pub moment_is : entry.moment ≡ a.moment

-- each of these entries was added, one after another
abbrev pub AreAdded : Asked → List (List (ℕ × Action)) → List Mark → Type 0
AreAdded a [] [] = ⊤
AreAdded a (actions ∷ entries) (mark ∷ marks) = IsAdded a actions mark × AreAdded a entries marks
AreAdded a entries marks = ⊥

abbrev pub first_place : List Mark → Option ℕ
first_place [] = None
first_place (mark ∷ marks) = Some (place mark)

-- A put was done: each of its entries was added.
pub record IsDone (a : Asked) (done : Done) (marks : List Mark) : Type 0 where
  pub entries : List (List (ℕ × Action))
  pub asked : asked_entries a ≡ Ok entries
  pub added : AreAdded a entries marks
  pub first_is : first_place marks ≡ Some done.first
  pub count_is : done.count ≡ length marks

-- A put was refused by the channel, before it did anything.
pub record IsRefused (a : Asked) (refusal : PutRefusal) (marks : List Mark) : Type 0 where
  pub refusal_is : asked_actions a ≡ Err (Refused refusal)
  pub marks_are : marks ≡ []

-- The first entries of a put were added, so many, and the next one would have been too heavy.
pub record IsFull (a : Asked) (kept weight limit done : ℕ) (marks : List Mark) : Type 0 where
  pub entries : List (List (ℕ × Action))
  pub asked : asked_entries a ≡ Ok entries
  pub before : List Mark
  pub added : AreAdded a (take done entries) before
  pub done_is : done ≡ length before
  pub actions : List (ℕ × Action)
  pub next : slice_get entries done ≡ Some actions
  pub at : ℕ
  pub marks_are : marks ≡ before ++ Overweight at (footprint_by a.site actions) actions kept weight limit ∷ []

-- the entries that a put asks for, and none where it is refused
abbrev pub entries_or_none : Result (List (List (ℕ × Action))) FieldAnswer → List (List (ℕ × Action))
entries_or_none (Ok entries) = entries
entries_or_none (Err answer) = []

-- Memory ran out behind the first entries of a put, so many.
pub record IsStopped (a : Asked) (done : ℕ) (marks : List Mark) : Type 0 where
  pub added : AreAdded a (take done (entries_or_none (asked_entries a))) marks
  pub done_is : done ≡ length marks

abbrev pub ArePut : Asked → Result Done PutAnswer → List Mark → Type 0
ArePut a (Ok done) marks = IsDone a done marks
ArePut a (Err (answers.Refused refusal)) marks = IsRefused a refusal marks
ArePut a (Err (answers.JournalFull kept weight limit done)) marks = IsFull a kept weight limit done marks
ArePut a (Err (answers.NoMemory done)) marks = IsStopped a done marks

-- ---- a put and then a get of the same channel

-- One entry was added with all actions of the put. It holds the records of the get too, and the get's answer is what
-- the channel shows of them right after it.
pub record IsDoneAndGot (a : Asked) (done : Done) (value : Data) (marks : List Mark) : Type 0 where
  pub actions : List (ℕ × Action)
  pub asked : asked_actions a ≡ Ok actions
  pub at : ℕ
  pub entry : Entry
  pub found : List RecState
  pub marks_are : marks ≡ Entered at entry (footprint_of a.site a.channel) found ∷ []
  pub actions_are : entry.actions ≡ actions
  pub footprint_is : entry.footprint ≡ footprint_with a.site actions (footprint_of a.site a.channel)
  pub moment_is : entry.moment ≡ a.moment
  pub done_is : done ≡ record { first = at; count = 1 }
  pub value_is : value ≡ value_of a.site a.channel (laid a.site.opening (footprint_of a.site a.channel) found)

-- A put was done, and then a get.
pub record IsDoneThenGot (a : Asked) (done : Done) (value : Data) (marks : List Mark) : Type 0 where
  pub puts : List Mark
  pub gets : List Mark
  pub marks_are : marks ≡ puts ++ gets
  pub put : IsDone a done puts
  pub got : IsGet a.site a.channel a.atomic value gets

-- The one entry would have been too heavy.
pub record IsFullAlone (a : Asked) (kept weight limit done : ℕ) (marks : List Mark) : Type 0 where
  pub actions : List (ℕ × Action)
  pub asked : asked_actions a ≡ Ok actions
  pub at : ℕ
  pub marks_are :
      marks ≡ Overweight at (footprint_with a.site actions (footprint_of a.site a.channel)) actions kept weight limit ∷ []
  pub done_is : done ≡ 0

-- Memory ran out before the one entry was added.
pub record IsStoppedAlone (a : Asked) (done : ℕ) (marks : List Mark) : Type 0 where
  pub marks_are : marks ≡ []
  pub done_is : done ≡ 0

-- Memory ran out in the put, or behind all of it in the get.
pub record IsStoppedOnTheWay (a : Asked) (done : ℕ) (marks : List Mark) : Type 0 where
  pub puts : List Mark
  pub gets : List Mark
  pub marks_are : marks ≡ puts ++ gets
  pub put : IsStopped a done puts
  pub got : IsPartOfGet a.site a.channel a.atomic gets
  pub behind :
      (gets ≡ [])
      ⊎ ((entries : List (List (ℕ × Action))) × ((asked_entries a ≡ Ok entries) × (done ≡ length entries)))

-- a put-get that is atomic is one entry; another is a put and then a get
abbrev pub ArePutGetBy : Bool → Asked → Result (Done × PvValue) PutAnswer → List Mark → Type 0
ArePutGetBy true a (Ok (done, value)) marks = IsDoneAndGot a done (view value) marks
ArePutGetBy false a (Ok (done, value)) marks = IsDoneThenGot a done (view value) marks
ArePutGetBy whole a (Err (answers.Refused refusal)) marks = IsRefused a refusal marks
ArePutGetBy true a (Err (answers.JournalFull kept weight limit done)) marks = IsFullAlone a kept weight limit done marks
ArePutGetBy false a (Err (answers.JournalFull kept weight limit done)) marks = IsFull a kept weight limit done marks
ArePutGetBy true a (Err (answers.NoMemory done)) marks = IsStoppedAlone a done marks
ArePutGetBy false a (Err (answers.NoMemory done)) marks = IsStoppedOnTheWay a done marks

abbrev pub ArePutGet : Asked → Result (Done × PvValue) PutAnswer → List Mark → Type 0
ArePutGet a answer marks = ArePutGetBy (is_atomic a.site a.channel a.atomic) a answer marks

-- ---- a look at all records

-- what is told of a record, as its name, its configuration and its state have it
abbrev pub row_shown : List ℕ → RecState → RecRow
row_shown name state = record {
  name = name;
  text = text_of_datum state.datum;
  severity = severity_number state.severity;
  moment = state.moment;
}

-- of each record, in order
abbrev pub rows_shown : List (List ℕ) → List RecState → List RecRow
rows_shown (name ∷ names) (state ∷ states) = row_shown name state ∷ rows_shown names states
rows_shown _ _ = []

-- All records were looked at in one place, and each row tells of one as it was found there.
pub record IsSnapshot (site : SiteData) (rows : List RecRow) (marks : List Mark) : Type 0 where
  pub at : ℕ
  pub found : List RecState
  pub marks_are : marks ≡ Read at (channel_of Service 0) (all_records site) found ∷ []
  pub rows_are : rows ≡ rows_shown site.names found

-- Memory ran out before or after the look.
pub record IsPartOfSnapshot (site : SiteData) (marks : List Mark) : Type 0 where
  pub looks : AreLooks (channel_of Service 0) (take (length marks) (all_records site ∷ [])) marks

abbrev pub AreSnapshot : {Z : Type 0} → SiteData → Result (Vec RecRow Z) NoMemory → List Mark → Type 0
AreSnapshot site (Ok rows) marks = IsSnapshot site rows.items marks
AreSnapshot site (Err e) marks = IsPartOfSnapshot site marks

-- ---- subscriptions

-- A subscription to these leaves of the channel began in this slot.
pub record HasBegun (channel : Channel) (mask : FinSet nat_cmp) (size slot : ℕ) (marks : List Mark) : Type 0 where
  pub at : ℕ
  pub index : ℕ
  pub marks_are : marks ≡ Begun at index slot channel mask size ∷ []

-- None began, since so many live.
pub record IsCrowded (count : ℕ) (marks : List Mark) : Type 0 where
  pub at : ℕ
  pub index : ℕ
  pub marks_are : marks ≡ Crowded at index count ∷ []

abbrev pub AreSubscribe : Channel → FinSet nat_cmp → ℕ → Result Sub SubAnswer → List Mark → Type 0
AreSubscribe channel mask size (Ok sub) marks = HasBegun channel mask size sub.slot marks
AreSubscribe channel mask size (Err (sub_answers.TooManyMonitors count)) marks = IsCrowded count marks
AreSubscribe channel mask size (Err sub_answers.NoMemory) marks = marks ≡ []

-- How long the roll is right behind a mark that tells it: with the item that it added, or with just the items that it speaks of.
abbrev pub roll_behind : Mark → Option ℕ
roll_behind (Begun at index slot channel mask size) = Some (index + 1)
roll_behind (Dropped at index slot) = Some (index + 1)
roll_behind (Crowded at index count) = Some index
roll_behind mark = None

-- The roll that the seat has seen ends where the seat's last mark left it.
pub record EndsAtLastRoll (s : Seat) : Type 0 where
  pub before : List Mark
  pub mark : Mark
  pub log_is : s.log ≡ before ++ mark ∷ []
  pub roll_is : roll_behind mark ≡ Some (length (roll s.seen))

-- the subscription in this slot was popped, and this was taken
pub record IsPop (slot : ℕ) (update : Option Update) (marks : List Mark) : Type 0 where
  pub at : ℕ
  pub marks_are : marks ≡ Popped at slot update ∷ []

-- the subscription in this slot ended
pub record IsEnding (slot : ℕ) (marks : List Mark) : Type 0 where
  pub at : ℕ
  pub index : ℕ
  pub marks_are : marks ≡ Dropped at index slot ∷ []

-- The update's value fits the type of the channel that is subscribed to in the slot, and its sets hold leaves of it.
abbrev pub FitsSubscribed : Seat → ℕ → Update → Type 0
FitsSubscribed s slot update =
    (l : Living) → living s.log slot ≡ Some l → IsUpdateOf (type_of s.seen.base.site l.channel) update

-- where it isn't that memory ran out
abbrev pub OnSubscribed : Result Sub SubAnswer → Type 0 → Type 0
OnSubscribed (Err sub_answers.NoMemory) P = ⊤
OnSubscribed answer P = P

-- where a put's answer, or a put-get's, is not that memory ran out
abbrev pub OnTold : {A : Type 0} → Result A PutAnswer → Type 0 → Type 0
OnTold (Err (answers.NoMemory done)) P = ⊤
OnTold answer P = P

-- The mark's entry, if it has one, has this moment, where that is told.
abbrev pub HasMoment : Option Moment → Mark → Type 0
HasMoment (Some moment) (Entered at entry looked found) = entry.moment ≡ moment
HasMoment _ _ = ⊤

abbrev pub HaveMoment : Option Moment → List Mark → Type 0
HaveMoment told [] = ⊤
HaveMoment told (mark ∷ marks) = HasMoment told mark × HaveMoment told marks

-- the seat of a desk that nobody shares, at first and after one more mark

abbrev pub first_seat : Base → Seat
first_seat base = record { number = 0; seen = record { base = base; deeds = [] }; log = [] }

abbrev pub now : Seat → ℕ
now s = length (entries s.seen)

abbrev pub with_mark : Seat → (ℕ → Mark) → Seat
with_mark s mark = record {
  number = s.number;
  seen = record { base = s.seen.base; deeds = s.seen.deeds ++ tagged s.number (deed_of (mark (now s))) };
  log = s.log ++ mark (now s) ∷ [];
}
