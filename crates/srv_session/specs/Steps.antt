-- A session as a list of steps. What it reads, what its desk did and what it says are functions of that list.
use Rattle.std.specs.Prelude.{◌≡◌, ◌==◌, ◌-◌, ◌⊎◌, ℕ, true, false, List, [], ◌∷◌, ◌++◌, Option, None, Some}
use Rattle.std.specs.Prelude.{option_map, ⊤, if◌then◌else◌}
use Rattle.std.specs.FinMap.{get as at, insert}
use Rattle.pva_frames.specs.declared.event.Event.{Event}
use Rattle.pvd_codec.specs.Written.{CanEach}
use Rattle.pvd_desc.specs.Types.{Types}
use Rattle.mon_queue.specs.declared.update.Update.{Update}
use Rattle.histories.specs.History.{AllTrue}
use Rattle.desk_api.specs.Living.{lives}
use Rattle.desk_api.specs.Types.{type_of}
use Rattle.desk_api.specs.declared.channel.Channel.{Channel}
use Rattle.desk_api.specs.declared.history.SiteData.{SiteData}
use Rattle.desk_api.specs.declared.mark.Mark.{Mark}
use Rattle.desk_api.specs.declared.mark.Mark.TheVariants.{Begun, Popped}
use Rattle.desk_api.specs.declared.sub.Sub.{Sub}
use Rattle.srv_session.specs.State.{State, Requests, Asked, channel_at, is_due, slots_of}
use Rattle.srv_session.specs.Tasks.{Hearing, asks, unreadable, over_range, heard}
use Rattle.srv_session.specs.Replies.{Sent, IsSayable, said, spelled_all, updated}
use Rattle.srv_session.specs.Rows.{Row, NoPart, Part, after_task, left_by, AreEndingsOf}

-- One step: an event of the client, or a pop of the monitor of a request; the marks that it made, and what the session
-- sent.
pub data Step : Type 0 where
  hears : Event → List Mark → List Sent → Step
  pops : ℕ → List Mark → List Sent → Step

-- when the client has defined these types
abbrev pub knowing : State → Types → State
knowing s types = record s { types = types }

-- what the row of a hearing says; an event that has no answer has none
abbrev pub IsAnswer : SiteData → State → Hearing → List Mark → List Sent → Type 0
IsAnswer site s (asks task types) marks sent = Row site (knowing s types) task marks sent
IsAnswer site s (unreadable fault) marks sent = ⊥
IsAnswer site s over_range marks sent = ⊥

-- the state behind it, of its task and its marks
abbrev pub after_hearing : SiteData → State → Hearing → List Mark → State
after_hearing site s (asks task types) marks = after_task site (knowing s types) task marks
after_hearing site s (unreadable fault) marks = s
after_hearing site s over_range marks = s

abbrev pub after_event : SiteData → State → Event → List Mark → State
after_event site s e marks = after_hearing site s (heard site s e) marks

-- a monitor that is started and may be sent an update, with its channel and its subscription
pub record IsDueMonitor (s : State) (req : ℕ) (ask : Asked) (channel : Channel) (sub : Sub) : Type 0 where
  pub here : at s.requests req ≡ Some ask
  pub open_ : channel_at s.channels ask.sid ≡ Some channel
  pub subscribed : ask.sub ≡ Some sub
  pub due : is_due (Some ask) ≡ true

-- an update is sent, and nothing where none was unread
abbrev pub update_sent : SiteData → ℕ → Channel → Option Update → List Sent
update_sent site req channel None = []
update_sent site req channel (Some update) = said (updated req (type_of site channel) update) ∷ []

-- A pop of a monitor that is due, in its subscription's slot.
pub record IsPopOf (s : State) (req : ℕ) (channel : Channel) (update : Option Update) (marks : List Mark) : Type 0 where
  pub ask : Asked
  pub sub : Sub
  pub is_due : IsDueMonitor s req ask channel sub
  pub place : ℕ
  pub marks_are : marks ≡ Popped place sub.slot update ∷ []

pub record PopRow (site : SiteData) (s : State) (req : ℕ) (marks : List Mark) (sent : List Sent) : Type 0 where
  pub channel : Channel
  pub update : Option Update
  pub is_pop : IsPopOf s req channel update marks
  pub sent_is : sent ≡ update_sent site req channel update

-- What is free in a window once an update was sent.
abbrev pub one_sent : Asked → Asked
one_sent ask = record ask { window = option_map (λ free. free - 1) ask.window }

abbrev pub with_sent : ℕ → Option Asked → Requests → Requests
with_sent req None requests = requests
with_sent req (Some ask) requests = insert requests req (one_sent ask)

abbrev pub after_pop : State → ℕ → List Mark → State
after_pop s req (Popped place slot (Some update) ∷ []) =
    record s { requests = with_sent req (at s.requests req) s.requests }
after_pop s req marks = s

-- what the row of a step says
abbrev pub IsByRow : SiteData → State → Step → Type 0
IsByRow site s (hears e marks sent) = IsAnswer site s (heard site s e) marks sent
IsByRow site s (pops req marks sent) = PopRow site s req marks sent

abbrev pub after_step : SiteData → State → Step → State
after_step site s (hears e marks sent) = after_event site s e marks
after_step site s (pops req marks sent) = after_pop s req marks

abbrev pub sent_in : Step → List Sent
sent_in (hears e marks sent) = sent
sent_in (pops req marks sent) = sent

abbrev pub marks_in : Step → List Mark
marks_in (hears e marks sent) = marks
marks_in (pops req marks sent) = marks

-- A step is as its row says, and all that is sent in it has a spelling.
abbrev pub IsStep : SiteData → State → Step → Type 0
IsStep site s x = IsByRow site s x × CanEach IsSayable (sent_in x)

abbrev pub bytes_of : State → Step → List ℕ
bytes_of s x = spelled_all s.order s.segment (sent_in x)

abbrev pub AreSteps : SiteData → State → List Step → Type 0
AreSteps site s [] = ⊤
AreSteps site s (x ∷ xs) = IsStep site s x × AreSteps site (after_step site s x) xs

abbrev pub state_after : SiteData → State → List Step → State
state_after site s [] = s
state_after site s (x ∷ xs) = state_after site (after_step site s x) xs

abbrev pub events_of : List Step → List Event
events_of [] = []
events_of (hears e marks sent ∷ xs) = e ∷ events_of xs
events_of (pops req marks sent ∷ xs) = events_of xs

-- what each step is about, in order: an event, or a pop
abbrev pub turns_of : List Step → List (Option Event)
turns_of [] = []
turns_of (hears e marks sent ∷ xs) = Some e ∷ turns_of xs
turns_of (pops req marks sent ∷ xs) = None ∷ turns_of xs

abbrev pub marks_of : List Step → List Mark
marks_of [] = []
marks_of (x ∷ xs) = marks_in x ++ marks_of xs

-- A subscription begins in a slot where none lives by the marks before.

abbrev pub IsFreeBegun : Mark → List Mark → Type 0
IsFreeBegun (Begun place index slot channel mask size) before = lives before slot ≡ false
IsFreeBegun mark before = ⊤

abbrev pub BeginFree : List Mark → Type 0
BeginFree marks = AllTrue IsFreeBegun [] marks

abbrev pub out_of : SiteData → State → List Step → List ℕ
out_of site s [] = []
out_of site s (x ∷ xs) = bytes_of s x ++ out_of site (after_step site s x) xs

-- The last pop of a request's monitor behind the last event, by its marks.
abbrev pub last_pop : ℕ → Option (List Mark) → List Step → Option (List Mark)
last_pop req o [] = o
last_pop req o (hears e marks sent ∷ xs) = last_pop req None xs
last_pop req o (pops r marks sent ∷ xs) = last_pop req (if r == req then Some marks else o) xs

-- these marks are a pop that found nothing unread
abbrev pub IsEmptyPop : Option (List Mark) → Type 0
IsEmptyPop None = ⊥
IsEmptyPop (Some (Popped place slot None ∷ [])) = ⊤
IsEmptyPop (Some marks) = ⊥

-- Behind the last event each started monitor with an open window was popped until nothing was unread.
abbrev pub IsDrained : SiteData → State → List Step → Type 0
IsDrained site s steps =
    (req : ℕ) → is_due (at (state_after site s steps).requests req) ≡ true → IsEmptyPop (last_pop req None steps)

-- The marks that may stand where memory ran out in the row of the next event, or in a pop. Of an event that has no answer
-- there are none.

abbrev pub PartOf : SiteData → State → Hearing → List Mark → Type 0
PartOf site s (asks task types) marks = Part site (knowing s types) task marks
PartOf site s (unreadable fault) marks = NoPart marks
PartOf site s over_range marks = NoPart marks

-- the pop of a request's monitor which took an update that wasn't sent
abbrev pub UnsentPop : State → ℕ → List Mark → Type 0
UnsentPop s req marks = (channel : Channel) × (update : Update) × IsPopOf s req channel (Some update) marks

abbrev pub PopPart : State → List Mark → Type 0
PopPart s marks = (req : ℕ) × UnsentPop s req marks

abbrev pub EventPart : SiteData → State → List Event → List Mark → Type 0
EventPart site s [] marks = NoPart marks
EventPart site s (e ∷ more) marks = PartOf site s (heard site s e) marks

abbrev pub NextPart : SiteData → State → List Event → List Mark → Type 0
NextPart site s events marks = EventPart site s events marks ⊎ PopPart s marks

-- a state with the subscriptions that they leave

abbrev pub left_by_hearing : SiteData → State → Hearing → List Mark → State
left_by_hearing site s (asks task types) marks = left_by site (knowing s types) task marks
left_by_hearing site s (unreadable fault) marks = s
left_by_hearing site s over_range marks = s

abbrev pub after_part : SiteData → State → List Event → List Mark → State
after_part site s events (Popped place slot update ∷ []) = s
after_part site s [] marks = s
after_part site s (e ∷ more) marks = left_by_hearing site s (heard site s e) marks

-- The marks that end the subscriptions of the session, each with one, by the rising ids of their requests.
abbrev pub AreEndings : State → List Mark → Type 0
AreEndings s marks = AreEndingsOf (slots_of s.requests) marks
