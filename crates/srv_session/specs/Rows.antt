-- What a session says to what it is asked: one row for each task, which names the marks of its desk and the replies;
-- and the state that it leaves (pvAccess Protocol Specification, "Application Messages").
use Rattle.std.specs.Prelude.{◌≡◌, ℕ, pos, map, option_map, Bool, true, false, List, [], ◌∷◌, Option, None, Some, Result, Ok, Err, codes, ⊤, if◌then◌else◌}
use Rattle.std.specs.FinMap.{get as at, insert, remove}
use Rattle.std.specs.FinSet.{FinSet}
use Rattle.std.specs.Ordering.{nat_cmp}
use Rattle.journal_core.specs.Moments.{Moment}
use Rattle.pva_wire.specs.declared.status.Status.{Status}
use Rattle.pva_wire.specs.Status.{good}
use Rattle.pvd_value.specs.Data.{Data}
use Rattle.pvd_value.specs.View.{view}
use Rattle.pvd_value.specs.declared.value.PvValue.{PvValue}
use Rattle.pva_messages.specs.Replies as reply
use Rattle.pva_messages.specs.Replies.{Reply}
use Rattle.pva_messages.specs.Subcommands.{ends}
use Rattle.pvd_request.specs.declared.request.Request.{Request as Wanted}
use Rattle.chan_table.specs.declared.ask.AskKind.{AskKind}
use Rattle.chan_table.specs.declared.ask.AskKind.TheVariants as kinds
use Rattle.rec_kinds.specs.declared.put.PutRefusal.{PutRefusal}
use Rattle.rec_kinds.specs.declared.put.PutRefusal.TheVariants as refusals
use Rattle.desk_api.specs.Calls as calls
use Rattle.desk_api.specs.Calls.{IsGet, IsPartOfGet, ArePut, ArePutGet, IsSnapshot, IsPartOfSnapshot, AreSubscribe, IsEnding}
use Rattle.desk_api.specs.Sites.{channel_named}
use Rattle.desk_api.specs.Types.{type_of}
use Rattle.desk_api.specs.declared.channel.Channel.{Channel}
use Rattle.desk_api.specs.declared.history.SiteData.{SiteData}
use Rattle.desk_api.specs.declared.mark.Mark.{Mark}
use Rattle.desk_api.specs.declared.put.Done.{Done}
use Rattle.desk_api.specs.declared.put.PutAnswer.{PutAnswer}
use Rattle.desk_api.specs.declared.put.PutAnswer.TheVariants as answers
use Rattle.desk_api.specs.declared.mark.Mark.TheVariants.{Begun}
use Rattle.desk_api.specs.declared.rows.RecRow.{RecRow}
use Rattle.desk_api.specs.declared.sub.Sub.{Sub}
use Rattle.desk_api.specs.declared.sub.SubAnswer.{SubAnswer}
use Rattle.desk_api.specs.declared.sub.SubAnswer.TheVariants as sub_answers
use Rattle.rpc_services.specs.Answers.{snapshot_tree, snapshot_data}
use Rattle.srv_session.specs.State.{State, Channels, Requests, Asked, segment_for, is_full, least_free, without_channel, on_only, slot_of, slots_of}
use Rattle.srv_session.specs.Replies.{Sent, said, control, error, answered, begun, got, called, refused}
use Rattle.srv_session.specs.Tasks.{Task, acknowledged, pass_over, echo_control, refuse, tell, validate, echo, create, destroy_channel}
use Rattle.srv_session.specs.Tasks.{begin, get, put, put_get, respond, snapshot, subscribe, steer, destroy_request}

-- Channels that are created.

-- A name of the site opens a channel under the least number that none has, where there is room for one.

abbrev pub created : Channels → ℕ → Option Channel → Reply
created channels cid None = reply.created cid 0xFFFF_FFFF (error (codes "channel not found"))
created channels cid (Some channel) =
    if is_full channels then reply.created cid 0xFFFF_FFFF (error (codes "too many channels"))
    else reply.created cid (least_free channels) good

abbrev pub opened : Channels → ℕ → Option Channel → Channels
opened channels cid None = channels
opened channels cid (Some channel) =
    if is_full channels then channels else insert channels (least_free channels) (cid, channel)

-- Name by name, each against the channels that the names before it left.

abbrev pub all_created : SiteData → Channels → List (ℕ × List ℕ) → List Sent
all_created site channels [] = []
all_created site channels (x ∷ names) =
    said (created channels x.0 (channel_named site x.1))
    ∷ all_created site (opened channels x.0 (channel_named site x.1)) names

abbrev pub all_opened : SiteData → Channels → List (ℕ × List ℕ) → Channels
all_opened site channels [] = channels
all_opened site channels (x ∷ names) = all_opened site (opened channels x.0 (channel_named site x.1)) names

-- Puts.

-- why a put was refused
abbrev pub refusal_text : PutRefusal → List ℕ
refusal_text refusals.IndexOutside = codes "index outside the choices"
refusal_text refusals.TextTooLong = codes "text too long"
refusal_text refusals.TooManyElements = codes "too many elements"
refusal_text refusals.Disabled = codes "puts are disabled"
refusal_text refusals.NothingWritable = codes "nothing writable"

-- What a put's client is told. Where memory ran out it is told nothing.
abbrev pub put_status : Result Done PutAnswer → Option Status
put_status (Ok done) = Some good
put_status (Err (answers.Refused refusal)) = Some (error (refusal_text refusal))
put_status (Err (answers.JournalFull kept entry limit done)) = Some (error (codes "journal full"))
put_status (Err (answers.NoMemory done)) = None

-- What a put-get's client is told: the selected leaves of what was got. Where memory ran out it is told nothing.
abbrev pub put_get_reply : SiteData → ℕ → ℕ → Asked → Channel → Result (Done × PvValue) PutAnswer → Option Reply
put_get_reply site req sub ask channel (Ok (done, value)) =
    Some (got kinds.PutGet req sub (type_of site channel) ask.mask (view value))
put_get_reply site req sub ask channel (Err answer) =
    option_map (answered kinds.PutGet req sub) (put_status (Err answer))

-- what a put asks of the desk, at some moment
abbrev pub asked : SiteData → Asked → Channel → FinSet nat_cmp → Data → Moment → calls.Asked
asked site ask channel mask value moment =
    record { site = site; channel = channel; mask = mask; value = value; moment = moment; atomic = ask.atomic }

-- The rows.

-- the desk isn't asked for anything that makes a mark, and this is sent
pub record Says (these : List Sent) (marks : List Mark) (sent : List Sent) : Type 0 where
  pub marks_are : marks ≡ []
  pub sent_is : sent ≡ these

-- What the channel shows of what the marks found: the leaves that the request selected when it began.
pub record GetRow (site : SiteData) (kind : AskKind) (req sub : ℕ) (ask : Asked) (channel : Channel) (marks : List Mark)
    (sent : List Sent) : Type 0 where
  pub value : Data
  pub is_get : IsGet site channel ask.atomic value marks
  pub sent_is : sent ≡ said (got kind req sub (type_of site channel) ask.mask value) ∷ []

-- what became of the put, at some moment
pub record PutRow (site : SiteData) (req sub : ℕ) (ask : Asked) (channel : Channel) (mask : FinSet nat_cmp)
    (value : Data) (marks : List Mark) (sent : List Sent) : Type 0 where
  pub moment : Moment
  pub answer : Result Done PutAnswer
  pub status : Status
  pub is_put : ArePut (asked site ask channel mask value moment) answer marks
  pub status_is : put_status answer ≡ Some status
  pub sent_is : sent ≡ said (answered kinds.Put req sub status) ∷ []

-- what became of the put and the get, at some moment
pub record PutGetRow (site : SiteData) (req sub : ℕ) (ask : Asked) (channel : Channel) (mask : FinSet nat_cmp)
    (value : Data) (marks : List Mark) (sent : List Sent) : Type 0 where
  pub moment : Moment
  pub answer : Result (Done × PvValue) PutAnswer
  pub told : Reply
  pub is_put_get : ArePutGet (asked site ask channel mask value moment) answer marks
  pub told_is : put_get_reply site req sub ask channel answer ≡ Some told
  pub sent_is : sent ≡ said told ∷ []

-- the rows of a table
abbrev pub rows_data : List RecRow → Data
rows_data rows =
    snapshot_data (map (λ r. r.name) rows) (map (λ r. r.text) rows) (map (λ r. pos r.severity) rows)
    (map (λ r. r.moment.seconds) rows) (map (λ r. pos r.moment.nanoseconds) rows)

-- What the marks found of all records.
pub record SnapshotRow (site : SiteData) (req sub : ℕ) (marks : List Mark) (sent : List Sent) : Type 0 where
  pub rows : List RecRow
  pub is_snapshot : IsSnapshot site rows marks
  pub sent_is : sent ≡ said (called req sub snapshot_tree (rows_data rows)) ∷ []

-- Monitors.

-- each mark in turn ends the subscription in one of these slots
abbrev pub AreEndingsOf : List ℕ → List Mark → Type 0
AreEndingsOf [] [] = ⊤
AreEndingsOf (slot ∷ slots) (mark ∷ marks) = IsEnding slot (mark ∷ []) × AreEndingsOf slots marks
AreEndingsOf slots marks = ⊥

-- The subcommand of the reply that begins a monitor has bit 08 alone, whatever others its message had.
abbrev pub begins_alone : ℕ
begins_alone = 0x08

-- What is said where a subscription began, or where too many live. Where memory ran out nothing is said.
abbrev pub subscribed_reply : SiteData → ℕ → ℕ → Channel → Result Sub SubAnswer → Option Reply
subscribed_reply site req sub channel (Ok living) = Some (begun kinds.Monitor req begins_alone (type_of site channel))
subscribed_reply site req sub channel (Err (sub_answers.TooManyMonitors count)) =
    Some (refused kinds.Monitor req sub (codes "too many monitors"))
subscribed_reply site req sub channel (Err sub_answers.NoMemory) = None

-- what became of a subscription to the leaves that were asked for
pub record SubscribeRow (site : SiteData) (req sub : ℕ) (channel : Channel) (wanted : Wanted) (marks : List Mark)
    (sent : List Sent) : Type 0 where
  pub answer : Result Sub SubAnswer
  pub told : Reply
  pub is_subscribe : AreSubscribe channel wanted.mask wanted.queue answer marks
  pub told_is : subscribed_reply site req sub channel answer ≡ Some told
  pub sent_is : sent ≡ said told ∷ []

-- these subscriptions end, and this is sent
pub record EndsThese (slots : List ℕ) (these : List Sent) (marks : List Mark) (sent : List Sent) : Type 0 where
  pub endings : AreEndingsOf slots marks
  pub sent_is : sent ≡ these

-- What the session says to this task.
abbrev pub Row : SiteData → State → Task → List Mark → List Sent → Type 0
Row site s pass_over = Says []
Row site s (echo_control number) = Says (control 4 number ∷ [])
Row site s (refuse r) = Says (said r ∷ [])
Row site s (tell r) = Says (said r ∷ [])
Row site s (validate buffer registry user host) = Says (said (reply.validated good) ∷ [])
Row site s (echo payload) = Says (said (reply.echo payload) ∷ [])
Row site s (create names) = Says (all_created site s.channels names)
Row site s (destroy_channel sid cid) =
    EndsThese (slots_of (on_only sid s.requests)) (said (reply.channel_destroyed sid cid) ∷ [])
Row site s (begin kind req sub sid channel wanted) = Says (said (begun kind req sub (type_of site channel)) ∷ [])
Row site s (get kind req sub ask channel) = GetRow site kind req sub ask channel
Row site s (put req sub ask channel mask value) = PutRow site req sub ask channel mask value
Row site s (put_get req sub ask channel mask value) = PutGetRow site req sub ask channel mask value
Row site s (respond req sub r) = Says (said r ∷ [])
Row site s (snapshot req sub) = SnapshotRow site req sub
Row site s (subscribe req sub sid channel wanted count) = SubscribeRow site req sub channel wanted
Row site s (steer req count started ask) = Says []
Row site s (destroy_request req) = EndsThese (slot_of (at s.requests req)) []

-- The marks that may stand where memory ran out in a row.

abbrev pub NoPart : List Mark → Type 0
NoPart marks = marks ≡ []

abbrev pub PutPart : SiteData → Asked → Channel → FinSet nat_cmp → Data → List Mark → Type 0
PutPart site ask channel mask value marks =
    (moment : Moment) × (answer : Result Done PutAnswer)
    × ArePut (asked site ask channel mask value moment) answer marks

abbrev pub PutGetPart : SiteData → Asked → Channel → FinSet nat_cmp → Data → List Mark → Type 0
PutGetPart site ask channel mask value marks =
    (moment : Moment) × (answer : Result (Done × PvValue) PutAnswer)
    × ArePutGet (asked site ask channel mask value moment) answer marks

abbrev pub SubscribePart : Channel → Wanted → List Mark → Type 0
SubscribePart channel wanted marks =
    (answer : Result Sub SubAnswer) × AreSubscribe channel wanted.mask wanted.queue answer marks

-- a channel's subscriptions end all, before its reply is written, or none does
abbrev pub EndingsPart : List ℕ → List Mark → Type 0
EndingsPart slots [] = ⊤
EndingsPart slots (mark ∷ marks) = AreEndingsOf slots (mark ∷ marks)

abbrev pub Part : SiteData → State → Task → List Mark → Type 0
Part site s (destroy_channel sid cid) = EndingsPart (slots_of (on_only sid s.requests))
Part site s (subscribe req sub sid channel wanted count) = SubscribePart channel wanted
Part site s (get kind req sub ask channel) = IsPartOfGet site channel ask.atomic
Part site s (put req sub ask channel mask value) = PutPart site ask channel mask value
Part site s (put_get req sub ask channel mask value) = PutGetPart site ask channel mask value
Part site s (snapshot req sub) = IsPartOfSnapshot site
Part site s task = NoPart

-- The state that a task leaves, with the marks that were made.

-- a request that has begun on the channel of this id
abbrev pub ask_of : AskKind → ℕ → Wanted → Asked
ask_of kind sid wanted = record {
  sid = sid;
  kind = kind;
  mask = wanted.mask;
  atomic = wanted.atomic;
  sub = None;
  window = None;
  started = false;
}

-- a monitor that has begun, with its subscription and its window
abbrev pub monitor_of : ℕ → Wanted → ℕ → Option ℕ → Asked
monitor_of sid wanted slot window =
    record (ask_of kinds.Monitor sid wanted) { sub = Some (record { slot = slot }); window = window }

-- a monitor that goes on
abbrev pub steered : Option ℕ → Bool → Asked → Asked
steered count started ask = record ask { window = acknowledged count ask.window; started = started }

-- the requests, with a monitor where its subscription began
abbrev pub subscribed : ℕ → ℕ → Wanted → Option ℕ → List Mark → Requests → Requests
subscribed req sid wanted window (Begun place index slot channel mask size ∷ []) requests =
    insert requests req (monitor_of sid wanted slot window)
subscribed req sid wanted window marks requests = requests

-- the requests behind a message about one of them, which ends it by a bit of its subcommand
abbrev pub behind : ℕ → ℕ → Requests → Requests
behind req sub requests = if ends sub then remove requests req else requests

abbrev pub after_task : SiteData → State → Task → List Mark → State
after_task site s (validate buffer registry user host) marks =
    record s { validated = true; segment = segment_for buffer; registry = registry; user = user; host = host }
after_task site s (create names) marks = record s { channels = all_opened site s.channels names }
after_task site s (destroy_channel sid cid) marks =
    record s { channels = remove s.channels sid; requests = without_channel sid s.requests }
after_task site s (begin kind req sub sid channel wanted) marks =
    record s { requests = insert s.requests req (ask_of kind sid wanted) }
after_task site s (get kind req sub ask channel) marks = record s { requests = behind req sub s.requests }
after_task site s (put req sub ask channel mask value) marks = record s { requests = behind req sub s.requests }
after_task site s (put_get req sub ask channel mask value) marks = record s { requests = behind req sub s.requests }
after_task site s (respond req sub r) marks = record s { requests = behind req sub s.requests }
after_task site s (snapshot req sub) marks = record s { requests = behind req sub s.requests }
after_task site s (subscribe req sub sid channel wanted count) marks =
    record s { requests = subscribed req sid wanted count marks s.requests }
after_task site s (steer req count started ask) marks =
    record s { requests = insert s.requests req (steered count started ask) }
after_task site s (destroy_request req) marks = record s { requests = remove s.requests req }
after_task site s task marks = s

-- A state with the subscriptions that are left where memory ran out in a row.
abbrev pub left_by : SiteData → State → Task → List Mark → State
left_by site s (destroy_channel sid cid) (mark ∷ marks) = after_task site s (destroy_channel sid cid) (mark ∷ marks)
left_by site s (subscribe req sub sid channel wanted count) marks =
    after_task site s (subscribe req sub sid channel wanted count) marks
left_by site s task marks = s
