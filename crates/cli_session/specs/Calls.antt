-- What the calls of a client do.
use Rattle.std.specs.Prelude.{◌≡◌, ◌⊎◌, ℕ, List, [], ◌∷◌, ◌++◌, None, Some, Result, Ok, Err}
use Rattle.pva_frames.specs.declared.event.Event.{Event}
use Rattle.pva_frames.specs.declared.event.Whole.{Whole}
use Rattle.pva_messages.specs.Reading.{reply_at, request_id}
use Rattle.pva_messages.specs.Views.{part_data, reply_view}
use Rattle.pva_messages.specs.declared.part.Part.{Part}
use Rattle.pva_messages.specs.declared.to_client.ToClient.{ToClient}
use Rattle.pvd_codec.specs.Reading.{Read, State as Source}
use Rattle.pvd_codec.specs.declared.fault.ValueCause.{ValueCause}
use Rattle.pva_messages.specs.Fields.{PartData}
use Rattle.pva_messages.specs.Replies.{Reply}
use Rattle.pva_messages.specs.Requests.{Request, CanSend, request_fields}
use Rattle.pva_messages.specs.Written.{FitsField}
use Rattle.pva_messages.specs.declared.fault.MessageFault.{MessageFault}
use Rattle.pvd_codec.specs.Written.{CanEach}
use Rattle.pvd_codec.specs.declared.fault.ValueFault.{ValueFault}
use Rattle.pvd_codec.specs.declared.fault.ValueFault.TheVariants as values
use Rattle.cli_text.specs.declared.fault.PutText.{PutText}
use Rattle.cli_text.specs.declared.fault.PutText.TheVariants as puts
use Rattle.cli_session.specs.declared.ask.Ask.{Ask}
use Rattle.cli_session.specs.declared.fault.ClientFault.{ClientFault}
use Rattle.cli_session.specs.declared.fault.ClientFault.TheVariants as fails
use Rattle.cli_session.specs.declared.report.Telling.{Telling}
use Rattle.cli_session.specs.State.{State}
use Rattle.cli_session.specs.Laws.{CanWrite}
use Rattle.cli_session.specs.Steps.{fault_in, type_for, Taken, Told, written_of, bytes_of, step, client_run}
use Rattle.cli_session.specs.Steps.{client_told, client_sent, client_bytes, client_fault}
use Rattle.cli_session.specs.Text.{text_of, client_text}
use Rattle.cli_session.specs.Seen.{telling_view}
use Rattle.cli_session.specs.Views.{View}

-- a message that wasn't read: for want of memory, or for its fault
abbrev pub message_fault_by : MessageFault → ValueFault → ClientFault
message_fault_by f values.NoMemory = fails.NoMemory
message_fault_by f other = fails.Message f

abbrev pub message_fault : MessageFault → ClientFault
message_fault f = message_fault_by f f.cause

-- words that give nothing
abbrev pub words_fault : PutText → ClientFault
words_fault puts.NoMemory = fails.NoMemory
words_fault other = fails.Words other

-- What a reader of words answers is what they give, or want of memory.
abbrev pub PutsWords : Result Part ClientFault → Result PartData PutText → Type 0
PutsWords (Ok p) given = given ≡ Ok (part_data p)
PutsWords (Err fails.NoMemory) given = Unit {0}
PutsWords (Err (fails.Words f)) given = given ≡ Err f
PutsWords (Err other) given = ⊥

-- A reply that was read is what stands in the payload, and the types known behind it are those of the new state; a
-- fault is that of the message.
abbrev pub reply_in : Whole → State → Read Source Reply
reply_in whole s =
    reply_at whole.order (type_for s.req s.ty (request_id whole.order whole.command whole.payload)) whole.command
    (whole.payload, s.types)

abbrev pub IsFault : Whole → ClientFault → Read Source Reply → Type 0
IsFault whole fails.NoMemory read = Unit {0}
IsFault whole f read = (x : ValueCause × ℕ) × (read ≡ Err x) × (f ≡ fails.Message (fault_in whole x))

abbrev pub Reads : Whole → State → State → Result ToClient ClientFault → Type 0
Reads whole old new (Ok reply) =
    (rest : List ℕ) × (reply_in whole old ≡ Ok (reply_view reply, (rest, new.types)))
    × (new ≡ record old { types = new.types })
Reads whole old new (Err f) = IsFault whole f (reply_in whole old)

-- a message that may be said: it has what its row has, and values that fit
abbrev pub CanSay : Request → Type 0
CanSay m = CanSend m × CanEach FitsField (request_fields m)

-- A message was sent, or several: the state and the bytes behind it. All that is said has a spelling.
pub record Went (taken : Taken) (new : State) (before after : List ℕ) : Type 0 where
  pub state : new ≡ taken.state
  pub bytes : after ≡ before ++ bytes_of taken
  pub written : CanEach CanWrite (written_of taken)

-- What was told beside that.
pub record Took (outcome : Result Taken ClientFault) (new : State) (before after : List ℕ) (told : List Told)
    : Type 0 where
  pub taken : Taken
  pub is : outcome ≡ Ok taken
  pub went : Went taken new before after
  pub told_is : told ≡ taken.told

-- a fault is the one that was to come; want of memory is free
abbrev pub Faults : {A : Type 0} → ClientFault → Result A ClientFault → Type 0
Faults fails.NoMemory outcome = Unit {0}
Faults f outcome = outcome ≡ Err f

-- A call did what was to come of it.
abbrev pub Takes : Result Taken ClientFault → State → List ℕ → List ℕ → Result Telling ClientFault → Type 0
Takes outcome new before after (Ok telling) = Took outcome new before after (telling_view telling)
Takes outcome new before after (Err f) = Faults f outcome

-- What an event brought about was kept, or there was no memory for it.
abbrev pub Keeps : View → View → List ℕ → List Told → Result (Unit {0}) ClientFault → Type 0
Keeps old new bytes told (Ok u) = new ≡ record old { told = old.told ++ told; output = old.output ++ bytes }
Keeps old new bytes told (Err f) = (f ≡ fails.NoMemory) × (new ≡ record old { fault = Some fails.NoMemory })

-- An event was taken.
pub record Handled (ask : Ask) (old new : View) (e : Event) : Type 0 where
  pub unfailed : old.fault ≡ None
  pub taken : Taken
  pub is : step ask old.state e ≡ Ok taken
  pub state : new.state ≡ taken.state
  pub told : new.told ≡ old.told ++ taken.told
  pub output : new.output ≡ old.output ++ bytes_of taken
  pub written : CanEach CanWrite (written_of taken)
  pub fault : new.fault ≡ None

-- It wasn't, or the client had failed before. It has failed then with this fault, and nothing is sent or told for it.
pub record Failed (ask : Ask) (old new : View) (e : Event) (f : ClientFault) : Type 0 where
  pub fault : new.fault ≡ Some f
  pub why : (old.fault ≡ Some f) ⊎ ((old.fault ≡ None) × Faults f (step ask old.state e))
  pub told : new.told ≡ old.told
  pub output : new.output ≡ old.output

abbrev pub Handles : Ask → View → View → Event → Result (Unit {0}) ClientFault → Type 0
Handles ask old new e (Ok u) = Handled ask old new e
Handles ask old new e (Err f) = Failed ask old new e f

-- The next of what was told was handed out, if there was one.
pub record Gives (old new : View) (given : List Told) : Type 0 where
  pub told : old.told ≡ given ++ new.told
  pub all : given ≡ [] → old.told ≡ []
  pub others : new ≡ record old { told = new.told }

-- This was handed out of what the client told, and this was taken of its bytes: with what is still to be handed out and
-- taken it is all that these events have it tell, print and send, and a server can read each message of it.
pub record Accounts (ask : Ask) (events : List Event) (given : List Told) (taken : List ℕ) (v : View) : Type 0 where
  pub told : given ++ v.told ≡ client_told ask events
  pub text : text_of ask (given ++ v.told) ≡ client_text ask events
  pub bytes : taken ++ v.output ≡ client_bytes ask events
  pub written : CanEach CanWrite (client_sent ask events)

-- The client has heard these events, one after another, and has taken each.
pub record Stands (ask : Ask) (events : List Event) (given : List Told) (taken : List ℕ) (v : View) : Type 0 where
  pub unfailed : v.fault ≡ None
  pub readable : client_fault ask events ≡ None
  pub state : v.state ≡ (client_run ask events).state
  pub accounts : Accounts ask events given taken v

-- It has failed at the event behind them: with the first fault of every list that goes on with this event, or for want
-- of memory. What was told and sent is that of the events before.
pub record Fell (ask : Ask) (events : List Event) (given : List Told) (taken : List ℕ) (v : View) (e : Event)
    (f : ClientFault) : Type 0 where
  pub fault : v.fault ≡ Some f
  pub why : (f ≡ fails.NoMemory) ⊎ ((more : List Event) → client_fault ask (events ++ e ∷ more) ≡ Some f)
  pub accounts : Accounts ask events given taken v

-- Behind a further event.
abbrev pub Continues : Ask → List Event → List Told → List ℕ → View → Event → Result (Unit {0}) ClientFault → Type 0
Continues ask events given taken new e (Ok u) = Stands ask (events ++ e ∷ []) given taken new
Continues ask events given taken new e (Err f) = Fell ask events given taken new e f

-- A client that has failed answers its fault to every further event, and nothing changes.
abbrev pub Stays : View → View → Result (Unit {0}) ClientFault → Type 0
Stays old new result = (f : ClientFault) → old.fault ≡ Some f → (result ≡ Err f) × (new ≡ old)
