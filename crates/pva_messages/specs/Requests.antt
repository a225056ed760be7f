-- What a client says, as plain data, and the items of each message (pvAccess Protocol Specification, "Application
-- Messages").
use Rattle.std.specs.Prelude.{◌≡◌, ℕ, ◌+◌, ◌≤◌, Bool, true, false, List, [], ◌∷◌, ◌++◌, length, Option, Some, None}
use Rattle.std.specs.Prelude.{if◌then◌else◌}
use Rattle.pva_messages.specs.declared.command.Command.{Command}
use Rattle.pva_messages.specs.declared.command.Command.TheVariants as command
use Rattle.pva_messages.specs.Subcommands.{begins, asks_back, counts, has_part, OnlyWhere, ExactlyWhere}
use Rattle.pva_messages.specs.Fields.{Field, Valued, PartData, byte, short, word, text, channels, valued, last_valued}
use Rattle.pva_messages.specs.Fields.{part, rest}
use Rattle.pva_messages.specs.Rows.{byte_of}

-- The part of a put: there is none; it was left unread and begins at this place of the payload; or this.
pub data PutPart : Type 0 where
  absent : PutPart
  unread : ℕ → PutPart
  given : PartData → PutPart

pub data Request : Type 0 where
  -- buffer size, registry size, quality of service, method, argument
  validation : ℕ → ℕ → ℕ → List ℕ → Valued → Request
  echo : List ℕ → Request
  -- ids of the client, and names
  create : List (ℕ × List ℕ) → Request
  -- the server's id of the channel, and the client's
  destroy_channel : ℕ → ℕ → Request
  -- the server's id of the channel, the id of the request, the subcommand; then the request structure
  get : ℕ → ℕ → ℕ → Valued → Request
  put : ℕ → ℕ → ℕ → Valued → PutPart → Request
  put_get : ℕ → ℕ → ℕ → Valued → PutPart → Request
  -- the count of updates: free ones at a beginning, else acknowledged ones
  monitor : ℕ → ℕ → ℕ → Valued → Option ℕ → Request
  destroy_request : ℕ → ℕ → Request
  cancel : ℕ → ℕ → Request
  get_field : ℕ → ℕ → List ℕ → Request
  -- the id of the request, the kind of the message, its text
  message : ℕ → ℕ → List ℕ → Request
  rpc : ℕ → ℕ → ℕ → Valued → Request
  -- a message of another command
  skipped : ℕ → Request

-- where the part of a put begins: behind two ids and the subcommand
abbrev pub part_place : ℕ
part_place = 4 + 4 + 1

-- a message without a request structure, where none was read
abbrev pub valued_in : List Field → Valued
valued_in (valued v ∷ fields) = v
valued_in fields = None

abbrev pub part_in : ℕ → List Field → PutPart
part_in sub (valued v ∷ fields) = absent
part_in sub (part p ∷ fields) = given p
part_in sub fields = if asks_back sub then absent else unread part_place

abbrev pub count_in : List Field → Option ℕ
count_in (valued v ∷ word n ∷ fields) = Some n
count_in (word n ∷ fields) = Some n
count_in fields = None

-- what the fields behind the subcommand of a put and of a monitor say
abbrev pub put_in : ℕ → List Field → Valued × PutPart
put_in sub fields = (valued_in fields, part_in sub fields)

abbrev pub monitor_in : List Field → Valued × Option ℕ
monitor_in fields = (valued_in fields, count_in fields)

-- the message that these fields are
abbrev pub request_of : Command → List Field → Request
request_of command.Validation (word buffer ∷ short registry ∷ short qos ∷ text method ∷ last_valued v ∷ fields) =
    validation buffer registry qos method v
request_of command.Echo (rest xs ∷ fields) = echo xs
request_of command.CreateChannel (channels cs ∷ fields) = create cs
request_of command.DestroyChannel (word sid ∷ word cid ∷ fields) = destroy_channel sid cid
request_of command.Get (word sid ∷ word req ∷ byte sub ∷ fields) = get sid req sub (valued_in fields)
request_of command.Put (word sid ∷ word req ∷ byte sub ∷ fields) =
    put sid req sub (valued_in fields) (part_in sub fields)
request_of command.PutGet (word sid ∷ word req ∷ byte sub ∷ fields) =
    put_get sid req sub (valued_in fields) (part_in sub fields)
request_of command.Monitor (word sid ∷ word req ∷ byte sub ∷ fields) =
    monitor sid req sub (valued_in fields) (count_in fields)
request_of command.DestroyRequest (word sid ∷ word req ∷ fields) = destroy_request sid req
request_of command.Cancel (word sid ∷ word req ∷ fields) = cancel sid req
request_of command.GetField (word sid ∷ word req ∷ text path ∷ fields) = get_field sid req path
request_of command.Message (word req ∷ byte kind ∷ text t ∷ fields) = message req kind t
request_of command.Rpc (word sid ∷ word req ∷ byte sub ∷ valued v ∷ fields) = rpc sid req sub v
request_of c fields = skipped 0

-- the request structure, where the message begins a request
abbrev pub begun : ℕ → Valued → List Field
begun sub v = if begins sub then valued v ∷ [] else []

abbrev pub part_field : PutPart → List Field
part_field absent = []
part_field (unread place) = []
part_field (given p) = part p ∷ []

abbrev pub count_field : Option ℕ → List Field
count_field None = []
count_field (Some n) = word n ∷ []

-- the fields of a message
abbrev pub request_fields : Request → List Field
request_fields (validation buffer registry qos method v) =
    word buffer ∷ short registry ∷ short qos ∷ text method ∷ last_valued v ∷ []
request_fields (echo xs) = rest xs ∷ []
request_fields (create cs) = channels cs ∷ []
request_fields (destroy_channel sid cid) = word sid ∷ word cid ∷ []
request_fields (get sid req sub v) = word sid ∷ word req ∷ byte sub ∷ begun sub v
request_fields (put sid req sub v p) = word sid ∷ word req ∷ byte sub ∷ (begun sub v ++ part_field p)
request_fields (put_get sid req sub v p) = word sid ∷ word req ∷ byte sub ∷ (begun sub v ++ part_field p)
request_fields (monitor sid req sub v n) = word sid ∷ word req ∷ byte sub ∷ (begun sub v ++ count_field n)
request_fields (destroy_request sid req) = word sid ∷ word req ∷ []
request_fields (cancel sid req) = word sid ∷ word req ∷ []
request_fields (get_field sid req path) = word sid ∷ word req ∷ text path ∷ []
request_fields (message req kind t) = word req ∷ byte kind ∷ text t ∷ []
request_fields (rpc sid req sub v) = word sid ∷ word req ∷ byte sub ∷ valued v ∷ []
request_fields (skipped c) = []

-- the byte of its command
abbrev pub request_command : Request → ℕ
request_command (validation buffer registry qos method v) = byte_of command.Validation
request_command (echo xs) = byte_of command.Echo
request_command (create cs) = byte_of command.CreateChannel
request_command (destroy_channel sid cid) = byte_of command.DestroyChannel
request_command (get sid req sub v) = byte_of command.Get
request_command (put sid req sub v p) = byte_of command.Put
request_command (put_get sid req sub v p) = byte_of command.PutGet
request_command (monitor sid req sub v n) = byte_of command.Monitor
request_command (destroy_request sid req) = byte_of command.DestroyRequest
request_command (cancel sid req) = byte_of command.Cancel
request_command (get_field sid req path) = byte_of command.GetField
request_command (message req kind t) = byte_of command.Message
request_command (rpc sid req sub v) = byte_of command.Rpc
request_command (skipped c) = c

-- a get, a put or a put-get
abbrev pub GetsOrPuts : Request → Type 0
GetsOrPuts (get sid req sub v) = Unit {0}
GetsOrPuts (put sid req sub v p) = Unit {0}
GetsOrPuts (put_get sid req sub v p) = Unit {0}
GetsOrPuts m = ⊥

-- a part of a put is given exactly where the message has one
abbrev pub PartWhere : Bool → PutPart → Type 0
PartWhere true absent = ⊥
PartWhere true (unread place) = ⊥
PartWhere true (given p) = Unit {0}
PartWhere false p = p ≡ absent

-- The message says what its row has, and no more.
abbrev pub CanSend : Request → Type 0
CanSend (create cs) = length cs ≤ 65535
CanSend (get sid req sub v) = OnlyWhere (begins sub) v
CanSend (put sid req sub v p) = OnlyWhere (begins sub) v × PartWhere (has_part sub) p
CanSend (put_get sid req sub v p) = OnlyWhere (begins sub) v × PartWhere (has_part sub) p
CanSend (monitor sid req sub v n) = OnlyWhere (begins sub) v × ExactlyWhere (counts sub) n
CanSend (skipped c) = ⊥
CanSend m = Unit {0}
