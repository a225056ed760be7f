-- What a server says, as plain data, and the fields of each message (pvAccess Protocol Specification, "Application
-- Messages").
use Rattle.std.specs.Prelude.{◌≡◌, ℕ, Bool, true, false, ◌&&◌, not, List, [], ◌∷◌, ◌++◌, Option, Some, None}
use Rattle.std.specs.Ordering.{nat_cmp}
use Rattle.std.specs.FinSet.{FinSet}
use Rattle.pva_wire.specs.declared.status.Status.{Status}
use Rattle.pva_wire.specs.Status.{good}
use Rattle.pvd_type.specs.Tree.{Tree}
use Rattle.pva_messages.specs.declared.command.Command.{Command}
use Rattle.pva_messages.specs.declared.command.Command.TheVariants as command
use Rattle.pva_messages.specs.Subcommands.{begins, ends, asks_back, carries, OnlyWhere, ExactlyWhere}
use Rattle.pva_messages.specs.Fields.{Field, Valued, PartData, byte, short, word, text, texts, status, description}
use Rattle.pva_messages.specs.Fields.{valued, part, bits, rest}
use Rattle.pva_messages.specs.Rows.{byte_of}

pub data Reply : Type 0 where
  -- buffer size, registry size, methods
  validation : ℕ → ℕ → List (List ℕ) → Reply
  echo : List ℕ → Reply
  -- the client's id of the channel, the server's
  created : ℕ → ℕ → Status → Reply
  -- the server's id of the channel, the client's
  channel_destroyed : ℕ → ℕ → Reply
  validated : Status → Reply
  -- the id of the request, the subcommand, the status; the type, where it is begun; the part
  get : ℕ → ℕ → Status → Option Tree → Option PartData → Reply
  put : ℕ → ℕ → Status → Option Tree → Option PartData → Reply
  -- the type that is put, and the one that is got
  put_get : ℕ → ℕ → Status → Option Tree → Option Tree → Option PartData → Reply
  monitor_begun : ℕ → ℕ → Status → Option Tree → Reply
  -- what changed, and what did so more than once
  monitor_update : ℕ → ℕ → Option (PartData × FinSet nat_cmp) → Reply
  monitor_end : ℕ → ℕ → Status → Reply
  get_field : ℕ → Status → Option Tree → Reply
  -- the id of the request, the kind of the message, its text
  message : ℕ → ℕ → List ℕ → Reply
  rpc : ℕ → ℕ → Status → Valued → Reply
  -- a message of another command
  skipped : ℕ → Reply

-- an item that wasn't read is none
abbrev pub type_in : List Field → Option Tree
type_in (description t ∷ fields) = t
type_in fields = None

abbrev pub second_type_in : List Field → Option Tree
second_type_in (description t ∷ description u ∷ fields) = u
second_type_in fields = None

abbrev pub part_in : List Field → Option PartData
part_in (part p ∷ fields) = Some p
part_in fields = None

abbrev pub valued_in : List Field → Valued
valued_in (valued v ∷ fields) = v
valued_in fields = None

abbrev pub update_in : List Field → Option (PartData × FinSet nat_cmp)
update_in (part p ∷ bits overrun ∷ fields) = Some (p, overrun)
update_in fields = None

-- what the fields behind the status of a reply say
abbrev pub get_in : List Field → Option Tree × Option PartData
get_in fields = (type_in fields, part_in fields)

abbrev pub put_get_in : List Field → Option Tree × Option Tree × Option PartData
put_get_in fields = (type_in fields, second_type_in fields, part_in fields)

-- a monitor's reply begins it, ends it, or is an update
abbrev pub monitor_of : Bool → Bool → ℕ → ℕ → List Field → Reply
monitor_of true ended req sub (status s ∷ fields) = monitor_begun req sub s (type_in fields)
monitor_of true ended req sub fields = skipped 0
monitor_of false true req sub (status s ∷ fields) = monitor_end req sub s
monitor_of false true req sub fields = skipped 0
monitor_of false false req sub fields = monitor_update req sub (update_in fields)

-- the message that these fields are
abbrev pub reply_of : Command → List Field → Reply
reply_of command.Validation (word buffer ∷ short registry ∷ texts methods ∷ fields) = validation buffer registry methods
reply_of command.Echo (rest xs ∷ fields) = echo xs
reply_of command.CreateChannel (word cid ∷ word sid ∷ status s ∷ fields) = created cid sid s
reply_of command.DestroyChannel (word sid ∷ word cid ∷ fields) = channel_destroyed sid cid
reply_of command.Validated (status s ∷ fields) = validated s
reply_of command.Get (word req ∷ byte sub ∷ status s ∷ fields) = get req sub s (type_in fields) (part_in fields)
reply_of command.Put (word req ∷ byte sub ∷ status s ∷ fields) = put req sub s (type_in fields) (part_in fields)
reply_of command.PutGet (word req ∷ byte sub ∷ status s ∷ fields) =
    put_get req sub s (type_in fields) (second_type_in fields) (part_in fields)
reply_of command.Monitor (word req ∷ byte sub ∷ fields) = monitor_of (begins sub) (ends sub) req sub fields
reply_of command.GetField (word req ∷ status s ∷ fields) = get_field req s (type_in fields)
reply_of command.Message (word req ∷ byte kind ∷ text t ∷ fields) = message req kind t
reply_of command.Rpc (word req ∷ byte sub ∷ status s ∷ fields) = rpc req sub s (valued_in fields)
reply_of c fields = skipped 0

-- a description, where the message has one
abbrev pub type_field : Bool → Option Tree → List Field
type_field true t = description t ∷ []
type_field false t = []

abbrev pub part_field : Option PartData → List Field
part_field None = []
part_field (Some p) = part p ∷ []

abbrev pub update_field : Option (PartData × FinSet nat_cmp) → List Field
update_field None = []
update_field (Some u) = part u.0 ∷ bits u.1 ∷ []

abbrev pub valued_field : Bool → Valued → List Field
valued_field true v = valued v ∷ []
valued_field false v = []

-- the fields of a message
abbrev pub reply_fields : Reply → List Field
reply_fields (validation buffer registry methods) = word buffer ∷ short registry ∷ texts methods ∷ []
reply_fields (echo xs) = rest xs ∷ []
reply_fields (created cid sid s) = word cid ∷ word sid ∷ status s ∷ []
reply_fields (channel_destroyed sid cid) = word sid ∷ word cid ∷ []
reply_fields (validated s) = status s ∷ []
reply_fields (get req sub s t p) =
    word req ∷ byte sub ∷ status s ∷ (type_field (carries s && begins sub) t ++ part_field p)
reply_fields (put req sub s t p) =
    word req ∷ byte sub ∷ status s ∷ (type_field (carries s && begins sub) t ++ part_field p)
reply_fields (put_get req sub s t u p) =
    word req ∷ byte sub ∷ status s
    ∷ (type_field (carries s && begins sub) t ++ type_field (carries s && begins sub) u ++ part_field p)
reply_fields (monitor_begun req sub s t) = word req ∷ byte sub ∷ status s ∷ type_field (carries s) t
reply_fields (monitor_update req sub u) = word req ∷ byte sub ∷ update_field u
reply_fields (monitor_end req sub s) = word req ∷ byte sub ∷ status s ∷ []
reply_fields (get_field req s t) = word req ∷ status s ∷ type_field (carries s) t
reply_fields (message req kind t) = word req ∷ byte kind ∷ text t ∷ []
reply_fields (rpc req sub s v) = word req ∷ byte sub ∷ status s ∷ valued_field (carries s && not (begins sub)) v
reply_fields (skipped c) = []

-- the byte of its command
abbrev pub reply_command : Reply → ℕ
reply_command (validation buffer registry methods) = byte_of command.Validation
reply_command (echo xs) = byte_of command.Echo
reply_command (created cid sid s) = byte_of command.CreateChannel
reply_command (channel_destroyed sid cid) = byte_of command.DestroyChannel
reply_command (validated s) = byte_of command.Validated
reply_command (get req sub s t p) = byte_of command.Get
reply_command (put req sub s t p) = byte_of command.Put
reply_command (put_get req sub s t u p) = byte_of command.PutGet
reply_command (monitor_begun req sub s t) = byte_of command.Monitor
reply_command (monitor_update req sub u) = byte_of command.Monitor
reply_command (monitor_end req sub s) = byte_of command.Monitor
reply_command (get_field req s t) = byte_of command.GetField
reply_command (message req kind t) = byte_of command.Message
reply_command (rpc req sub s v) = byte_of command.Rpc
reply_command (skipped c) = c

-- the reply to a get, a put or a put-get
abbrev pub GetsOrPuts : Reply → Type 0
GetsOrPuts (get req sub s t p) = Unit {0}
GetsOrPuts (put req sub s t p) = Unit {0}
GetsOrPuts (put_get req sub s t u p) = Unit {0}
GetsOrPuts m = ⊥

-- the reply OK that begins a get, a put or a monitor, with this type
abbrev pub begun_reply : Command → ℕ → ℕ → Tree → Reply
begun_reply command.Get req sub t = get req sub good (Some t) None
begun_reply command.Put req sub t = put req sub good (Some t) None
begun_reply command.Monitor req sub t = monitor_begun req sub good (Some t)
begun_reply c req sub t = skipped 0

-- the reply OK to a get, with this part; an update of a monitor
abbrev pub value_reply : ℕ → ℕ → PartData → Reply
value_reply req sub p = get req sub good None (Some p)

abbrev pub update_reply : ℕ → PartData → FinSet nat_cmp → Reply
update_reply req p overrun = monitor_update req 0 (Some (p, overrun))

-- The message says what its row has, and no more.
abbrev pub CanReply : Reply → Type 0
CanReply (get req sub s t p) = OnlyWhere (carries s && begins sub) t × ExactlyWhere (carries s && not (begins sub)) p
CanReply (put req sub s t p) =
    OnlyWhere (carries s && begins sub) t × ExactlyWhere (carries s && (not (begins sub) && asks_back sub)) p
CanReply (put_get req sub s t u p) =
    OnlyWhere (carries s && begins sub) t × OnlyWhere (carries s && begins sub) u
    × ExactlyWhere (carries s && not (begins sub)) p
CanReply (monitor_begun req sub s t) = (begins sub ≡ true) × OnlyWhere (carries s) t
CanReply (monitor_update req sub u) = (begins sub ≡ false) × (ends sub ≡ false) × ExactlyWhere true u
CanReply (monitor_end req sub s) = (begins sub ≡ false) × (ends sub ≡ true)
CanReply (get_field req s t) = OnlyWhere (carries s) t
CanReply (rpc req sub s v) = OnlyWhere (carries s && not (begins sub)) v
CanReply (skipped c) = ⊥
CanReply m = Unit {0}
