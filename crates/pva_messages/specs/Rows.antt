-- Which items each message has, in order (pvAccess Protocol Specification, "Application Messages").
use Rattle.std.specs.Prelude.{ℕ, ◌==◌, List, [], ◌∷◌, ◌++◌, Option, Some, None, if◌then◌else◌}
use Rattle.pvd_type.specs.Tree.{Tree}
use Rattle.pva_messages.specs.declared.command.Command.{Command}
use Rattle.pva_messages.specs.declared.command.Command.TheVariants.{Validation, Echo, CreateChannel, DestroyChannel}
use Rattle.pva_messages.specs.declared.command.Command.TheVariants.{Validated, Get, Put, PutGet, Monitor}
use Rattle.pva_messages.specs.declared.command.Command.TheVariants.{DestroyRequest, GetField, Message, Rpc, Cancel}
use Rattle.pva_messages.specs.Subcommands.{begins, ends, asks_back, counts, carries}
use Rattle.pva_messages.specs.Items.{Item, byte, short, word, text, texts, channels, status, description, valued}
use Rattle.pva_messages.specs.Items.{last_valued, part, bits, rest}
use Rattle.pva_messages.specs.Fields as field
use Rattle.pva_messages.specs.Fields.{Field}

-- Some items of a row, which depend on the fields before them.
abbrev pub Stage : Type 0
Stage = List Field → List Item

-- The items of a row: those of its stages, one after another.
abbrev pub Row : Type 0
Row = List Stage

abbrev pub always : List Item → Stage
always items fields = items

abbrev pub fixed : List Item → Option Row
fixed items = Some (always items ∷ [])

-- what follows the ids and the subcommand of a request
abbrev pub by_sub : (ℕ → List Item) → Stage
by_sub next (field.word sid ∷ field.word req ∷ field.byte sub ∷ fields) = next sub
by_sub next fields = []

abbrev pub request : (ℕ → List Item) → Option Row
request next = Some (always (word ∷ word ∷ byte ∷ []) ∷ by_sub next ∷ [])

-- What follows the id, the subcommand and the status of a reply. A description, a part or a value stands there only
-- where the status is OK or WARNING.
abbrev pub by_status : (ℕ → List Item) → Stage
by_status next (field.word req ∷ field.byte sub ∷ field.status s ∷ fields) = if carries s then next sub else []
by_status next fields = []

abbrev pub reply : (ℕ → List Item) → Option Row
reply next = Some (always (word ∷ byte ∷ status ∷ []) ∷ by_status next ∷ [])

-- a part, where its type is known; else it is left unread
abbrev pub parts : Option Tree → List Item
parts None = []
parts (Some t) = part t ∷ []

-- what follows the subcommand of a request: its structure where it is begun; the part of a put; a count of updates
abbrev pub begun_next : ℕ → List Item
begun_next sub = if begins sub then valued ∷ [] else []

abbrev pub put_next : Option Tree → ℕ → List Item
put_next known sub = if begins sub then valued ∷ [] else if asks_back sub then [] else parts known

abbrev pub count_next : ℕ → List Item
count_next sub = if counts sub then word ∷ [] else []

-- the byte of a command
abbrev pub byte_of : Command → ℕ
byte_of Validation = 0x01
byte_of Echo = 0x02
byte_of CreateChannel = 0x07
byte_of DestroyChannel = 0x08
byte_of Validated = 0x09
byte_of Get = 0x0A
byte_of Put = 0x0B
byte_of PutGet = 0x0C
byte_of Monitor = 0x0D
byte_of DestroyRequest = 0x0F
byte_of GetField = 0x11
byte_of Message = 0x12
byte_of Rpc = 0x14
byte_of Cancel = 0x15

-- the command of a byte
unfoldable pub command_of : ℕ → Option Command
command_of b =
    if b == byte_of Validation then Some Validation
    else if b == byte_of Echo then Some Echo
    else if b == byte_of CreateChannel then Some CreateChannel
    else if b == byte_of DestroyChannel then Some DestroyChannel
    else if b == byte_of Validated then Some Validated
    else if b == byte_of Get then Some Get
    else if b == byte_of Put then Some Put
    else if b == byte_of PutGet then Some PutGet
    else if b == byte_of Monitor then Some Monitor
    else if b == byte_of DestroyRequest then Some DestroyRequest
    else if b == byte_of GetField then Some GetField
    else if b == byte_of Message then Some Message
    else if b == byte_of Rpc then Some Rpc
    else if b == byte_of Cancel then Some Cancel
    else None

-- the rows of what a client says
abbrev pub to_server : Option Tree → Command → Option Row
to_server known Validation = fixed (word ∷ short ∷ short ∷ text ∷ last_valued ∷ [])
to_server known Echo = fixed (rest ∷ [])
to_server known CreateChannel = fixed (channels ∷ [])
to_server known DestroyChannel = fixed (word ∷ word ∷ [])
to_server known Validated = None
to_server known Get = request begun_next
to_server known Put = request (put_next known)
to_server known PutGet = request (put_next known)
to_server known Monitor = request (λ sub. begun_next sub ++ count_next sub)
to_server known DestroyRequest = fixed (word ∷ word ∷ [])
to_server known GetField = fixed (word ∷ word ∷ text ∷ [])
to_server known Message = fixed (word ∷ byte ∷ text ∷ [])
to_server known Rpc = fixed (word ∷ word ∷ byte ∷ valued ∷ [])
to_server known Cancel = fixed (word ∷ word ∷ [])

-- what follows the status of a reply: the type where the request is begun, else the part; two types of a put-get; the
-- result of a call
abbrev pub get_reply : Option Tree → ℕ → List Item
get_reply known sub = if begins sub then description ∷ [] else parts known

abbrev pub put_reply : Option Tree → ℕ → List Item
put_reply known sub = if begins sub then description ∷ [] else if asks_back sub then parts known else []

abbrev pub put_get_reply : Option Tree → ℕ → List Item
put_get_reply known sub = if begins sub then description ∷ description ∷ [] else parts known

abbrev pub begun_reply : ℕ → List Item
begun_reply sub = if begins sub then description ∷ [] else []

abbrev pub rpc_reply : ℕ → List Item
rpc_reply sub = if begins sub then [] else valued ∷ []

-- what follows the id and the subcommand of a monitor's reply: a status, or what changed and what did so more than once
abbrev pub updates : Option Tree → List Item
updates None = []
updates (Some t) = part t ∷ bits ∷ []

abbrev pub monitor_next : Option Tree → Stage
monitor_next known (field.word req ∷ field.byte sub ∷ fields) =
    if begins sub then status ∷ [] else if ends sub then status ∷ [] else updates known
monitor_next known fields = []

abbrev pub field_next : Stage
field_next (field.word req ∷ field.status s ∷ fields) = if carries s then description ∷ [] else []
field_next fields = []

-- the rows of what a server says
abbrev pub to_client : Option Tree → Command → Option Row
to_client known Validation = fixed (word ∷ short ∷ texts ∷ [])
to_client known Echo = fixed (rest ∷ [])
to_client known CreateChannel = fixed (word ∷ word ∷ status ∷ [])
to_client known DestroyChannel = fixed (word ∷ word ∷ [])
to_client known Validated = fixed (status ∷ [])
to_client known Get = reply (get_reply known)
to_client known Put = reply (put_reply known)
to_client known PutGet = reply (put_get_reply known)
to_client known Monitor = Some (always (word ∷ byte ∷ []) ∷ monitor_next known ∷ by_status begun_reply ∷ [])
to_client known DestroyRequest = None
to_client known GetField = Some (always (word ∷ status ∷ []) ∷ field_next ∷ [])
to_client known Message = fixed (word ∷ byte ∷ text ∷ [])
to_client known Rpc = reply rpc_reply
to_client known Cancel = None
