-- Reading a payload from left to right, with the first fault that is met and how many bytes are left from its item on.
use Rattle.std.specs.Prelude.{ℕ, Bool, true, false, if◌then◌else◌, List, [], ◌∷◌, ◌++◌, Option, Some, None, Ok, Err}
use Rattle.pva_wire.specs.declared.order.Order.{Order}
use Rattle.pva_wire.specs.Reading as wire
use Rattle.pva_wire.specs.Reading.{◌>>=◌, number_at, count_at, text_at}
use Rattle.pva_wire.specs.Bits.{bits_at}
use Rattle.pva_wire.specs.Status.{status_at}
use Rattle.pvd_type.specs.Tree.{Tree}
use Rattle.pvd_desc.specs.Reading.{desc_at}
use Rattle.pvd_codec.specs.Reading.{Read, State, lifted, described, steady, items_at, full_at, part_at}
use Rattle.pva_messages.specs.declared.command.Command.{Command}
use Rattle.pva_messages.specs.declared.command.Command.TheVariants as command
use Rattle.pva_messages.specs.Items.{Item}
use Rattle.pva_messages.specs.Items as item
use Rattle.pva_messages.specs.Fields.{Field, Valued, byte, short, word, text, texts, channels, status, description}
use Rattle.pva_messages.specs.Fields.{valued, last_valued, part, bits, rest}
use Rattle.pva_messages.specs.Rows.{Stage, Row, command_of, to_server, to_client}
use Rattle.pva_messages.specs.Requests as requests
use Rattle.pva_messages.specs.Requests.{Request, request_of}
use Rattle.pva_messages.specs.Replies as replies
use Rattle.pva_messages.specs.Replies.{Reply, reply_of}

-- a count, and so many texts
unfoldable pub texts_at : Order → List ℕ → Read (List ℕ) (List (List ℕ))
texts_at order bytes = lifted (count_at order bytes) >>= λ n. items_at (λ b. lifted (text_at order b)) n.0 n.1

-- a channel's id and name
unfoldable pub channel_at : Order → List ℕ → Read (List ℕ) (ℕ × List ℕ)
channel_at order bytes =
    lifted (number_at order 4 bytes) >>= λ id. lifted (text_at order id.1) >>= λ name. Ok ((id.0, name.0), name.1)

unfoldable pub channels_at : Order → List ℕ → Read (List ℕ) (List (ℕ × List ℕ))
channels_at order bytes = lifted (number_at order 2 bytes) >>= λ n. items_at (channel_at order) n.0 n.1

-- the value of a type, if there is one
abbrev pub value_of : Order → Option Tree → State → Read State Valued
value_of order None st = Ok (None, st)
value_of order (Some t) st = full_at order t st >>= λ v. Ok (Some (t, v.0), v.1)

-- a description
unfoldable pub type_at : Order → State → Read State (Option Tree)
type_at order st = described (desc_at order st.1 st.0) >>= λ d. Ok (d.0, (d.1, d.2))

-- null, or a type and a value of it
unfoldable pub valued_at : Order → State → Read State Valued
valued_at order st = type_at order st >>= λ d. value_of order d.0 d.1

-- the same, or nothing at the end of the payload
unfoldable pub last_valued_at : Order → State → Read State Valued
last_valued_at order ([], types) = Ok (None, ([], types))
last_valued_at order (b ∷ bytes, types) = valued_at order (b ∷ bytes, types)

-- what an item says
abbrev pub says : {A : Type 0} → (A → Field) → Read State A → Read State Field
says field read = read >>= λ x. Ok (field x.0, x.1)

-- an item that defines no types
abbrev pub plain : {A : Type 0} → (A → Field) → State → wire.Read A → Read State Field
plain field st read = says field (steady st.1 (lifted read))

unfoldable pub item_at : Order → Item → State → Read State Field
item_at order item.byte st = plain byte st (number_at order 1 st.0)
item_at order item.short st = plain short st (number_at order 2 st.0)
item_at order item.word st = plain word st (number_at order 4 st.0)
item_at order item.text st = plain text st (text_at order st.0)
item_at order item.texts st = says texts (steady st.1 (texts_at order st.0))
item_at order item.channels st = says channels (steady st.1 (channels_at order st.0))
item_at order item.status st = plain status st (status_at order st.0)
item_at order item.description st = says description (type_at order st)
item_at order item.valued st = says valued (valued_at order st)
item_at order item.last_valued st = says last_valued (last_valued_at order st)
item_at order (item.part t) st =
    part_at order t st >>= λ p. Ok (part (record { ty = t; mask = p.0.0; value = p.0.1 }), p.1)
item_at order item.bits st = plain bits st (bits_at order st.0)
item_at order item.rest st = Ok (rest st.0, ([], st.1))

-- items one after another
unfoldable pub all_at : Order → List Item → State → Read State (List Field)
all_at order [] st = Ok ([], st)
all_at order (i ∷ is) st = item_at order i st >>= λ x. all_at order is x.1 >>= λ xs. Ok (x.0 ∷ xs.0, xs.1)

-- what is picked of the fields that were read
abbrev pub picked : {B : Type 0} → (List Field → B) → Read State (List Field) → Read State B
picked pick read = read >>= λ fields. Ok (pick fields.0, fields.1)

-- the items of a row's stages, behind these fields
unfoldable pub stages_at : Order → List Stage → List Field → State → Read State (List Field)
stages_at order [] done st = Ok (done, st)
stages_at order (stage ∷ stages) done st =
    all_at order (stage done) st >>= λ x. stages_at order stages (done ++ x.0) x.1

-- a message of a row; a command that has none is passed over
abbrev pub message_at : {M : Type 0} → Order → Option Row → (List Field → M) → M → State → Read State M
message_at order None made skipped st = Ok (skipped, st)
message_at order (Some row) made skipped st = stages_at order row [] st >>= λ fields. Ok (made fields.0, fields.1)

-- The row of a command; a byte that is no command has none.
abbrev pub row_of : (Command → Option Row) → Option Command → Option Row
row_of rows None = None
row_of rows (Some c) = rows c

-- what the fields of a command's row are
abbrev pub made_by : {M : Type 0} → (Command → List Field → M) → M → Option Command → List Field → M
made_by made skipped None fields = skipped
made_by made skipped (Some c) fields = made c fields

-- a message of a command that has a row
abbrev pub request_row_at : Order → Command → State → Read State Request
request_row_at order c st = message_at order (to_server None c) (request_of c) (requests.skipped 0) st

abbrev pub reply_row_at : Order → Option Tree → Command → State → Read State Reply
reply_row_at order known c st = message_at order (to_client known c) (reply_of c) (replies.skipped 0) st

-- the request id of a reply
abbrev pub names_request : Option Command → Bool
names_request (Some command.Get) = true
names_request (Some command.Put) = true
names_request (Some command.PutGet) = true
names_request (Some command.Monitor) = true
names_request (Some command.GetField) = true
names_request (Some command.Message) = true
names_request (Some command.Rpc) = true
names_request c = false

-- the first four bytes, where they are there
abbrev pub id_of : wire.Read ℕ → Option ℕ
id_of (Ok id) = Some id.0
id_of (Err e) = None

abbrev pub request_id : Order → ℕ → List ℕ → Option ℕ
request_id order command bytes = if names_request (command_of command) then id_of (number_at order 4 bytes) else None

-- A message to the server.
unfoldable pub request_at : Order → Option Tree → ℕ → State → Read State Request
request_at order known command st =
    message_at order (row_of (to_server known) (command_of command))
    (made_by request_of (requests.skipped command) (command_of command)) (requests.skipped command) st

-- A message to the client. Without the type that it is of, a part is left unread.
unfoldable pub reply_at : Order → Option Tree → ℕ → State → Read State Reply
reply_at order known command st =
    message_at order (row_of (to_client known) (command_of command))
    (made_by reply_of (replies.skipped command) (command_of command)) (replies.skipped command) st
