-- What holds between payloads, messages and their reading.
use Rattle.std.specs.Prelude.{◌≡◌, ℕ, List, [], ◌∷◌, ◌++◌, drop, Option, Some, None, Ok, option_map}
use Rattle.std.specs.Ordering.{nat_cmp}
use Rattle.std.specs.FinSet.{FinSet}
use Rattle.pva_wire.specs.declared.order.Order.{Order}
use Rattle.pvd_type.specs.Tree.{Tree}
use Rattle.pvd_desc.specs.Types.{Types}
use Rattle.pvd_codec.specs.Reading.{part_at}
use Rattle.pvd_codec.specs.Written.{CanEach}
use Rattle.pva_messages.specs.Fields.{PartData, part}
use Rattle.pva_messages.specs.Requests as requests
use Rattle.pva_messages.specs.Requests.{Request, PutPart, absent, unread, given, part_place, request_fields}
use Rattle.pva_messages.specs.Requests.{request_command, CanSend}
use Rattle.pva_messages.specs.Replies as replies
use Rattle.pva_messages.specs.Replies.{Reply, reply_fields, reply_command, CanReply}
use Rattle.pva_messages.specs.Written.{canonical, CanField, FitsField, seen_part}
use Rattle.pva_messages.specs.Reading.{request_at, reply_at}
use Rattle.pva_messages.specs.Payloads.{IsRequest, IsReply}

-- Two messages that one payload begins with, of one command and after the same types, are one.
abbrev pub OneRequest : Type 0
OneRequest = (order : Order) (known : Option Tree) (command : ℕ) (before : Types) (a b r s : List ℕ)
    (x y : Request) (after later : Types)
    → IsRequest order known command before a r x after → IsRequest order known command before b s y later
    → a ++ r ≡ b ++ s → (x ≡ y) × (r ≡ s) × (after ≡ later)

abbrev pub OneReply : Type 0
OneReply = (order : Order) (known : Option Tree) (command : ℕ) (before : Types) (a b r s : List ℕ)
    (x y : Reply) (after later : Types)
    → IsReply order known command before a r x after → IsReply order known command before b s y later
    → a ++ r ≡ b ++ s → (x ≡ y) × (r ≡ s) × (after ≡ later)

-- the payloads that are written
abbrev pub request_payload : Order → Request → List ℕ
request_payload order m = canonical order (request_fields m)

abbrev pub reply_payload : Order → Reply → List ℕ
reply_payload order m = canonical order (reply_fields m)

-- The message can be written: it says what its row has, its values fit their types, and all it says has a spelling.
abbrev pub IsWritable : Request → Type 0
IsWritable m = CanSend m × CanEach FitsField (request_fields m) × CanEach CanField (request_fields m)

abbrev pub IsReplyWritable : Reply → Type 0
IsReplyWritable m = CanReply m × CanEach FitsField (reply_fields m) × CanEach CanField (reply_fields m)

-- what the server's reader makes of a message: it leaves a part unread
abbrev pub left_unread : PutPart → PutPart
left_unread absent = absent
left_unread (unread place) = unread place
left_unread (given p) = unread part_place

abbrev pub received : Request → Request
received (requests.put sid req sub v p) = requests.put sid req sub v (left_unread p)
received (requests.put_get sid req sub v p) = requests.put_get sid req sub v (left_unread p)
received m = m

abbrev pub given_part : PutPart → Option PartData
given_part absent = None
given_part (unread place) = None
given_part (given p) = Some p

abbrev pub request_part : Request → Option PartData
request_part (requests.put sid req sub v p) = given_part p
request_part (requests.put_get sid req sub v p) = given_part p
request_part m = None

-- what the server's reader leaves of the payload: the spelling of the part, where there is one
abbrev pub left_over : Order → Option PartData → List ℕ
left_over order None = []
left_over order (Some p) = canonical order (part p ∷ [])

-- What a client writes is read by the server as that message, up to its part, and defines no type.
abbrev pub RequestReadBack : Type 0
RequestReadBack = (order : Order) (before : Types) (m : Request) → IsWritable m
    → request_at order None (request_command m) (request_payload order m, before)
    ≡ Ok (received m, (left_over order (request_part m), before))

-- Its part is read, where it was left unread, under the type that the client gave, with blank leaves where it marks
-- none.
abbrev pub PartReadBack : Type 0
PartReadBack = (order : Order) (before : Types) (m : Request) (p : PartData) → IsWritable m → request_part m ≡ Some p
    → part_at order p.ty (drop part_place (request_payload order m), before)
    ≡ Ok ((p.mask, (seen_part p).value), ([], before))

-- what the client's reader makes of a message
abbrev pub seen_update : PartData × FinSet nat_cmp → PartData × FinSet nat_cmp
seen_update u = (seen_part u.0, u.1)

abbrev pub seen_reply : Reply → Reply
seen_reply (replies.get req sub s t p) = replies.get req sub s t (option_map seen_part p)
seen_reply (replies.put req sub s t p) = replies.put req sub s t (option_map seen_part p)
seen_reply (replies.put_get req sub s t u p) = replies.put_get req sub s t u (option_map seen_part p)
seen_reply (replies.monitor_update req sub u) = replies.monitor_update req sub (option_map seen_update u)
seen_reply m = m

-- the type of the part of a reply
abbrev pub type_of_part : Option PartData → Option Tree
type_of_part p = option_map (λ (q : PartData). q.ty) p

abbrev pub reply_type : Reply → Option Tree
reply_type (replies.get req sub s t p) = type_of_part p
reply_type (replies.put req sub s t p) = type_of_part p
reply_type (replies.put_get req sub s t u p) = type_of_part p
reply_type (replies.monitor_update req sub u) = option_map (λ (v : PartData × FinSet nat_cmp). v.0.ty) u
reply_type m = None

-- What a server writes is read by a client that knows the type of its part as that message, with blank leaves where the
-- part marks none, and defines no type.
abbrev pub ReplyReadBack : Type 0
ReplyReadBack = (order : Order) (before : Types) (m : Reply) (known : Option Tree) → IsReplyWritable m
    → ((t : Tree) → reply_type m ≡ Some t → known ≡ Some t)
    → reply_at order known (reply_command m) (reply_payload order m, before) ≡ Ok (seen_reply m, ([], before))
