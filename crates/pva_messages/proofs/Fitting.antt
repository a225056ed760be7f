-- What spells items spells values and parts that fit their types; and so do those of the message that they make.
use Rattle.std.proofs.Common.{◌≡◌, ℕ, Bool, true, false, cond, ◌&&◌, not, List, [], ◌∷◌, ◌++◌, Option, Some, None, Result, Ok, Err, IfOk, sym, subst, inl, inr}
use Rattle.std.specs.Ordering.{nat_cmp}
use Rattle.std.specs.FinSet.{FinSet}
use Rattle.pva_wire.specs.declared.order.Order.{Order}
use Rattle.pvd_type.specs.Tree.{Tree}
use Rattle.pvd_value.specs.Data.{Data}
use Rattle.pvd_desc.specs.Types.{Types}
use Rattle.pvd_codec.specs.Grammar.{Part}
use Rattle.pvd_codec.specs.Written.{CanEach, HoldsLeaves}
use Rattle.pvd_codec.proofs.FittingValues.{full_fits, part_fits}
use Rattle.pvd_codec.proofs.Holding.{marked_holds}
use Rattle.pva_messages.specs.declared.command.Command.{Command}
use Rattle.pva_messages.specs.declared.command.Command.TheVariants as command
use Rattle.pva_messages.specs.declared.fault.MessageFault.{MessageFault}
use Rattle.pva_messages.specs.Fields.{Field, Valued, byte, short, word, text, texts, channels, status, valued, last_valued, part, bits, rest}
use Rattle.pva_messages.specs.Subcommands.{begins, ends, asks_back, carries}
use Rattle.pva_messages.specs.Requests as requests
use Rattle.pva_messages.specs.Requests.{Request, PutPart, absent, unread, part_place, request_of, request_fields}
use Rattle.pva_messages.specs.Replies as replies
use Rattle.pva_messages.specs.Replies.{Reply, reply_of, reply_fields, monitor_of}
use Rattle.pva_messages.specs.Rows.{Row, command_of, to_server, to_client}
use Rattle.pva_messages.specs.Grammar.{SpellsValued, Spells, SpellsAll}
use Rattle.pva_messages.specs.Reading.{row_of, made_by}
use Rattle.pva_messages.specs.Payloads.{IsMessage, IsRequest, IsReply}
use Rattle.pva_messages.specs.Written.{FitsValued, FitsField}

valued_fits : (o : Order) (before : Types) (bytes : List ℕ) (v : Valued) (after : Types) → SpellsValued o before bytes v after → FitsValued v
valued_fits o before bytes None after h = tt
valued_fits o before bytes (Some v) after (head, tail, mid, desc, full, parts) = full_fits o mid v.0 tail v.1 after full

part_holds : (o : Order) (before : Types) (t : Tree) (bytes : List ℕ) (mask : FinSet nat_cmp) (v : Data) (after : Types) → Part o before t bytes mask v after → HoldsLeaves t mask
part_holds o before t bytes mask v after (head, tail, marks, spelled, inside, is, values, parts) = subst (HoldsLeaves t) (sym is) (marked_holds t marks)

field_fits : (o : Order) (f : Field) (before : Types) (bytes : List ℕ) (after : Types) (follow : List ℕ) → Spells o f before bytes after follow → FitsField f
field_fits o (valued v) before bytes after follow h = valued_fits o before bytes v after h
field_fits o (last_valued v) before bytes after follow (inl h) = subst FitsValued (sym h.0) tt
field_fits o (last_valued v) before bytes after follow (inr h) = valued_fits o before bytes v after h
field_fits o (part p) before bytes after follow h = (part_fits o before p.ty bytes p.mask p.value after h, part_holds o before p.ty bytes p.mask p.value after h)
field_fits o f before bytes after follow h = tt

all_fit : (o : Order) (fields : List Field) (before : Types) (bytes : List ℕ) (after : Types) (follow : List ℕ) → SpellsAll o fields before bytes after follow → CanEach FitsField fields
all_fit o [] before bytes after follow h = tt
all_fit o (f ∷ fields) before bytes after follow (head, tail, mid, first, others, parts) = (field_fits o f before head mid (tail ++ follow) first, all_fit o fields mid tail after follow others)

-- ---- the fields of the message that some fields make

where_fits : (b : Bool) (f : Field) → FitsField f → CanEach FitsField (cond b (f ∷ []) [])
where_fits true f h = (h, tt)
where_fits false f h = tt

both_fit : (xs ys : List Field) → CanEach FitsField xs → CanEach FitsField ys → CanEach FitsField (xs ++ ys)
both_fit [] ys h k = k
both_fit (x ∷ xs) ys h k = (h.0, both_fit xs ys h.1 k)

request_value_fits : (fields : List Field) → CanEach FitsField fields → FitsValued (requests.valued_in fields)
request_value_fits (valued v ∷ fields) h = h.0
request_value_fits fields h = tt

unread_fits : (b : Bool) → CanEach FitsField (requests.part_field (cond b absent (unread part_place)))
unread_fits true = tt
unread_fits false = tt

put_part_fits : (sub : ℕ) (fields : List Field) → CanEach FitsField fields → CanEach FitsField (requests.part_field (requests.part_in sub fields))
put_part_fits sub (valued v ∷ fields) h = tt
put_part_fits sub (part p ∷ fields) h = (h.0, tt)
put_part_fits sub fields h = unread_fits (asks_back sub)

count_fits : (n : Option ℕ) → CanEach FitsField (requests.count_field n)
count_fits None = tt
count_fits (Some n) = (tt, tt)

request_made_fits : (c : Command) (fields : List Field) → CanEach FitsField fields → CanEach FitsField (request_fields (request_of c fields))
request_made_fits command.Validation (word buffer ∷ short registry ∷ short qos ∷ text method ∷ last_valued v ∷ fields) h = (tt, (tt, (tt, (tt, (h.1.1.1.1.0, tt)))))
request_made_fits command.Echo (rest xs ∷ fields) h = (tt, tt)
request_made_fits command.CreateChannel (channels cs ∷ fields) h = (tt, tt)
request_made_fits command.DestroyChannel (word sid ∷ word cid ∷ fields) h = (tt, (tt, tt))
request_made_fits command.Get (word sid ∷ word req ∷ byte sub ∷ fields) h =
    (tt, (tt, (tt, where_fits (begins sub) (valued (requests.valued_in fields)) (request_value_fits fields h.1.1.1))))
request_made_fits command.Put (word sid ∷ word req ∷ byte sub ∷ fields) h = (
  tt,
  (
    tt,
    (
      tt,
      both_fit (requests.begun sub (requests.valued_in fields)) (requests.part_field (requests.part_in sub fields))
          (where_fits (begins sub) (valued (requests.valued_in fields)) (request_value_fits fields h.1.1.1)) (put_part_fits sub fields h.1.1.1),
    ),
  ),
)
request_made_fits command.PutGet (word sid ∷ word req ∷ byte sub ∷ fields) h = (
  tt,
  (
    tt,
    (
      tt,
      both_fit (requests.begun sub (requests.valued_in fields)) (requests.part_field (requests.part_in sub fields))
          (where_fits (begins sub) (valued (requests.valued_in fields)) (request_value_fits fields h.1.1.1)) (put_part_fits sub fields h.1.1.1),
    ),
  ),
)
request_made_fits command.Monitor (word sid ∷ word req ∷ byte sub ∷ fields) h = (
  tt,
  (
    tt,
    (
      tt,
      both_fit (requests.begun sub (requests.valued_in fields)) (requests.count_field (requests.count_in fields))
          (where_fits (begins sub) (valued (requests.valued_in fields)) (request_value_fits fields h.1.1.1)) (count_fits (requests.count_in fields)),
    ),
  ),
)
request_made_fits command.DestroyRequest (word sid ∷ word req ∷ fields) h = (tt, (tt, tt))
request_made_fits command.Cancel (word sid ∷ word req ∷ fields) h = (tt, (tt, tt))
request_made_fits command.GetField (word sid ∷ word req ∷ text path ∷ fields) h = (tt, (tt, (tt, tt)))
request_made_fits command.Message (word req ∷ byte kind ∷ text t ∷ fields) h = (tt, (tt, (tt, tt)))
request_made_fits command.Rpc (word sid ∷ word req ∷ byte sub ∷ valued v ∷ fields) h = (tt, (tt, (tt, (h.1.1.1.0, tt))))
request_made_fits c fields h = tt

type_fits : (b : Bool) (t : Option Tree) → CanEach FitsField (replies.type_field b t)
type_fits true t = (tt, tt)
type_fits false t = tt

reply_part_fits : (fields : List Field) → CanEach FitsField fields → CanEach FitsField (replies.part_field (replies.part_in fields))
reply_part_fits (part p ∷ fields) h = (h.0, tt)
reply_part_fits fields h = tt

reply_value_fits : (fields : List Field) → CanEach FitsField fields → FitsValued (replies.valued_in fields)
reply_value_fits (valued v ∷ fields) h = h.0
reply_value_fits fields h = tt

result_fits : (b : Bool) (v : Valued) → FitsValued v → CanEach FitsField (replies.valued_field b v)
result_fits true v h = (h, tt)
result_fits false v h = tt

update_fits : (fields : List Field) → CanEach FitsField fields → CanEach FitsField (replies.update_field (replies.update_in fields))
update_fits (part p ∷ bits overrun ∷ fields) h = (h.0, (tt, tt))
update_fits fields h = tt

monitor_fits : (a b : Bool) (req sub : ℕ) (fields : List Field) → CanEach FitsField fields → CanEach FitsField (reply_fields (monitor_of a b req sub fields))
monitor_fits true b req sub (status s ∷ fields) h = (tt, (tt, (tt, type_fits (carries s) (replies.type_in fields))))
monitor_fits true b req sub fields h = tt
monitor_fits false true req sub (status s ∷ fields) h = (tt, (tt, (tt, tt)))
monitor_fits false true req sub fields h = tt
monitor_fits false false req sub fields h = (tt, (tt, update_fits fields h))

typed_fits : (b : Bool) (t : Option Tree) (fields : List Field) → CanEach FitsField fields → CanEach FitsField (replies.type_field b t ++ replies.part_field (replies.part_in fields))
typed_fits b t fields h = both_fit (replies.type_field b t) (replies.part_field (replies.part_in fields)) (type_fits b t) (reply_part_fits fields h)

reply_made_fits : (c : Command) (fields : List Field) → CanEach FitsField fields → CanEach FitsField (reply_fields (reply_of c fields))
reply_made_fits command.Validation (word buffer ∷ short registry ∷ texts methods ∷ fields) h = (tt, (tt, (tt, tt)))
reply_made_fits command.Echo (rest xs ∷ fields) h = (tt, tt)
reply_made_fits command.CreateChannel (word cid ∷ word sid ∷ status s ∷ fields) h = (tt, (tt, (tt, tt)))
reply_made_fits command.DestroyChannel (word sid ∷ word cid ∷ fields) h = (tt, (tt, tt))
reply_made_fits command.Validated (status s ∷ fields) h = (tt, tt)
reply_made_fits command.Get (word req ∷ byte sub ∷ status s ∷ fields) h =
    (tt, (tt, (tt, typed_fits (carries s && begins sub) (replies.type_in fields) fields h.1.1.1)))
reply_made_fits command.Put (word req ∷ byte sub ∷ status s ∷ fields) h =
    (tt, (tt, (tt, typed_fits (carries s && begins sub) (replies.type_in fields) fields h.1.1.1)))
reply_made_fits command.PutGet (word req ∷ byte sub ∷ status s ∷ fields) h =
    let b = carries s && begins sub in (
      tt,
      (
        tt,
        (
          tt,
          both_fit (replies.type_field b (replies.type_in fields) ++ replies.type_field b (replies.second_type_in fields)) (replies.part_field (replies.part_in fields))
              (both_fit (replies.type_field b (replies.type_in fields)) (replies.type_field b (replies.second_type_in fields)) (type_fits b (replies.type_in fields)) (type_fits b (replies.second_type_in fields)))
              (reply_part_fits fields h.1.1.1),
        ),
      ),
    )
reply_made_fits command.Monitor (word req ∷ byte sub ∷ fields) h = monitor_fits (begins sub) (ends sub) req sub fields h.1.1
reply_made_fits command.GetField (word req ∷ status s ∷ fields) h = (tt, (tt, type_fits (carries s) (replies.type_in fields)))
reply_made_fits command.Message (word req ∷ byte kind ∷ text t ∷ fields) h = (tt, (tt, (tt, tt)))
reply_made_fits command.Rpc (word req ∷ byte sub ∷ status s ∷ fields) h =
    (tt, (tt, (tt, result_fits (carries s && not (begins sub)) (replies.valued_in fields) (reply_value_fits fields h.1.1.1))))
reply_made_fits c fields h = tt

-- ---- whole messages

module _ {M : Type 0} (fields_of : M → List Field) (made : Command → List Field → M) (skipped : M) (each : (c : Command) (fields : List Field) → CanEach FitsField fields → CanEach FitsField (fields_of (made c fields)))
    (none : CanEach FitsField (fields_of skipped)) (o : Order) where
  message_fits : (c : Option Command) (row : Option Row) (before : Types) (front follow : List ℕ) (m : M) (after : Types) → IsMessage o row (made_by made skipped c) skipped before front follow m after → CanEach FitsField (fields_of m)
  message_fits c None before front follow m after h = subst (λ (m : M). CanEach FitsField (fields_of m)) (sym h.1) none
  message_fits None (Some row) before front follow m after (fields, of, spelled, is) = subst (λ (m : M). CanEach FitsField (fields_of m)) (sym is) none
  message_fits (Some c) (Some row) before front follow m after (fields, of, spelled, is) =
      subst (λ (m : M). CanEach FitsField (fields_of m)) (sym is) (each c fields (all_fit o fields before front after follow spelled))

-- what a call read of a client's message fits
pub request_fits : {X : Type 0} (o : Order) (number : ℕ) (before after : Types) (seen : X → Request) (result : Result X MessageFault) (bytes : List ℕ)
    → IfOk result (λ m. (front : List ℕ) × (follow : List ℕ) × IsRequest o None number before front follow (seen m) after × (bytes ≡ front ++ follow)) → IfOk result (λ m. CanEach FitsField (request_fields (seen m)))
unfolding IsRequest
request_fits o number before after seen (Ok m) bytes (front, follow, is, parts) =
    message_fits request_fields request_of (requests.skipped number) request_made_fits tt o (command_of number) (row_of (to_server None) (command_of number)) before front follow (seen m) after is
request_fits o number before after seen (Err fault) bytes h = tt

-- and of a server's
pub reply_fits : {X : Type 0} (o : Order) (known : Option Tree) (number : ℕ) (before after : Types) (seen : X → Reply) (result : Result X MessageFault) (bytes : List ℕ)
    → IfOk result (λ m. (front : List ℕ) × (follow : List ℕ) × IsReply o known number before front follow (seen m) after × (bytes ≡ front ++ follow)) → IfOk result (λ m. CanEach FitsField (reply_fields (seen m)))
unfolding IsReply
reply_fits o known number before after seen (Ok m) bytes (front, follow, is, parts) =
    message_fits reply_fields reply_of (replies.skipped number) reply_made_fits tt o (command_of number) (row_of (to_client known) (command_of number)) before front follow (seen m) after is
reply_fits o known number before after seen (Err fault) bytes h = tt
