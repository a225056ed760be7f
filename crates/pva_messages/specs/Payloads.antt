-- Which payloads are which messages (pvAccess Protocol Specification, "Application Messages").
use Rattle.std.specs.Prelude.{◌≡◌, ℕ, List, [], Option, Some, None}
use Rattle.pva_wire.specs.declared.order.Order.{Order}
use Rattle.pvd_type.specs.Tree.{Tree}
use Rattle.pvd_desc.specs.Types.{Types}
use Rattle.pva_messages.specs.Fields.{Field}
use Rattle.pva_messages.specs.Rows.{Row, command_of, to_server, to_client}
use Rattle.pva_messages.specs.Grammar.{SpellsAll, OfRow}
use Rattle.pva_messages.specs.Reading.{row_of, made_by}
use Rattle.pva_messages.specs.Requests as requests
use Rattle.pva_messages.specs.Requests.{Request, request_of}
use Rattle.pva_messages.specs.Replies as replies
use Rattle.pva_messages.specs.Replies.{Reply, reply_of}

-- The bytes, which these follow in the payload, are the items of the row, and the message is what they say. Of a
-- command without a row nothing is read.
abbrev pub IsMessage : {M : Type 0} → Order → Option Row → (List Field → M) → M
    → Types → List ℕ → List ℕ → M → Types → Type 0
IsMessage order None made skipped before bytes follow message after =
    (bytes ≡ []) × (message ≡ skipped) × (after ≡ before)
IsMessage order (Some row) made skipped before bytes follow message after =
    (fields : List Field) × OfRow row [] fields × SpellsAll order fields before bytes after follow
    × (message ≡ made fields)

-- a message to the server, of this command; a part is read where its type is known
unfoldable pub IsRequest : Order → Option Tree → ℕ → Types → List ℕ → List ℕ → Request → Types → Type 0
IsRequest order known command before bytes follow m after =
    IsMessage order (row_of (to_server known) (command_of command))
    (made_by request_of (requests.skipped command) (command_of command)) (requests.skipped command)
    before bytes follow m after

-- a message to the client
unfoldable pub IsReply : Order → Option Tree → ℕ → Types → List ℕ → List ℕ → Reply → Types → Type 0
IsReply order known command before bytes follow m after =
    IsMessage order (row_of (to_client known) (command_of command))
    (made_by reply_of (replies.skipped command) (command_of command)) (replies.skipped command)
    before bytes follow m after
