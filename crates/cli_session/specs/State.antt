-- What a client keeps from event to event.
use Rattle.std.specs.Prelude.{ℕ, ◌-◌, Bool, false, List, Option, None, nat_lt, if◌then◌else◌}
use Rattle.std.specs.FinMap.{empty}
use Rattle.pva_wire.specs.declared.order.Order.{Order}
use Rattle.pva_wire.specs.declared.order.Order.TheVariants.{Little}
use Rattle.pvd_type.specs.Tree.{Tree}
use Rattle.pvd_desc.specs.Types.{Types}
use Rattle.pva_messages.specs.Fields.{PartData}
use Rattle.cli_session.specs.declared.ask.Ask.{Ask}
use Rattle.cli_session.specs.declared.ask.Operation.{Operation}
use Rattle.cli_session.specs.declared.ask.Operation.TheVariants as operation
use Rattle.cli_session.specs.declared.turn.Turn.{Turn}
use Rattle.cli_session.specs.Turns.{turns_of}

-- The byte order that it writes in, and whether the server has told another since the last message; the most payload of
-- a frame to the server; the types that the server has defined; the replies that are awaited, the next one first, and
-- none once the operation has ended; its own id of the channel, once it was asked for, and the server's; the id of the
-- request that was begun last, and the type that its server gave it; what is put, once its words were read; and how
-- many updates of a monitor are awaited.
pub record State : Type 0 where
  pub order : Order
  pub order_told : Bool
  pub segment : ℕ
  pub types : Types
  pub turns : List Turn
  pub cid : Option ℕ
  pub sid : ℕ
  pub req : Option ℕ
  pub ty : Option Tree
  pub put : Option PartData
  pub left : ℕ

-- The most payload of a frame to a peer that announced a buffer of this size, of which at least 1,024 bytes and at most
-- 65,536 are used: the header of eight bytes stands in it too.
abbrev pub segment_for : ℕ → ℕ
segment_for size = if nat_lt size 1024 then 1024 - 8 else if nat_lt 65536 size then 65536 - 8 else size - 8

-- how many updates a monitor awaits
abbrev pub updates_of : Operation → ℕ
updates_of (operation.Monitor queue window count) = count
updates_of op = 0

-- before the first event
abbrev pub opening : Ask → State
opening ask = record {
  order = Little;
  order_told = false;
  segment = segment_for 65536;
  types = empty;
  turns = turns_of ask.operation;
  cid = None;
  sid = 0;
  req = None;
  ty = None;
  put = None;
  left = updates_of ask.operation;
}
