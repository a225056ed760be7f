-- Which replies an operation awaits, one after another (pvAccess Protocol Specification, "Channel Life-cycle" and
-- "Application Messages").
use Rattle.std.specs.Prelude.{ℕ, List, [], ◌∷◌}
use Rattle.pva_messages.specs.Rows.{byte_of}
use Rattle.pva_messages.specs.declared.command.Command.TheVariants as command
use Rattle.cli_session.specs.declared.ask.Operation.{Operation}
use Rattle.cli_session.specs.declared.ask.Operation.TheVariants as operation
use Rattle.cli_session.specs.declared.turn.Turn.{Turn}
use Rattle.cli_session.specs.declared.turn.Turn.TheVariants as turn

-- The turns of an operation on an open channel: each is named for the message that was sent, and awaits its reply.
abbrev pub own_turns : Operation → List Turn
own_turns operation.Get = turn.BeginGet ∷ turn.Get ∷ []
own_turns (operation.Put words) = turn.BeginPut ∷ turn.ReadBack ∷ turn.Put ∷ []
own_turns (operation.PutGet words) = turn.BeginPut ∷ turn.ReadBack ∷ turn.BeginPutGet ∷ turn.PutGet ∷ []
own_turns (operation.Monitor queue window count) = turn.BeginMonitor ∷ turn.Updates ∷ []
own_turns operation.Info = turn.Field ∷ []
own_turns (operation.Call name) = turn.BeginCall ∷ turn.Call ∷ []

-- Before them come the server's greeting, the answer to the client's validation, and the creation of the channel.
abbrev pub turns_of : Operation → List Turn
turns_of op = turn.Greeting ∷ turn.Validation ∷ turn.Creation ∷ own_turns op

-- the command of the reply that a turn awaits
abbrev pub awaited : Turn → ℕ
awaited turn.Greeting = byte_of command.Validation
awaited turn.Validation = byte_of command.Validated
awaited turn.Creation = byte_of command.CreateChannel
awaited turn.BeginGet = byte_of command.Get
awaited turn.Get = byte_of command.Get
awaited turn.BeginPut = byte_of command.Put
awaited turn.ReadBack = byte_of command.Put
awaited turn.Put = byte_of command.Put
awaited turn.BeginPutGet = byte_of command.PutGet
awaited turn.PutGet = byte_of command.PutGet
awaited turn.BeginMonitor = byte_of command.Monitor
awaited turn.Updates = byte_of command.Monitor
awaited turn.Field = byte_of command.GetField
awaited turn.BeginCall = byte_of command.Rpc
awaited turn.Call = byte_of command.Rpc
