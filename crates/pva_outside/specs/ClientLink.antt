-- What is known of clients in memory and of the links to them.
use Rattle.std.specs.Prelude.{◌≡◌, true, false}
use Rattle.pva_outside.specs.Doors.{Client}
use Rattle.pva_outside.specs.MemoryLink.{memory_wire, memory_start, turns_left}
use Rattle.pva_outside.specs.PlainLink.{plain_wire, plain_start}
use Rattle.pva_outside.specs.Wire.{Wire}
use Rattle.pva_outside.specs.declared.client_link.ClientLink.{ClientLink}
use Rattle.pva_outside.specs.declared.client_link.ClientLink.TheVariants as links
use Rattle.pva_outside.specs.declared.client_link.MemoryClient.{MemoryClient}
use Rattle.pva_outside.specs.declared.client_link.MemoryClient.TheVariants as clients

abbrev pub client_wire : ClientLink → Wire
client_wire (links.Plain link) = plain_wire link
client_wire (links.Scripted link) = memory_wire link

-- what a client sends, and whether its link is steady
abbrev pub client_of : MemoryClient → Client
client_of (clients.Steady input) = record { input = input.items; steady = true }
client_of (clients.Scripted input script) = record { input = input.items; steady = false }

-- This is the link to the client, before its first call.
abbrev pub IsMadeFor : MemoryClient → ClientLink → Type 0
IsMadeFor (clients.Steady input) (links.Plain link) = plain_wire link ≡ plain_start input.items
IsMadeFor (clients.Steady input) (links.Scripted link) = ⊥
IsMadeFor (clients.Scripted input script) (links.Plain link) = ⊥
IsMadeFor (clients.Scripted input script) (links.Scripted link) =
    (memory_wire link ≡ memory_start input.items) × (turns_left link ≡ script.items)
