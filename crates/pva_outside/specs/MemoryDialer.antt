-- What is known of the dialer in memory.
use Rattle.std.specs.Prelude.{◌≡◌, List, [], ◌∷◌, map, take, drop, Some}
use Rattle.pva_outside.specs.Dials.{DialerView, Dial, LinkBack}
use Rattle.pva_outside.specs.MemoryLink.{memory_wire, memory_start, turns_left}
use Rattle.pva_outside.specs.declared.dialer.DialStep.{DialStep}
use Rattle.pva_outside.specs.declared.dialer.DialStep.TheVariants as dials
use Rattle.pva_outside.specs.declared.memory.MemoryLink.{MemoryLink}
use Rattle.pva_outside.specs.declared.memory_calls.MemoryCalls.{MemoryCalls}
use Rattle.pva_outside.specs.declared.memory_dialer.MemoryDial.{MemoryDial}
use Rattle.pva_outside.specs.declared.memory_dialer.MemoryDialer.{MemoryDialer}
use Rattle.pva_outside.specs.declared.memory_dialer.MemoryServer.{MemoryServer}

abbrev pub dial_of : MemoryDial → Dial
dial_of d = record { to = d.to; linked = d.linked }

-- what a link in memory tells when it is taken back
abbrev pub link_back : MemoryLink → LinkBack
link_back link = record { left = (memory_wire link).left; written = (memory_wire link).written }

abbrev pub memory_dialer : MemoryDialer → DialerView
memory_dialer d = record {
  faults = d.faults;
  link_faults = d.link_faults;
  link_idles = d.link_idles;
  link_ends = d.link_ends;
  dials = Some (map dial_of d.dials.items);
  inputs = Some (map (λ server. server.input.items) (take d.reached d.servers.items));
  back = Some (map link_back d.back.items);
}

-- before the first dial
abbrev pub new_dialer : DialerView
new_dialer = record {
  faults = 0;
  link_faults = 0;
  link_idles = 0;
  link_ends = 0;
  dials = Some [];
  inputs = Some [];
  back = Some [];
}

-- the servers that the next dials reach
abbrev pub servers_left : MemoryDialer → List MemoryServer
servers_left d = drop d.reached d.servers.items

abbrev pub dialer_calls : MemoryDialer → MemoryCalls
dialer_calls d = d.calls

-- A dial that gives a link reaches the first of the servers left, and every other leaves them.
abbrev pub IsMet : List MemoryServer → List MemoryServer → DialStep MemoryLink → Type 0
IsMet left after (dials.Link link) =
    (server : MemoryServer) × (left ≡ server ∷ after)
    × (memory_wire link ≡ memory_start server.input.items) × (turns_left link ≡ server.script.items)
IsMet left after dials.Failed = after ≡ left
IsMet left after dials.NoMemory = after ≡ left
