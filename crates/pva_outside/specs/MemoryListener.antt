-- What is known of the listener in memory.
use Rattle.std.specs.Prelude.{◌≡◌, false, List, [], ◌∷◌, map, Option, None, Some}
use Rattle.pva_outside.specs.ClientLink.{client_wire, client_of, IsMadeFor}
use Rattle.pva_outside.specs.Doors.{Door}
use Rattle.pva_outside.specs.MemoryBindings.{memory_bindings, no_bindings}
use Rattle.pva_outside.specs.declared.client_link.ClientLink.{ClientLink}
use Rattle.pva_outside.specs.declared.client_link.MemoryClient.{MemoryClient}
use Rattle.pva_outside.specs.declared.listener.AcceptStep.{AcceptStep}
use Rattle.pva_outside.specs.declared.listener.AcceptStep.TheVariants as accepts
use Rattle.pva_outside.specs.declared.memory_calls.MemoryCalls.{MemoryCalls}
use Rattle.pva_outside.specs.declared.memory_listener.MemoryListener.{MemoryListener}

-- the clients among those that come: at some accepts nobody does
abbrev pub clients_in : List (Option MemoryClient) → List MemoryClient
clients_in [] = []
clients_in (None ∷ coming) = clients_in coming
clients_in (Some client ∷ coming) = client ∷ clients_in coming

abbrev pub memory_door : MemoryListener → Door
memory_door l = record {
  faults = l.faults;
  idles = l.idles;
  accepts = l.accepts;
  links = l.links;
  at_end = l.at_end;
  bindings = Some (memory_bindings l.bindings);
  ahead = Some (map client_of (clients_in l.coming.items));
  back = Some (map (λ link. (client_wire link).written) l.back.items);
}

-- before the first call
abbrev pub new_door : List (Option MemoryClient) → Door
new_door coming = record {
  faults = 0;
  idles = 0;
  accepts = 0;
  links = 0;
  at_end = false;
  bindings = Some no_bindings;
  ahead = Some (map client_of (clients_in coming));
  back = Some [];
}

-- what the next accepts meet
abbrev pub clients_coming : MemoryListener → List (Option MemoryClient)
clients_coming l = l.coming.items

abbrev pub listener_calls : MemoryListener → MemoryCalls
listener_calls l = l.calls

-- An accept that doesn't fail meets the first of what comes.
abbrev pub IsMet : List (Option MemoryClient) → List (Option MemoryClient) → AcceptStep ClientLink → Type 0
IsMet coming after (accepts.Link link) =
    (client : MemoryClient) × (coming ≡ Some client ∷ after) × IsMadeFor client link
IsMet coming after accepts.Idle = coming ≡ None ∷ after
IsMet coming after accepts.End = (coming ≡ []) × (after ≡ [])
IsMet coming after accepts.Failed = after ≡ coming
IsMet coming after accepts.NoMemory = ⊥
