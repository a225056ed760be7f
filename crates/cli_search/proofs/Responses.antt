-- What a finder of one name makes of a datagram.
use Rattle.std.proofs.Common.{◌≡◌, ℕ, Bool, true, false, List, [], ◌∷◌, Option, None, Some, refl, sym, ◌∙◌, ap, subst}
use Rattle.std.specs.Prelude.{◌&&◌, ◌==◌, if◌then◌else◌}
use Rattle.std.specs.List.{list_any}
use Rattle.pva_outside.specs.declared.peer.Peer.{Peer}
use Rattle.pva_wire.specs.declared.order.Order.{Order}
use Rattle.pva_search.specs.Finding.{Finding, Hears, given, server_at, server_of}
use Rattle.pva_search.specs.Messages.{Response}
use Rattle.cli_search.specs.Searching.{server_in}

-- the finder, where the name isn't found, and where this server may have it
abbrev unfound : Finding → Finding
unfound f = record f { servers = None ∷ [] }

abbrev maybe_found : Finding → Bool → Peer → Finding
maybe_found f named server = record f { servers = given named server None ∷ [] }

found_so : (f : Finding) (said named : Bool) (server : Peer) → server_at (if said then maybe_found f named server else unfound f).servers 0 ≡ (if said && named then Some server else None)
found_so f true true server = refl
found_so f true false server = refl
found_so f false named server = refl

unfound_so : (f : Finding) (said named : Bool) (server : Peer) → (if said && named then Some server else None) ≡ None → (if said then maybe_found f named server else unfound f) ≡ unfound f
unfound_so f true true server is = cc
unfound_so f true false server is = refl
unfound_so f false named server is = refl

hears_unfound : (f f' : Finding) (from : Peer) (told : Bool) (r : Option (Order × Response)) → Hears (unfound f) f' from told r
    → (server_at f'.servers 0 ≡ server_in from r) × (server_in from r ≡ None → f' ≡ unfound f)
hears_unfound f f' from told None h = (ap (λ (x : Finding). server_at x.servers 0) h.1, λ _. h.1)
hears_unfound f f' from told (Some r) h =
    let named = list_any (λ (number : ℕ). number == 0) r.1.instances in (
      ap (λ (x : Finding). server_at x.servers 0) h.1 ∙ found_so f r.1.found named (server_of from r.1),
      λ none. h.1 ∙ unfound_so f r.1.found named (server_of from r.1) none,
    )

pub hears_open : (f f' : Finding) (from : Peer) (told : Bool) (r : Option (Order × Response)) → f.servers ≡ None ∷ [] → Hears f f' from told r
    → (server_at f'.servers 0 ≡ server_in from r) × (server_in from r ≡ None → f' ≡ f)
hears_open f f' from told r open_ h =
    let is : f ≡ unfound f = ap (λ (s : List (Option Peer)). let g : Finding = record f { servers = s } in g) open_ in
    let x = hears_unfound f f' from told r (subst (λ (g : Finding). Hears g f' from told r) is h) in (x.0, λ none. x.1 none ∙ sym is)
