-- What a search leaves for the operation, and a dialer that had no memory.
use Rattle.std.proofs.Common.{◌≡◌, ℕ, ◌≤◌, inl, inr, List, sym, subst}
use Rattle.pva_outside.specs.Dials.{DialerView, HasDialed}
use Rattle.pva_outside.specs.Wire.{Wire}
use Rattle.pva_outside.specs.Traffic.{DatagramsView}
use Rattle.pva_outside.specs.declared.peer.Peer.{Peer}
use Rattle.cli_search.specs.Searching.{Searches}
use Rattle.cli_search.specs.declared.plan.Plan.{Plan}
use Rattle.cli_search.specs.declared.plan.Searched.TheVariants as ends

-- no more turns were made than there are
pub found_few : (name : List ℕ) (plan : Plan) (d d' : DatagramsView) (server : Peer) (calls : ℕ) → Searches name plan d d' (ends.Found server calls) → calls ≤ plan.turns
found_few name plan d d' server calls (inl h) = h.cause.few
found_few name plan d d' server calls (inr h) = absurd h

-- the dialer is as it was
pub same_dialer : {first a b : DialerView} {link : Wire} {to : Peer} → b ≡ a → HasDialed first a link to → HasDialed first b link to
same_dialer {first} {a} {b} {link} {to} same d = subst (λ (v : DialerView). HasDialed first v link to) (sym same) d
