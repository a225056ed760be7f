use Rattle.std.proofs.Common.{◌≡◌, ◌∙◌, ◌<◌, ◌+◌, ◌-◌, ◌%◌, ◌^◌, ℕ, List, [], Option, length, refl, ap, subst}
use Rattle.std.proofs.lemmas.Result.{err_from_is_err_and}
use Rattle.pva_wire.specs.declared.order.Order.TheVariants.{Little}
use Rattle.pva_outside.specs.declared.peer.Peer.{Peer}
use Rattle.pva_search.specs.declared.finder.Taken.{Taken}
use Rattle.pva_search.specs.Messages.{search_bytes}
use Rattle.pva_search.specs.Finding.{Finding, Asked, unasked, open_in, channels_of, asks_for}
use Rattle.pva_search.specs.Steps.{IsTaken}
use Rattle.pva_search.proofs.Asking.{asked, none_asked, some_left}
use Rattle.pva_search.proofs.finder.Finder.ask.Goals as goal

taken_of : (ns names : List (List ℕ)) (ss servers : List (Option Peer)) (next : ℕ) (taken : Taken) → ns ≡ names → ss ≡ servers
    → IsTaken ns ss next taken → IsTaken names servers next taken
taken_of ns names ss servers next taken e f is =
    subst (λ (xs : List (Option Peer)). IsTaken names xs next taken) f (subst (λ (xs : List (List ℕ)). IsTaken xs ss next taken) e is)

pub returns-then-taken-eq0 : goal.returns-then-taken-eq0
returns-then-taken-eq0 c =
    let x = c.self.inside in
    let f : Finding = record { names = x.names.items; servers = x.servers.items; next = x.next; sequence = x.sequence; rounds = x.rounds } in
    let is = taken_of c.as_slice.result.now x.names.items c.as_slice-2.result.now x.servers.items x.next c.take_open-taken.result c.as_slice.ensures.value c.as_slice-2.ensures.value c.take_open-taken.ensures in
    (subst (λ (g : Finding). unasked g ≡ []) c.self.view_is (none_asked f c.take_open-taken.result c.self.invariant is c.if-taken-eq0.true), refl)

pub returns-in_err-datagram : goal.returns-in_err-datagram
returns-in_err-datagram c =
    let x = c.self.inside in
    let f : Finding = record { names = x.names.items; servers = x.servers.items; next = x.next; sequence = x.sequence; rounds = x.rounds } in
    let is = taken_of c.as_slice.result.now x.names.items c.as_slice-2.result.now x.servers.items x.next c.take_open-taken.result c.as_slice.ensures.value c.as_slice-2.ensures.value c.take_open-taken.ensures in
    let p = err_from_is_err_and c.from_residual.result c.from_residual.ensures.1 in
    rw p.1 (subst (λ (g : Finding). 0 < length (unasked g)) c.self.view_is (some_left f c.take_open-taken.result c.self.invariant is c.if-taken-eq0.false), refl)

pub returns : goal.returns
returns c =
    let x = c.self.inside in
    let taken = c.take_open-taken.result in
    let f : Finding = record { names = x.names.items; servers = x.servers.items; next = x.next; sequence = x.sequence; rounds = x.rounds } in
    let is = taken_of c.as_slice.result.now x.names.items c.as_slice-2.result.now x.servers.items x.next taken c.as_slice.ensures.value c.as_slice-2.ensures.value c.take_open-taken.ensures in
    let written = c.in_ok-datagram.ensures
    ∙ ap (λ (ns : List (List ℕ)). search_bytes Little (asks_for x.sequence c.args.port (channels_of ns (open_in c.as_slice-4.result.now x.next (taken.end - x.next))))) c.as_slice-3.ensures.value
    ∙ ap (λ (ss : List (Option Peer)). search_bytes Little (asks_for x.sequence c.args.port (channels_of x.names.items (open_in ss x.next (taken.end - x.next))))) c.as_slice-4.ensures.value in
    subst (λ (g : Finding). Asked g (record f { next = taken.end; sequence = (x.sequence + 1) % 2 ^ 32 }) c.args.port c.in_ok-datagram.datagram.items) c.self.view_is
    (asked f taken c.self.invariant is c.args.port c.in_ok-datagram.datagram.items c.if-taken-eq0.false written)
