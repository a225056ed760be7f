use Rattle.std.proofs.Common.{◌≡◌, ◌∙◌, sym, ap, map}
use Rattle.std.specs.List.{zip}
use Rattle.std.proofs.lemmas.Iterator.{YieldsList-from_zip}
use Rattle.std.proofs.lemmas.Iterator.Adapters.{YieldsList-from_vec}
use Rattle.std.proofs.lemmas.Iterator.Consumers.{YieldsList-at, YieldsList-end}
use Rattle.std.proofs.lemmas.List.{map-id}
use Rattle.desk_shared.specs.Lent.{place_of}
use Rattle.desk_shared.proofs.Opened.{firsts_of_zip, places_of_zip}
use Rattle.desk_shared.proofs.opening.cells_of.Goals as goal

pub returns-clause-states : goal.returns-clause-states
returns-clause-states g c =
    let states = c.args.states.items in
    let ports = c.args.ports.items in
    let z = c.zip-state-items.ensures in
    let road = YieldsList-at c.into_iter-state-iterator.ensures.into_iter_gives
    (YieldsList-from_zip (YieldsList-at z.first (YieldsList-from_vec states c.into_iter.ensures.rest (c.into_iter.ensures.len ∙ c.args.states.ok.0))) (YieldsList-from_vec ports z.second.0 (z.second.1 ∙ c.args.ports.ok.0))) in
    let end = YieldsList-end road c.loop-state.yielded c.loop-state.state-iterator c.loop-state.yielded_by c.next.result c.next.new.self c.in-None.is c.next.ensures.steps in
    let all : c.loop-state.yielded ≡ zip states ports = sym (map-id c.loop-state.yielded) ∙ end.0 in
    c.loop-state.invariant.states ∙ ap (map (λ made. made.0)) all ∙ firsts_of_zip states ports c.requires

pub returns-clause-ports : goal.returns-clause-ports
returns-clause-ports g c =
    let states = c.args.states.items in
    let ports = c.args.ports.items in
    let z = c.zip-state-items.ensures in
    let road = YieldsList-at c.into_iter-state-iterator.ensures.into_iter_gives
    (YieldsList-from_zip (YieldsList-at z.first (YieldsList-from_vec states c.into_iter.ensures.rest (c.into_iter.ensures.len ∙ c.args.states.ok.0))) (YieldsList-from_vec ports z.second.0 (z.second.1 ∙ c.args.ports.ok.0))) in
    let end = YieldsList-end road c.loop-state.yielded c.loop-state.state-iterator c.loop-state.yielded_by c.next.result c.next.new.self c.in-None.is c.next.ensures.steps in
    let all : c.loop-state.yielded ≡ zip states ports = sym (map-id c.loop-state.yielded) ∙ end.0 in
    c.loop-state.invariant.ports ∙ ap (map (λ made. place_of made.1)) all ∙ places_of_zip states ports c.requires
