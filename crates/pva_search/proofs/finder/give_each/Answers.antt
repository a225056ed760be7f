use Rattle.std.proofs.Common.{◌∙◌, ◌||◌, ℕ, Bool, List, [], Option, sym, ap}
use Rattle.std.specs.List.{list_any}
use Rattle.pva_outside.specs.declared.peer.Peer.{Peer}
use Rattle.pva_wire.specs.Reading.{number_at}
use Rattle.pva_search.specs.Reading.{each_at}
use Rattle.pva_search.specs.Finding.{is_open, given_from}
use Rattle.pva_search.specs.Steps.{given_at}
use Rattle.pva_search.specs.Parts.{mapped}
use Rattle.pva_search.proofs.Giving.{given_more, given_none, told_more, or_false}
use Rattle.pva_search.proofs.Loops.{goes_on, ends, is_done, made, no_end}
use Rattle.pva_search.proofs.finder.give_each.Goals as goal

pub returns-in_default : goal.returns-in_default
returns-in_default c = λ r holds.
    let o = c.args.response.now.order in
    let numbers = each_at (number_at o 4) c.args.response.now.count c.args.response.now.instances.now in
    let k = λ (ids : List ℕ). list_any (is_open c.args.servers.now) ids in
    absurd (no_end (number_at o 4) c.in_default.field-0 k numbers r.instances holds.after c.in_default.ensures.memory
    (ends (number_at o 4) c.in_default.field-0 (λ ids. c.loop.told || list_any (is_open c.loop.servers) ids) c.args.response.now.count c.loop.counter c.loop.rest.now (mapped k numbers)
    c.loop-test.true c.in_default.ensures.value c.loop.invariant.told)
    holds.instances)

pub loop-preserved : goal.loop-preserved
loop-preserved c =
    let o = c.args.response.now.order in
    let numbers = each_at (number_at o 4) c.args.response.now.count c.args.response.now.instances.now in
    let number = c.in-Ok.number in
    record {
      told = goes_on (number_at o 4) (λ ids. c.loop.told || list_any (is_open c.loop.servers) ids) (λ ids. c.give-told.result || list_any (is_open c.give-told.new.servers) ids)
          c.args.response.now.count c.loop.counter c.loop.rest.now number c.in-Ok.after.now (mapped (λ ids. list_any (is_open c.args.servers.now) ids) numbers)
          c.loop-test.true c.in-Ok.ensures.value
          (λ xs. told_more c.loop.told number xs c.args.server c.loop.servers
          ∙ ap (λ (b : Bool). b || list_any (is_open (given_at number c.args.server c.loop.servers)) xs) (sym c.give-told.ensures.told)
          ∙ ap (λ (ss : List (Option Peer)). c.give-told.result || list_any (is_open ss) xs) (sym c.give-told.ensures.given))
          c.loop.invariant.told;
      given = goes_on (number_at o 4) (λ ids. given_from 0 ids c.args.server c.loop.servers) (λ ids. given_from 0 ids c.args.server c.give-told.new.servers)
          c.args.response.now.count c.loop.counter c.loop.rest.now number c.in-Ok.after.now (mapped (λ ids. given_from 0 ids c.args.server c.args.servers.now) numbers)
          c.loop-test.true c.in-Ok.ensures.value
          (λ xs. given_more number xs c.args.server c.loop.servers ∙ ap (λ (ss : List (Option Peer)). given_from 0 xs c.args.server ss) (sym c.give-told.ensures.given))
          c.loop.invariant.given;
    }

pub returns : goal.returns
returns c = λ r holds.
    let o = c.args.response.now.order in
    let numbers = each_at (number_at o 4) c.args.response.now.count c.args.response.now.instances.now in
    let told = is_done (number_at o 4) (λ ids. c.loop.told || list_any (is_open c.loop.servers) ids) c.args.response.now.count c.loop.counter c.loop.rest.now
    (mapped (λ ids. list_any (is_open c.args.servers.now) ids) numbers) c.loop-test.false c.loop.invariant.told in
    let given = is_done (number_at o 4) (λ ids. given_from 0 ids c.args.server c.loop.servers) c.args.response.now.count c.loop.counter c.loop.rest.now
    (mapped (λ ids. given_from 0 ids c.args.server c.args.servers.now) numbers) c.loop-test.false c.loop.invariant.given in (
      sym (or_false c.loop.told)
          ∙ made (number_at o 4) (λ ids. list_any (is_open c.args.servers.now) ids) numbers r.instances holds.after (c.loop.told || list_any (is_open c.loop.servers) []) c.loop.rest.now told holds.instances,
      sym (given_none 0 c.args.server c.loop.servers)
          ∙ made (number_at o 4) (λ ids. given_from 0 ids c.args.server c.args.servers.now) numbers r.instances holds.after (given_from 0 [] c.args.server c.loop.servers) c.loop.rest.now given holds.instances,
    )
