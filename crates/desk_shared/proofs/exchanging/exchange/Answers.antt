use Rattle.std.proofs.Common.{rules, ◌≡◌, length, refl, ◌∙◌, arith}
use Rattle.std.proofs.lemmas.List.{length-map}
use Rattle.desk_shared.specs.Hands.{states_of}
use Rattle.desk_shared.proofs.Exchanged.{all_first, none_first, one_more}
use Rattle.desk_shared.proofs.Listed.{as_many_there, each_within, got_at}
use Rattle.desk_shared.proofs.exchanging.exchange.Goals as goal

pub loop-at-init : goal.loop-at-init
loop-at-init g c = record {
  first = none_first c.args.recs.now (states_of c.args.hand.now.items) c.args.cells.now.states.items;
  many = refl;
  ports = refl;
  before = refl;
}

pub exchange_at-requires-clause-at : goal.exchange_at-requires-clause-at
exchange_at-requires-clause-at g c = omega (arith, c.loop-at-test.true, c.loop-at.invariant.many, c.requires.many)

pub exchange_at-requires-clause-state : goal.exchange_at-requires-clause-state
exchange_at-requires-clause-state g c =
    let at = got_at c.args.recs.now c.loop-at.at c.loop-at-test.true in
    omega (arith, each_within (length c.args.cells.now.states.items) c.args.recs.now c.loop-at.at _ c.requires.states at, c.loop-at.invariant.first.long)

pub exchange_at-requires-clause-port : goal.exchange_at-requires-clause-port
exchange_at-requires-clause-port g c =
    let at = got_at c.args.recs.now c.loop-at.at c.loop-at-test.true in
    omega (arith, each_within (length c.args.cells.now.states.items) c.args.recs.now c.loop-at.at _ c.requires.states at, as_many_there _ _ c.loop-at.invariant.ports, c.requires.ports)

pub loop-at-preserved : goal.loop-at-preserved
loop-at-preserved g c =
    let i = c.loop-at.invariant in record {
      first = one_more c.args.recs.now c.loop-at.at _ (states_of c.args.hand.now.items) (states_of c.loop-at.hand.items) (states_of c.exchange_at.new.hand.items) c.args.cells.now.states.items c.loop-at.cells.states.items
          c.exchange_at.new.cells.states.items c.requires.rises (got_at c.args.recs.now c.loop-at.at c.loop-at-test.true) i.first c.exchange_at.ensures.states;
      many = c.exchange_at.ensures.many ∙ i.many;
      ports = c.exchange_at.ensures.ports ∙ i.ports;
      before = c.exchange_at.ensures.before ∙ i.before;
    }

pub returns-clause-exchanged : goal.returns-clause-exchanged
returns-clause-exchanged g c =
    let e : c.loop-at.at ≡ length c.args.recs.now = search rules in
    all_first c.args.recs.now c.loop-at.at (states_of c.args.hand.now.items) (states_of c.loop-at.hand.items) c.args.cells.now.states.items c.loop-at.cells.states.items
    (length-map c.args.hand.now.items _ ∙ c.requires.many) (omega (arith, e)) c.loop-at.invariant.first
