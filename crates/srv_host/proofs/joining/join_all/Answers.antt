use Rattle.std.proofs.Common.{refl, sym, ap, subst, ◌∙◌, rules, ◌≡◌, []}
use denote.Param.Send.{sendable}
use Rattle.std.specs.Vec.Iter.{into_iter_items}
use Rattle.srv_stream.specs.Streams.{moment_told}
use Rattle.srv_host.specs.Running.{serves_of}
use Rattle.srv_host.proofs.Joined.{nothing_joined, joined_one, all_joined, nothing_left}
use Rattle.srv_host.proofs.joining.join_all.Goals as goal

pub loop-one-init : goal.loop-one-init
loop-one-init g c =
    let e : into_iter_items c.into_iter-one-iterator.result ≡ c.args.running.items = search rules in
    rw e (refl, c.requires.going, nothing_joined _ _ _ _ _)

pub join-other-requires : goal.join-other-requires
join-other-requires g c =
    let all = rw c.in-Some.ensures.steps.0 at c.loop-one.invariant.1 in (search (c.type_bounds.send-A-Link, sendable) depth 6, all.0.runs)

pub end-requires-clause-own : goal.end-requires-clause-own
end-requires-clause-own g c = c.loop-one.invariant.0 ∙ c.requires.own

pub end-requires-clause-other_own : goal.end-requires-clause-other_own
end-requires-clause-other_own g c =
    let all = rw c.in-Some.ensures.steps.0 at c.loop-one.invariant.1 in c.join-other.ensures.0 ∙ all.0.own

pub loop-one-preserved : goal.loop-one-preserved
loop-one-preserved g c =
    let all = rw c.in-Some.ensures.steps.0 at c.loop-one.invariant.1 in
    let j = rw c.in-Some.ensures.steps.0 at c.loop-one.invariant.2 in
    let begun = all.0 in
    let served = rw (ap moment_told begun.clock_is, begun.order_is) at c.join-other.ensures.1 in
    rw c.found_memory-fine.ensures (
      c.end.ensures.own ∙ c.loop-one.invariant.0,
      all.1,
      joined_one _ _ _ (serves_of c.in-Some.one).start.value.seat.me.0 c.join-other.result.0.seat.me.0 _ _ _ _ _ _ _ _ _ _ _ _ _ j begun.seen begun.log served
          c.end.ensures.goes_on c.end.ensures.other_goes_on c.end.ensures.number c.end.ensures.log c.end.ensures.others c.give_back-going.ensures,
    )

pub returns-clause-own : goal.returns-clause-own
returns-clause-own g c = c.loop-one.invariant.0

pub returns-clause-joined : goal.returns-clause-joined
returns-clause-joined g c =
    let e : into_iter_items c.loop-one.one-iterator ≡ [] = nothing_left _ (sym c.loop-one.one-iterator.rest.ok.0 ∙ c.in-None.ensures.steps.0) in
    let j = rw e at c.loop-one.invariant.2 in
    rw c.both.ensures (all_joined _ _ _ _ _ _ _ _ _ j)
