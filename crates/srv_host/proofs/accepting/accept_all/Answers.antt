use Rattle.std.proofs.Common.{◌≡◌, ◌<◌, ◌≤◌, ℕ, refl, ap, subst, ◌∙◌, arith, rules}
use denote.Param.Send.{sendable}
use Rattle.srv_host.proofs.Begun.{all_run, same_wires, still_begun, turn_begun, turn_wires}
use Rattle.srv_host.proofs.Turning.{Turning, turning_none, turning_on, stops_amid, stops_by, stops_there, stops_turns}
use Rattle.srv_host.proofs.accepting.accept_all.Goals as goal

least : (n : ℕ) → 0 ≤ n
least n = omega arith

same : (a b : ℕ) → a ≤ b → b ≤ a → a ≡ b
same a b l m = omega arith

pub returns-in_default-clause-own : goal.returns-in_default-clause-own
returns-in_default-clause-own g c = refl

pub returns-in_default-clause-kept : goal.returns-in_default-clause-kept
returns-in_default-clause-kept g c = refl

pub returns-in_default-clause-going : goal.returns-in_default-clause-going
returns-in_default-clause-going g c = rw c.new-running.ensures.items tt

pub returns-in_default-clause-accepted : goal.returns-in_default-clause-accepted
returns-in_default-clause-accepted g c = rw c.new-running.ensures.items (stops_there _ _ _ _ (least c.args.turns) (turning_none _ _ _ _ _))

pub turns-init : goal.turns-init
turns-init g c = rw c.new-running.ensures.items (refl, refl, tt, turning_none _ _ _ _ _)

pub accept-requires-clause-own : goal.accept-requires-clause-own
accept-requires-clause-own g c κs within = c.turns.invariant.0 ∙ c.requires.own

pub accept-requires-clause-site : goal.accept-requires-clause-site
accept-requires-clause-site g c κs within = ap (λ v. v.seen.base.site) c.turns.invariant.1 ∙ c.requires.site

pub accept-requires-clause-count : goal.accept-requires-clause-count
accept-requires-clause-count g c κs within = c.requires.count

pub overflow_add-before : goal.overflow_add-before
overflow_add-before g c = search rules

pub join_ended-requires : goal.join_ended-requires
join_ended-requires g c =
    let s = rw c.turns.invariant.1 at c.in-Ok-accept.ensures.step in
    (search (c.type_bounds.send-A-Link, sendable) depth 6, all_run _ _ _ _ _ _ _ (turn_begun _ _ _ _ _ _ s.0 _ _ s.2 c.turns.invariant.2))

pub turns-preserved : goal.turns-preserved
turns-preserved g c =
    let i = c.turns.invariant in
    let s = rw i.1 at c.in-Ok-accept.ensures.step in
    let t = c.in-Ok-take_turn.ensures in
    let same = c.join_ended.ensures.serves in (
      c.accept.ensures.own ∙ i.0,
      c.accept.ensures.kept ∙ i.1,
      still_begun _ _ _ _ _ _ _ _ same c.join_ended.ensures.runs (turn_begun _ _ _ _ _ _ s.0 _ _ s.2 i.2),
      rw (same_wires _ _ _ same) (turning_on _ _ _ _ _ s.0 i.3 s.1 (turn_wires _ _ _ _ _ _ s.0 _ _ s.2) t.1 t.2),
    )

pub returns-in-Err-take_turn-clause-own : goal.returns-in-Err-take_turn-clause-own
returns-in-Err-take_turn-clause-own g c = c.accept.ensures.own ∙ c.turns.invariant.0

pub returns-in-Err-take_turn-clause-kept : goal.returns-in-Err-take_turn-clause-kept
returns-in-Err-take_turn-clause-kept g c = c.accept.ensures.kept ∙ c.turns.invariant.1

pub returns-in-Err-take_turn-clause-going : goal.returns-in-Err-take_turn-clause-going
returns-in-Err-take_turn-clause-going g c =
    let i = c.turns.invariant in
    let s = rw i.1 at c.in-Ok-accept.ensures.step in
    turn_begun _ _ _ _ _ _ s.0 _ _ s.2 i.2

pub returns-in-Err-take_turn-clause-accepted : goal.returns-in-Err-take_turn-clause-accepted
returns-in-Err-take_turn-clause-accepted g c =
    let i = c.turns.invariant in
    let s = c.in-Ok-accept.ensures.step in
    let e = c.in-Err-take_turn.ensures in
    stops_amid _ _ _ _ _ _ s.0 c.turns-test.true i.3 s.1 (turn_wires _ _ _ _ _ _ s.0 _ _ s.2) e.1 e.2

pub returns-in-Err-clause-own : goal.returns-in-Err-clause-own
returns-in-Err-clause-own g c = c.accept.ensures.own ∙ c.turns.invariant.0

pub returns-in-Err-clause-kept : goal.returns-in-Err-clause-kept
returns-in-Err-clause-kept g c = c.accept.ensures.kept ∙ c.turns.invariant.1

pub returns-in-Err-clause-going : goal.returns-in-Err-clause-going
returns-in-Err-clause-going g c = rw c.in-Err.ensures.step.1 c.turns.invariant.2

pub returns-in-Err-clause-accepted : goal.returns-in-Err-clause-accepted
returns-in-Err-clause-accepted g c =
    let s = c.in-Err.ensures.step in
    rw s.1 (stops_by _ _ _ _ c.in-Err.stop _ c.turns-test.true c.turns.invariant.3 s.0)

pub returns-clause-own : goal.returns-clause-own
returns-clause-own g c = c.turns.invariant.0

pub returns-clause-kept : goal.returns-clause-kept
returns-clause-kept g c = c.turns.invariant.1

pub returns-clause-going : goal.returns-clause-going
returns-clause-going g c = c.turns.invariant.2

pub returns-clause-accepted : goal.returns-clause-accepted
returns-clause-accepted g c =
    stops_turns _ _ _ _ (subst (Turning _ _ _ _ _ _ _ _) (same c.turns.before c.args.turns c.turns.auto.before-end c.turns-test.false) c.turns.invariant.3)
