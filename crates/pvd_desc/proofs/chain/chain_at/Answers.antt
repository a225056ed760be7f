use Rattle.std.proofs.Common.{sym, arith}
use Rattle.std.proofs.lemmas.Result.{err_from_is_err_and}
use Rattle.pvd_desc.specs.Reading.{chain_at}
use Rattle.pvd_desc.proofs.Chains.{id_within, chain_fails, chain_goes, chain_done}
use Rattle.pvd_desc.proofs.chain.chain_at.Goals as goal

pub returns-in_err-id : goal.returns-in_err-id
returns-in_err-id c =
    let p = err_from_is_err_and c.from_residual.result c.from_residual.ensures.1 in
    rw (p.1, p.2) (chain_fails c.args.order c.loop-after.ids.items c.loop-after.rest.now _ c.in_err-id.field-0.0 (chain_at c.args.order c.args.bytes.now) (sym c.in-Some.ensures.value) c.in_err-id.ensures c.loop-after.invariant)

pub loop-after-preserved : goal.loop-after-preserved
loop-after-preserved c =
    rw c.in_ok-push.ensures.items (chain_goes c.args.order c.loop-after.ids.items c.loop-after.rest.now _ c.in_ok-id.after.now c.in_ok-id.id (chain_at c.args.order c.args.bytes.now) (sym c.in-Some.ensures.value) c.in_ok-id.ensures c.loop-after.invariant)

pub returns : goal.returns
returns c = chain_done c.args.order c.loop-after.ids.items c.loop-after.rest.now (chain_at c.args.order c.args.bytes.now) (sym c.in_default.ensures.value) c.loop-after.invariant

pub loop-after-smaller : goal.loop-after-smaller
loop-after-smaller c =
    let within = id_within c.args.order c.in-Some.after.now c.in_ok-id.after.now c.in_ok-id.id c.in_ok-id.ensures in
    omega (arith, within, c.in-Some.ensures.shorter)
