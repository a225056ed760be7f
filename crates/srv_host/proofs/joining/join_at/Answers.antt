use Rattle.std.proofs.Common.{◌<◌, ◌∙◌, length, sym, ap, subst, arith}
use denote.Param.Send.{sendable}
use Rattle.srv_host.specs.Running.{IsRunning, serves_of}
use Rattle.srv_host.proofs.Replaced.{every_at, every_set, map_set}
use Rattle.srv_host.proofs.joining.join_at.Goals as goal

pub join_early-requires : goal.join_early-requires
join_early-requires g c =
    let running = c.args.running.now.items in
    let within : c.args.number < length running = omega (arith, c.if-number-len.false, c.len.ensures) in
    let P = IsRunning g.L.Link.wire g.C.Clock.moment in (
      search (c.type_bounds.send-L, sendable) depth 6,
      subst P (sym c.index_mut.ensures.value) (every_at P running c.args.number c.index_mut.result.now within c.requires),
    )

pub returns-clause-runs : goal.returns-clause-runs
returns-clause-runs g c =
    every_set (IsRunning g.L.Link.wire g.C.Clock.moment) c.args.running.now.items c.args.number c.join_early.new.self c.requires c.join_early.ensures.runs

pub returns-clause-serves : goal.returns-clause-serves
returns-clause-serves g c =
    map_set serves_of c.args.running.now.items c.args.number c.join_early.new.self c.index_mut.result.now (c.join_early.ensures.serves ∙ ap serves_of c.index_mut.ensures.value)
