use Rattle.std.proofs.Common.{◌∙◌, ap, arith}
use Rattle.cli_search.specs.Calls.{View, view_of}
use Rattle.cli_search.specs.declared.plan.Plan.{Plan}
use Rattle.cli_search.proofs.Listening.{listened_none, listened_other, listened_nothing, listened_server, listened_stopped, listened_all}
use Rattle.cli_search.proofs.searching.Searching.listen.Goals as goal

pub calls-init : goal.calls-init
calls-init g c = record { within = omega arith; sofar = listened_none _ (view_of c.args.self.now) c.requires.within }

pub receive-requires : goal.receive-requires
receive-requires g c = ap (λ (v : View). v.finding.servers) c.calls.invariant.sofar.view ∙ c.requires.open

pub returns-in-Server : goal.returns-in-Server
returns-in-Server g c = let h = rw c.in-Server.is at c.in-Ok.ensures in listened_server c.calls.invariant.sofar h

pub calls-preserved-in-Other : goal.calls-preserved-in-Other
calls-preserved-in-Other g c =
    let h = rw c.in-Other.is at c.in-Ok.ensures in
    record { within = c.calls.invariant.within; sofar = listened_other c.calls.invariant.sofar h }

pub calls-smaller-in-Other : goal.calls-smaller-in-Other
calls-smaller-in-Other g c =
    let h = rw c.in-Other.is at c.in-Ok.ensures in omega (arith, ap (λ (p : Plan). p.turns) h.made.plan, h.made.calls, h.made.few)

pub calls-preserved : goal.calls-preserved
calls-preserved g c =
    let h = rw c.in-Nothing.is at c.in-Ok.ensures in
    record { within = omega arith; sofar = listened_nothing c.calls.invariant.sofar h }

pub calls-smaller : goal.calls-smaller
calls-smaller g c =
    let h = rw c.in-Nothing.is at c.in-Ok.ensures in omega (arith, ap (λ (p : Plan). p.turns) h.made.plan, h.made.calls, h.made.few)

pub returns-in-Err : goal.returns-in-Err
returns-in-Err g c = listened_stopped c.calls.invariant.sofar _ (view_of c.receive.new.self) (view_of c.receive.new.self) c.in-Err.stop c.in-Err.ensures

pub returns : goal.returns
returns g c =
    listened_all c.calls.invariant.sofar (omega (arith, ap (λ (v : View). v.plan.idle) c.calls.invariant.sofar.view, c.calls.invariant.within))
