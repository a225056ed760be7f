use Rattle.srv_host.proofs.Passing.{turn_on, turn_without_beacon}
use Rattle.srv_host.proofs.answering.take_turn.Goals as goal

pub returns-in_default : goal.returns-in_default
returns-in_default g c =
    let e = c.in_default.ensures in
    turn_without_beacon _ _ c.args.beacon_to {turn = c.args.turn} e.1 e.2

pub returns : goal.returns
returns g c =
    let e = c.in-Ok.ensures in
    turn_on _ _ c.args.beacon_to c.args.turn _ _ _ _ c.receive_all.result e.1 e.2 c.receive_all.ensures
